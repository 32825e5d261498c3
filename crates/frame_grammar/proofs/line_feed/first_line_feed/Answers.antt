-- The search finds the first line feed.
use Rattle.span_seq.specs.Sequence.{bytes}
use Rattle.frame_grammar.proofs.LineFeedLemmas.{found_behind, none_behind}
use Rattle.frame_grammar.proofs.line_feed.first_line_feed.Goals as goal

pub returns-in-Some : goal.returns-in-Some
returns-in-Some g c =
    found_behind (bytes c.args.seq.now) c.args.known c.in-Some.at c.requires.within c.requires.searched (rw c.without_front.ensures.bytes at c.in-Some.ensures)

pub returns-in-None : goal.returns-in-None
returns-in-None g c =
    none_behind (bytes c.args.seq.now) c.args.known c.requires.within c.requires.searched (rw c.without_front.ensures.bytes at c.in-None.ensures)
