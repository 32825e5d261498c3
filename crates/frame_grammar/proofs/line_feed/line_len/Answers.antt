-- Where a line feed is found, and where there is none.
use Rattle.std.proofs.Common.{◌∙◌}
use Rattle.span_seq.specs.Sequence.{bytes}
use Rattle.frame_grammar.proofs.LineFeedLemmas.{some_position, no_position}
use Rattle.frame_grammar.proofs.line_feed.line_len.Goals as goal

pub returns-in-Some : goal.returns-in-Some
returns-in-Some g c = some_position (bytes c.args.seq.now) c.in-Some.at c.in-Some.ensures

pub returns-in-None : goal.returns-in-None
returns-in-None g c = c.len.ensures.len ∙ no_position (bytes c.args.seq.now) c.in-None.ensures
