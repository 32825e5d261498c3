-- The draft is what was read, and there is room in the total for it.
use Rattle.std.proofs.Common.{refl, ap, length, take, arith}
use Rattle.std.proofs.lemmas.List.{length-append, length-take}
use Rattle.stream_ends.proofs.ToldLemmas.{told_by_commit}
use Rattle.stream_ends.proofs.reader.commit.Goals as goal

pub unreachable-requires : goal.unreachable-requires
unreachable-requires c =
    let p = c.args.pipe.now in
    let over = rw c.advance_draft.ensures at (c.in-Err.ensures.too_much.0 refl).1 in
    absurd (omega (arith, over, c.requires.below, ap length c.requires.no_draft, length-append p.bytes.draft (take c.args.read p.bytes.free), length-take c.args.read p.bytes.free))

pub returns : goal.returns
returns c =
    let stood = c.plain_pipe_has_a_history.ensures in
    let answers = rw c.advance_draft.ensures at c.in-Ok.ensures.answers in
    told_by_commit c.args.pipe.now c.flush.new.self stood.0 c.args.read c.in-Ok.field-0.0 c.in-Ok.field-0.1 stood.1 c.requires.attended c.requires.no_draft c.requires.some c.requires.room
    c.requires.below answers c.in-Ok.ensures.draft
