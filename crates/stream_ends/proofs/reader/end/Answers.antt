-- A completion without a draft is one call, and is never too much.
use Rattle.std.proofs.Common.{[], refl, sym, ap, length, arith}
use Rattle.pipe_core.proofs.PipeLemmas.{total_within}
use Rattle.stream_ends.proofs.ToldLemmas.{told_by_end}
use Rattle.stream_ends.proofs.reader.end.Goals as goal

pub unreachable-requires : goal.unreachable-requires
unreachable-requires c =
    let stood = c.plain_pipe_has_a_history.ensures in
    absurd (omega (arith, (c.in-Err.ensures.too_much.0 refl).1, total_within c.args.pipe.now stood.0 stood.1, ap length c.requires.no_draft))

pub returns : goal.returns
returns c =
    let stood = c.plain_pipe_has_a_history.ensures in
    told_by_end c.args.pipe.now c.end_writer.new.self stood.0 c.in-Ok.field-0 stood.1 c.requires.writing
    (c.in-Ok.ensures.answers [] (record { all = sym c.requires.no_draft; full = tt })) c.in-Ok.ensures.draft
