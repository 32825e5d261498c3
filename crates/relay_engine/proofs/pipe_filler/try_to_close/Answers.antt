-- The completion of a writer that has drafted nothing.
use Rattle.std.proofs.Common.{List, length, refl, ap, arith}
use Rattle.pipe_core.specs.History.{Run, bytes_of, closing}
use Rattle.relay_engine.proofs.EndingLemmas.{completes}
use Rattle.relay_engine.proofs.LaterLemmas.{makes_spends}
use Rattle.relay_engine.proofs.WriterEndLemmas.{heard, never_too_much}
use Rattle.relay_engine.proofs.pipe_filler.try_to_close.Goals as goal

pub unreachable-requires : goal.unreachable-requires
unreachable-requires c =
    let finds = rw c.in-TooMuch.is at c.in-Err.ensures.refused in
    never_too_much _ _ c.args.end c.in-Err.field-0.end (c.others_are_heard_first.ensures.won 0 _ _ c.writer_has_its_seat.ensures finds.wins) finds
    (_, (refl, c.requires.may.legal), omega (arith, c.requires.may.small, ap (λ (x : List Run). length (bytes_of x)) c.requires.may.settled))

pub returns-in-Ok-clause-closes : goal.returns-in-Ok-clause-closes
returns-in-Ok-clause-closes c =
    completes _ _ _ c.args.end c.in-Ok.done c.requires.may (c.others_are_heard_first.ensures.made 0 _ _ _ _ _ c.writer_has_its_seat.ensures c.in-Ok.ensures.made) c.done_writer_has_its_seat.ensures
    (makes_spends _ _ _ _ _ _ (ap (λ (d : List Run). closing d c.args.code) c.requires.may.settled) c.in-Ok.ensures.made)

pub returns-in-Worn-clause-closes : goal.returns-in-Worn-clause-closes
returns-in-Worn-clause-closes c =
    let finds = rw c.in-Worn.is at c.in-Err.ensures.refused in (
      finds,
      c.in-Err.ensures.kept.0,
      heard c.args.end c.in-Err.field-0.end (c.others_are_heard_first.ensures.won 0 _ _ c.writer_has_its_seat.ensures finds.wins) finds.wins.lawful.legal _ (refl, c.requires.may.legal),
    )
