-- What is gathered is written before a piece that is handed on, or where the room is full.
use Rattle.std.proofs.Common.{[]}
use Rattle.relay_engine.proofs.GatherLemmas.{front_before, front_filled, front_last, on_err, on_err_from, on_ok_from, puts_more}
use Rattle.relay_engine.proofs.gathering.Gathering.put_over.Goals as goal

pub returns-in_err-write_out-clause-failed : goal.returns-in_err-write_out-clause-failed
returns-in_err-write_out-clause-failed g c =
    on_err c.from_residual.result (front_before _ _ _ _ [] c.args.piece.now c.in_err-write_out.ensures.failed)

pub returns-then-piece-ge-LARGE-clause-put : goal.returns-then-piece-ge-LARGE-clause-put
returns-then-piece-ge-LARGE-clause-put g c =
    on_ok_from c.hand_on.result (puts_more _ _ _ _ _ _ [] c.args.piece.now c.in_ok-write_out.ensures.put) c.hand_on.ensures.put

pub returns-then-piece-ge-LARGE-clause-failed : goal.returns-then-piece-ge-LARGE-clause-failed
returns-then-piece-ge-LARGE-clause-failed g c =
    on_err_from c.hand_on.result (front_last _ _ _ _ _ _ [] c.args.piece.now c.in_ok-write_out.ensures.put) c.hand_on.ensures.failed

pub returns-in_err-write_out-2-clause-failed : goal.returns-in_err-write_out-2-clause-failed
returns-in_err-write_out-2-clause-failed g c =
    on_err c.from_residual-in_err-write_out-2.result (front_filled _ _ _ _ _ _ c.args.piece.now _ c.split_at.ensures.front c.append.ensures c.in_err-write_out-2.ensures.failed)
