-- What was counted is put as it is.
use Rattle.std.proofs.Common.{arith, refl}
use Rattle.std.proofs.lemmas.List.{length-drop}
use Rattle.relay_engine.proofs.FrontLemmas.{broken_front, passed_front}
use Rattle.relay_engine.proofs.GatherLemmas.{on_err}
use Rattle.relay_engine.proofs.frames.pass_front.Goals as goal

pub returns-in_err-put-clause-failed : goal.returns-in_err-put-clause-failed
returns-in_err-put-clause-failed g c =
    on_err c.from_residual.result (broken_front c.args.job.now c.args.bytes.now _ _ _ _ _ c.whole_front-front.result.len c.whole_front-front.result.frames c.whole_front-front.ensures.counted.0 c.requires c.whole_front-front.ensures.counted.1 refl c.in_err-put.ensures.failed)

pub returns-clause-put : goal.returns-clause-put
returns-clause-put g c =
    let front = c.whole_front-front.ensures in
    let len = c.whole_front-front.result.len in
    passed_front c.args.job.now c.args.bytes.now _ _ _ _ _ len c.whole_front-front.result.frames c.min.result front.counted.0 c.requires front.counted.1 front.all (omega (arith, c.min.ensures, length-drop len c.args.bytes.now)) (omega (arith, c.min.ensures)) refl c.in_ok-put.ensures.put
