use Rattle.std.proofs.Common.{refl}
use Rattle.relay_threads.specs.Serve.{IsNotAccepted}
use Rattle.relay_threads.proofs.ServeLemmas.{adds_none, refused_connect, serves_one}
use Rattle.relay_threads.proofs.serving.serve_one.Goals as goal

pub returns-in-Err-clause-refused : goal.returns-in-Err-clause-refused
returns-in-Err-clause-refused g c = IsNotAccepted refl c.in-Err.ensures.refused

pub returns-in-Err-clause-books : goal.returns-in-Err-clause-books
returns-in-Err-clause-books g c = adds_none _

pub returns-in-Err-connect-clause-refused : goal.returns-in-Err-connect-clause-refused
returns-in-Err-connect-clause-refused g c =
    refused_connect _ _ _ _ _ c.in-Err-connect.error c.in-Ok.ensures.opened c.in-Err-connect.ensures.refused c.give_inlet.ensures.returned

pub returns-in-Err-connect-clause-books : goal.returns-in-Err-connect-clause-books
returns-in-Err-connect-clause-books g c = adds_none _

pub returns-clause-served : goal.returns-clause-served
returns-clause-served g c =
    serves_one c.args.job.now c.args.target.now _ _ _ _ _ _ _ _ _ c.in-Ok.ensures.opened c.in-Ok-connect.ensures.opened c.relay-answer.ensures.finishes c.give_back.ensures
