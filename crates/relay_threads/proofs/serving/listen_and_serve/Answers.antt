use Rattle.std.proofs.Common.{refl}
use Rattle.edge_core.specs.declared.doors.DoorError.TheVariants.{OutOfMemory}
use Rattle.relay_threads.specs.Serve.{IsDeaf}
use Rattle.relay_threads.proofs.ServeLemmas.{adds_none}
use Rattle.relay_threads.proofs.serving.listen_and_serve.Goals as goal

pub returns-in-Err-clause-served : goal.returns-in-Err-clause-served
returns-in-Err-clause-served g c = IsDeaf OutOfMemory refl refl refl

pub returns-in-Err-clause-books : goal.returns-in-Err-clause-books
returns-in-Err-clause-books g c = adds_none _

pub returns-in-Err-listen-clause-served : goal.returns-in-Err-listen-clause-served
returns-in-Err-listen-clause-served g c = IsDeaf c.in-Err-listen.error c.in-Err-listen.ensures.refused refl refl

pub returns-in-Err-listen-clause-books : goal.returns-in-Err-listen-clause-books
returns-in-Err-listen-clause-books g c = adds_none _

pub returns-in-Ok-listen-clause-served : goal.returns-in-Ok-listen-clause-served
returns-in-Ok-listen-clause-served g c = c.serve_all.ensures.served (g.D.Doors.state c.args.doors.now) c.in-Ok-listen.ensures.opened
