-- Nothing is drafted, so the completion is one call.
use Rattle.std.proofs.Common.{List, [], ◌∷◌, refl, subst}
use Rattle.pipe_core.specs.History.{EndWriter, Run, closing}
use Rattle.pipe_core.specs.Answers.{Woke}
use Rattle.pipe_shared.specs.Local.{LocalAnswers}
use Rattle.relay_engine.proofs.PumpFillLemmas.{never_too_much}
use Rattle.relay_engine.proofs.pump.complete.Goals as goal

completes : (c : goal.In-Ok) → LocalAnswers c.args.pipe.now (EndWriter c.args.code ∷ []) (Woke c.in-Ok.field-0) c.end_writer.new.self
completes c =
    subst (λ (runs : List Run). LocalAnswers c.args.pipe.now (closing runs c.args.code) (Woke c.in-Ok.field-0) c.end_writer.new.self) c.requires.settled c.in-Ok.ensures.answers

pub returns-clause-completes : goal.returns-clause-completes
returns-clause-completes c = (c.in-Ok.field-0, completes c)

pub returns-clause-made : goal.returns-clause-made
returns-clause-made c = (completes c).kept

pub returns-clause-gone : goal.returns-clause-gone
returns-clause-gone c = (completes c).gone

pub returns-clause-lent : goal.returns-clause-lent
returns-clause-lent c = (completes c).lent

pub unreachable-requires : goal.unreachable-requires
unreachable-requires c = let held = c.local_pipe_has_a_history.ensures in never_too_much c.args.pipe.now held.0 held.1 c.requires.settled (c.in_default.ensures.too_much.0 refl).1
