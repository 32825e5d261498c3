-- What follows for a relay from what it was answered by.
use Rattle.std.proofs.Common.{◌≡◌, ◌≢◌, ℕ, length, Ok, Err, refl, sym, ap, ◌∙◌, subst}
use Rattle.edge_core.specs.Device.{SourceState, SinkState}
use Rattle.frame_grammar.specs.declared.job.Job.{Job}
use Rattle.relay_model.specs.declared.ending.Outcome.{Outcome}
use Rattle.relay_model.specs.declared.status.Status.{Status}
use Rattle.relay_model.specs.declared.status.Status.TheVariants as exit
use Rattle.relay_model.specs.Answers.{Answer, Finishes, IsRelayed, Relays, cause_of_answer, status_of_answer}
use Rattle.relay_model.specs.Ending.{status_of}
use Rattle.relay_model.specs.Lines.{IsWritten, line_of, memory_line}
use Rattle.relay_model.specs.Run.{IsRun, Run, outcome}
use Rattle.relay_model.specs.World.{TellsOnly, World}
use Rattle.relay_model.proofs.StatusLemmas.{few}

-- what a law says of a status, and of what a relay with it did to its devices
abbrev pub Says : Type 1
Says = Job → Status → SourceState → SourceState → SinkState → SinkState → Type 0

abbrev pub LawOf : Says → Type 0
LawOf P = (job : Job) (run : Run) (sb sa : SourceState) (kb ka : SinkState) → IsRun job run sb sa kb ka → P job (status_of (outcome job run)) sb sa kb ka

-- a law of runs, of a relay for which there was memory
pub by_answer : (P : Says) → LawOf P → (job : Job) (answer : Answer) (sb sa : SourceState) (kb ka : SinkState) → Finishes job answer sb sa kb ka → status_of_answer answer ≢ exit.OutOfMemory
    → P job (status_of_answer answer) sb sa kb ka
by_answer P law job (Ok report) sb sa kb ka finishes memory =
    subst (λ (o : Outcome). P job (status_of o) sb sa kb ka) (sym finishes.ended) (law job finishes.run sb sa kb ka finishes.is_run)
by_answer P law job (Err none) sb sa kb ka finishes memory = absurd (memory refl)

pub no_usage : (answer : Answer) → status_of_answer answer ≢ exit.Usage
no_usage (Ok report) = (few report.outcome).0
no_usage (Err none) = λ e. cc

-- ---- a command that relays

pub of_relay : (P : Says) → LawOf P → (job : Job) (status : Status) (was is : World) → Relays job status was is → status ≢ exit.OutOfMemory → P job status was.source is.source was.sink is.sink
of_relay P law job status was is relays memory =
    subst (λ (s : Status). P job s was.source is.source was.sink is.sink) (sym relays.ended)
    (by_answer P law job relays.answer was.source is.source was.sink is.sink relays.finishes (λ e. memory (relays.ended ∙ e)))

pub not_usage : (job : Job) (status : Status) (was is : World) → Relays job status was is → status ≢ exit.Usage
not_usage job status was is relays = λ e. no_usage relays.answer (sym relays.ended ∙ e)

pub untouched : (job : Job) (status : Status) (was is : World) → Relays job status was is → status ≡ exit.OutOfMemory → TellsOnly memory_line was is
untouched job status was is relays six = by relays.answer relays.finishes (sym relays.ended ∙ six) relays.told
  where
    by : (answer : Answer) → Finishes job answer was.source is.source was.sink is.sink → status_of_answer answer ≡ exit.OutOfMemory → IsWritten (cause_of_answer answer) was.faults is.faults → TellsOnly memory_line was is
    by (Ok report) finishes memory told = absurd ((few report.outcome).1 memory)
    by (Err none) finishes memory told = record { tells = record { source = finishes.0; sink = finishes.1; told = told }; doors = relays.doors }

pub is_relayed : (job : Job) (status : Status) (was is : World) → Relays job status was is → status ≢ exit.OutOfMemory → IsRelayed job status was is
is_relayed job status was is relays memory = by relays.answer relays.finishes relays.ended relays.told
  where
    by : (answer : Answer) → Finishes job answer was.source is.source was.sink is.sink → status ≡ status_of_answer answer → IsWritten (cause_of_answer answer) was.faults is.faults → IsRelayed job status was is
    by (Err none) finishes ended told = absurd (memory ended)
    by (Ok report) finishes ended told = record {
      run = finishes.run;
      is_run = finishes.is_run;
      ended = ended ∙ ap status_of finishes.ended;
      told = subst (λ (o : Outcome). IsWritten (line_of o (length finishes.run.taken) (length finishes.run.written)) was.faults is.faults) finishes.ended
          (subst (λ (n : ℕ). IsWritten (line_of report.outcome n (length finishes.run.written)) was.faults is.faults) finishes.taken
          (subst (λ (n : ℕ). IsWritten (line_of report.outcome report.taken n) was.faults is.faults) finishes.written told));
    }
