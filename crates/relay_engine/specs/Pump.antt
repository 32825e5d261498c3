-- How a relay on one thread goes on.
use Rattle.std.specs.Prelude.{ℕ, ◌≡◌, ◌-◌, ◌*◌, List, [], ◌∷◌, Option, Some, None, Ok}
use Rattle.edge_core.specs.Device.{SourceState}
use Rattle.frame_grammar.specs.declared.job.Job.{Job}
use Rattle.relay_model.specs.declared.ending.FillEnd.{FillEnd}
use Rattle.frame_grammar.specs.Job.{segments}
use Rattle.pipe_core.specs.declared.reply.Wake.{Wake}
use Rattle.pipe_core.specs.History.{Call, EndWriter}
use Rattle.pipe_core.specs.Answers.{Woke}
use Rattle.pipe_state.specs.declared.options.Options.{Options}
use Rattle.pipe_state.specs.declared.full.Full.{Full}
use Rattle.pipe_shared.specs.Local.{Local, LocalAnswers}
use Rattle.relay_engine.specs.Filler.{fill_code}
use Rattle.relay_engine.specs.Filling.{FillingState, FillsOn}
use Rattle.relay_engine.specs.WriterEnds.{IsLocalFull, local_drafting}
use Rattle.relay_engine.specs.LocalEnds.{HoldsLocal, NoOthers, RefusesNone}
use Rattle.relay_engine.specs.declared.filling.Filled.{Filled}
use Rattle.relay_engine.specs.declared.filling.Filled.TheVariants.{Ended}

-- the pipe of a relay: its segments are as large as the job asks, and there are enough for a greatest frame and for a pause
abbrev pub options_for : Job → Options
options_for job = record { segment = job.seg; segments = segments job; pause = job.pause; resume = job.resume }

-- how many bytes may be kept and drafted before a pipe can be full to a writer that asks for single bytes
abbrev pub sure_room_of : Options → ℕ
sure_room_of o = (o.segments - 1) * o.segment

-- The writer has completed where the taking has ended.
abbrev pub EndsBy : Filled Full → Local → Option FillEnd → Local → Type 0
EndsBy (Ended end) middle result p' = (result ≡ Some end) × ((wake : Wake) × LocalAnswers middle (EndWriter (fill_code end) ∷ []) (Woke wake) p') × (p'.hint ≡ 0)
EndsBy filled middle result p' = (result ≡ None) × (p' ≡ middle)

-- One step of the filler, by which no call is refused, and the writer's completion, where the taking has ended.
pub record FillsLocal (f : FillingState) (p : Local) (before : SourceState) (result : Option FillEnd) (f' : FillingState) (p' : Local) (after : SourceState) (h : List Call) (bytes : List ℕ) : Type 0 where
  pub filled : Filled Full
  pub middle : Local
  pub once : FillsOn HoldsLocal NoOthers local_drafting RefusesNone p.options (IsLocalFull tt) f p before (Ok filled) f' middle after h bytes
  pub settled : middle.draft ≡ []
  pub ends : EndsBy filled middle result p'
