-- What worked cases say.
use Rattle.std.specs.Prelude.{ℕ, ◌^◌, Result, Ok}
use Rattle.frame_model.specs.declared.framing.Framing.{Framing}
use Rattle.frame_model.specs.declared.framing.Framing.TheVariants.{Line}
use Rattle.frame_grammar.specs.declared.job.Job.{Job}
use Rattle.relay_words.specs.declared.command.Command.{Command}
use Rattle.relay_words.specs.declared.command.Command.TheVariants.{Local, Threaded}
use Rattle.relay_words.specs.declared.command.LocalCommand.TheVariants.{Copy}
use Rattle.relay_words.specs.declared.command.ThreadedCommand.TheVariants.{Pump, Drill, Batch, Serve}

-- A relay of lines, with these numbers.
abbrev pub lines : Framing → ℕ → ℕ → ℕ → ℕ → Job
lines output max seg pause resume = record { input = Line; output = output; max = max; seg = seg; pause = pause; resume = resume; limit = 2 ^ 40 }

abbrev pub line_job : Framing → ℕ → ℕ → ℕ → ℕ → Result Command ℕ
line_job output max seg pause resume = Ok (Local (Copy (lines output max seg pause resume)))

abbrev pub pumped_job : Framing → ℕ → ℕ → ℕ → ℕ → Result Command ℕ
pumped_job output max seg pause resume = Ok (Threaded (Pump (lines output max seg pause resume)))

abbrev pub drilled_job : ℕ → ℕ → Framing → ℕ → ℕ → ℕ → ℕ → Result Command ℕ
drilled_job seed count output max seg pause resume = Ok (Threaded (Drill seed count (lines output max seg pause resume)))

abbrev pub batched_job : ℕ → ℕ → Framing → ℕ → ℕ → ℕ → ℕ → Result Command ℕ
batched_job workers names_from output max seg pause resume = Ok (Threaded (Batch workers (lines output max seg pause resume) names_from))

abbrev pub served_job : ℕ → Framing → ℕ → ℕ → ℕ → ℕ → Result Command ℕ
served_job count output max seg pause resume = Ok (Threaded (Serve 1 2 count (lines output max seg pause resume)))
