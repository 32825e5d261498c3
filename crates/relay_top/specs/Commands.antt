-- What is done, by the command that words ask for. A new command adds an arm to each definition that goes by `Command`.
use Rattle.std.specs.Prelude.{ℕ, ⊤, ◌≡◌, ◌≢◌, drop, List, Result, Ok, Err, IfOk, IfSome}
use Rattle.frame_grammar.specs.declared.job.Job.{Job}
use Rattle.relay_model.specs.declared.status.Status.{Status}
use Rattle.relay_model.specs.declared.status.Status.TheVariants as exit
use Rattle.relay_model.specs.Answers.{Relays}
use Rattle.relay_model.specs.Lines.{usage_line}
use Rattle.relay_model.specs.Run.{HasCause, RelaysAll, StopsInTime, TranslatesAll}
use Rattle.relay_model.specs.World.{TellsOnly, World}
use Rattle.relay_top.specs.Batch.{Batches, RelaysEach, TranslatesNames}
use Rattle.relay_top.specs.Drill.{Drills, HasDrillCause, IsSummedUp}
use Rattle.relay_top.specs.Opened.{HasOpeningCause}
use Rattle.relay_top.specs.Serving.{RelaysCount, ServesAt, TranslatesEach, word_at}
use Rattle.relay_words.specs.Words.{command_of, drill_of, relay_of}
use Rattle.relay_words.specs.declared.command.Command.{Command}
use Rattle.relay_words.specs.declared.command.Command.TheVariants.{Local, Threaded}
use Rattle.relay_words.specs.declared.command.LocalCommand.TheVariants.{Copy}
use Rattle.relay_words.specs.declared.command.ThreadedCommand.TheVariants.{Pump, Drill, Batch, Serve}

-- ---- what a command does

-- A copy relays its source to its sink, and takes less than a segment behind a bad frame.
pub record Copies (job : Job) (status : Status) (was is : World) : Type 0 where
  pub relays : Relays job status was is
  pub in_time : StopsInTime job was.source is.source

-- What the command of these words does, from a world as it was to what it is.
abbrev pub Does : List (List ℕ) → Command → Status → World → World → Type 0
Does words (Local (Copy job)) status was is = Copies job status was is
Does words (Threaded (Pump job)) status was is = Relays job status was is
Does words (Threaded (Drill seed count job)) status was is = Drills seed count job status was is
Does words (Threaded (Batch workers job names_from)) status was is = Batches (drop names_from words) names_from job status was is
Does words (Threaded (Serve listen target count job)) status was is = ServesAt (word_at target words) count job status was is

-- The word of this index can't be read. Nothing has changed but that this was told.
pub record RefusesWord (word : ℕ) (status : Status) (was is : World) : Type 0 where
  pub ended : status ≡ exit.Usage
  pub tells : TellsOnly (usage_line word) was is

abbrev pub RunsAs : List (List ℕ) → Result Command ℕ → Status → World → World → Type 0
RunsAs words (Ok command) status was is = Does words command status was is
RunsAs words (Err word) status was is = RefusesWord word status was is

-- What these words come to: their command does its work, or the word is told that can't be read.
abbrev pub Runs : List (List ℕ) → Status → World → World → Type 0
Runs words status was is = RunsAs words (command_of words) status was is

-- ---- what a user wants of it

-- Where no device failed and there was memory, the sink of each relay gained the translation of all that its source held.
abbrev pub TranslatesAs : List (List ℕ) → Command → Status → World → World → Type 0
TranslatesAs words (Local (Copy job)) status was is = status ≢ exit.OutOfMemory → TranslatesAll job was.source is.source was.sink is.sink
TranslatesAs words (Threaded (Pump job)) status was is = status ≢ exit.OutOfMemory → TranslatesAll job was.source is.source was.sink is.sink
TranslatesAs words (Threaded (Drill seed count job)) status was is = ⊤
TranslatesAs words (Threaded (Batch workers job names_from)) status was is = TranslatesNames (drop names_from words) job status was.doors is.doors
TranslatesAs words (Threaded (Serve listen target count job)) status was is =
    TranslatesEach (word_at target words) count job status was.doors is.doors was.sink is.sink

abbrev pub Translates : List (List ℕ) → Status → World → World → Type 0
Translates words status was is = IfOk (command_of words) (λ command. TranslatesAs words command status was is)

-- All that each source held was lawful, and all of it was relayed; or a drill's summary says so of what it made.
abbrev pub IsWholeAs : List (List ℕ) → Command → World → World → Type 0
IsWholeAs words (Local (Copy job)) was is = RelaysAll job was.source is.source was.sink is.sink
IsWholeAs words (Threaded (Pump job)) was is = RelaysAll job was.source is.source was.sink is.sink
IsWholeAs words (Threaded (Drill seed count job)) was is = IsSummedUp seed count job was.sink is.sink
IsWholeAs words (Threaded (Batch workers job names_from)) was is = RelaysEach (drop names_from words) job was.doors is.doors
IsWholeAs words (Threaded (Serve listen target count job)) was is = RelaysCount (word_at target words) count job was.doors is.doors

abbrev pub IsWhole : List (List ℕ) → World → World → Type 0
IsWhole words was is = IfOk (command_of words) (λ command. IsWholeAs words command was is)

-- The status has its cause.
abbrev pub IsCausedAs : Command → Status → World → World → Type 0
IsCausedAs (Local (Copy job)) status was is = status ≢ exit.OutOfMemory → HasCause status was.source is.source was.sink is.sink
IsCausedAs (Threaded (Pump job)) status was is = status ≢ exit.OutOfMemory → HasCause status was.source is.source was.sink is.sink
IsCausedAs (Threaded (Drill seed count job)) status was is = HasDrillCause seed count job status was.sink is.sink
IsCausedAs (Threaded (Batch workers job names_from)) status was is = HasOpeningCause status was.doors is.doors was.sink is.sink
IsCausedAs (Threaded (Serve listen target count job)) status was is = HasOpeningCause status was.doors is.doors was.sink is.sink

abbrev pub IsCaused : List (List ℕ) → Status → World → World → Type 0
IsCaused words status was is = IfOk (command_of words) (λ command. IsCausedAs command status was is)

-- ---- of some commands alone

-- This holds of the job, where the command relays the source.
abbrev pub IfRelay : Command → (Job → Type 0) → Type 0
IfRelay command P = IfSome (relay_of command) P

-- This holds of its job, where the command is a copy.
abbrev pub IfCopy : Command → (Job → Type 0) → Type 0
IfCopy (Local (Copy job)) P = P job
IfCopy (Threaded command) P = ⊤

-- This holds of its numbers and its job, where the command is a drill.
abbrev pub IfDrill : Command → (ℕ → ℕ → Job → Type 0) → Type 0
IfDrill command P = IfSome (drill_of command) (λ drill. P drill.0 drill.1 drill.2)

-- This holds, where the command opens no devices.
abbrev pub UnlessOpens : Command → Type 0 → Type 0
UnlessOpens (Threaded (Batch workers job names_from)) P = ⊤
UnlessOpens (Threaded (Serve listen target count job)) P = ⊤
UnlessOpens command P = P
