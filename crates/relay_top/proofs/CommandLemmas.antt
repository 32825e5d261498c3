-- What follows from what the command of some words does.
use Rattle.std.proofs.Common.{List, drop, take, length, ◌-◌, ap, refl, ◌≡◌, ◌≢◌, ◌⊎◌, ◌↔◌, ℕ, inl, inr, sym, ◌∙◌, subst, Option, Some, None, Result, Ok, Err}
use Rattle.std.specs.Prelude.{String, string_bytes, IfErr, IfOk, IsErr}
use Rattle.std.specs.declared.alloc.Global.{Global}
use Rattle.std.proofs.lemmas.List.{drop-map, take_rest}
use Rattle.edge_core.specs.Device.{SourceState, SinkState}
use Rattle.frame_grammar.specs.declared.job.Job.{Job}
use Rattle.relay_model.specs.declared.ending.Report.{Report}
use Rattle.relay_model.specs.declared.status.Status.{Status}
use Rattle.relay_model.specs.declared.status.Status.TheVariants as exit
use Rattle.relay_model.specs.Answers.{Relays}
use Rattle.relay_model.specs.Lines.{IsWritten, memory_line, usage_line}
use Rattle.relay_model.specs.Run.{HasCause, IsReported, RelaysAll, StopsInTime, TranslatesAll}
use Rattle.relay_model.specs.World.{TellsOnly, World}
use Rattle.relay_model.proofs.AnswerLemmas.{not_usage, of_relay, untouched}
use Rattle.relay_top.specs.Batch.{Batches}
use Rattle.relay_top.specs.Commands.{Copies, Does, IfCopy, IfDrill, IfRelay, IsCausedAs, IsWholeAs, RunsAs, TranslatesAs, UnlessOpens}
use Rattle.relay_top.specs.Drill.{Drills}
use Rattle.relay_top.proofs.BatchCauseLemmas.{batch_caused, batch_reads_nothing, batch_translated, batch_whole}
use Rattle.relay_top.proofs.DrillLemmas.{drill_caused, drill_keeps, drill_untouched, drill_whole}
use Rattle.relay_top.proofs.OpenedLemmas.{Caused, Translated, WholeWhereClean}
use Rattle.relay_top.proofs.ServeCauseLemmas.{serve_caused, serve_translated, serve_whole}
use Rattle.relay_top.specs.Serving.{ServesAt, word_at}
use Rattle.relay_words.specs.Words.{IfBatch, IfServe, job_of, texts}
use Rattle.relay_words.specs.declared.command.Command.{Command}
use Rattle.relay_words.specs.declared.command.Command.TheVariants.{Local, Threaded}
use Rattle.relay_words.specs.declared.command.LocalCommand.{LocalCommand}
use Rattle.relay_words.specs.declared.command.LocalCommand.TheVariants.{Copy}
use Rattle.relay_words.specs.declared.command.ThreadedCommand.TheVariants.{Pump, Drill, Batch, Serve}

module _ (words : List (List ℕ)) (status : Status) (was is : World) where
  pub copies : (command : LocalCommand) → Copies (job_of (Local command)) status was is → Does words (Local command) status was is
  copies (Copy job) relays = relays

  abbrev pub Ran : Result Command ℕ → Type 0
  Ran asked = RunsAs words asked status was is

  -- ---- what a user wants of it

  pub translated : Translated → (asked : Result Command ℕ) → Ran asked → IfOk asked (λ command. TranslatesAs words command status was is)
  translated law (Err word) refuses = tt
  translated law (Ok (Local (Copy job))) relays = of_relay (λ job status sb sa kb ka. TranslatesAll job sb sa kb ka) law job status was is relays.relays
  translated law (Ok (Threaded (Pump job))) relays = of_relay (λ job status sb sa kb ka. TranslatesAll job sb sa kb ka) law job status was is relays
  translated law (Ok (Threaded (Drill seed count job))) drills = tt
  translated law (Ok (Threaded (Batch workers job names_from))) batches = batch_translated law (drop names_from words) names_from job status was is batches
  translated law (Ok (Threaded (Serve listen target count job))) serves = serve_translated (word_at target words) count job status was is law serves

  of_clean : WholeWhereClean → (job : Job) → Relays job status was is → status ≡ exit.Clean → RelaysAll job was.source is.source was.sink is.sink
  of_clean law job relays clean = of_relay (λ job status sb sa kb ka. status ≡ exit.Clean → RelaysAll job sb sa kb ka) law job status was is relays (λ memory. cc) clean

  pub whole : WholeWhereClean → (asked : Result Command ℕ) → Ran asked → status ≡ exit.Clean → IfOk asked (λ command. IsWholeAs words command was is)
  whole law (Err word) refuses clean = tt
  whole law (Ok (Local (Copy job))) relays clean = of_clean law job relays.relays clean
  whole law (Ok (Threaded (Pump job))) relays clean = of_clean law job relays clean
  whole law (Ok (Threaded (Drill seed count job))) drills clean = drill_whole seed count job status was is drills clean
  whole law (Ok (Threaded (Batch workers job names_from))) batches clean = batch_whole law (drop names_from words) names_from job status was is batches clean
  whole law (Ok (Threaded (Serve listen target count job))) serves clean = serve_whole (word_at target words) count job status was is law serves clean

  pub caused : Caused → (asked : Result Command ℕ) → Ran asked → IfOk asked (λ command. IsCausedAs command status was is)
  caused law (Err word) refuses = tt
  caused law (Ok (Local (Copy job))) relays = of_relay (λ job status sb sa kb ka. HasCause status sb sa kb ka) law job status was is relays.relays
  caused law (Ok (Threaded (Pump job))) relays = of_relay (λ job status sb sa kb ka. HasCause status sb sa kb ka) law job status was is relays
  caused law (Ok (Threaded (Drill seed count job))) drills = drill_caused seed count job status was is drills
  caused law (Ok (Threaded (Batch workers job names_from))) batches = batch_caused law (drop names_from words) names_from job status was is batches
  caused law (Ok (Threaded (Serve listen target count job))) serves = serve_caused (word_at target words) count job status was is law serves

  -- ---- what is as it was

  no_usage : Caused → (command : Command) → Does words command status was is → status ≢ exit.Usage
  no_usage law (Local (Copy job)) relays = not_usage job status was is relays.relays
  no_usage law (Threaded (Pump job)) relays = not_usage job status was is relays
  no_usage law (Threaded (Drill seed count job)) drills = λ usage. elim (drill_caused seed count job status was is drills).few [
    | inl clean ↦ cc
    | inr others ↦ elim others [ inl bad ↦ cc | inr more ↦ elim more [ inl failed ↦ cc | inr memory ↦ cc ] ]
  ]
  no_usage law (Threaded (Batch workers job names_from)) batches = (batch_caused law (drop names_from words) names_from job status was is batches).few
  no_usage law (Threaded (Serve listen target count job)) serves = (serve_caused (word_at target words) count job status was is law serves).few

  pub usage : Caused → (asked : Result Command ℕ) → Ran asked → (status ≡ exit.Usage) ↔ IsErr asked
  usage law (Err word) refuses = (λ is_usage. refl, λ failed. refuses.ended)
  usage law (Ok command) does = (λ is_usage. absurd (no_usage law command does is_usage), λ failed. absurd cc)

  pub usage_told : (asked : Result Command ℕ) → Ran asked → IfErr asked (λ word. IsWritten (usage_line word) was.faults is.faults)
  usage_told (Err word) refuses = refuses.tells.tells.told
  usage_told (Ok command) does = tt

  -- with this status nothing has changed but what was told
  pub told_only : Caused → (asked : Result Command ℕ) → Ran asked → status ≡ exit.Usage → (word : ℕ) × TellsOnly (usage_line word) was is
  told_only law (Err word) refuses is_usage = (word, refuses.tells)
  told_only law (Ok command) does is_usage = absurd (no_usage law command does is_usage)

  pub memory_unless : (P : Type 0) → (TellsOnly memory_line was is → P) → (asked : Result Command ℕ) → Ran asked → status ≡ exit.OutOfMemory → IfOk asked (λ command. UnlessOpens command P)
  memory_unless P f (Err word) refuses memory = tt
  memory_unless P f (Ok (Local (Copy job))) relays memory = f (untouched job status was is relays.relays memory)
  memory_unless P f (Ok (Threaded (Pump job))) relays memory = f (untouched job status was is relays memory)
  memory_unless P f (Ok (Threaded (Drill seed count job))) drills memory = f (drill_untouched seed count job status was is drills memory)
  memory_unless P f (Ok (Threaded (Batch workers job names_from))) batches memory = tt
  memory_unless P f (Ok (Threaded (Serve listen target count job))) serves memory = tt

  keeps_source : (command : Command) → Does words command status was is → status ≡ exit.OutOfMemory → is.source ≡ was.source
  keeps_source (Local (Copy job)) relays memory = (untouched job status was is relays.relays memory).tells.source
  keeps_source (Threaded (Pump job)) relays memory = (untouched job status was is relays memory).tells.source
  keeps_source (Threaded (Drill seed count job)) drills memory = (drill_keeps seed count job status was is drills).source
  keeps_source (Threaded (Batch workers job names_from)) batches memory = batch_reads_nothing (drop names_from words) names_from job status was is batches
  keeps_source (Threaded (Serve listen target count job)) serves memory = serves.source

  pub source_untouched : Caused → (asked : Result Command ℕ) → Ran asked → (status ≡ exit.Usage) ⊎ (status ≡ exit.OutOfMemory) → is.source ≡ was.source
  source_untouched law asked ran (inl is_usage) = (told_only law asked ran is_usage).1.tells.source
  source_untouched law (Err word) refuses (inr memory) = refuses.tells.tells.source
  source_untouched law (Ok command) does (inr memory) = keeps_source command does memory

  pub doors_untouched : (asked : Result Command ℕ) → Ran asked → IfOk asked (λ command. UnlessOpens command (is.doors ≡ was.doors))
  doors_untouched (Err word) refuses = tt
  doors_untouched (Ok (Local (Copy job))) relays = relays.relays.doors
  doors_untouched (Ok (Threaded (Pump job))) relays = relays.doors
  doors_untouched (Ok (Threaded (Drill seed count job))) drills = (drill_keeps seed count job status was is drills).doors
  doors_untouched (Ok (Threaded (Batch workers job names_from))) batches = tt
  doors_untouched (Ok (Threaded (Serve listen target count job))) serves = tt

  -- ---- of some commands alone

  pub relay_at : (P : Job → Type 0) → ((job : Job) → Relays job status was is → P job) → (asked : Result Command ℕ) → Ran asked → IfOk asked (λ command. IfRelay command P)
  relay_at P so (Err word) refuses = tt
  relay_at P so (Ok (Local (Copy job))) relays = so job relays.relays
  relay_at P so (Ok (Threaded (Pump job))) relays = so job relays
  relay_at P so (Ok (Threaded (Drill seed count job))) drills = tt
  relay_at P so (Ok (Threaded (Batch workers job names_from))) batches = tt
  relay_at P so (Ok (Threaded (Serve listen target count job))) serves = tt

  pub copy_in_time : (asked : Result Command ℕ) → Ran asked → IfOk asked (λ command. IfCopy command (λ job. StopsInTime job was.source is.source))
  copy_in_time (Err word) refuses = tt
  copy_in_time (Ok (Local (Copy job))) copies = copies.in_time
  copy_in_time (Ok (Threaded command)) does = tt

  pub drill_at : (P : ℕ → ℕ → Job → Type 0) → ((seed count : ℕ) (job : Job) → Drills seed count job status was is → P seed count job) → (asked : Result Command ℕ) → Ran asked → IfOk asked (λ command. IfDrill command P)
  drill_at P so (Err word) refuses = tt
  drill_at P so (Ok (Local (Copy job))) relays = tt
  drill_at P so (Ok (Threaded (Pump job))) relays = tt
  drill_at P so (Ok (Threaded (Drill seed count job))) drills = so seed count job drills
  drill_at P so (Ok (Threaded (Batch workers job names_from))) batches = tt
  drill_at P so (Ok (Threaded (Serve listen target count job))) serves = tt

  pub batch_at : (P : ℕ → Job → ℕ → Type 0) → ((workers : ℕ) (job : Job) (names_from : ℕ) → Batches (drop names_from words) names_from job status was is → P workers job names_from)
      → (asked : Result Command ℕ) → Ran asked → IfOk asked (λ command. IfBatch command P)
  batch_at P so (Err word) refuses = tt
  batch_at P so (Ok (Local (Copy job))) relays = tt
  batch_at P so (Ok (Threaded (Pump job))) relays = tt
  batch_at P so (Ok (Threaded (Drill seed count job))) drills = tt
  batch_at P so (Ok (Threaded (Batch workers job names_from))) batches = so workers job names_from batches
  batch_at P so (Ok (Threaded (Serve listen target count job))) serves = tt

  pub serve_at : (P : ℕ → ℕ → ℕ → Job → Type 0) → ((listen target count : ℕ) (job : Job) → ServesAt (word_at target words) count job status was is → P listen target count job)
      → (asked : Result Command ℕ) → Ran asked → IfOk asked (λ command. IfServe command P)
  serve_at P so (Err word) refuses = tt
  serve_at P so (Ok (Local (Copy job))) relays = tt
  serve_at P so (Ok (Threaded (Pump job))) relays = tt
  serve_at P so (Ok (Threaded (Drill seed count job))) drills = tt
  serve_at P so (Ok (Threaded (Batch workers job names_from))) batches = tt
  serve_at P so (Ok (Threaded (Serve listen target count job))) serves = so listen target count job serves

-- ---- the names among the words

pub names_of : (words : List (String Global)) (n : ℕ) → texts (take (length words - n) (drop n words)) ≡ drop n (texts words)
names_of words n = ap texts (take_rest words n) ∙ sym (drop-map string_bytes n words)

pub batch_named : (names others : List (List ℕ)) (first : ℕ) (job : Job) (status : Status) (was is : World) → names ≡ others → Batches names first job status was is → Batches others first job status was is
batch_named names others first job status was is same batches = subst (λ (xs : List (List ℕ)). Batches xs first job status was is) same batches

-- ---- the report of a relay on two threads

pub the_report : (job : Job) (told report : Report) (sb sa : SourceState) (kb ka : SinkState) → told ≡ report → IsReported job report sb sa kb ka → IsReported job told sb sa kb ka
the_report job told report sb sa kb ka same reported = subst (λ (r : Report). IsReported job r sb sa kb ka) (sym same) reported
