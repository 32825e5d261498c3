-- Which words are a command.
use Rattle.std.specs.Prelude.{ℕ, ◌^◌, ◌+◌, Bool, true, nat_le, not, ◌&&◌, ◌||◌, List, [], ◌∷◌, ◌++◌, length, take, drop, Option, Some, None, Result, Ok, Err, codes, is_some, map, unwrap_or, IfSome, string_bytes, String, if◌then◌else◌}
use Rattle.std.specs.declared.alloc.Global.{Global}
use Rattle.std.specs.List.{prefix_len}
use Rattle.std.specs.Str.{bytes_eq}
use Rattle.frame_model.specs.declared.framing.Framing.{Framing}
use Rattle.frame_model.specs.declared.framing.Framing.TheVariants.{Len4, Len2, VLen, Line}
use Rattle.frame_grammar.specs.declared.job.Job.{Job}
use Rattle.relay_words.specs.declared.command.Command.{Command}
use Rattle.relay_words.specs.declared.command.Command.TheVariants.{Local, Threaded}
use Rattle.relay_words.specs.declared.command.LocalCommand.TheVariants.{Copy}
use Rattle.relay_words.specs.declared.command.ThreadedCommand.TheVariants.{Pump, Drill, Batch, Serve}
use Rattle.relay_words.specs.declared.command.Kind.{Kind}
use Rattle.relay_words.specs.declared.command.Kind.TheVariants as kinds
use Rattle.relay_words.specs.declared.keys.Keys.{Keys}
use Rattle.relay_words.specs.Keys.{above, adds, is_keyed, keys_among, number_or, pause_in, usual_resume}
use Rattle.relay_words.specs.Names.{misnamed}
use Rattle.relay_words.specs.Numbers.{number_within}

abbrev pub texts : List (String Global) → List (List ℕ)
texts words = map string_bytes words

-- Which command a first word names.
abbrev pub kind_of : List ℕ → Option Kind
kind_of word =
    if bytes_eq word (codes "copy") then Some kinds.Copy
    else if bytes_eq word (codes "pump") then Some kinds.Pump
    else if bytes_eq word (codes "drill") then Some kinds.Drill
    else if bytes_eq word (codes "batch") then Some kinds.Batch
    else if bytes_eq word (codes "serve") then Some kinds.Serve
    else None

abbrev pub framing_of : List ℕ → Option Framing
framing_of word =
    if bytes_eq word (codes "len4") then Some Len4
    else if bytes_eq word (codes "len2") then Some Len2
    else if bytes_eq word (codes "vlen") then Some VLen
    else if bytes_eq word (codes "line") then Some Line
    else None

-- A word of a relay can stand behind these, which follow its command: the two framings, and keys, each once.
abbrev pub can_follow : List (List ℕ) → List ℕ → Bool
can_follow [] word = is_some (framing_of word)
can_follow (input ∷ []) word = is_some (framing_of word)
can_follow (input ∷ output ∷ keys) word = adds (keys_among keys) word

-- The index of the first of these words that can't follow those before it, where the command has the index 0.
abbrev pub misplaced : List (List ℕ) → List (List ℕ) → Option ℕ
misplaced before [] = None
misplaced before (word ∷ words) = if can_follow before word then misplaced (before ++ word ∷ []) words else Some (1 + length before)

-- The job of two framings and keys, or the index of a resume threshold above the pause threshold.
abbrev pub job_with : Framing → Framing → Keys → Result Job ℕ
job_with input output keys = elim (above (pause_in keys) keys.resume) [
  | Some at ↦ Err at
  | None ↦ Ok (record {
    input = input;
    output = output;
    max = number_or 65536 keys.max;
    seg = number_or 4096 keys.seg;
    pause = pause_in keys;
    resume = number_or (usual_resume (pause_in keys)) keys.resume;
    limit = 2 ^ 40;
  })
]

-- The job of words that can all be read where they stand behind the command.
abbrev pub job_behind : List (List ℕ) → Result Job ℕ
job_behind (input ∷ output ∷ keys) = job_with (unwrap_or (framing_of input) Line) (unwrap_or (framing_of output) Line) (keys_among keys)
job_behind words = Err (1 + length words)

-- The job of the words behind a command, or the index of the first that can't be read, or the number of words where one is
-- missing, or the index of a resume threshold above the pause threshold. The command has the index 0.
abbrev pub job_in : List (List ℕ) → Result Job ℕ
job_in words = elim (misplaced [] words) [ None ↦ job_behind words | Some at ↦ Err at ]

-- A drill of this many frames, whose job is behind two numbers.
abbrev pub drill_with : ℕ → ℕ → Result Job ℕ → Result Command ℕ
drill_with seed count (Ok job) = Ok (Threaded (Drill seed count job))
drill_with seed count (Err at) = Err (2 + at)

-- A drill from this seed: the number of its frames, and then what stands behind the word of a relay.
abbrev pub drill_from : ℕ → List (List ℕ) → Result Command ℕ
drill_from seed [] = Err 2
drill_from seed (word ∷ words) = elim (number_within 0 1000000 word) [ None ↦ Err 2 | Some count ↦ drill_with seed count (job_in words) ]

-- The words behind `drill`.
abbrev pub drill_in : List (List ℕ) → Result Command ℕ
drill_in [] = Err 1
drill_in (word ∷ words) = elim (number_within 0 4294967295 word) [ None ↦ Err 1 | Some seed ↦ drill_from seed words ]

-- The words of a relay at the front of these: two framings, and then the words up to the first that begins as no key.
abbrev pub relay_part : List (List ℕ) → List (List ℕ)
relay_part (input ∷ output ∷ words) = input ∷ output ∷ take (prefix_len is_keyed words) words
relay_part words = words

-- The words behind those, which are names.
abbrev pub names_part : List (List ℕ) → List (List ℕ)
names_part (input ∷ output ∷ words) = drop (prefix_len is_keyed words) words
names_part words = []

-- A batch of so many workers, whose words of a relay and names can all be read where they stand.
abbrev pub batch_behind : ℕ → List (List ℕ) → List (List ℕ) → Result Command ℕ
batch_behind workers relay [] = Err (2 + length relay)
batch_behind workers relay (name ∷ names) = elim (job_behind relay) [ Ok job ↦ Ok (Threaded (Batch workers job (2 + length relay))) | Err at ↦ Err (1 + at) ]

-- A batch of so many workers. A word that can't be read is told before a missing one, and before a resume threshold above the
-- pause threshold.
abbrev pub batch_with : ℕ → List (List ℕ) → List (List ℕ) → Result Command ℕ
batch_with workers relay names = elim (misplaced [] relay) [
  | Some at ↦ Err (1 + at)
  | None ↦ elim (misnamed [] names) [ Some at ↦ Err (2 + length relay + at) | None ↦ batch_behind workers relay names ]
]

-- The words behind `batch`.
abbrev pub batch_in : List (List ℕ) → Result Command ℕ
batch_in [] = Err 1
batch_in (word ∷ words) = elim (number_within 1 16 word) [ None ↦ Err 1 | Some workers ↦ batch_with workers (relay_part words) (names_part words) ]

-- A word can be an address, by its length alone.
abbrev pub is_address : List ℕ → Bool
is_address word = nat_le 1 (length word) && nat_le (length word) 255

-- A server of so many connections. Its job is that of its framings and its keys, which stand behind three more words.
abbrev pub serve_with : ℕ → Result Job ℕ → Result Command ℕ
serve_with count (Ok job) = Ok (Threaded (Serve 1 2 count job))
serve_with count (Err at) = Err (3 + at)

-- The words behind two framings: the number of connections, and keys.
abbrev pub serve_between : List ℕ → List ℕ → List (List ℕ) → Result Command ℕ
serve_between input output [] = Err 5
serve_between input output (word ∷ keys) = elim (number_within 1 1000000 word) [ None ↦ Err 5 | Some count ↦ serve_with count (job_in (input ∷ output ∷ keys)) ]

-- The words behind the first framing.
abbrev pub serve_into : List ℕ → List (List ℕ) → Result Command ℕ
serve_into input [] = Err 4
serve_into input (output ∷ words) = elim (framing_of output) [ None ↦ Err 4 | Some framing ↦ serve_between input output words ]

-- The words behind two addresses.
abbrev pub serve_from : List (List ℕ) → Result Command ℕ
serve_from [] = Err 3
serve_from (input ∷ words) = elim (framing_of input) [ None ↦ Err 3 | Some framing ↦ serve_into input words ]

-- The words behind the address to listen at.
abbrev pub serve_to : List (List ℕ) → Result Command ℕ
serve_to [] = Err 2
serve_to (target ∷ words) = if is_address target then serve_from words else Err 2

-- The words behind `serve`.
abbrev pub serve_in : List (List ℕ) → Result Command ℕ
serve_in [] = Err 1
serve_in (listen ∷ words) = if is_address listen then serve_to words else Err 1

-- The words behind the word of a command.
abbrev pub command_with : Kind → List (List ℕ) → Result Command ℕ
command_with kinds.Copy words = elim (job_in words) [ Ok job ↦ Ok (Local (Copy job)) | Err at ↦ Err at ]
command_with kinds.Pump words = elim (job_in words) [ Ok job ↦ Ok (Threaded (Pump job)) | Err at ↦ Err at ]
command_with kinds.Drill words = drill_in words
command_with kinds.Batch words = batch_in words
command_with kinds.Serve words = serve_in words

-- The command, or the index of the first word that can't be read, or the number of words where one is missing, or the index of a
-- resume threshold above the pause threshold.
abbrev pub command_of : List (List ℕ) → Result Command ℕ
command_of [] = Err 0
command_of (command ∷ words) = elim (kind_of command) [ None ↦ Err 0 | Some kind ↦ command_with kind words ]

-- ---- whether a command needs more than one thread

-- A first word that asks for more than one thread.
abbrev pub is_threaded : List ℕ → Bool
is_threaded word = bytes_eq word (codes "pump") || bytes_eq word (codes "drill") || bytes_eq word (codes "batch") || bytes_eq word (codes "serve")

-- The first of these words asks for no more than one thread, or there is none.
abbrev pub is_local : List (List ℕ) → Bool
is_local [] = true
is_local (command ∷ words) = not (is_threaded command)

-- ---- what a command has

-- The job of a command.
abbrev pub job_of : Command → Job
job_of (Local (Copy job)) = job
job_of (Threaded (Pump job)) = job
job_of (Threaded (Drill seed count job)) = job
job_of (Threaded (Batch workers job names_from)) = job
job_of (Threaded (Serve listen target count job)) = job

-- How many frames a command makes.
abbrev pub frames_made : Command → ℕ
frames_made (Threaded (Drill seed count job)) = count
frames_made command = 0

-- The job of a command that relays the source.
abbrev pub relay_of : Command → Option Job
relay_of (Local (Copy job)) = Some job
relay_of (Threaded (Pump job)) = Some job
relay_of command = None

-- The seed, the number of frames and the job of a drill.
abbrev pub drill_of : Command → Option (ℕ × ℕ × Job)
drill_of (Threaded (Drill seed count job)) = Some (seed, count, job)
drill_of command = None

-- The workers, the job and the index of the first name of a batch.
abbrev pub batch_of : Command → Option (ℕ × Job × ℕ)
batch_of (Threaded (Batch workers job names_from)) = Some (workers, job, names_from)
batch_of command = None

-- This holds of them, where the command is a batch.
abbrev pub IfBatch : Command → (ℕ → Job → ℕ → Type 0) → Type 0
IfBatch command P = IfSome (batch_of command) (λ batch. P batch.0 batch.1 batch.2)

-- The indices of the address to listen at and of the target, the number of connections and the job of a server.
abbrev pub serve_of : Command → Option (ℕ × ℕ × ℕ × Job)
serve_of (Threaded (Serve listen target count job)) = Some (listen, target, count, job)
serve_of command = None

-- This holds of them, where the command is a server.
abbrev pub IfServe : Command → (ℕ → ℕ → ℕ → Job → Type 0) → Type 0
IfServe command P = IfSome (serve_of command) (λ serve. P serve.0 serve.1 serve.2 serve.3)
