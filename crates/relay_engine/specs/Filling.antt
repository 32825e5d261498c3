-- What a step of a filler does, on whichever pipe it runs.
use Rattle.std.specs.Prelude.{ℕ, ◌≡◌, ◌<◌, ◌≤◌, ◌-◌, ◌==◌, ◌⊎◌, Bool, true, false, List, [], ◌∷◌, ◌++◌, length, Option, Some, None, Result, Ok, Err}
use Rattle.std.specs.Io.KnownBytes.{IsAtEnd}
use Rattle.edge_core.specs.Device.{SourceState, Gives, Fails}
use Rattle.relay_model.specs.declared.ending.FillEnd.{FillEnd}
use Rattle.relay_model.specs.declared.ending.FillEnd.TheVariants as taking
use Rattle.pipe_core.specs.declared.reply.FlushReply.{FlushReply}
use Rattle.pipe_core.specs.declared.reply.FlushReply.TheVariants as flush
use Rattle.pipe_core.specs.History.{Run, Call, Commit, bytes_of}
use Rattle.pipe_core.specs.Flushes.{reply_to_commit}
use Rattle.pipe_state.specs.declared.options.Options.{Options}
use Rattle.pipe_turns.specs.declared.faults.TryFault.{TryFault}
use Rattle.relay_engine.specs.Ends.{GivesOneMore, Reading}
use Rattle.relay_engine.specs.Filler.{written}
use Rattle.relay_engine.specs.Later.{Later}
use Rattle.relay_engine.specs.Tally.{Spends, Tally}
use Rattle.relay_engine.specs.declared.fill_pipe.NoRoom.{NoRoom}
use Rattle.relay_engine.specs.declared.fill_pipe.NoRoom.TheVariants as room
use Rattle.relay_engine.specs.declared.filling.Filled.{Filled}
use Rattle.relay_engine.specs.declared.filling.Filled.TheVariants.{Moved, Paused, Full, Ended}

-- What a filler sees of its end: what is drafted, how many bytes of room were granted behind it, how often the end has turned to its pipe, and the
-- reader, where it leaves that as it is.
pub record Drafting : Type 0 where
  pub draft : List Run
  pub room : ℕ
  pub tally : Tally
  pub reading : Option Reading

-- Room was granted: at once, or where none was granted before, by one exchange.
abbrev pub IsGranted : Drafting → Drafting → Type 0
IsGranted old new = Spends 0 old.tally new.tally ⊎ (old.room ≡ 0) × Spends 1 old.tally new.tally

-- How many bytes are taken at most, how many were taken, whether a commit is owed since the last one was answered Pending or refused, and how many
-- bytes a refused commit has left drafted.
pub record FillingState : Type 0 where
  pub limit : ℕ
  pub taken : ℕ
  pub owed : Bool
  pub drafted : ℕ

-- Bytes were read, at most so many, and are drafted behind the rest.
pub record DraftsSome (left : ℕ) (before : SourceState) (draft : List Run) (n : ℕ) (drafted : List Run) (after : SourceState) : Type 0 where
  pub bytes : List ℕ
  pub size : n ≡ length bytes
  pub some : 0 < n
  pub within : n ≤ left
  pub given : Gives before bytes after
  pub behind : bytes_of drafted ≡ bytes_of draft ++ bytes

-- One read of at most `left` bytes, or of one where none is left.
abbrev pub Drafts : ℕ → SourceState → List Run → Result ℕ FillEnd → List Run → SourceState → Type 0
Drafts left before draft (Ok n) drafted after = DraftsSome left before draft n drafted after
Drafts left before draft (Err taking.End) drafted after = (drafted ≡ draft) × Gives before [] after × IsAtEnd after.left
Drafts left before draft (Err taking.Fault) drafted after = (drafted ≡ draft) × Fails before after
Drafts left before draft (Err taking.Long) drafted after = (drafted ≡ draft) × (left ≡ 0) × GivesOneMore before after
Drafts left before draft (Err (taking.Gone code)) drafted after = ⊥

-- how room is refused
abbrev pub RefusesRoomTo : {P F : Type 0} → (F → P → P → Type 0) → (TryFault → P → P → Type 0) → NoRoom F → P → P → Type 0
RefusesRoomTo is_full refuses (room.Full full) old new = is_full full old new
RefusesRoomTo is_full refuses (room.Refused fault) old new = refuses fault old new

-- whether a commit is owed behind a step that was not refused
abbrev pub owes : {F : Type 0} → Filled F → Bool
owes (Paused unexamined) = true
owes filled = false

-- whether a commit went through of which there is nothing to tell
abbrev pub moves_nothing : {F : Type 0} → Filled F → Bool
moves_nothing (Moved n) = n == 0
moves_nothing filled = false

-- the same of what may have been refused
abbrev pub tells_nothing : {F : Type 0} → Result (Filled F) TryFault → Bool
tells_nothing (Ok filled) = moves_nothing filled
tells_nothing (Err fault) = false

-- The end stands for a history, and all bytes that were taken are committed or drafted; drafted only where a commit is owed.
pub record HasTaken {P : Type 0} (at : P → List Call → Type 0) (writer : P → Drafting) (f : FillingState) (p : P) (h : List Call) (bytes : List ℕ) : Type 0 where
  pub stands : at p h
  pub all : written h ++ bytes_of (writer p).draft ≡ bytes
  pub counted : f.taken ≡ length bytes
  pub drafted : f.drafted ≡ length (bytes_of (writer p).draft)
  pub settled : f.owed ≡ false → (writer p).draft ≡ []

-- A commit of the draft, by which all that was taken is committed.
pub record Commits {P : Type 0} (at : P → List Call → Type 0) (others : Call → Type 0) (writer : P → Drafting) (options : Options) (reply : FlushReply) (p : P) (f' : FillingState) (p' : P) (h : List Call) (bytes : List ℕ) : Type 0 where
  pub found : List Call
  pub later : Later others h found
  pub replied : reply ≡ reply_to_commit options.pause options.resume found (writer p).draft
  pub holds : HasTaken at writer f' p' (Commit (writer p).draft ∷ found) bytes
  pub spent : Spends 0 (writer p).tally (writer p').tally

-- No commit was made. What is drafted stays.
pub record Keeps {P : Type 0} (at : P → List Call → Type 0) (others : Call → Type 0) (writer : P → Drafting) (f' : FillingState) (p' : P) (h : List Call) (bytes : List ℕ) : Type 0 where
  pub found : List Call
  pub later : Later others h found
  pub holds : HasTaken at writer f' p' found bytes

module _ {P F : Type 0} (at : P → List Call → Type 0) (others : Call → Type 0) (writer : P → Drafting) (refuses : TryFault → P → P → Type 0) (options : Options) where
  -- how one commit of the draft was answered
  abbrev pub Settles : Result (Filled F) TryFault → P → FillingState → P → List Call → List ℕ → Type 0
  Settles (Ok (Moved n)) p f' p' h bytes = (n ≡ length (bytes_of (writer p).draft)) × ((canceled : Bool) × Commits at others writer options (flush.Ready canceled None) p f' p' h bytes)
  Settles (Ok (Paused unexamined)) p f' p' h bytes = Commits at others writer options (flush.Pending unexamined) p f' p' h bytes
  Settles (Ok (Full full)) p f' p' h bytes = ⊥
  Settles (Ok (Ended (taking.Gone code))) p f' p' h bytes = (canceled : Bool) × Commits at others writer options (flush.Ready canceled (Some code)) p f' p' h bytes
  Settles (Ok (Ended end)) p f' p' h bytes = ⊥
  Settles (Err fault) p f' p' h bytes = refuses fault p p' × Keeps at others writer f' p' h bytes

  -- Bytes were read into room that was granted, by an end that stood for a later history then, and one commit of them was answered so.
  pub record CommitsRead (answer : Result (Filled F) TryFault) (f : FillingState) (p : P) (before : SourceState) (f' : FillingState) (p' : P) (after : SourceState) (h : List Call) (bytes : List ℕ) : Type 0 where
    pub reader : P
    pub found : List Call
    pub later : Later others h found
    pub granted : IsGranted (writer p) (writer reader)
    pub size : ℕ
    pub drafts : DraftsSome (f.limit - f.taken) before (writer p).draft size (writer reader).draft after
    pub settles : Settles answer reader f' p' found (bytes ++ drafts.bytes)

  -- The commit that was owed is all that was done, and is what is told. The source was asked for nothing.
  pub record TellsOwed (answer : Result (Filled F) TryFault) (f : FillingState) (p : P) (before : SourceState) (f' : FillingState) (p' : P) (after : SourceState) (h : List Call) (bytes : List ℕ) : Type 0 where
    pub owed : f.owed ≡ true
    pub unread : after ≡ before
    pub told : tells_nothing answer ≡ false
    pub settles : Settles answer p f' p' h bytes

  module _ (is_full : F → P → P → Type 0) where
    -- One read, and one commit of what it gave: what a step does that owes no commit, and why it answers so.
    abbrev pub TakesBy : Result (Filled F) TryFault → FillingState → P → SourceState → FillingState → P → SourceState → List Call → List ℕ → Type 0
    TakesBy (Ok (Full full)) f p before f' p' after h bytes = is_full full p p' × (after ≡ before) × Keeps at others writer f' p' h bytes
    TakesBy (Ok (Ended taking.End)) f p before f' p' after h bytes = IsGranted (writer p) (writer p') × (Gives before [] after × IsAtEnd after.left) × Keeps at others writer f' p' h bytes
    TakesBy (Ok (Ended taking.Fault)) f p before f' p' after h bytes = IsGranted (writer p) (writer p') × Fails before after × Keeps at others writer f' p' h bytes
    TakesBy (Ok (Ended taking.Long)) f p before f' p' after h bytes = IsGranted (writer p) (writer p') × ((f'.taken ≡ f'.limit) × GivesOneMore before after) × Keeps at others writer f' p' h bytes
    TakesBy (Err fault) f p before f' p' after h bytes = (refuses fault p p' × (after ≡ before) × Keeps at others writer f' p' h bytes) ⊎ CommitsRead (Err fault) f p before f' p' after h bytes
    TakesBy answer f p before f' p' after h bytes = CommitsRead answer f p before f' p' after h bytes

    -- The commit that was owed went through, with nothing to tell, and behind it the step took more.
    pub record TakesBehind (answer : Result (Filled F) TryFault) (f : FillingState) (p : P) (before : SourceState) (f' : FillingState) (p' : P) (after : SourceState) (h : List Call) (bytes : List ℕ) : Type 0 where
      pub owed : f.owed ≡ true
      pub none : bytes_of (writer p).draft ≡ []
      pub settled : FillingState
      pub limit : settled.limit ≡ f.limit
      pub writer_then : P
      pub canceled : Bool
      pub commits : Commits at others writer options (flush.Ready canceled None) p settled writer_then h bytes
      pub takes : TakesBy answer settled writer_then before f' p' after (Commit (writer p).draft ∷ commits.found) bytes

    -- One step of a filler that had taken these bytes, and whose end stood for this history.
    abbrev pub FillsOn : FillingState → P → SourceState → Result (Filled F) TryFault → FillingState → P → SourceState → List Call → List ℕ → Type 0
    FillsOn f p before answer f' p' after h bytes =
        (f.owed ≡ false) × TakesBy answer f p before f' p' after h bytes
        ⊎ (TellsOwed answer f p before f' p' after h bytes ⊎ TakesBehind answer f p before f' p' after h bytes)
