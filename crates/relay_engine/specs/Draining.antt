-- What a step of a drainer does on any pipe, whose writer may go on meanwhile.
use Rattle.std.specs.Prelude.{ℕ, ◌≡◌, ◌≤◌, ◌+◌, ◌-◌, ◌⊎◌, Bool, true, false, List, [], ◌∷◌, ◌++◌, length, Option, Some, None, Result, Ok, Err, IfOk}
use Rattle.std.specs.Io.KnownBytes.{Appends}
use Rattle.edge_core.specs.Device.{SinkState, SinkFails, Takes, HasRisen}
use Rattle.pipe_core.specs.declared.reply.ReadReply.TheVariants as read
use Rattle.pipe_core.specs.History.{Call, Read, Advance, seat_of}
use Rattle.pipe_core.specs.Progress.{total, examined, held}
use Rattle.pipe_core.specs.Reads.{reply_to_read}
use Rattle.pipe_core.specs.Legal.{IsLegal, MayFollow}
use Rattle.pipe_turns.specs.declared.faults.TryFault.{TryFault}
use Rattle.relay_engine.specs.Later.{Later}
use Rattle.relay_engine.specs.Frames.{Breaks, Drains}
use Rattle.relay_engine.specs.Passing.{added, end_at}
use Rattle.relay_engine.specs.Drainer.{DrainState, IsDrained, is_success}
use Rattle.relay_engine.specs.Ending.{is_sink_fault}
use Rattle.relay_engine.specs.Sides.{Concludes}
use Rattle.relay_engine.specs.Tally.{Spends, Tally}
use Rattle.relay_engine.specs.declared.drain_end.DrainEnd.{DrainEnd}
use Rattle.relay_engine.specs.declared.drain_end.DrainEnd.TheVariants as ends
use Rattle.relay_engine.specs.declared.frames.LendPassed.{LendPassed}
use Rattle.relay_engine.specs.declared.frames.Broken.{Broken}
use Rattle.relay_engine.specs.declared.draining.Owed.{Owed}
use Rattle.relay_engine.specs.declared.draining.Progress.{Progress}
use Rattle.relay_engine.specs.declared.draining.Progress.TheVariants.{Moved, Idle, Ended}

-- What was passed on, and the advance that is still owed to the pipe where it was refused.
pub record DrainingState : Type 0 where
  pub drained : DrainState
  pub owed : Option Owed

-- What stands behind the advance: the drainer goes on, or it ends.
abbrev pub StandsBehind : DrainState → Option DrainEnd → List Call → List ℕ → Type 0
StandsBehind d None advanced text = IsDrained d advanced text
StandsBehind d (Some end) advanced text = Concludes d.job d.frames d.written advanced text end

-- The frames of the standing lend were written, and an advance over them is owed.
pub record Owes (d : DrainState) (owed : Owed) (h : List Call) (text : List ℕ) : Type 0 where
  pub may : MayFollow (Advance owed.passed owed.len) h
  pub behind : StandsBehind d owed.end (Advance owed.passed owed.len ∷ h) text

abbrev pub Stands : DrainState → Option Owed → List Call → List ℕ → Type 0
Stands d None h text = IsDrained d h text
Stands d (Some owed) h text = Owes d owed h text

-- A drainer that has seen this history has written this text.
abbrev pub HasPassed : DrainingState → List Call → List ℕ → Type 0
HasPassed d h text = Stands d.drained d.owed h text

-- the length of the lend that stands between two steps
abbrev pub lent_for : Option Owed → Option ℕ
lent_for None = None
lent_for (Some owed) = Some owed.len

-- The advance that is owed lies within the lend.
abbrev pub IsWithin : Option Owed → Type 0
IsWithin None = Unit {0}
IsWithin (Some owed) = owed.passed ≤ owed.len

-- the calls of others, and the reader's
abbrev pub OrReaders : (Call → Type 0) → Call → Type 0
OrReaders others call = (seat_of call ≡ 1) ⊎ others call

-- The read was Pending behind what others had done. Nothing else was.
pub record Idles (others : Call → Type 0) (d : DrainingState) (h : List Call) (gain : List ℕ) (examined_told : ℕ) (d' : DrainingState) (k : List Call) : Type 0 where
  pub found : List Call
  pub later : Later others h found
  pub told : reply_to_read 0 found ≡ read.Pending examined_told (length (held found))
  pub is : k ≡ Read 0 ∷ found
  pub none : gain ≡ []
  pub unchanged : d' ≡ d
  pub none_owed : d.owed ≡ None

-- The read was Ready and told of no end. The frames of the whole lend were written, and the advance passed over them, with all examined.
pub record MovesOn (others : Call → Type 0) (d : DrainingState) (h : List Call) (frames : ℕ) (d' : DrainingState) (k : List Call) : Type 0 where
  pub found : List Call
  pub later : Later others h found
  pub canceled : Bool
  pub len : ℕ
  pub told : reply_to_read 0 found ≡ read.Ready canceled None len
  pub all_seen : examined k ≡ length (total found)
  pub counted : d'.drained.frames ≡ d.drained.frames + frames

-- The advance that was owed has been made behind what others had done.
pub record IsAdvanced (others : Call → Type 0) (owed : Owed) (h k : List Call) : Type 0 where
  pub found : List Call
  pub later : Later others h found
  pub is : k ≡ Advance owed.passed owed.len ∷ found

-- Where an advance was owed it was made, and nothing else was done.
abbrev pub MovesBy : (Call → Type 0) → Option Owed → DrainingState → List Call → ℕ → DrainingState → List Call → Type 0
MovesBy others None d h frames d' k = MovesOn others d h frames d' k
MovesBy others (Some owed) d h frames d' k = (frames ≡ owed.frames) × (d'.drained ≡ d.drained)

-- The last call of the step was refused so. Each exchange before it has made an entry.
pub record IsRefused {P : Type 0} (refuses : TryFault → P → P → Type 0) (tally : P → Tally) (fault : TryFault) (p p' : P) : Type 0 where
  pub found : P
  pub spent : Spends 0 (tally p) (tally found)
  pub refused : refuses fault found p'

module _ {P : Type 0} (at : P → List Call → Type 0) (others : Call → Type 0) (refuses : TryFault → P → P → Type 0) (tally : P → Tally) where
  -- Why a step answered so, of a drainer that had seen h and had written `text`. With the step it has seen k.
  abbrev pub StepsBy : DrainingState → List Call → List ℕ → List ℕ → P → Result Progress TryFault → DrainingState → List Call → P → Type 0
  StepsBy d h text gain p (Ok (Idle examined_told)) d' k p' = Idles others d h gain examined_told d' k × HasPassed d' k text
  StepsBy d h text gain p (Ok (Moved frames)) d' k p' = MovesBy others d.owed d h frames d' k × (d'.owed ≡ None) × IsDrained d'.drained k (text ++ gain)
  StepsBy d h text gain p (Ok (Ended end)) d' k p' = Concludes d'.drained.job d'.drained.frames d'.drained.written k (text ++ gain) end
  StepsBy d h text gain p (Err fault) d' k p' = HasPassed d' k (text ++ gain) × IsRefused refuses tally fault p p'

  pub record StepsTo (d : DrainingState) (h : List Call) (text gain : List ℕ) (p : P) (result : Result Progress TryFault) (d' : DrainingState) (p' : P) : Type 0 where
    pub now : List Call
    pub on : Later (OrReaders others) h now
    pub legal : IsLegal now
    pub stands : at p' now
    pub how : StepsBy d h text gain p result d' now p'

abbrev pub is_fault : Option DrainEnd → Bool
is_fault None = false
is_fault (Some end) = is_sink_fault end

-- an end for a call of the sink that failed is owed
abbrev pub owes_fault : Option Owed → Bool
owes_fault None = false
owes_fault (Some owed) = is_fault owed.end

-- a call of the sink failed in a step
abbrev pub has_failed : Result Progress TryFault → DrainingState → Bool
has_failed (Ok (Ended end)) d' = is_sink_fault end
has_failed (Ok progress) d' = false
has_failed (Err fault) d' = owes_fault d'.owed

abbrev pub GainsIf : Bool → SinkState → List ℕ → SinkState → Type 0
GainsIf true before gain after = Appends before.written after.written gain × HasRisen before.faults after.faults × (after.name ≡ before.name)
GainsIf false before gain after = Takes before gain after

-- What a step put into the sink. One that makes what is owed makes no call of it, and whether one has failed stays.
abbrev pub GainsBy : Option Owed → Bool → SinkState → List ℕ → SinkState → Type 0
GainsBy None failed before gain after = GainsIf failed before gain after
GainsBy (Some owed) failed before gain after = (gain ≡ []) × (after ≡ before) × (failed ≡ is_fault owed.end)

-- where a step isn't the last
abbrev pub IfMore : Result Progress TryFault → Type 0 → Type 0
IfMore (Ok (Ended end)) P = Unit {0}
IfMore result P = P

-- One step on the reading end of a pipe, of which `at` says for which histories it stands and `lent` how long its lend is.
pub record DrainsOnce {P A : Type 0} (at : P → List Call → Type 0) (others : Call → Type 0) (refuses : TryFault → P → P → Type 0) (tally : P → Tally) (lent : P → Option ℕ) (aside : P → A) (d : DrainingState) (p : P) (before : SinkState) (result : Result Progress TryFault) (d' : DrainingState) (p' : P) (after : SinkState) : Type 0 where
  pub gain : List ℕ
  pub gained : GainsBy d.owed (has_failed result d') before gain after
  pub cause : (h : List Call) (text : List ℕ) → at p h → HasPassed d h text → StepsTo at others refuses tally d h text gain p result d' p'
  pub job : d'.drained.job ≡ d.drained.job
  pub kept : aside p' ≡ aside p
  pub spent : IfOk result (λ _. Spends 0 (tally p) (tally p'))
  -- So the next step may come, if this one isn't the last.
  pub lends : IfMore result (lent p' ≡ lent_for d'.owed)
  pub within : IsWithin d'.owed

-- ---- the parts of a step

-- A sink was flushed before an end, which is another one where that failed.
abbrev pub Flushes : DrainEnd → SinkState → DrainEnd → SinkState → Type 0
Flushes end before result after = Takes before [] after × (result ≡ end) ⊎ SinkFails before after × (result ≡ ends.SinkFault)

-- the end that is owed behind the frames of a lend: none, or the one for which they end, once the sink was flushed
abbrev pub EndsOwed : Option DrainEnd → SinkState → Option DrainEnd → SinkState → Type 0
EndsOwed None before owed after = (owed ≡ None) × (after ≡ before)
EndsOwed (Some end) before owed after = (result : DrainEnd) × (owed ≡ Some result) × Flushes end before result after

-- All frames of a lend were written, and this is owed. Or a call of the sink failed.
abbrev pub PassesLend : Option ℕ → List ℕ → DrainState → SinkState → Option Owed → DrainState → SinkState → Type 0
PassesLend ended lent d before (Some owed) d' after =
    (drained : LendPassed) × (written : SinkState) × Drains d.job lent (is_success ended) before drained written
    × (d' ≡ added d drained.passed drained.frames drained.written (length lent - drained.passed))
    × (owed.passed ≡ drained.passed) × (owed.len ≡ length lent) × (owed.frames ≡ drained.frames)
    × EndsOwed (end_at drained.stop ended d'.place) written owed.end after
PassesLend ended lent d before None d' after =
    (broken : Broken) × Breaks d.job lent (is_success ended) before broken after × (d' ≡ added d 0 broken.frames broken.written d.known)

module _ {P : Type 0} (at : P → List Call → Type 0) (others : Call → Type 0) (refuses : TryFault → P → P → Type 0) where
  -- What an advance that was owed came to: it was made behind what others had done, or refused.
  abbrev pub AdvancesBy : DrainingState → Owed → List Call → List ℕ → P → Result Progress TryFault → DrainingState → List Call → P → Type 0
  AdvancesBy d owed h text p (Ok (Moved frames)) d' k p' = (owed.end ≡ None) × (frames ≡ owed.frames) × IsAdvanced others owed h k × IsDrained d.drained k text × (d' ≡ record d { owed = None })
  AdvancesBy d owed h text p (Ok (Ended end)) d' k p' = (owed.end ≡ Some end) × IsAdvanced others owed h k × Concludes d.drained.job d.drained.frames d.drained.written k text end × (d' ≡ record d { owed = None })
  AdvancesBy d owed h text p (Ok (Idle examined_told)) d' k p' = ⊥
  AdvancesBy d owed h text p (Err fault) d' k p' = Later others h k × Owes d.drained owed k text × refuses fault p p' × (d' ≡ record d { owed = Some owed })

  pub record AdvancesTo (d : DrainingState) (owed : Owed) (h : List Call) (text : List ℕ) (p : P) (result : Result Progress TryFault) (d' : DrainingState) (p' : P) : Type 0 where
    pub now : List Call
    pub legal : IsLegal now
    pub stands : at p' now
    pub how : AdvancesBy d owed h text p result d' now p'
