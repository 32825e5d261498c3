-- What the steps of a filler have taken from a source, one behind the other.
use Rattle.std.proofs.Common.{◌≡◌, ◌≤◌, ℕ, false, List, [], ◌++◌, length, Option, Some, None, Result, Ok, Err, refl, sym, ap, ◌∙◌, subst, append-nil, arith}
use Rattle.std.proofs.KnownBytes.{Consumes-nil, Consumes-trans, Consumes-kept}
use Rattle.std.proofs.lemmas.List.{length-append}
use Rattle.edge_core.specs.Device.{SourceState, Gives}
use Rattle.relay_model.specs.declared.ending.FillEnd.{FillEnd}
use Rattle.relay_model.specs.declared.ending.FillEnd.TheVariants as taking
use Rattle.relay_model.specs.Run.{IsTaken}
use Rattle.turn_cell.specs.Seat.{CellState, IsIdle}
use Rattle.pipe_state.specs.declared.full.Full as room
use Rattle.pipe_turns.specs.declared.faults.TryFault.{TryFault}
use Rattle.pipe_turns.specs.declared.faults.TryFault.TheVariants as try
use Rattle.pipe_turns.specs.Name.{Name}
use Rattle.pipe_shared.specs.Ends.{Writer}
use Rattle.pipe_turns.specs.Turns.{Seat}
use Rattle.relay_engine.specs.PipeFiller.{CompletesBy, FillerState, Follows, HasEnded, IsUnused, StepsFrom, StepsOn, all_of, filling_of, seen_by}
use Rattle.relay_engine.specs.WriterEnds.{FindsNoRoom, HasWritten, IsOthers, RefusesWriter, drafting}
use Rattle.relay_engine.specs.Sides.{HasFilled}
use Rattle.relay_engine.specs.SoFar.{IsFilling, TakenSoFar}
use Rattle.relay_engine.specs.declared.filling.Filled.{Filled}
use Rattle.relay_engine.specs.declared.filling.Filled.TheVariants as filled
use Rattle.relay_engine.specs.declared.pipe_filler.FillStep.{FillStep}
use Rattle.relay_engine.specs.declared.pipe_filler.FillStep.TheVariants.{Moved, Paused, Full, Busy, Worn, Done}
use Rattle.relay_engine.proofs.FillingLemmas.{EndsFor, LosesBy, took}
use Rattle.relay_engine.proofs.PipeFillerLemmas.{all_is}

-- ---- one step of the part that knows no pipe

-- how the taking has ended by it, if it has
abbrev pub ending_of : {F : Type 0} → Result (Filled F) TryFault → Option FillEnd
ending_of (Ok (filled.Ended end)) = Some end
ending_of answer = None

-- where the step took nothing
took_nothing : (limit : ℕ) (bytes taken : List ℕ) (end : FillEnd) (start after : SourceState) → taken ≡ [] → IsTaken limit bytes end start after → IsTaken limit (bytes ++ taken) end start after
took_nothing limit bytes taken end start after none t =
    subst (λ (x : List ℕ). IsTaken limit x end start after) (sym (append-nil bytes) ∙ ap (λ (x : List ℕ). bytes ++ x) (sym none)) t

pub taken_on : {F : Type 0} (limit : ℕ) (bytes taken : List ℕ) (answer : Result (Filled F) TryFault) (start before after : SourceState) → length (bytes ++ taken) ≤ limit → (answer ≡ Ok (filled.Ended taking.Long) → length (bytes ++ taken) ≡ limit) → TakenSoFar limit bytes None start before → LosesBy answer before taken after
    → TakenSoFar limit (bytes ++ taken) (ending_of answer) start after
taken_on limit bytes taken (Ok (filled.Moved n)) start before after within long so loses = (record { given = Consumes-trans _ _ _ _ _ so.0.given loses.given; unfailed = loses.unfailed ∙ so.0.unfailed }, within)
taken_on limit bytes taken (Ok (filled.Paused n)) start before after within long so loses = (record { given = Consumes-trans _ _ _ _ _ so.0.given loses.given; unfailed = loses.unfailed ∙ so.0.unfailed }, within)
taken_on limit bytes taken (Ok (filled.Full full)) start before after within long so (none, gives) =
    subst (λ (x : List ℕ). Gives start (bytes ++ x) after × (length (bytes ++ x) ≤ limit)) (sym none) (record { given = Consumes-trans _ _ _ _ _ so.0.given gives.given; unfailed = gives.unfailed ∙ so.0.unfailed }, omega (arith, so.1, length-append bytes []))
taken_on limit bytes taken (Err fault) start before after within long so loses = (record { given = Consumes-trans _ _ _ _ _ so.0.given loses.given; unfailed = loses.unfailed ∙ so.0.unfailed }, within)
taken_on limit bytes taken (Ok (filled.Ended taking.End)) start before after within long so (none, gives, ended) =
    took_nothing limit bytes taken taking.End start after none (record { dropped = []; dropping = refl; given = Consumes-trans _ _ _ _ _ so.0.given gives.given; within = so.1; end = λ is. ended; long = λ is. absurd cc; fault = λ is. absurd cc; unfailed = λ is. gives.unfailed ∙ so.0.unfailed })
taken_on limit bytes taken (Ok (filled.Ended taking.Fault)) start before after within long so (none, fails) =
    took_nothing limit bytes taken taking.Fault start after none (record { dropped = []; dropping = refl; given = rw (append-nil bytes) (Consumes-kept start.left before.left after.left bytes so.0.given fails.kept); within = so.1; end = λ is. absurd cc; long = λ is. absurd cc; fault = λ is. rw (← so.0.unfailed) fails.risen; unfailed = λ other. absurd (other refl) })
taken_on limit bytes taken (Ok (filled.Ended taking.Long)) start before after within long so (none, more) =
    took_nothing limit bytes taken taking.Long start after none (record { dropped = more.dropped; dropping = more.one; given = Consumes-trans _ _ _ _ _ so.0.given more.given.given; within = so.1; end = λ is. absurd cc; long = λ is. omega (arith, long refl, length-append bytes taken, ap length none); fault = λ is. absurd cc; unfailed = λ is. more.given.unfailed ∙ so.0.unfailed })
taken_on limit bytes taken (Ok (filled.Ended (taking.Gone code))) start before after within long so gives =
    record { dropped = []; dropping = refl; given = rw (append-nil (bytes ++ taken)) (Consumes-trans _ _ _ _ _ so.0.given gives.given); within = within; end = λ is. absurd cc; long = λ is. absurd cc; fault = λ is. absurd cc; unfailed = λ is. gives.unfailed ∙ so.0.unfailed }

so_far_as : (limit limit' : ℕ) (bytes bytes' : List ℕ) (ending ending' : Option FillEnd) (start after : SourceState) → limit' ≡ limit → bytes' ≡ bytes → ending' ≡ ending → TakenSoFar limit bytes ending start after → TakenSoFar limit' bytes' ending' start after
so_far_as limit limit' bytes bytes' ending ending' start after same_limit same_bytes same_ending so =
    subst (λ (n : ℕ). TakenSoFar n bytes' ending' start after) (sym same_limit)
    (subst (λ (x : List ℕ). TakenSoFar limit x ending' start after) (sym same_bytes) (subst (λ (o : Option FillEnd). TakenSoFar limit bytes o start after) (sym same_ending) so))

-- ---- one step on a pipe for two threads

completes_all : (step : FillStep) (end : FillEnd) (w w' : Writer) → CompletesBy step end w w' → all_of w' ≡ all_of w
completes_all (Done told) end w w' completes = completes.2
completes_all (Busy word) end w w' completes = completes.1
completes_all (Worn entries) end w w' completes = completes.1
completes_all (Moved n) end w w' never = absurd never
completes_all (Paused n) end w w' never = absurd never
completes_all (Full full) end w w' never = absurd never

follows_all : (answer : Result (Filled room.Full) TryFault) (w : Writer) (step : FillStep) (new : FillerState) → Follows answer w step new → (all_of new.end ≡ all_of w) × (new.ending ≡ ending_of answer)
follows_all (Ok (filled.Moved n)) w step new f = (ap (λ (x : Writer). all_of x) f.1, f.2)
follows_all (Ok (filled.Paused n)) w step new f = (ap (λ (x : Writer). all_of x) f.1, f.2)
follows_all (Ok (filled.Full full)) w step new f = (ap (λ (x : Writer). all_of x) f.1, f.2)
follows_all (Ok (filled.Ended end)) w step new f = (completes_all step end w new.end f.1, f.0)
follows_all (Err (try.Busy word)) w step new f = (ap (λ (x : Writer). all_of x) f.1, f.2)
follows_all (Err (try.Worn entries)) w step new f = (ap (λ (x : Writer). all_of x) f.1, f.2)

steps_so_far : (pipe : CellState Name) (old new : FillerState) (step : FillStep) (start before after : SourceState) → new.limit ≡ old.limit → new.taken ≡ length (all_of new.end) → new.taken ≤ new.limit → StepsOn pipe old before step new after
    → TakenSoFar old.limit (all_of old.end) old.ending start before → TakenSoFar new.limit (all_of new.end) new.ending start after
steps_so_far pipe old new step start before after limit counted within steps so = by_ending old.ending steps so
  where
    by_ending : (o : Option FillEnd) → StepsFrom o pipe old before step new after → TakenSoFar old.limit (all_of old.end) o start before → TakenSoFar new.limit (all_of new.end) new.ending start after
    by_ending (Some end) (unread, same, ended, completes) so =
        so_far_as old.limit new.limit (all_of old.end) (all_of new.end) (Some end) new.ending start after limit (completes_all step end old.end new.end completes) ended
        (subst (λ (s : SourceState). IsTaken old.limit (all_of old.end) end start s) (sym unread) so)
    by_ending None on so =
        let t = took HasWritten IsOthers drafting RefusesWriter pipe.name.options (FindsNoRoom pipe) (filling_of old) (filling_of new) old.end on.writer before after on.answer (seen_by old.end) (all_of old.end) on.fills in
        let all : all_of old.end ++ t.taken ≡ all_of on.writer = all_is (filling_of new) on.writer t.now (all_of old.end ++ t.taken) t.holds in
        let f = follows_all on.answer on.writer step new on.follows in
        let len : new.taken ≡ length (all_of old.end ++ t.taken) = counted ∙ ap length (f.0 ∙ sym all) in
        so_far_as old.limit new.limit (all_of old.end ++ t.taken) (all_of new.end) (ending_of on.answer) new.ending start after limit (f.0 ∙ sym all) f.1
        (taken_on old.limit (all_of old.end) t.taken on.answer start before after (omega (arith, len, within, limit))
        (λ is. let at_limit : new.taken ≡ new.limit = subst (λ (a : Result (Filled room.Full) TryFault). EndsFor pipe.name.options a (filling_of new) t.now) is t.ends in omega (arith, len, at_limit, limit)) so t.loses)

-- ---- all steps

pub begins : (pipe : CellState Name) (f : FillerState) (s : SourceState) → IsUnused f → IsIdle pipe f.end.seat → IsFilling pipe f.limit s f s
begins pipe f s unused idle =
    record { idle = idle; going = unused.2; limited = refl; so_far = so_far_as f.limit f.limit [] (all_of f.end) None f.ending s s refl unused.0 unused.1 (record { given = Consumes-nil s.left; unfailed = refl }, omega arith) }

pub fills_on : (pipe : CellState Name) (limit : ℕ) (start : SourceState) (old new : FillerState) (step : FillStep) (before after : SourceState) → IsFilling pipe limit start old before → IsIdle pipe new.end.seat → new.done ≡ false → new.limit ≡ old.limit → new.taken ≡ length (all_of new.end) → new.taken ≤ new.limit → StepsOn pipe old before step new after
    → IsFilling pipe limit start new after
fills_on pipe limit start old new step before after was idle going limited counted within steps =
    record { idle = idle; going = going; limited = limited ∙ was.limited; so_far = steps_so_far pipe old new step start before after limited counted within steps was.so_far }

-- the last step has ended it
completed : (end told : FillEnd) (w : Writer) (new : FillerState) → CompletesBy (Done end) told w new.end → new.ending ≡ Some told → (new.ending ≡ Some end) × HasEnded end new.end
completed end told w new completes ended = (ended ∙ ap (λ (e : FillEnd). Some e) (sym completes.0), subst (λ (e : FillEnd). HasEnded e new.end) (sym completes.0) completes.1)

ended_by : (answer : Result (Filled room.Full) TryFault) (end : FillEnd) (w : Writer) (new : FillerState) → Follows answer w (Done end) new → (new.ending ≡ Some end) × HasEnded end new.end
ended_by (Ok (filled.Moved n)) end w new f = let never = f.0 in absurd cc
ended_by (Ok (filled.Paused n)) end w new f = let never = f.0 in absurd cc
ended_by (Ok (filled.Full full)) end w new f = let never = f.0 in absurd cc
ended_by (Ok (filled.Ended told)) end w new f = completed end told w new f.1 f.0
ended_by (Err (try.Busy word)) end w new f = let never = f.0 in absurd cc
ended_by (Err (try.Worn entries)) end w new f = let never = f.0 in absurd cc

ended_from : (o : Option FillEnd) (pipe : CellState Name) (old new : FillerState) (end : FillEnd) (before after : SourceState) → StepsFrom o pipe old before (Done end) new after → (new.ending ≡ Some end) × HasEnded end new.end
ended_from None pipe old new end before after on = ended_by on.answer end on.writer new on.follows
ended_from (Some told) pipe old new end before after (unread, same, ended, completes) = completed end told old.end new completes ended

pub filled_all : (pipe : CellState Name) (limit : ℕ) (start : SourceState) (old new : FillerState) (end : FillEnd) (seat : Seat) (told : ℕ) (before after : SourceState) → IsFilling pipe limit start old before → seat ≡ new.end.seat → told ≡ length (all_of new.end) → told ≤ new.limit → new.limit ≡ old.limit → new.taken ≡ length (all_of new.end) → new.taken ≤ new.limit
    → StepsOn pipe old before (Done end) new after → HasFilled limit end seat told start after
filled_all pipe limit start old new end seat told before after was same counted within limited new_counted new_within steps =
    let e = ended_from old.ending pipe old new end before after steps in
    let so = steps_so_far pipe old new (Done end) start before after limited new_counted new_within steps was.so_far in
    subst (λ (s : Seat). HasFilled limit end s told start after) (sym same) (record {
      taken = all_of new.end;
      commits = e.1.commits;
      own = e.1.own;
      bytes = e.1.bytes;
      counted = counted;
      is_taken = so_far_as new.limit limit (all_of new.end) (all_of new.end) new.ending (Some end) start after (sym (limited ∙ was.limited)) refl (sym e.0) so;
      found = e.1.found;
      seen = e.1.seen;
      gone = e.1.gone;
    })
