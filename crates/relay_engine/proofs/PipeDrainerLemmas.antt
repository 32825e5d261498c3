-- The steps of a drainer on a pipe for two threads.
use Rattle.std.proofs.Common.{◌≡◌, ℕ, Bool, true, false, List, [], ◌∷◌, ◌++◌, Option, Some, None, IsSomeAnd, Result, Ok, Err, refl, sym, ap, ◌∙◌, subst, append-nil, arith}
use Rattle.std.specs.Prelude.{length, option_map, unwrap_or}
use Rattle.std.proofs.KnownBytes.{Appends-trans}
use Rattle.edge_core.specs.Device.{SinkState, Takes}
use Rattle.edge_core.proofs.DeviceLemmas.{Takes-trans}
use Rattle.turn_cell.specs.Seat.{CellState, IsIdle}
use Rattle.pipe_core.specs.History.{Call, EndReader}
use Rattle.pipe_core.specs.Legal.{IsLegal}
use Rattle.pipe_turns.specs.declared.faults.TryFault.{TryFault}
use Rattle.pipe_turns.specs.declared.faults.TryFault.TheVariants as try
use Rattle.pipe_turns.specs.Log.{calls_of}
use Rattle.frame_grammar.specs.declared.job.Job.{Job}
use Rattle.pipe_turns.specs.Name.{Name}
use Rattle.pipe_turns.specs.Heard.{CallsBehind, Hears}
use Rattle.pipe_state.specs.declared.options.Options.{Options}
use Rattle.pipe_core.specs.declared.reply.Wake.{Wake}
use Rattle.pipe_core.specs.Answers.{Woke}
use Rattle.pipe_turns.specs.Turns.{Makes, Seat}
use Rattle.pipe_turns.specs.Ends.{IsEnd}
use Rattle.pipe_shared.specs.Ends.{Reader}
use Rattle.pipe_turns.proofs.HeardLemmas.{heard_all}
use Rattle.relay_engine.specs.Frames.{capped}
use Rattle.relay_engine.specs.Drainer.{DrainState, IsDrained, end_code}
use Rattle.relay_engine.specs.Ending.{is_sink_fault}
use Rattle.relay_engine.specs.Sides.{Concludes, GainsUntil, HasDrained}
use Rattle.relay_engine.specs.SoFar.{WroteSoFar}
use Rattle.relay_engine.specs.Tally.{Spends, tally_of}
use Rattle.relay_engine.specs.ReaderEnds.{HasRead, RefusesReader, lent_len, nothing_aside, reader_tally}
use Rattle.relay_engine.specs.Draining.{DrainingState, DrainsOnce, GainsBy, GainsIf, HasPassed, Idles, IsRefused, IsWithin, MovesBy, Stands, is_fault, lent_for}
use Rattle.relay_engine.specs.PipeDrainer.{BehindStep, CompletesFor, DrainerState, EndsReader, GainsFor, IsDone, IsDrainer, IsDraining, IsOfPipe, IsUnwritten, NotReaders, RefusesToEnd, StandsAt, StepsDrainer, end_by, owes_end, refused_step, seen_by, step_failed}
use Rattle.relay_engine.specs.declared.drain_end.DrainEnd.{DrainEnd}
use Rattle.relay_engine.specs.declared.drain_end.DrainEnd.TheVariants as ends
use Rattle.relay_engine.specs.declared.draining.Owed.{Owed}
use Rattle.relay_engine.specs.declared.draining.Progress.{Progress}
use Rattle.relay_engine.specs.declared.draining.Progress.TheVariants as progress
use Rattle.relay_engine.specs.declared.pipe_drainer.DrainStep.{DrainStep}
use Rattle.relay_engine.specs.declared.pipe_drainer.DrainStep.TheVariants.{Moved, Idle, Busy, Worn, Done}
use Rattle.relay_engine.proofs.BehindOthersLemmas.{concludes_later}
use Rattle.relay_engine.proofs.DeviceLemmas.{takes_nothing}
use Rattle.relay_engine.proofs.LaterLemmas.{makes_spends}
use Rattle.relay_engine.proofs.LendLemmas.{behind_others}
use Rattle.relay_engine.proofs.PumpLemmas.{new_drained}
use Rattle.relay_engine.proofs.ReaderEndLemmas.{legal_behind}

pub same_some : {A : Type 0} (o : Option A) (a b : A) → o ≡ Some a → o ≡ Some b → a ≡ b
same_some o a b first second = ap (λ x. unwrap_or x a) (sym first ∙ second)

-- The core's step, from a reader's end to a reader's end.
abbrev DrainsShared : DrainingState → Reader → SinkState → Result Progress TryFault → DrainingState → Reader → SinkState → Type 0
DrainsShared d r before result d' r' after = DrainsOnce HasRead NotReaders RefusesReader reader_tally lent_len nothing_aside d r before result d' r' after

-- the state before it
record Starts (d : DrainerState) (r : Reader) (text : List ℕ) : Type 0 where
  legal : IsLegal (seen_by r)
  passed : HasPassed d.draining (seen_by r) text

starts : (d : DrainerState) (r : Reader) (text : List ℕ) → d.end ≡ Some r → d.ending ≡ None → (from : IsDraining d text) → (from.reader ≡ r) × Starts d r text
starts d r text end going from =
    let same = same_some d.end from.reader r from.is end in
    let stands = subst (λ (o : Option DrainEnd). StandsAt o d.draining from.reader text) going from.stands in (
      same,
      record {
        legal = subst (λ (x : Reader). IsLegal (seen_by x)) same from.legal;
        passed = subst (λ (x : Reader). HasPassed d.draining (seen_by x) text) same stands.0;
      },
    )

goes_to : (d' : DrainerState) (r' : Reader) (now : List Call) (text : List ℕ) → d'.end ≡ Some r' → d'.ending ≡ None → HasRead r' now → HasPassed d'.draining now text → lent_len r' ≡ lent_for d'.draining.owed → IsWithin d'.draining.owed → IsDraining d' text
goes_to d' r' now text end going at passed lends within = record {
  reader = r';
  is = end;
  legal = subst (λ (x : List Call). IsLegal x) at.0 at.1;
  stands = subst (λ (o : Option DrainEnd). StandsAt o d'.draining r' text) (sym going) (subst (λ (x : List Call). HasPassed d'.draining x text) at.0 passed, lends, within);
}

pub moved : (d d' : DrainerState) (r r' : Reader) (before after : SinkState) (frames : ℕ) → d.end ≡ Some r → d.ending ≡ None → d'.end ≡ Some r' → d'.ending ≡ None → DrainsShared d.draining r before (Ok (progress.Moved frames)) d'.draining r' after → StepsDrainer d before (Moved frames) d' after
unfolding goes_to
moved d d' r r' before after frames end going end' going' once = record {
  gain = once.gain;
  gained = subst (λ (o : Option DrainEnd). GainsFor o d.draining.owed false before once.gain after) (sym going) once.gained;
  behind = λ text from.
      let b = starts d r text end going from in
      let a = once.cause (seen_by r) text (refl, b.1.legal) b.1.passed in
      subst (λ (x : Reader). BehindStep (Moved frames) d x once.gain d' (text ++ once.gain)) (sym b.0) (
        goes_to d' r' a.now (text ++ once.gain) end' going' a.stands (subst (λ (o : Option Owed). Stands d'.draining.drained o a.now (text ++ once.gain)) (sym a.how.1) a.how.2) once.lends once.within,
        subst (λ (x : List Call). MovesBy NotReaders d.draining.owed d.draining (seen_by r) frames d'.draining x) a.stands.0 a.how.0,
        (going', a.how.1),
        once.spent,
      );
  job = once.job;
}

pub idled : (d d' : DrainerState) (r r' : Reader) (before after : SinkState) (n : ℕ) → d.end ≡ Some r → d.ending ≡ None → d'.end ≡ Some r' → d'.ending ≡ None → DrainsShared d.draining r before (Ok (progress.Idle n)) d'.draining r' after → StepsDrainer d before (Idle n) d' after
unfolding goes_to
idled d d' r r' before after n end going end' going' once = record {
  gain = once.gain;
  gained = subst (λ (o : Option DrainEnd). GainsFor o d.draining.owed false before once.gain after) (sym going) once.gained;
  behind = λ text from.
      let b = starts d r text end going from in
      let a = once.cause (seen_by r) text (refl, b.1.legal) b.1.passed in
      let none : text ≡ text ++ once.gain = sym (append-nil text) ∙ ap (λ (t : List ℕ). text ++ t) (sym a.how.0.none) in
      subst (λ (x : Reader). BehindStep (Idle n) d x once.gain d' (text ++ once.gain)) (sym b.0) (
        goes_to d' r' a.now (text ++ once.gain) end' going' a.stands (subst (λ (t : List ℕ). HasPassed d'.draining a.now t) none a.how.1) once.lends once.within,
        subst (λ (x : List Call). Idles NotReaders d.draining (seen_by r) once.gain n d'.draining x) a.stands.0 a.how.0,
        (going', ap (λ e. e.owed) a.how.0.unchanged ∙ a.how.0.none_owed),
        once.spent,
      );
  job = once.job;
}

-- a call of the step was refused
refused_by : (d d' : DrainerState) (before after : SinkState) (fault : TryFault) (gain : List ℕ) → GainsFor d.ending d.draining.owed (owes_end d'.ending d'.draining.owed) before gain after → ((text : List ℕ) → (from : IsDraining d text) → (to : IsDraining d' (text ++ gain)) × IsRefused RefusesReader reader_tally fault from.reader to.reader)
    → d'.draining.drained.job ≡ d.draining.drained.job → StepsDrainer d before (refused_step fault) d' after
refused_by d d' before after (try.Busy word) gain gained behind job = record { gain = gain; gained = gained; behind = behind; job = job }
refused_by d d' before after (try.Worn entries) gain gained behind job = record { gain = gain; gained = gained; behind = behind; job = job }

pub was_refused : (d d' : DrainerState) (r r' : Reader) (before after : SinkState) (fault : TryFault) → d.end ≡ Some r → d.ending ≡ None → d'.end ≡ Some r' → d'.ending ≡ None → DrainsShared d.draining r before (Err fault) d'.draining r' after → StepsDrainer d before (refused_step fault) d' after
unfolding goes_to
was_refused d d' r r' before after fault end going end' going' once =
    refused_by d d' before after fault once.gain
    (subst (λ (o : Option DrainEnd). GainsFor o d.draining.owed (owes_end d'.ending d'.draining.owed) before once.gain after) (sym going)
    (subst (λ (o : Option DrainEnd). GainsBy d.draining.owed (owes_end o d'.draining.owed) before once.gain after) (sym going') once.gained))
    (λ text from.
    let b = starts d r text end going from in
    let a = once.cause (seen_by r) text (refl, b.1.legal) b.1.passed in
    subst (λ (x : Reader). (to : IsDraining d' (text ++ once.gain)) × IsRefused RefusesReader reader_tally fault x to.reader) (sym b.0) (goes_to d' r' a.now (text ++ once.gain) end' going' a.stands a.how.0 once.lends once.within, a.how.1))
    once.job

-- ---- an end

ended_by : (d d' : DrainerState) (dr : DrainingState) (r : Reader) (end : DrainEnd) (text : List ℕ) → d'.draining ≡ dr → (done : (seat : Seat) × (d'.done ≡ Some seat) × EndsReader (end_code end) r seat) → IsLegal (seen_by r) → Concludes dr.drained.job dr.drained.frames dr.drained.written (seen_by r) text end → IsDone d' end text
ended_by d d' dr r end text same done legal c =
    let e = done.2 in
    let b = e.behind in
    record {
      seat = done.0;
      is = done.1;
      found = b.heard ++ seen_by r;
      seen = b.seen;
      concludes =
          subst (λ (x : DrainingState). Concludes x.drained.job x.drained.frames x.drained.written (b.heard ++ seen_by r) text end) (sym same)
          (concludes_later dr.drained.job dr.drained.frames dr.drained.written (seen_by r) text end b.heard b.others (subst (λ (x : List Call). IsLegal x) b.seen b.legal).0 c);
      calls = e.calls;
      own = e.own;
    }

still_owed : (d' : DrainerState) (dr : DrainingState) (r0 r : Reader) (fault : TryFault) (end : DrainEnd) (text : List ℕ) → (owes : RefusesToEnd fault end dr r d') → Spends 0 (reader_tally r0) (reader_tally r) → IsLegal (seen_by r) → Concludes dr.drained.job dr.drained.frames dr.drained.written (seen_by r) text end → (to : IsDraining d' text) × IsRefused RefusesReader reader_tally fault r0 to.reader
still_owed d' dr r0 r fault end text owes more legal c =
    let now : IsLegal (seen_by owes.reader) = legal_behind fault r.seat owes.reader.seat owes.refused legal in (
      record {
        reader = owes.reader;
        is = ap (λ e. e.end) owes.drainer;
        legal = now;
        stands =
            subst (λ (x : DrainerState). StandsAt x.ending x.draining owes.reader text) (sym owes.drainer)
            (subst (λ (x : List Call). Concludes dr.drained.job dr.drained.frames dr.drained.written x text end) (sym owes.hears.seen)
            (concludes_later dr.drained.job dr.drained.frames dr.drained.written (seen_by r) text end owes.hears.heard owes.hears.others (subst (λ (x : List Call). IsLegal x) owes.hears.seen now) c));
      },
      record { found = r; spent = more; refused = owes.refused },
    )

ended_owing : (d d' : DrainerState) (dr : DrainingState) (r r' : Reader) (before after : SinkState) (end : DrainEnd) (fault : TryFault) → d.end ≡ Some r → d.ending ≡ None → DrainsShared d.draining r before (Ok (progress.Ended end)) dr r' after → RefusesToEnd fault end dr r' d' → StepsDrainer d before (refused_step fault) d' after
ended_owing d d' dr r r' before after end fault has going once owes =
    refused_by d d' before after fault once.gain
    (subst (λ (o : Option DrainEnd). GainsFor o d.draining.owed (owes_end d'.ending d'.draining.owed) before once.gain after) (sym going)
    (subst (λ (e : DrainerState). GainsBy d.draining.owed (owes_end e.ending e.draining.owed) before once.gain after) (sym owes.drainer) once.gained))
    (λ text from.
    let b = starts d r text has going from in
    let a = once.cause (seen_by r) text (refl, b.1.legal) b.1.passed in
    subst (λ (x : Reader). (to : IsDraining d' (text ++ once.gain)) × IsRefused RefusesReader reader_tally fault x to.reader) (sym b.0)
    (still_owed d' dr r r' fault end (text ++ once.gain) owes once.spent (subst (λ (x : List Call). IsLegal x) a.stands.0 a.stands.1) (subst (λ (x : List Call). Concludes dr.drained.job dr.drained.frames dr.drained.written x (text ++ once.gain) end) a.stands.0 a.how)))
    (ap (λ e. e.draining.drained.job) owes.drainer ∙ once.job)

pub ends_reader : (options : Options) (code told : ℕ) (wake : Wake) (r : Reader) (seat : Seat) → code ≡ told → CallsBehind options 1 (seen_by r) (EndReader code ∷ []) (Woke wake) (calls_of seat.seen) → Makes options r.seat (EndReader code ∷ []) (Woke wake) seat → EndsReader told r seat
ends_reader options code told wake r seat same behind makes = subst (λ (k : ℕ). EndsReader k r seat) same (record {
  options = options;
  wake = wake;
  behind = behind;
  calls = r.seat.own;
  own = ap (λ (s : Seat). s.own) makes.after ∙ ap (λ (s : Seat). s.own ++ EndReader code ∷ []) makes.wins.after;
  spent = makes_spends options r.seat seat (EndReader code ∷ []) (EndReader code) (Woke wake) refl makes;
})

-- what is owed is concluded
pub owing : (d' : DrainerState) (dr : DrainingState) (r : Reader) (fault : TryFault) (end : DrainEnd) (text : List ℕ) → RefusesToEnd fault end dr r d' → IsLegal (seen_by r) → Concludes dr.drained.job dr.drained.frames dr.drained.written (seen_by r) text end → IsDrainer d'
owing d' dr r fault end text owes legal c reader is = (text, (still_owed d' dr r r fault end text owes (omega arith) legal c).0)

-- a completion was made, or refused, by a step that had come to an end
pub ended : (d d' : DrainerState) (dr : DrainingState) (r r' : Reader) (before after : SinkState) (end : DrainEnd) (step : DrainStep) → d.end ≡ Some r → d.ending ≡ None → DrainsShared d.draining r before (Ok (progress.Ended end)) dr r' after → CompletesFor end dr r' step d' → StepsDrainer d before step d' after
unfolding ended_by
ended d d' dr r r' before after end (Moved frames) has going once completes = absurd completes
ended d d' dr r r' before after end (Idle n) has going once completes = absurd completes
ended d d' dr r r' before after end (Done told) has going once completes =
    subst (λ (e : DrainEnd). StepsDrainer d before (Done e) d' after) (sym completes.0) (record {
      gain = once.gain;
      gained = subst (λ (o : Option DrainEnd). GainsFor o d.draining.owed (is_sink_fault end) before once.gain after) (sym going) once.gained;
      behind = λ text from.
          let b = starts d r text has going from in
          let a = once.cause (seen_by r) text (refl, b.1.legal) b.1.passed in
          subst (λ (x : Reader). (done : IsDone d' end (text ++ once.gain)) × Spends 0 (reader_tally x) (tally_of done.seat)) (sym b.0)
          (ended_by d d' dr r' end (text ++ once.gain) completes.1 completes.2 (subst (λ (x : List Call). IsLegal x) a.stands.0 a.stands.1) (subst (λ (x : List Call). Concludes dr.drained.job dr.drained.frames dr.drained.written x (text ++ once.gain) end) a.stands.0 a.how), omega (arith, once.spent, completes.2.2.spent));
      job = ap (λ e. e.drained.job) completes.1 ∙ once.job;
    })
ended d d' dr r r' before after end (Busy word) has going once completes = ended_owing d d' dr r r' before after end (try.Busy word) has going once completes
ended d d' dr r r' before after end (Worn entries) has going once completes = ended_owing d d' dr r r' before after end (try.Worn entries) has going once completes

-- ---- a completion that was owed

record Concluded (d : DrainerState) (r : Reader) (end : DrainEnd) (text : List ℕ) : Type 0 where
  legal : IsLegal (seen_by r)
  concludes : Concludes d.draining.drained.job d.draining.drained.frames d.draining.drained.written (seen_by r) text end

concluded : (d : DrainerState) (r : Reader) (end : DrainEnd) (text : List ℕ) → d.end ≡ Some r → d.ending ≡ Some end → (from : IsDraining d text) → (from.reader ≡ r) × Concluded d r end text
concluded d r end text has ending from =
    let same = same_some d.end from.reader r from.is has in
    let stands = subst (λ (o : Option DrainEnd). StandsAt o d.draining from.reader text) ending from.stands in (
      same,
      record {
        legal = subst (λ (x : Reader). IsLegal (seen_by x)) same from.legal;
        concludes = subst (λ (x : Reader). Concludes d.draining.drained.job d.draining.drained.frames d.draining.drained.written (seen_by x) text end) same stands;
      },
    )

completed_owing : (d d' : DrainerState) (r : Reader) (k : SinkState) (end : DrainEnd) (fault : TryFault) → d.end ≡ Some r → d.ending ≡ Some end → RefusesToEnd fault end d.draining r d' → StepsDrainer d k (refused_step fault) d' k
completed_owing d d' r k end fault has ending owes =
    refused_by d d' k k fault []
    (subst (λ (o : Option DrainEnd). GainsFor o d.draining.owed (owes_end d'.ending d'.draining.owed) k [] k) (sym ending) (refl, refl, ap (λ e. owes_end e.ending e.draining.owed) owes.drainer))
    (λ text from.
    let c = concluded d r end text has ending from in
    subst (λ (t : List ℕ). (to : IsDraining d' t) × IsRefused RefusesReader reader_tally fault from.reader to.reader) (sym (append-nil text))
    (subst (λ (x : Reader). (to : IsDraining d' text) × IsRefused RefusesReader reader_tally fault x to.reader) (sym c.0) (still_owed d' d.draining r r fault end text owes (omega arith) c.1.legal c.1.concludes)))
    (ap (λ e. e.draining.drained.job) owes.drainer)

pub completed : (d d' : DrainerState) (r : Reader) (k : SinkState) (end : DrainEnd) (step : DrainStep) → d.end ≡ Some r → d.ending ≡ Some end → CompletesFor end d.draining r step d' → StepsDrainer d k step d' k
unfolding ended_by
completed d d' r k end (Moved frames) has ending completes = absurd completes
completed d d' r k end (Idle n) has ending completes = absurd completes
completed d d' r k end (Done told) has ending completes =
    subst (λ (e : DrainEnd). StepsDrainer d k (Done e) d' k) (sym completes.0) (record {
      gain = [];
      gained = subst (λ (o : Option DrainEnd). GainsFor o d.draining.owed (is_sink_fault end) k [] k) (sym ending) (refl, refl, refl);
      behind = λ text from.
          let c = concluded d r end text has ending from in
          subst (λ (t : List ℕ). (done : IsDone d' end t) × Spends 0 (reader_tally from.reader) (tally_of done.seat)) (sym (append-nil text))
          (subst (λ (x : Reader). (done : IsDone d' end text) × Spends 0 (reader_tally x) (tally_of done.seat)) (sym c.0) (ended_by d d' d.draining r end text completes.1 completes.2 c.1.legal c.1.concludes, completes.2.2.spent));
      job = ap (λ e. e.drained.job) completes.1;
    })
completed d d' r k end (Busy word) has ending completes = completed_owing d d' r k end (try.Busy word) has ending completes
completed d d' r k end (Worn entries) has ending completes = completed_owing d d' r k end (try.Worn entries) has ending completes

-- ---- all steps

pub adds : (failed : Bool) (a b c : SinkState) (text gain : List ℕ) → Takes a text b → GainsIf failed b gain c → GainsIf failed a (text ++ gain) c
adds true a b c text gain taken more = (Appends-trans _ _ _ text gain taken.taken more.0, rw (← taken.unfailed) more.1, more.2 ∙ taken.same)
adds false a b c text gain taken more = Takes-trans a b c text gain taken more

stays : (failed failed' : Bool) (a b c : SinkState) (text gain : List ℕ) → GainsIf failed a text b → gain ≡ [] → c ≡ b → failed' ≡ failed → GainsIf failed' a (text ++ gain) c
stays failed failed' a b c text gain gained none same kept =
    rw (kept, none, same, append-nil text) gained

gains_all : (ending : Option DrainEnd) (owed : Option Owed) (failed : Bool) (a b c : SinkState) (text gain : List ℕ) → GainsIf (owes_end ending owed) a text b → GainsFor ending owed failed b gain c → GainsIf failed a (text ++ gain) c
gains_all None None failed a b c text gain gained more = adds failed a b c text gain gained more
gains_all None (Some owed) failed a b c text gain gained more = stays (is_fault owed.end) failed a b c text gain gained more.0 more.1 more.2
gains_all (Some end) owed failed a b c text gain gained more = stays (is_sink_fault end) failed a b c text gain gained more.0 more.1 more.2

goes_further : (job : Job) (before : SinkState) (d d' : DrainerState) (k k' : SinkState) (step : DrainStep) → (wrote : WroteSoFar job before d k) → (once : StepsDrainer d k step d' k') → IsDraining d' (wrote.text ++ once.gain) → step_failed step d' ≡ owes_end d'.ending d'.draining.owed → WroteSoFar job before d' k'
goes_further job before d d' k k' step wrote once to same = record {
  text = wrote.text ++ once.gain;
  draining = to;
  gained = subst (λ (b : Bool). GainsIf b before (wrote.text ++ once.gain) k') same (gains_all d.ending d.draining.owed (step_failed step d') before k k' wrote.text once.gain wrote.gained once.gained);
  job_is = once.job ∙ wrote.job_is;
}

none_owed : (ending : Option DrainEnd) (owed : Option Owed) → ending ≡ None → owed ≡ None → owes_end ending owed ≡ false
none_owed ending owed going none = rw (going, none) refl

pub wrote_on : (job : Job) (before : SinkState) (d d' : DrainerState) (k k' : SinkState) (step : DrainStep) → WroteSoFar job before d k → StepsDrainer d k step d' k' → end_by step ≡ None → WroteSoFar job before d' k'
wrote_on job before d d' k k' (Moved frames) wrote once more =
    let so = once.behind wrote.text wrote.draining in goes_further job before d d' k k' (Moved frames) wrote once so.0 (sym (none_owed d'.ending d'.draining.owed so.2.0 so.2.1))
wrote_on job before d d' k k' (Idle n) wrote once more =
    let so = once.behind wrote.text wrote.draining in goes_further job before d d' k k' (Idle n) wrote once so.0 (sym (none_owed d'.ending d'.draining.owed so.2.0 so.2.1))
wrote_on job before d d' k k' (Busy word) wrote once more = goes_further job before d d' k k' (Busy word) wrote once (once.behind wrote.text wrote.draining).0 refl
wrote_on job before d d' k k' (Worn entries) wrote once more = goes_further job before d d' k k' (Worn entries) wrote once (once.behind wrote.text wrote.draining).0 refl
wrote_on job before d d' k k' (Done end) wrote once more = absurd cc

pub as_gains : (end : DrainEnd) (before after : SinkState) (text : List ℕ) → GainsIf (is_sink_fault end) before text after → GainsUntil end before text after
as_gains ends.Clean before after text gained = gained
as_gains ends.Stopped before after text gained = gained
as_gains (ends.Rest place) before after text gained = gained
as_gains (ends.Bad place kind) before after text gained = gained
as_gains ends.SinkFault before after text gained = gained

pub still_going : (d : DrainerState) (step : DrainStep) (pipe : CellState Name) → IsOfPipe pipe step d → end_by step ≡ None → IsSomeAnd d.end (λ r. IsIdle pipe r.seat)
still_going d (Moved frames) pipe of more = of
still_going d (Idle n) pipe of more = of
still_going d (Busy word) pipe of more = of
still_going d (Worn entries) pipe of more = of
still_going d (Done end) pipe of more = absurd cc

pub wrote_all : (job : Job) (before : SinkState) (d d' : DrainerState) (k k' : SinkState) (step : DrainStep) (end : DrainEnd) (seat : Seat) (frames written : ℕ) → end_by step ≡ Some end → d'.done ≡ Some seat → frames ≡ d'.draining.drained.frames → written ≡ d'.draining.drained.written → WroteSoFar job before d k → StepsDrainer d k step d' k'
    → HasDrained job end seat frames written before k'
wrote_all job before d d' k k' (Moved n) end seat frames written ends_so is counted bytes wrote once = absurd cc
wrote_all job before d d' k k' (Idle n) end seat frames written ends_so is counted bytes wrote once = absurd cc
wrote_all job before d d' k k' (Busy word) end seat frames written ends_so is counted bytes wrote once = absurd cc
wrote_all job before d d' k k' (Worn entries) end seat frames written ends_so is counted bytes wrote once = absurd cc
wrote_all job before d d' k k' (Done told) end seat frames written ends_so is counted bytes wrote once =
    let same = same_some (Some told) told end refl ends_so in
    subst (λ (e : DrainEnd). HasDrained job e seat frames written before k') same
    (let done = (once.behind wrote.text wrote.draining).0 in
    let at_seat = same_some d'.done done.seat seat done.is is in
    let job_is = once.job ∙ wrote.job_is in
    record {
      text = wrote.text ++ once.gain;
      gained = as_gains told before k' (wrote.text ++ once.gain) (gains_all d.ending d.draining.owed (is_sink_fault told) before k k' wrote.text once.gain wrote.gained once.gained);
      found = done.found;
      seen = subst (λ (s : Seat). calls_of s.seen ≡ EndReader (end_code told) ∷ done.found) at_seat done.seen;
      concludes =
          rw (counted, bytes)
          (subst (λ (j : Job). Concludes j d'.draining.drained.frames d'.draining.drained.written done.found (wrote.text ++ once.gain) told) job_is done.concludes);
      calls = done.calls;
      own = subst (λ (s : Seat). s.own ≡ done.calls ++ EndReader (end_code told) ∷ []) at_seat done.own;
    })

-- a completion that was refused is owed
pub owes_by : (fault : TryFault) (end : DrainEnd) (d : DrainingState) (r : Reader) (d' : DrainerState) → RefusesToEnd fault end d r d' → CompletesFor end d r (refused_step fault) d'
owes_by (try.Busy word) end d r d' owes = owes
owes_by (try.Worn entries) end d r d' owes = owes

-- ---- a new drainer

pub begins_new : (d : DrainerState) (r : Reader) (job : Job) → d.end ≡ Some r → d.ending ≡ None → d.draining ≡ record { drained = record { job = job; place = 0; frames = 0; written = 0; known = 0 }; owed = None } → IsEnd 1 r.seat → r.seat.own ≡ [] → r.lent ≡ None → IsDraining d []
begins_new d r job has going new end none no_lend = record {
  reader = r;
  is = has;
  legal = end.lawful.legal;
  stands =
      subst (λ (o : Option DrainEnd). StandsAt o d.draining r []) (sym going)
      (subst (λ (x : DrainingState). HasPassed x (seen_by r) [] × (lent_len r ≡ lent_for x.owed) × IsWithin x.owed) (sym new) (drained, ap (λ (o : Option (List ℕ)). option_map length o) no_lend, tt));
}
  where
    start : DrainState
    start = record { job = job; place = 0; frames = 0; written = 0; known = 0 }

    heard : Hears 1 [] (seen_by r)
    heard = heard_all 1 r.seat end none

    drained : IsDrained start (seen_by r) []
    drained = subst (λ (l : List Call). IsDrained start l []) (sym heard.seen) (behind_others start [] [] heard.heard heard.others (subst IsLegal heard.seen end.lawful.legal) (new_drained job))

-- what has written no byte has written nothing
pub unwritten : (d : DrainerState) (text : List ℕ) → IsUnwritten d → IsDraining d text → IsDraining d []
unwritten d text new from = subst (λ (t : List ℕ). IsDraining d t) (no_bytes text counted) from
  where
    counted : capped (length text) ≡ 0
    counted = sym (subst (λ (o : Option Owed). Stands d.draining.drained o (seen_by from.reader) text) new.0.1 (subst (λ (o : Option DrainEnd). StandsAt o d.draining from.reader text) new.0.0 from.stands).0).counted ∙ new.1

    no_bytes : (xs : List ℕ) → capped (length xs) ≡ 0 → xs ≡ []
    no_bytes [] none = refl
    no_bytes (x ∷ xs) none = absurd (omega (arith, none))

pub wrote_none : (d : DrainerState) (text : List ℕ) (k : SinkState) → IsUnwritten d → IsDraining d text → WroteSoFar d.draining.drained.job k d k
wrote_none d text k new from = record { text = []; draining = unwritten d text new from; gained = rw (none_owed d.ending d.draining.owed new.0.0 new.0.1) (takes_nothing k k refl); job_is = refl }

pub begins : (pipe : CellState Name) (d : DrainerState) (k : SinkState) → IsUnwritten d → IsDrainer d → IsSomeAnd d.end (λ r. IsIdle pipe r.seat) → WroteSoFar d.draining.drained.job k d k
begins pipe d k new drainer some = by_end d.end refl some
  where
    by_end : (o : Option Reader) → d.end ≡ o → IsSomeAnd o (λ r. IsIdle pipe r.seat) → WroteSoFar d.draining.drained.job k d k
    by_end None is some = absurd some
    by_end (Some r) is some = let from = drainer r is in wrote_none d from.0 k new from.1

-- what a drainer has written, behind a step that is not the last
pub still_drainer : (d d' : DrainerState) (text : List ℕ) (step : DrainStep) (before after : SinkState) → IsDraining d text → StepsDrainer d before step d' after → end_by step ≡ None → (text : List ℕ) × IsDraining d' text
still_drainer d d' text (Moved frames) before after from steps more = (text ++ steps.gain, (steps.behind text from).0)
still_drainer d d' text (Idle n) before after from steps more = (text ++ steps.gain, (steps.behind text from).0)
still_drainer d d' text (Busy word) before after from steps more = (text ++ steps.gain, (steps.behind text from).0)
still_drainer d d' text (Worn entries) before after from steps more = (text ++ steps.gain, (steps.behind text from).0)
still_drainer d d' text (Done end) before after from steps more = absurd cc

pub still_refused : (d d' : DrainerState) (text : List ℕ) (before after : SinkState) (fault : TryFault) → IsDraining d text → StepsDrainer d before (refused_step fault) d' after → (text : List ℕ) × IsDraining d' text
still_refused d d' text before after (try.Busy word) from steps = still_drainer d d' text (Busy word) before after from steps refl
still_refused d d' text before after (try.Worn entries) from steps = still_drainer d d' text (Worn entries) before after from steps refl
