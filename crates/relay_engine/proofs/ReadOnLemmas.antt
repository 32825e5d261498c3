-- One read of a drainer, and what became of the frames that it lent.
use Rattle.std.specs.List.{AllByRecursion}
use Rattle.std.proofs.Common.{◌≡◌, ◌≢◌, ◌≤◌, ◌+◌, ◌-◌, inl, inr, ℕ, Bool, true, false, List, [], ◌∷◌, ◌++◌, length, drop, Option, Some, None, IsSomeAnd, Result, Ok, Err, refl, sym, ap, ◌∙◌, subst, append-nil, arith}
use Rattle.std.specs.Prelude.{max, IfOk}
use Rattle.std.specs.Io.KnownBytes.{Appends}
use Rattle.std.proofs.KnownBytes.{Appends-trans}
use Rattle.edge_core.specs.Device.{SinkState, Takes}
use Rattle.edge_core.proofs.DeviceLemmas.{Takes-trans}
use Rattle.frame_grammar.specs.declared.job.Job.{Job}
use Rattle.frame_model.specs.Cut.{End, Rest}
use Rattle.frame_grammar.specs.Job.{translation}
use Rattle.frame_model.proofs.EndLemmas.{no_end, no_rest}
use Rattle.pipe_core.specs.declared.reply.ReadReply.{ReadReply}
use Rattle.pipe_core.specs.declared.reply.ReadReply.TheVariants as read
use Rattle.pipe_core.specs.History.{Call, Commit, EndWriter, Read, Advance, EndReader, CancelRead, CancelFlush, writer_end, seat_of}
use Rattle.pipe_core.specs.Progress.{total, consumed, examined, held}
use Rattle.pipe_core.specs.Reads.{reply_to_read}
use Rattle.pipe_core.specs.Lends.{lend}
use Rattle.pipe_core.specs.Legal.{IsLegal, MayFollow}
use Rattle.pipe_core.proofs.OrderLemmas.{ordered, pending_tells}
use Rattle.pipe_turns.specs.declared.faults.TryFault.{TryFault}
use Rattle.relay_engine.specs.Frames.{Drains, Passes, verdict_of}
use Rattle.relay_engine.specs.Later.{CallsLater, HearsLater, Later}
use Rattle.relay_engine.specs.Drainer.{DrainState, IsDrained, is_success, is_whole}
use Rattle.relay_engine.specs.Passing.{added, end_at}
use Rattle.relay_engine.specs.Ending.{is_sink_fault, verdict_for}
use Rattle.relay_engine.specs.Sides.{Concludes, IsEndedFor}
use Rattle.relay_engine.specs.Tally.{Spends, Tally}
use Rattle.relay_engine.specs.Draining.{AdvancesBy, AdvancesTo, DrainingState, DrainsOnce, EndsOwed, GainsBy, GainsIf, HasPassed, IfMore, IsAdvanced, IsWithin, MovesBy, OrReaders, Owes, PassesLend, Stands, StandsBehind, StepsBy, has_failed, is_fault, lent_for, owes_fault}
use Rattle.relay_engine.specs.declared.frames.Stop.{Stop}
use Rattle.relay_engine.specs.declared.frames.Stop.TheVariants as stops
use Rattle.relay_engine.specs.declared.frames.LendPassed.{LendPassed}
use Rattle.relay_engine.specs.declared.drain_end.DrainEnd.{DrainEnd}
use Rattle.relay_engine.specs.declared.drain_end.DrainEnd.TheVariants as ends
use Rattle.relay_engine.specs.declared.draining.Owed.{Owed}
use Rattle.relay_engine.specs.declared.draining.Progress.{Progress}
use Rattle.relay_engine.specs.declared.draining.Progress.TheVariants.{Moved, Idle, Ended}
use Rattle.relay_engine.proofs.DeviceLemmas.{appends_kept, takes_nothing}
use Rattle.relay_engine.proofs.LendLemmas.{EndFacts, Wrote, at_end_so, end_facts, frames_are, goes_on_so, held_is, lent_is_held, open_so, passed_all, passed_on, ready_says, some_is, write_failed, wrote_all}
use Rattle.relay_engine.proofs.BehindOthersLemmas.{drained_later}
use Rattle.relay_engine.proofs.LaterLemmas.{later_as, later_on, later_with}

-- ---- why a drainer ends

record EndsAs (ended : Option ℕ) (place : ℕ) (stop : Stop) (end : DrainEnd) : Type 0 where
  verdict : verdict_of stop place ≡ verdict_for end
  ended_for : IsEndedFor end ended
  no_fault : is_sink_fault end ≡ false

ends_as : (job : Job) (ended : Option ℕ) (place : ℕ) (stop : Stop) (end : DrainEnd) (rest : List ℕ) → translation job rest (is_success ended) ≡ record { text = []; verdict = verdict_of stop 0 } → end_at stop ended place ≡ Some end → EndsAs ended place stop end
ends_as job ended place (stops.Bad kind) end rest told at =
    subst (λ (e : DrainEnd). EndsAs ended place (stops.Bad kind) e) (some_is (ends.Bad place kind) end at) (record { verdict = refl; ended_for = tt; no_fault = refl })
ends_as job ended place stops.Rest end rest told at =
    subst (λ (e : DrainEnd). EndsAs ended place stops.Rest e) (some_is (ends.Rest place) end at) (record { verdict = refl; ended_for = at_end_so job ended rest (Rest 0) told (no_rest job.input job.output job.max rest 0); no_fault = refl })
ends_as job ended place stops.End end rest told at =
    subst (λ (e : DrainEnd). EndsAs ended place stops.End e) (some_is ends.Clean end at) (record { verdict = refl; ended_for = at_end_so job ended rest End told (no_end job.input job.output job.max rest); no_fault = refl })
ends_as job (Some code) place stops.More end rest told at =
    subst (λ (e : DrainEnd). EndsAs (Some code) place stops.More e) (some_is ends.Stopped end at) (record { verdict = refl; ended_for = (code, open_so job code rest told, refl); no_fault = refl })
ends_as job None place stops.More end rest told at = absurd cc

no_fault_at : (stop : Stop) (ended : Option ℕ) (place : ℕ) (end : DrainEnd) → end_at stop ended place ≡ Some end → is_sink_fault end ≡ false
no_fault_at (stops.Bad kind) ended place end at = sym (ap (λ (e : DrainEnd). is_sink_fault e) (some_is (ends.Bad place kind) end at))
no_fault_at stops.Rest ended place end at = sym (ap (λ (e : DrainEnd). is_sink_fault e) (some_is (ends.Rest place) end at))
no_fault_at stops.End ended place end at = sym (ap (λ (e : DrainEnd). is_sink_fault e) (some_is ends.Clean end at))
no_fault_at stops.More (Some code) place end at = sym (ap (λ (e : DrainEnd). is_sink_fault e) (some_is ends.Stopped end at))
no_fault_at stops.More None place end at = absurd cc

-- where an advance passes them
passed_at : (d : DrainState) (h : List Call) (text gain : List ℕ) (n i w r c e : ℕ) (stop : Stop) → c ≡ n → IsDrained d h text → EndFacts d h text gain n i w r stop → Passes d.job (total h) (is_whole h) (consumed (Advance c e ∷ Read 0 ∷ h)) (added d n i w r).frames (text ++ gain)
passed_at d h text gain n i w r c e stop same drained facts =
    subst (λ (k : ℕ). Passes d.job (total h) (is_whole h) k (added d n i w r).frames (text ++ gain)) (omega (arith, facts.place, drained.place, same)) facts.passes

-- all that is to be written was
concludes_well : (d : DrainState) (h : List Call) (text gain : List ℕ) (n i w r c e : ℕ) (stop : Stop) (end : DrainEnd) → c ≡ n → IsDrained d h text → EndFacts d h text gain n i w r stop → EndsAs (writer_end h) (added d n i w r).place stop end
    → Concludes d.job (added d n i w r).frames (added d n i w r).written (Advance c e ∷ Read 0 ∷ h) (text ++ gain) end
concludes_well d h text gain n i w r c e stop end same drained facts so = record {
  front = ([], append-nil (text ++ gain) ∙ sym (ap (λ t. t.text) facts.said));
  whole = λ passed. sym (ap (λ t. t.text) facts.said);
  verdict = λ passed. ap (λ t. t.verdict) facts.said ∙ so.verdict;
  ended = so.ended_for;
  passed = λ passed. passed_at d h text gain n i w r c e stop same drained facts;
  frames_told = facts.frames;
  written_told = facts.written;
}

-- and the flush behind it failed
unflushed : (job : Job) (frames written : ℕ) (h : List Call) (text : List ℕ) (end : DrainEnd) → Concludes job frames written h text end → Concludes job frames written h text ends.SinkFault
unflushed job frames written h text end c =
    record { front = c.front; whole = λ passed. absurd cc; verdict = λ passed. absurd cc; ended = tt; passed = λ passed. absurd cc; frames_told = c.frames_told; written_told = c.written_told }

-- ---- what is owed of a lend

-- What a read has lent, and what was written of it.
record IsLent (d d1 : DrainState) (found : List Call) (text : List ℕ) (ended : Option ℕ) (lent : List ℕ) (before written : SinkState) (drained : LendPassed) (owed : Owed) : Type 0 where
  legal : IsLegal (Read 0 ∷ found)
  same : lent ≡ held found
  code : ended ≡ writer_end found
  passed_so_far : IsDrained d found text
  drains : Drains d.job lent (is_success ended) before drained written
  drainer : d1 ≡ added d drained.passed drained.frames drained.written (length lent - drained.passed)
  passed : owed.passed ≡ drained.passed
  len : owed.len ≡ length lent

all_wrote : (d d1 : DrainState) (found : List Call) (text : List ℕ) (ended : Option ℕ) (lent : List ℕ) (before written : SinkState) (drained : LendPassed) (owed : Owed) → (l : IsLent d d1 found text ended lent before written drained owed)
    → EndFacts d found text l.drains.text drained.passed drained.frames drained.written (length lent - drained.passed) drained.stop
all_wrote d d1 found text ended lent before written drained owed l =
    end_facts d found text l.drains.text drained.passed drained.frames drained.written (length lent - drained.passed) drained.stop l.legal.0 l.passed_so_far (wrote_all d.job lent (held found) ended (writer_end found) before written drained l.same l.code l.drains)

stands_by : (d d1 : DrainState) (found : List Call) (text : List ℕ) (ended : Option ℕ) (lent : List ℕ) (before written after : SinkState) (drained : LendPassed) (owed : Owed) (o : Option DrainEnd) → (l : IsLent d d1 found text ended lent before written drained owed)
    → end_at drained.stop ended d1.place ≡ o → EndsOwed o written owed.end after → StandsBehind d1 owed.end (Advance owed.passed owed.len ∷ Read 0 ∷ found) (text ++ l.drains.text)
stands_by d d1 found text ended lent before written after drained owed None l at ends_owed =
    let so = goes_on_so drained.stop ended d1.place at in
    let n = drained.passed in
    let r = length lent - n in
    let gain = l.drains.text in
    let more = subst (λ (stop : Stop). Wrote d.job (held found) false n drained.frames drained.written stop gain) so.0 (wrote_all d.job lent (held found) ended None before written drained l.same so.1 l.drains) in
    let passed = passed_on d found text gain n drained.frames drained.written r (ap (λ (x : List ℕ). length x - n) l.same) l.legal.0 l.passed_so_far more in
    subst (λ (o : Option DrainEnd). StandsBehind d1 o (Advance owed.passed owed.len ∷ Read 0 ∷ found) (text ++ gain)) (sym ends_owed.0)
    (subst (λ (e : DrainState). IsDrained e (Advance owed.passed owed.len ∷ Read 0 ∷ found) (text ++ gain)) (sym l.drainer)
    (subst (λ (c : ℕ). IsDrained (added d n drained.frames drained.written r) (Advance c owed.len ∷ Read 0 ∷ found) (text ++ gain)) (sym l.passed)
    (subst (λ (e : ℕ). IsDrained (added d n drained.frames drained.written r) (Advance n e ∷ Read 0 ∷ found) (text ++ gain)) (sym (l.len ∙ ap length l.same)) passed)))
stands_by d d1 found text ended lent before written after drained owed (Some end) l at ends_owed =
    let facts = all_wrote d d1 found text ended lent before written drained owed l in
    let gain = l.drains.text in
    let all = Advance owed.passed owed.len ∷ Read 0 ∷ found in
    let at_code = subst (λ (o : Option ℕ). EndsAs o d1.place drained.stop end) l.code (ends_as d.job ended d1.place drained.stop end (drop drained.passed lent) l.drains.stopped.told at) in
    let at_place = subst (λ (e : DrainState). EndsAs (writer_end found) e.place drained.stop end) l.drainer at_code in
    let well = concludes_well d found text gain _ _ _ _ owed.passed owed.len drained.stop end l.passed l.passed_so_far facts at_place in
    subst (λ (o : Option DrainEnd). StandsBehind d1 o all (text ++ gain)) (sym ends_owed.1)
    (elim ends_owed.2 [
      | inl flushed ↦ subst (λ (e : DrainEnd). Concludes d1.job d1.frames d1.written all (text ++ gain) e) (sym flushed.1) (told end well)
      | inr failed ↦ subst (λ (e : DrainEnd). Concludes d1.job d1.frames d1.written all (text ++ gain) e) (sym failed.1) (told ends.SinkFault (unflushed d.job _ _ all (text ++ gain) end well))
    ])
  where
    told : (e : DrainEnd) → Concludes d.job (added d drained.passed drained.frames drained.written (length lent - drained.passed)).frames (added d drained.passed drained.frames drained.written (length lent - drained.passed)).written (Advance owed.passed owed.len ∷ Read 0 ∷ found) (text ++ l.drains.text) e
        → Concludes d1.job d1.frames d1.written (Advance owed.passed owed.len ∷ Read 0 ∷ found) (text ++ l.drains.text) e
    told e c = subst (λ (s : DrainState). Concludes s.job s.frames s.written (Advance owed.passed owed.len ∷ Read 0 ∷ found) (text ++ l.drains.text) e) (sym l.drainer) c

may_advance : (found : List Call) (lent : List ℕ) (c e : ℕ) → IsLegal (Read 0 ∷ found) → lend (Read 0 ∷ found) ≡ Some lent → c ≤ e → e ≤ length lent → MayFollow (Advance c e) (Read 0 ∷ found)
may_advance found lent c e legal lends first second = (legal.1.0, subst (λ (o : Option (List ℕ)). IsSomeAnd o (λ bytes. (c ≤ e) × (e ≤ length bytes))) (sym lends) (first, second))

owes_lend : (d d1 : DrainState) (found : List Call) (text : List ℕ) (ended : Option ℕ) (lent : List ℕ) (before written after : SinkState) (drained : LendPassed) (owed : Owed) → (l : IsLent d d1 found text ended lent before written drained owed) → lend (Read 0 ∷ found) ≡ Some lent
    → EndsOwed (end_at drained.stop ended d1.place) written owed.end after → Owes d1 owed (Read 0 ∷ found) (text ++ l.drains.text)
owes_lend d d1 found text ended lent before written after drained owed l lends ends_owed = record {
  may = may_advance found lent owed.passed owed.len l.legal lends (omega (arith, l.passed, l.len, l.drains.passes.within)) (omega (arith, l.len));
  behind = stands_by d d1 found text ended lent before written after drained owed (end_at drained.stop ended d1.place) l refl ends_owed;
}

-- ---- what came to the sink

gains_by : (stop : Stop) (ended : Option ℕ) (place : ℕ) (o : Option DrainEnd) (owed_end : Option DrainEnd) (before written after : SinkState) (gain : List ℕ) → Takes before gain written → end_at stop ended place ≡ o → EndsOwed o written owed_end after → GainsIf (is_fault owed_end) before gain after
gains_by stop ended place None owed_end before written after gain taken at ends_owed =
    subst (λ (o : Option DrainEnd). GainsIf (is_fault o) before gain after) (sym ends_owed.0) (subst (λ (k : SinkState). Takes before gain k) (sym ends_owed.1) taken)
gains_by stop ended place (Some end) owed_end before written after gain taken at ends_owed =
    subst (λ (o : Option DrainEnd). GainsIf (is_fault o) before gain after) (sym ends_owed.1)
    (elim ends_owed.2 [
      | inl flushed ↦
          subst (λ (b : Bool). GainsIf b before gain after) (sym (ap (λ (e : DrainEnd). is_sink_fault e) flushed.1 ∙ no_fault_at stop ended place end at))
          (subst (λ (t : List ℕ). Takes before t after) (append-nil gain) (Takes-trans before written after gain [] taken flushed.0))
      | inr failed ↦
          subst (λ (b : Bool). GainsIf b before gain after) (sym (ap (λ (e : DrainEnd). is_sink_fault e) failed.1)) (
            subst (λ (t : List ℕ). Appends before.written after.written t) (append-nil gain) (Appends-trans _ _ _ gain [] taken.taken (appends_kept written.written after.written failed.0.kept)),
            rw (← taken.unfailed) failed.0.risen,
            failed.0.same ∙ taken.same,
          )
    ])

-- ---- the step

later_goes : (others : Call → Type 0) (h k : List Call) → Later others h k → Later (OrReaders others) h k
later_goes others h k later = later_as others (OrReaders others) (λ call is. inr is) h k later

with_call : (others : Call → Type 0) (h k : List Call) (call : Call) → seat_of call ≡ 1 → Later (OrReaders others) h k → Later (OrReaders others) h (call ∷ k)
with_call others h k call own on = later_with (OrReaders others) h k call (inl own) on

-- no other consumes or examines
same_marks : (others : Call → Type 0) → ((call : Call) → others call → seat_of call ≢ 1) → (h : List Call) (calls : List Call) → AllByRecursion others calls → (consumed (calls ++ h) ≡ consumed h) × (examined (calls ++ h) ≡ examined h)
same_marks others ours h [] all = (refl, refl)
same_marks others ours h (Commit runs ∷ calls) all = same_marks others ours h calls all.1
same_marks others ours h (EndWriter code ∷ calls) all = same_marks others ours h calls all.1
same_marks others ours h (Read n ∷ calls) all = absurd (ours (Read n) all.0 refl)
same_marks others ours h (Advance c e ∷ calls) all = absurd (ours (Advance c e) all.0 refl)
same_marks others ours h (EndReader code ∷ calls) all = absurd (ours (EndReader code) all.0 refl)
same_marks others ours h (CancelRead ∷ calls) all = same_marks others ours h calls all.1
same_marks others ours h (CancelFlush ∷ calls) all = same_marks others ours h calls all.1

sees_all : (others : Call → Type 0) → ((call : Call) → others call → seat_of call ≢ 1) → (found k : List Call) (owed : Owed) → IsLegal found → IsAdvanced others owed (Read 0 ∷ found) k → owed.len ≡ length (held found) → examined k ≡ length (total found)
sees_all others ours found k owed legal advanced len =
    let same = same_marks others ours (Read 0 ∷ found) advanced.later.between advanced.later.all in
    let whole = held_is found legal in
    let order = ordered found legal in
    let now : examined k ≡ max (examined (advanced.later.between ++ Read 0 ∷ found)) (consumed (advanced.later.between ++ Read 0 ∷ found) + owed.len) =
    ap (λ (x : List Call). examined x) (advanced.is ∙ ap (λ (x : List Call). Advance owed.passed owed.len ∷ x) advanced.later.is) in
    omega (arith, now, same.0, same.1, whole, len, order.examined_in)

-- where nothing is owed, what was passed is what was drained
drained_of : (d : DrainingState) (h : List Call) (text : List ℕ) → d.owed ≡ None → HasPassed d h text → IsDrained d.drained h text
drained_of d h text fresh passed = subst (λ (o : Option Owed). Stands d.drained o h text) fresh passed

pub passed_of : (d : DrainingState) (h : List Call) (text : List ℕ) → d.owed ≡ None → IsDrained d.drained h text → HasPassed d h text
passed_of d h text fresh drained = subst (λ (o : Option Owed). Stands d.drained o h text) (sym fresh) drained

behind_read : (d : DrainState) (h : List Call) (text : List ℕ) → IsDrained d h text → IsDrained d (Read 0 ∷ h) text
behind_read d h text drained = record { place = drained.place; passes = drained.passes; rest = drained.rest; short = drained.short; counted = drained.counted; known = drained.known; unended = drained.unended }

pub as_reply : {P : Type 0} (at : P → List Call → Type 0) (others : Call → Type 0) (h : List Call) (reply reply' : ReadReply) (p : P) → reply ≡ reply' → CallsLater at others h (Read 0) (λ found. reply ≡ reply_to_read 0 found) p → CallsLater at others h (Read 0) (λ found. reply' ≡ reply_to_read 0 found) p
as_reply at others h reply reply' p same called = record { found = called.found; later = called.later; so = sym same ∙ called.so; legal = called.legal; stands = called.stands }

pub read_refused : {P A : Type 0} (at : P → List Call → Type 0) (others : Call → Type 0) (refuses : TryFault → P → P → Type 0) (tally : P → Tally) (lent : P → Option ℕ) (aside : P → A) (d : DrainingState) (p p' : P) (k : SinkState) (fault : TryFault) → d.owed ≡ None
    → ((call : Call) → others call → seat_of call ≢ 1) → ((h : List Call) → at p h → HearsLater at others h p') → refuses fault p p' → lent p' ≡ lent p → lent p ≡ None → aside p' ≡ aside p → DrainsOnce at others refuses tally lent aside d p k (Err fault) d p' k
read_refused at others refuses tally lent aside d p p' k fault fresh ours hears refused lends none kept = record {
  gain = [];
  gained = subst (λ (o : Option Owed). GainsBy o (owes_fault o) k [] k) (sym fresh) (takes_nothing k k refl);
  cause = λ h text is passed.
      let heard = hears h is in record {
        now = heard.found;
        on = later_goes others h heard.found heard.later;
        legal = heard.legal;
        stands = heard.stands;
        how = (
          subst (λ (t : List ℕ). HasPassed d heard.found t) (sym (append-nil text)) (passed_of d heard.found text fresh (drained_later others ours d.drained h heard.found text heard.later heard.legal (drained_of d h text fresh passed))),
          record { found = p; spent = omega arith; refused = refused },
        );
      };
  job = refl;
  kept = kept;
  spent = tt;
  lends = lends ∙ none ∙ sym (ap (λ (o : Option Owed). lent_for o) fresh);
  within = subst (λ (o : Option Owed). IsWithin o) (sym fresh) tt;
}

pub read_pending : {P A : Type 0} (at : P → List Call → Type 0) (others : Call → Type 0) (refuses : TryFault → P → P → Type 0) (tally : P → Tally) (lent : P → Option ℕ) (aside : P → A) (d : DrainingState) (p p' : P) (k : SinkState) (n count : ℕ) → d.owed ≡ None → ((call : Call) → others call → seat_of call ≢ 1)
    → ((h : List Call) → at p h → CallsLater at others h (Read 0) (λ found. read.Pending n count ≡ reply_to_read 0 found) p') → lent p' ≡ None → aside p' ≡ aside p → Spends 0 (tally p) (tally p') → DrainsOnce at others refuses tally lent aside d p k (Ok (Idle n)) d p' k
read_pending at others refuses tally lent aside d p p' k n count fresh ours reads none kept spent = record {
  gain = [];
  gained = subst (λ (o : Option Owed). GainsBy o false k [] k) (sym fresh) (takes_nothing k k refl);
  cause = λ h text is passed.
      let r = reads h is in
      let at_found = drained_later others ours d.drained h r.found text r.later r.legal.0 (drained_of d h text fresh passed) in
      record {
        now = Read 0 ∷ r.found;
        on = with_call others h r.found (Read 0) refl (later_goes others h r.found r.later);
        legal = r.legal;
        stands = r.stands;
        how = (
          record { found = r.found; later = r.later; told = sym r.so ∙ ap (read.Pending n) (pending_tells 0 r.found n count (sym r.so)).2; is = refl; none = refl; unchanged = refl; none_owed = fresh },
          passed_of d (Read 0 ∷ r.found) text fresh (behind_read d.drained r.found text at_found),
        );
      };
  job = refl;
  kept = kept;
  spent = spent;
  lends = none ∙ sym (ap (λ (o : Option Owed). lent_for o) fresh);
  within = subst (λ (o : Option Owed). IsWithin o) (sym fresh) tt;
}

-- ---- behind a lend

-- what the advance came to is what the step did
step_by : {P : Type 0} (at : P → List Call → Type 0) (others : Call → Type 0) (refuses : TryFault → P → P → Type 0) (tally : P → Tally) (d d1 d' : DrainingState) (h found : List Call) (text gain : List ℕ) (p p1 p' : P) (result : Result Progress TryFault) (owed : Owed) (k : List Call) → d.owed ≡ None → Spends 0 (tally p) (tally p1)
    → AdvancesBy at others refuses d1 owed (Read 0 ∷ found) (text ++ gain) p1 result d' k p' → ((frames : ℕ) → owed.end ≡ None → frames ≡ owed.frames → d' ≡ record d1 { owed = None } → IsAdvanced others owed (Read 0 ∷ found) k → MovesBy others None d h frames d' k)
    → StepsBy at others refuses tally d h text gain p result d' k p'
step_by at others refuses tally d d1 d' h found text gain p p1 p' (Ok (Idle n)) owed k fresh first how moves = absurd how
step_by at others refuses tally d d1 d' h found text gain p p1 p' (Ok (Moved frames)) owed k fresh first how moves = (
  subst (λ (o : Option Owed). MovesBy others o d h frames d' k) (sym fresh) (moves frames how.0 how.1 how.4 how.2),
  ap (λ e. e.owed) how.4,
  subst (λ (e : DrainingState). IsDrained e.drained k (text ++ gain)) (sym how.4) how.3,
)
step_by at others refuses tally d d1 d' h found text gain p p1 p' (Ok (Ended end)) owed k fresh first how moves =
    subst (λ (e : DrainingState). Concludes e.drained.job e.drained.frames e.drained.written k (text ++ gain) end) (sym how.3) how.2
step_by at others refuses tally d d1 d' h found text gain p p1 p' (Err fault) owed k fresh first how moves = (
  subst (λ (e : DrainingState). HasPassed e k (text ++ gain)) (sym how.3) how.1,
  record { found = p1; spent = first; refused = how.2 },
)

advanced_goes : {P : Type 0} (at : P → List Call → Type 0) (others : Call → Type 0) (refuses : TryFault → P → P → Type 0) (d d' : DrainingState) (owed : Owed) (h : List Call) (text : List ℕ) (p p' : P) (result : Result Progress TryFault) (k : List Call) → AdvancesBy at others refuses d owed h text p result d' k p' → Later (OrReaders others) h k
advanced_goes at others refuses d d' owed h text p p' (Ok (Idle n)) k how = absurd how
advanced_goes at others refuses d d' owed h text p p' (Ok (Moved frames)) k how = goes_to others h k owed how.2
  where
    goes_to : (others : Call → Type 0) (h k : List Call) (owed : Owed) → IsAdvanced others owed h k → Later (OrReaders others) h k
    goes_to others h k owed advanced = subst (λ (x : List Call). Later (OrReaders others) h x) (sym advanced.is) (with_call others h advanced.found (Advance owed.passed owed.len) refl (later_goes others h advanced.found advanced.later))
advanced_goes at others refuses d d' owed h text p p' (Ok (Ended end)) k how =
    subst (λ (x : List Call). Later (OrReaders others) h x) (sym how.1.is) (with_call others h how.1.found (Advance owed.passed owed.len) refl (later_goes others h how.1.found how.1.later))
advanced_goes at others refuses d d' owed h text p p' (Err fault) k how = later_goes others h k how.0

pub read_passed : {P A : Type 0} (at : P → List Call → Type 0) (others : Call → Type 0) (refuses : TryFault → P → P → Type 0) (tally : P → Tally) (lent : P → Option ℕ) (aside : P → A) (d d1 d' : DrainingState) (p p1 p' : P) (before after : SinkState) (canceled : Bool) (ended : Option ℕ) (len : ℕ) (bytes : List ℕ) (owed : Owed) (result : Result Progress TryFault)
    → d.owed ≡ None → ((call : Call) → others call → seat_of call ≢ 1) → ((h : List Call) → at p h → CallsLater at others h (Read 0) (λ found. read.Ready canceled ended len ≡ reply_to_read 0 found) p1) → ((h : List Call) → at p1 h → lend h ≡ Some bytes)
    → PassesLend ended bytes d.drained before (Some owed) d1.drained after
    → ((h : List Call) (text : List ℕ) → at p1 h → Owes d1.drained owed h text → AdvancesTo at others refuses d1 owed h text p1 result d' p') → d'.drained ≡ d1.drained → has_failed result d' ≡ is_fault owed.end
    → aside p' ≡ aside p → Spends 0 (tally p) (tally p1) → IfOk result (λ _. Spends 0 (tally p1) (tally p')) → IfMore result (lent p' ≡ lent_for d'.owed) → IsWithin d'.owed → DrainsOnce at others refuses tally lent aside d p before result d' p' after
read_passed at others refuses tally lent aside d d1 d' p p1 p' before after canceled ended len bytes owed result fresh ours reads lends passes advanced same failed kept first second lent_is within =
    let drained = passes.0 in
    let written = passes.1 in
    let drains = passes.2 in
    let gain = drains.text in
    record {
      gain = gain;
      gained = subst (λ (o : Option Owed). GainsBy o (has_failed result d') before gain after) (sym fresh) (subst (λ (b : Bool). GainsIf b before gain after) (sym failed) (gains_by drained.stop ended d1.drained.place _ owed.end before written after gain drains.taken refl passes.7));
      cause = λ h text is passed.
          let r = reads h is in
          let found = r.found in
          let same_lent = lent_is_held found bytes (lends (Read 0 ∷ found) r.stands) in
          let says = ready_says found canceled ended len (sym r.so) in
          let at_found = drained_later others ours d.drained h found text r.later r.legal.0 (drained_of d h text fresh passed) in
          let l : IsLent d.drained d1.drained found text ended bytes before written drained owed = record { legal = r.legal; same = same_lent; code = says.0; passed_so_far = at_found; drains = drains; drainer = passes.3; passed = passes.4; len = passes.5 } in
          let owes = owes_lend d.drained d1.drained found text ended bytes before written after drained owed l (lends (Read 0 ∷ found) r.stands) passes.7 in
          let a = advanced (Read 0 ∷ found) (text ++ gain) r.stands owes in
          let read_on = with_call others h found (Read 0) refl (later_goes others h found r.later) in
          record {
            now = a.now;
            on = later_on (OrReaders others) h (Read 0 ∷ found) a.now read_on (advanced_goes at others refuses d1 d' owed (Read 0 ∷ found) (text ++ gain) p1 p' result a.now a.how);
            legal = a.legal;
            stands = a.stands;
            how = step_by at others refuses tally d d1 d' h found text gain p p1 p' result owed a.now fresh first a.how (λ frames none told same_d is_advanced.
                let so = goes_on_so drained.stop ended d1.drained.place (none_at drained.stop ended d1.drained.place _ written after owed.end refl passes.7 none) in
                let all = passed_all d.drained found text gain (is_success ended) drained.passed drained.frames at_found (subst (λ (x : List ℕ). Passes d.drained.job x (is_success ended) drained.passed drained.frames gain) same_lent drains.passes) in
                record {
                  found = found;
                  later = r.later;
                  canceled = canceled;
                  len = len;
                  told = sym r.so ∙ ap (λ (o : Option ℕ). read.Ready canceled o len) so.1;
                  all_seen = sees_all others ours found a.now owed r.legal.0 is_advanced (passes.5 ∙ ap length same_lent);
                  counted = ap (λ e. e.drained.frames) same_d ∙ ap (λ e. e.frames) passes.3 ∙ frames_are d.drained found text gain (is_success ended) drained.passed drained.frames drained.written (length bytes - drained.passed) r.legal.0 all ∙ ap (λ (n : ℕ). d.drained.frames + n) (sym passes.6 ∙ sym told);
                });
          };
      job = ap (λ e. e.job) same ∙ ap (λ e. e.job) passes.3;
      kept = kept;
      spent = spent_both result second;
      lends = lent_is;
      within = within;
    }
  where
    spent_both : (r : Result Progress TryFault) → IfOk r (λ _. Spends 0 (tally p1) (tally p')) → IfOk r (λ _. Spends 0 (tally p) (tally p'))
    spent_both (Ok progress) second = omega (arith, first, second)
    spent_both (Err fault) second = tt

    none_at : (stop : Stop) (ended : Option ℕ) (place : ℕ) (o : Option DrainEnd) (written after : SinkState) (owed_end : Option DrainEnd) → end_at stop ended place ≡ o → EndsOwed o written owed_end after → owed_end ≡ None → end_at stop ended place ≡ None
    none_at stop ended place None written after owed_end at ends_owed none = at
    none_at stop ended place (Some end) written after owed_end at ends_owed none = let both = sym ends_owed.1 ∙ none in absurd cc

pub read_broken : {P A : Type 0} (at : P → List Call → Type 0) (others : Call → Type 0) (refuses : TryFault → P → P → Type 0) (tally : P → Tally) (lent : P → Option ℕ) (aside : P → A) (d d1 : DrainingState) (p p1 : P) (before after : SinkState) (canceled : Bool) (ended : Option ℕ) (len : ℕ) (bytes : List ℕ)
    → d.owed ≡ None → d1.owed ≡ d.owed → ((call : Call) → others call → seat_of call ≢ 1) → ((h : List Call) → at p h → CallsLater at others h (Read 0) (λ found. read.Ready canceled ended len ≡ reply_to_read 0 found) p1) → ((h : List Call) → at p1 h → lend h ≡ Some bytes)
    → PassesLend ended bytes d.drained before None d1.drained after → aside p1 ≡ aside p → Spends 0 (tally p) (tally p1) → DrainsOnce at others refuses tally lent aside d p before (Ok (Ended ends.SinkFault)) d1 p1 after
read_broken at others refuses tally lent aside d d1 p p1 before after canceled ended len bytes fresh still ours reads lends passes kept spent =
    let broken = passes.0 in
    let breaks = passes.1 in
    let gain = breaks.text ++ breaks.part in
    record {
      gain = gain;
      gained = subst (λ (o : Option Owed). GainsBy o true before gain after) (sym fresh) (breaks.written, breaks.risen, breaks.same);
      cause = λ h text is passed.
          let r = reads h is in
          let found = r.found in
          let same_lent = lent_is_held found bytes (lends (Read 0 ∷ found) r.stands) in
          let says = ready_says found canceled ended len (sym r.so) in
          let at_found = drained_later others ours d.drained h found text r.later r.legal.0 (drained_of d h text fresh passed) in
          let fails = write_failed d.drained found text bytes ended before after broken r.legal.0 at_found same_lent says.0 breaks in
          record {
            now = Read 0 ∷ found;
            on = with_call others h found (Read 0) refl (later_goes others h found r.later);
            legal = r.legal;
            stands = r.stands;
            how = subst (λ (e : DrainState). Concludes e.job e.frames e.written (Read 0 ∷ found) (text ++ gain) ends.SinkFault) (sym passes.2) fails;
          };
      job = ap (λ e. e.job) passes.2;
      kept = kept;
      spent = spent;
      lends = tt;
      within = subst (λ (o : Option Owed). IsWithin o) (sym (still ∙ fresh)) tt;
    }

-- ---- a step that makes what is owed

pub owed_step : {P A : Type 0} (at : P → List Call → Type 0) (others : Call → Type 0) (refuses : TryFault → P → P → Type 0) (tally : P → Tally) (lent : P → Option ℕ) (aside : P → A) (d d' : DrainingState) (p p' : P) (k : SinkState) (owed : Owed) (result : Result Progress TryFault) → d.owed ≡ Some owed
    → ((h : List Call) (text : List ℕ) → at p h → Owes d.drained owed h text → AdvancesTo at others refuses d owed h text p result d' p') → d'.drained ≡ d.drained → aside p' ≡ aside p → IfOk result (λ _. Spends 0 (tally p) (tally p'))
    → has_failed result d' ≡ is_fault owed.end → IfMore result (lent p' ≡ lent_for d'.owed) → IsWithin d'.owed → DrainsOnce at others refuses tally lent aside d p k result d' p' k
owed_step at others refuses tally lent aside d d' p p' k owed result owes_it advanced same kept spent failed lends within = record {
  gain = [];
  gained = subst (λ (o : Option Owed). GainsBy o (has_failed result d') k [] k) (sym owes_it) (refl, refl, failed);
  cause = λ h text is passed.
      let a = advanced h text is (subst (λ (o : Option Owed). Stands d.drained o h text) owes_it passed) in record {
        now = a.now;
        on = advanced_goes at others refuses d d' owed h text p p' result a.now a.how;
        legal = a.legal;
        stands = a.stands;
        how = owed_by at others refuses tally d d' owed h text p p' result a.now owes_it a.how;
      };
  job = ap (λ e. e.job) same;
  kept = kept;
  spent = spent;
  lends = lends;
  within = within;
}
  where
    owed_by : {P : Type 0} (at : P → List Call → Type 0) (others : Call → Type 0) (refuses : TryFault → P → P → Type 0) (tally : P → Tally) (d d' : DrainingState) (owed : Owed) (h : List Call) (text : List ℕ) (p p' : P) (result : Result Progress TryFault) (k : List Call) → d.owed ≡ Some owed → AdvancesBy at others refuses d owed h text p result d' k p' → StepsBy at others refuses tally d h text [] p result d' k p'
    owed_by at others refuses tally d d' owed h text p p' (Ok (Idle n)) k owes_it how = absurd how
    owed_by at others refuses tally d d' owed h text p p' (Ok (Moved frames)) k owes_it how = (
      subst (λ (o : Option Owed). MovesBy others o d h frames d' k) (sym owes_it) (how.1, ap (λ e. e.drained) how.4),
      ap (λ e. e.owed) how.4,
      subst (λ (t : List ℕ). IsDrained d'.drained k t) (sym (append-nil text)) (subst (λ (e : DrainingState). IsDrained e.drained k text) (sym how.4) how.3),
    )
    owed_by at others refuses tally d d' owed h text p p' (Ok (Ended end)) k owes_it how =
        subst (λ (t : List ℕ). Concludes d'.drained.job d'.drained.frames d'.drained.written k t end) (sym (append-nil text))
        (subst (λ (e : DrainingState). Concludes e.drained.job e.drained.frames e.drained.written k text end) (sym how.3) how.2)
    owed_by at others refuses tally d d' owed h text p p' (Err fault) k owes_it how = (
      subst (λ (t : List ℕ). HasPassed d' k t) (sym (append-nil text)) (subst (λ (e : DrainingState). HasPassed e k text) (sym how.3) how.1),
      record { found = p; spent = omega arith; refused = how.2 },
    )
