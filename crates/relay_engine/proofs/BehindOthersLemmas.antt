-- What stands behind the steps of a drainer, whatever others do meanwhile.
use Rattle.std.specs.List.{AllByRecursion}
use Rattle.std.proofs.Common.{◌≡◌, ◌≢◌, ℕ, Bool, false, List, [], ◌∷◌, ◌++◌, Option, Some, None, Ok, Err, refl, sym, ap, ◌∙◌, subst, append-nil, append_assoc}
use mathlib.Core.List.{IsPrefix}
use Rattle.frame_grammar.specs.declared.job.Job.{Job}
use Rattle.frame_model.specs.Translation.{Translation}
use Rattle.frame_grammar.specs.Job.{translation}
use Rattle.frame_model.proofs.TranslationLemmas.{bad_stays, grows}
use Rattle.relay_model.specs.Run.{frames_in}
use Rattle.pipe_core.specs.History.{Call, Commit, EndWriter, Read, Advance, EndReader, CancelRead, CancelFlush, writer_end, seat_of}
use Rattle.pipe_core.specs.Progress.{total, consumed}
use Rattle.pipe_core.specs.Legal.{IsLegal, MayFollow}
use Rattle.pipe_core.proofs.OrderLemmas.{total_commit}
use Rattle.pipe_turns.specs.declared.faults.TryFault.{TryFault}
use Rattle.relay_engine.specs.Later.{CallsLater, HearsLater, Later}
use Rattle.relay_engine.specs.Drainer.{DrainState, IsDrained, is_success, is_whole, translated}
use Rattle.relay_engine.specs.Draining.{AdvancesTo, DrainingState, Owes, StandsBehind}
use Rattle.relay_engine.specs.Frames.{Passes}
use Rattle.relay_engine.specs.Sides.{Concludes, IsEndedFor}
use Rattle.relay_engine.specs.declared.drain_end.DrainEnd.{DrainEnd}
use Rattle.relay_engine.specs.declared.drain_end.DrainEnd.TheVariants as ends
use Rattle.relay_engine.specs.declared.draining.Owed.{Owed}
use Rattle.relay_engine.specs.declared.draining.Progress.TheVariants.{Moved, Ended}
use Rattle.relay_engine.proofs.LendLemmas.{behind_call, behind_others}
use Rattle.relay_engine.proofs.FrameLemmas.{passes_within}
use Rattle.relay_engine.proofs.CountLemmas.{frames_of_more}
use Rattle.relay_engine.proofs.LaterLemmas.{all_as, none_is}

-- ---- others' calls before an advance

may_behind : (h : List Call) (c e : ℕ) (call : Call) → seat_of call ≢ 1 → MayFollow (Advance c e) h → MayFollow (Advance c e) (call ∷ h)
may_behind h c e (Commit runs) other may = may
may_behind h c e (EndWriter code) other may = may
may_behind h c e (Read n) other may = absurd (other refl)
may_behind h c e (Advance c' e') other may = absurd (other refl)
may_behind h c e (EndReader code) other may = absurd (other refl)
may_behind h c e CancelRead other may = may
may_behind h c e CancelFlush other may = may

-- it comes to the same whether they are made before or behind it
exchanged : (d : DrainState) (h : List Call) (text : List ℕ) (c e : ℕ) (call : Call) → seat_of call ≢ 1 → IsDrained d (call ∷ Advance c e ∷ h) text → IsDrained d (Advance c e ∷ call ∷ h) text
exchanged d h text c e (Commit runs) other drained = record { place = drained.place; passes = drained.passes; rest = drained.rest; short = drained.short; counted = drained.counted; known = drained.known; unended = drained.unended }
exchanged d h text c e (EndWriter code) other drained = record { place = drained.place; passes = drained.passes; rest = drained.rest; short = drained.short; counted = drained.counted; known = drained.known; unended = drained.unended }
exchanged d h text c e (Read n) other drained = absurd (other refl)
exchanged d h text c e (Advance c' e') other drained = absurd (other refl)
exchanged d h text c e (EndReader code) other drained = absurd (other refl)
exchanged d h text c e CancelRead other drained = record { place = drained.place; passes = drained.passes; rest = drained.rest; short = drained.short; counted = drained.counted; known = drained.known; unended = drained.unended }
exchanged d h text c e CancelFlush other drained = record { place = drained.place; passes = drained.passes; rest = drained.rest; short = drained.short; counted = drained.counted; known = drained.known; unended = drained.unended }

-- ---- others' calls behind an end

not_whole : (ended : Option ℕ) → ended ≡ None → is_success ended ≡ false
not_whole ended none = ap is_success none

counted : (job : Job) (frames : ℕ) (h h' : List Call) (text y : List ℕ) → writer_end h ≡ None → total h' ≡ total h ++ y → IsPrefix text (translated job h).text → frames ≡ frames_in job (total h) (is_whole h) text → frames ≡ frames_in job (total h') (is_whole h') text
counted job frames h h' text y none more front told =
    let part = not_whole (writer_end h) none in
    told ∙ ap (λ (b : Bool). frames_in job (total h) b text) part
    ∙ sym (frames_of_more job (total h) y text (is_whole h') (subst (λ (b : Bool). IsPrefix text (translation job (total h) b).text) part front))
    ∙ ap (λ (x : List ℕ). frames_in job x (is_whole h') text) (sym more)

-- where none of what is committed, the writer's end and what is consumed has changed
pub again : (job : Job) (frames written : ℕ) (h h' : List Call) (text : List ℕ) (end : DrainEnd) → total h' ≡ total h → writer_end h' ≡ writer_end h → consumed h' ≡ consumed h → Concludes job frames written h text end → Concludes job frames written h' text end
again job frames written h h' text end same same_end same_place c =
    let t : translated job h' ≡ translated job h = ap (λ (x : List ℕ). translation job x (is_whole h')) same ∙ ap (λ (o : Option ℕ). translation job (total h) (is_success o)) same_end in
    record {
      front = subst (λ (t : Translation). IsPrefix text t.text) (sym t) c.front;
      whole = λ passed. c.whole passed ∙ sym (ap (λ t. t.text) t);
      verdict = λ passed. ap (λ t. t.verdict) t ∙ c.verdict passed;
      ended = subst (λ (o : Option ℕ). IsEndedFor end o) (sym same_end) c.ended;
      passed = λ passed. rw (same, same_end, same_place) (c.passed passed);
      frames_told = c.frames_told ∙ sym (ap (λ (x : List ℕ). frames_in job x (is_whole h') text) same ∙ ap (λ (o : Option ℕ). frames_in job (total h) (is_success o) text) same_end);
      written_told = c.written_told;
    }

-- More may have come, and the writer may have completed meanwhile.
concludes_longer : (job : Job) (frames written : ℕ) (h h' : List Call) (text y : List ℕ) (end : DrainEnd) → writer_end h ≡ None → total h' ≡ total h ++ y → consumed h' ≡ consumed h → Concludes job frames written h text end → Concludes job frames written h' text end
concludes_longer job frames written h h' text y ends.Clean none more same_place c = let both = sym none ∙ c.ended in absurd cc
concludes_longer job frames written h h' text y (ends.Rest place) none more same_place c = let both = sym none ∙ c.ended in absurd cc
concludes_longer job frames written h h' text y ends.Stopped none more same_place c = let both = sym none ∙ c.ended.2 in absurd cc
concludes_longer job frames written h h' text y (ends.Bad place kind) none more same_place c =
    let part = ap (λ (b : Bool). translation job (total h) b) (not_whole (writer_end h) none) in
    let stays : translated job h' ≡ translated job h =
    ap (λ (x : List ℕ). translation job x (is_whole h')) more ∙ bad_stays job.input job.output job.max (total h) y (is_whole h') place kind (sym (ap (λ t. t.verdict) part) ∙ c.verdict refl) ∙ sym part in
    record {
      front = subst (λ (t : Translation). IsPrefix text t.text) (sym stays) c.front;
      whole = λ passed. c.whole refl ∙ sym (ap (λ t. t.text) stays);
      verdict = λ passed. ap (λ t. t.verdict) stays ∙ c.verdict refl;
      ended = tt;
      passed = λ passed.
          let before = subst (λ (b : Bool). Passes job (total h) b (consumed h) frames text) (not_whole (writer_end h) none) (c.passed refl) in
          rw (more, same_place) (passes_within job (total h) y (is_whole h') (consumed h) frames text before);
      frames_told = counted job frames h h' text y none more c.front c.frames_told;
      written_told = c.written_told;
    }
concludes_longer job frames written h h' text y ends.SinkFault none more same_place c =
    let part = ap (λ (b : Bool). (translation job (total h) b).text) (not_whole (writer_end h) none) in
    let longer = grows job.input job.output job.max (total h) y (is_whole h') in
    let grown : IsPrefix (translated job h).text (translated job h').text =
    subst (λ (x : List ℕ). IsPrefix (translated job h).text (translation job x (is_whole h')).text) (sym more)
    (subst (λ (t : List ℕ). IsPrefix t (translation job (total h ++ y) (is_whole h')).text) (sym part) longer) in
    record {
      front = (c.front.0 ++ grown.0, sym (append_assoc text c.front.0 grown.0) ∙ ap (λ (t : List ℕ). t ++ grown.0) c.front.1 ∙ grown.1);
      whole = λ passed. absurd cc;
      verdict = λ passed. absurd cc;
      ended = tt;
      passed = λ passed. absurd cc;
      frames_told = counted job frames h h' text y none more c.front c.frames_told;
      written_told = c.written_told;
    }

concludes_behind : (job : Job) (frames written : ℕ) (h : List Call) (text : List ℕ) (end : DrainEnd) (call : Call) → seat_of call ≢ 1 → IsLegal (call ∷ h) → Concludes job frames written h text end → Concludes job frames written (call ∷ h) text end
concludes_behind job frames written h text end (Commit runs) other legal c = concludes_longer job frames written h (Commit runs ∷ h) text _ end (none_is (writer_end h) legal.1.0) (total_commit runs h) refl c
concludes_behind job frames written h text end (EndWriter code) other legal c = concludes_longer job frames written h (EndWriter code ∷ h) text [] end (none_is (writer_end h) legal.1) (sym (append-nil (total h))) refl c
concludes_behind job frames written h text end (Read n) other legal c = absurd (other refl)
concludes_behind job frames written h text end (Advance c' e') other legal c = absurd (other refl)
concludes_behind job frames written h text end (EndReader code) other legal c = absurd (other refl)
concludes_behind job frames written h text end CancelRead other legal c = again job frames written h (CancelRead ∷ h) text end refl refl refl c
concludes_behind job frames written h text end CancelFlush other legal c = again job frames written h (CancelFlush ∷ h) text end refl refl refl c

pub concludes_later : (job : Job) (frames written : ℕ) (h : List Call) (text : List ℕ) (end : DrainEnd) (calls : List Call) → AllByRecursion (λ call. seat_of call ≢ 1) calls → IsLegal (calls ++ h) → Concludes job frames written h text end → Concludes job frames written (calls ++ h) text end
concludes_later job frames written h text end [] others legal c = c
concludes_later job frames written h text end (call ∷ calls) others legal c =
    concludes_behind job frames written (calls ++ h) text end call others.0 legal (concludes_later job frames written h text end calls others.1 legal.0 c)

-- ---- what is owed

-- an end stays so where they are made before the advance
ends_behind : (job : Job) (frames written : ℕ) (h : List Call) (text : List ℕ) (end : DrainEnd) (c e : ℕ) (call : Call) → seat_of call ≢ 1 → IsLegal (call ∷ h) → Concludes job frames written (Advance c e ∷ h) text end → Concludes job frames written (Advance c e ∷ call ∷ h) text end
ends_behind job frames written h text end c e (Commit runs) other legal so = concludes_longer job frames written (Advance c e ∷ h) (Advance c e ∷ Commit runs ∷ h) text _ end (none_is (writer_end h) legal.1.0) (total_commit runs h) refl so
ends_behind job frames written h text end c e (EndWriter code) other legal so = concludes_longer job frames written (Advance c e ∷ h) (Advance c e ∷ EndWriter code ∷ h) text [] end (none_is (writer_end h) legal.1) (sym (append-nil (total h))) refl so
ends_behind job frames written h text end c e (Read n) other legal so = absurd (other refl)
ends_behind job frames written h text end c e (Advance c' e') other legal so = absurd (other refl)
ends_behind job frames written h text end c e (EndReader code) other legal so = absurd (other refl)
ends_behind job frames written h text end c e CancelRead other legal so = again job frames written (Advance c e ∷ h) (Advance c e ∷ CancelRead ∷ h) text end refl refl refl so
ends_behind job frames written h text end c e CancelFlush other legal so = again job frames written (Advance c e ∷ h) (Advance c e ∷ CancelFlush ∷ h) text end refl refl refl so

stands_behind : (d : DrainState) (end : Option DrainEnd) (h : List Call) (text : List ℕ) (c e : ℕ) (call : Call) → seat_of call ≢ 1 → IsLegal (call ∷ h) → IsLegal (Advance c e ∷ h) → StandsBehind d end (Advance c e ∷ h) text → StandsBehind d end (Advance c e ∷ call ∷ h) text
stands_behind d None h text c e call other legal advanced stands = exchanged d h text c e call other (behind_call d (Advance c e ∷ h) text call other advanced stands)
stands_behind d (Some end) h text c e call other legal advanced stands = ends_behind d.job d.frames d.written h text end c e call other legal stands

owes_behind : (d : DrainState) (owed : Owed) (h : List Call) (text : List ℕ) (calls : List Call) → AllByRecursion (λ call. seat_of call ≢ 1) calls → IsLegal (calls ++ h) → Owes d owed h text → Owes d owed (calls ++ h) text
owes_behind d owed h text [] others legal owes = owes
owes_behind d owed h text (call ∷ calls) others legal owes =
    let so = owes_behind d owed h text calls others.1 legal.0 owes in record {
      may = may_behind (calls ++ h) owed.passed owed.len call others.0 so.may;
      behind = stands_behind d owed.end (calls ++ h) text owed.passed owed.len call others.0 legal (legal.0, so.may) so.behind;
    }

-- ---- in terms of a later history

pub drained_later : (others : Call → Type 0) → ((call : Call) → others call → seat_of call ≢ 1) → (d : DrainState) (h k : List Call) (text : List ℕ) → Later others h k → IsLegal k → IsDrained d h text → IsDrained d k text
drained_later others ours d h k text later legal drained =
    subst (λ (x : List Call). IsDrained d x text) (sym later.is) (behind_others d h text later.between (all_as others (λ call. seat_of call ≢ 1) ours later.between later.all) (subst IsLegal later.is legal) drained)

pub owes_later : (others : Call → Type 0) → ((call : Call) → others call → seat_of call ≢ 1) → (d : DrainState) (owed : Owed) (h k : List Call) (text : List ℕ) → Later others h k → IsLegal k → Owes d owed h text → Owes d owed k text
owes_later others ours d owed h k text later legal owes =
    subst (λ (x : List Call). Owes d owed x text) (sym later.is) (owes_behind d owed h text later.between (all_as others (λ call. seat_of call ≢ 1) ours later.between later.all) (subst IsLegal later.is legal) owes)

-- ---- an advance that was owed

-- it was made, and the drainer goes on, or is at its end
pub goes_on : {P : Type 0} (at : P → List Call → Type 0) (others : Call → Type 0) (refuses : TryFault → P → P → Type 0) (d d' : DrainingState) (owed : Owed) (h : List Call) (text : List ℕ) (p p' : P) → owed.end ≡ None → d' ≡ record d { owed = None }
    → ((call : Call) → others call → seat_of call ≢ 1) → CallsLater at others h (Advance owed.passed owed.len) (λ found. Unit {0}) p' → Owes d.drained owed h text → AdvancesTo at others refuses d owed h text p (Ok (Moved owed.frames)) d' p'
goes_on at others refuses d d' owed h text p p' none same ours called owes =
    let so = owes_later others ours d.drained owed h called.found text called.later called.legal.0 owes in record {
      now = Advance owed.passed owed.len ∷ called.found;
      legal = called.legal;
      stands = called.stands;
      how = (
        none,
        refl,
        record { found = called.found; later = called.later; is = refl },
        subst (λ (o : Option DrainEnd). StandsBehind d.drained o (Advance owed.passed owed.len ∷ called.found) text) none so.behind,
        same,
      );
    }

pub is_at_end : {P : Type 0} (at : P → List Call → Type 0) (others : Call → Type 0) (refuses : TryFault → P → P → Type 0) (d d' : DrainingState) (owed : Owed) (end : DrainEnd) (h : List Call) (text : List ℕ) (p p' : P) → owed.end ≡ Some end → d' ≡ record d { owed = None }
    → ((call : Call) → others call → seat_of call ≢ 1) → CallsLater at others h (Advance owed.passed owed.len) (λ found. Unit {0}) p' → Owes d.drained owed h text → AdvancesTo at others refuses d owed h text p (Ok (Ended end)) d' p'
is_at_end at others refuses d d' owed end h text p p' some same ours called owes =
    let so = owes_later others ours d.drained owed h called.found text called.later called.legal.0 owes in
    let ended = subst (λ (o : Option DrainEnd). StandsBehind d.drained o (Advance owed.passed owed.len ∷ called.found) text) some so.behind in
    record {
      now = Advance owed.passed owed.len ∷ called.found;
      legal = called.legal;
      stands = called.stands;
      how = (
        some,
        record { found = called.found; later = called.later; is = refl },
        ended,
        same,
      );
    }

-- it was refused, and is still owed
pub is_refused : {P : Type 0} (at : P → List Call → Type 0) (others : Call → Type 0) (refuses : TryFault → P → P → Type 0) (d d' : DrainingState) (owed : Owed) (fault : TryFault) (h : List Call) (text : List ℕ) (p p' : P) → d' ≡ record d { owed = Some owed }
    → ((call : Call) → others call → seat_of call ≢ 1) → HearsLater at others h p' → refuses fault p p' → Owes d.drained owed h text → AdvancesTo at others refuses d owed h text p (Err fault) d' p'
is_refused at others refuses d d' owed fault h text p p' same ours heard refused owes = record {
  now = heard.found;
  legal = heard.legal;
  stands = heard.stands;
  how = (heard.later, owes_later others ours d.drained owed h heard.found text heard.later heard.legal owes, refused, same);
}
