-- How much a relay on one thread takes behind a bad frame.
use Rattle.std.proofs.Common.{◌≡◌, ◌<◌, ◌≤◌, ◌+◌, ℕ, false, List, [], ◌++◌, length, take, drop, Option, Some, None, refl, sym, ap, ◌∙◌, subst, append_assoc, append-nil, arith}
use Rattle.std.specs.Prelude.{IfSome}
use Rattle.std.proofs.lemmas.List.{length-append, take-append-drop, take-append-le, take_all}
use Rattle.std.specs.Io.KnownBytes.{Consumes}
use Rattle.edge_core.specs.Device.{SourceState}
use Rattle.frame_grammar.specs.declared.job.Job.{Job}
use Rattle.frame_grammar.specs.Job.{translation}
use Rattle.frame_model.specs.Cut.{Bad, Open}
use Rattle.frame_model.specs.Translation.{Translation, behind}
use Rattle.frame_model.proofs.TranslationLemmas.{bad_stays}
use Rattle.relay_model.specs.declared.ending.FillEnd.{FillEnd}
use Rattle.relay_model.specs.declared.ending.FillEnd.TheVariants as taking
use Rattle.relay_model.specs.Run.{HasNoBad, IsDropped, IsTaken, StopsInTime}
use Rattle.pipe_core.specs.History.{Call}
use Rattle.pipe_core.specs.Progress.{total, examined}
use Rattle.relay_engine.specs.Drainer.{DrainState, IsDrained, looked_at}
use Rattle.relay_engine.proofs.FrameLemmas.{may_stop}

-- what was taken has no bad frame, but perhaps within its last segment
abbrev pub IsInTime : Job → List ℕ → Type 0
IsInTime job x = (k : ℕ) → k + job.seg ≤ length x → HasNoBad job (take k x)

front_has_none : (job : Job) (x : List ℕ) (k : ℕ) → HasNoBad job x → HasNoBad job (take k x)
front_has_none job x k none = λ place kind bad.
    let stays = bad_stays job.input job.output job.max (take k x) (drop k x) false place kind bad in
    none place kind (subst (λ (l : List ℕ). (translation job l false).verdict ≡ Bad place kind) (take-append-drop k x) (ap (λ (t : Translation). t.verdict) stays ∙ bad))

open_has_none : (job : Job) (x : List ℕ) → (translation job x false).verdict ≡ Open → HasNoBad job x
open_has_none job x open_yet = λ place kind bad. let both : Open ≡ Bad place kind = sym open_yet ∙ bad in absurd cc

-- one more read, of at most a segment, behind bytes of which no frame is bad
pub one_read : (job : Job) (x read : List ℕ) → HasNoBad job x → length read ≤ job.seg → IsInTime job (x ++ read)
one_read job x read none short = λ k within.
    let size = length-append x read in
    let front : k ≤ length x = omega (arith, within, size, short) in
    subst (λ (l : List ℕ). HasNoBad job l) (sym (take-append-le k x read front)) (front_has_none job x k none)

-- a drainer that has examined all has met no bad frame
pub none_bad : (job : Job) (d : DrainState) (h : List Call) (text : List ℕ) → d.job ≡ job → IsDrained d h text → examined h ≡ length (total h) → HasNoBad job (total h)
none_bad job d h text same drained all_seen =
    let seen : looked_at h ≡ total h = take_all (examined h) (total h) (omega (arith, all_seen)) in
    let goes = drained.passes.goes_on [] false (may_stop false) in
    let whole : translation d.job (looked_at h) false ≡ behind text d.place (translation d.job (drop d.place (looked_at h)) false) =
    ap (λ (l : List ℕ). translation d.job l false) (sym (append-nil (looked_at h))) ∙ goes ∙ ap (λ (l : List ℕ). behind text d.place (translation d.job l false)) (append-nil (drop d.place (looked_at h))) in
    let open_yet : (translation d.job (looked_at h) false).verdict ≡ Open = ap (λ (t : Translation). t.verdict) (whole ∙ ap (λ (t : Translation). behind text d.place t) drained.rest) in
    open_has_none job (total h) (subst (λ (l : List ℕ). (translation job l false).verdict ≡ Open) seen (subst (λ (j : Job). (translation j (looked_at h) false).verdict ≡ Open) same open_yet))

-- at first nothing was taken
pub nothing_in_time : (job : Job) → (translation job [] false).verdict ≡ Open → IsInTime job []
nothing_in_time job open_yet = λ k within. front_has_none job [] k (open_has_none job [] open_yet)

-- what left the source was taken, up to the limit
within_taken : (ending : FillEnd) (limit : ℕ) (x dropped : List ℕ) (n : ℕ) → IsDropped ending dropped → (ending ≡ taking.Long → length x ≡ limit) → n ≤ length x + length dropped → n ≤ limit → n ≤ length x
within_taken taking.End limit x dropped n is long lost most = omega (arith, ap length is, lost)
within_taken taking.Fault limit x dropped n is long lost most = omega (arith, ap length is, lost)
within_taken taking.Long limit x dropped n is long lost most = omega (arith, long refl, most)
within_taken (taking.Gone code) limit x dropped n is long lost most = omega (arith, ap length is, lost)

-- what that says of the source
pub stops : (job : Job) (x : List ℕ) (ending : FillEnd) (before after : SourceState) → IsInTime job x → IsTaken job.limit x ending before after → StopsInTime job before after
stops job x ending before after so taken = by_left before.left after.left taken.given
  where
    by_left : (b a : Option (List ℕ)) → Consumes b a (x ++ taken.dropped)
        → IfSome b (λ input. IfSome a (λ left. (k : ℕ) → k + job.seg + length left ≤ length input → k + job.seg ≤ job.limit → HasNoBad job (take k input)))
    by_left None a given = tt
    by_left (Some input) None given = tt
    by_left (Some input) (Some left) given = λ k lost most.
        let parts : input ≡ x ++ (taken.dropped ++ left) = given ∙ append_assoc x taken.dropped left in
        let size = ap length parts ∙ length-append x (taken.dropped ++ left) ∙ ap (λ (n : ℕ). length x + n) (length-append taken.dropped left) in
        let within : k + job.seg ≤ length x = within_taken ending job.limit x taken.dropped (k + job.seg) taken.dropping taken.long (omega (arith, lost, size)) most in
        subst (λ (l : List ℕ). HasNoBad job l) (sym (ap (λ (l : List ℕ). take k l) parts ∙ take-append-le k x (taken.dropped ++ left) (omega (arith, within)))) (so k within)

-- nothing was taken
pub stops_unread : (job : Job) (s : SourceState) → 0 < job.seg → StopsInTime job s s
stops_unread job s some = by_left s.left
  where
    by_left : (left : Option (List ℕ))
        → IfSome left (λ input. IfSome left (λ rest. (k : ℕ) → k + job.seg + length rest ≤ length input → k + job.seg ≤ job.limit → HasNoBad job (take k input)))
    by_left None = tt
    by_left (Some input) = λ k lost most. absurd (omega (arith, lost, some))
