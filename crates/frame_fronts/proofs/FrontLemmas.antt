-- One frame behind the other.
use Rattle.std.proofs.Common.{◌≡◌, ◌<◌, ◌≤◌, ◌+◌, ◌-◌, ℕ, zero, suc, Option, Some, None, List, [], ◌∷◌, ◌++◌, length, take, drop, refl, sym, ap, subst, ◌∙◌, arith, append_assoc, append-nil, inl, inr}
use Rattle.std.specs.Prelude.{IfNone, IsNone}
use Rattle.std.specs.List.{AllByRecursion}
use Rattle.std.proofs.lemmas.Grind.{flat_map-append}
use Rattle.std.proofs.lemmas.Bool.{cases_lt}
use Rattle.std.proofs.lemmas.List.{length-append, length-drop, drop-append-le, drop-drop, get_or-drop, take-append-drop, take-append-le, take_at}
use Rattle.std.proofs.Math.Seq.{take-append-add}
use Rattle.frame_model.specs.declared.framing.Framing.{Framing}
use Rattle.frame_model.specs.Spelling.{obstacle, spelling, text}
use Rattle.frame_model.specs.Cut.{IsBytes, Whole, front}
use Rattle.frame_model.proofs.FrameLemmas.{spelling_some}
use Rattle.frame_model.proofs.FrontLemmas.{front_shorter}
use Rattle.frame_model.proofs.LongestLemmas.{front_again, front_found}
use Rattle.frame_fronts.specs.Fronts.{HasNoFrame, IsFront, IsSpelt, IsWhole}

bytes_drop : (n : ℕ) (x : List ℕ) → IsBytes x → IsBytes (drop n x)
bytes_drop n x h i = rw get_or-drop (h (n + i))

bytes_take : (n : ℕ) (x : List ℕ) → IsBytes x → IsBytes (take n x)
bytes_take zero x h i = omega arith
bytes_take (suc n) [] h i = h i
bytes_take (suc n) (b ∷ x) h zero = h zero
bytes_take (suc n) (b ∷ x) h (suc i) = bytes_take n x (λ k. h (suc k)) i

all_more : (P : List ℕ → Type 0) (ps : List (List ℕ)) (p : List ℕ) → AllByRecursion P ps → P p → AllByRecursion P (ps ++ p ∷ [])
all_more P [] p each here = (here, tt)
all_more P (q ∷ ps) p each here = (each.0, all_more P ps p each.1 here)

pub text_more : (f : Framing) (ps : List (List ℕ)) (p : List ℕ) → text f (ps ++ p ∷ []) ≡ text f ps ++ spelling f p
text_more f ps p = flat_map-append (spelling f) ps (p ∷ []) ∙ ap (λ (t : List ℕ). text f ps ++ t) (append-nil (spelling f p))

-- a frame has a byte
pub some : (f : Framing) (max : ℕ) (x : List ℕ) (from n end : ℕ) → IsWhole f max x from n end → 0 < end
some f max x from n end whole = omega (arith, front_shorter f max x (take n (drop from x)) (drop end x) whole.whole, length-drop end x, whole.within.1)

-- one frame more
pub one_more : (input output : Framing) (max : ℕ) (x : List ℕ) (len frames from n end : ℕ) (payloads : List (List ℕ)) → IsBytes x → IsFront input output max x len frames payloads
    → IsWhole input max (drop len x) from n end → (IsNone (obstacle input (take n (drop from (drop len x)))) → IsNone (obstacle output (take n (drop from (drop len x)))))
    → IsFront input output max x (len + end) (frames + 1) (payloads ++ take n (drop from (drop len x)) ∷ [])
one_more input output max x len frames from n end payloads fits front whole spelt =
    let rest = drop len x in
    let p = take n (drop from rest) in
    let more = drop end rest in
    let found = front_found input max rest p more (bytes_drop len x fits) whole.whole in
    let one = spelling input p in
    let before = text input payloads in
    let size : end ≡ length one = omega (arith, ap length found.parts, length-append one more, length-drop end rest, whole.within.1) in
    record {
      counted = omega (arith, front.counted, length-append payloads (p ∷ []));
      size = omega (arith, front.size, size, ap length (text_more input payloads p), length-append before one);
      parts =
          front.parts ∙ ap (λ (t : List ℕ). before ++ t) (found.parts ∙ ap (λ (t : List ℕ). one ++ t) (drop-drop end len x))
          ∙ sym (append_assoc before one (drop (len + end) x)) ∙ ap (λ (t : List ℕ). t ++ drop (len + end) x) (sym (text_more input payloads p));
      each = all_more (λ p. (length p ≤ max) × IsNone (obstacle input p) × IsNone (obstacle output p)) payloads p front.each (found.within, found.possible, spelt found.possible);
    }

-- the same, spelt anew
pub one_more_spelt : (input output : Framing) (max : ℕ) (x : List ℕ) (len frames from n more : ℕ) (old : List ℕ) (at : ℕ) (room new : List ℕ) (end last : ℕ) → IsBytes x
    → IsSpelt input output max x len frames old at room end → IsWhole input max (drop len x) from n more → IsNone (obstacle output (take n (drop from (drop len x))))
    → last ≡ end + length (spelling output (take n (drop from (drop len x)))) → take last new ≡ take end room ++ spelling output (take n (drop from (drop len x)))
    → IsSpelt input output max x (len + more) (frames + 1) old at new last
one_more_spelt input output max x len frames from n more old at room new end last fits so_far whole spelt last_is put =
    let p = take n (drop from (drop len x)) in
    let one = spelling output p in
    let before = text output so_far.payloads in
    record {
      payloads = so_far.payloads ++ p ∷ [];
      front = one_more input output max x len frames from n more so_far.payloads fits so_far.front whole (λ possible. spelt);
      end_is = omega (arith, last_is, so_far.end_is, ap length (text_more output so_far.payloads p), length-append before one);
      put = put ∙ ap (λ (t : List ℕ). t ++ one) so_far.put ∙ append_assoc (take at old) before one ∙ ap (λ (t : List ℕ). take at old ++ t) (sym (text_more output so_far.payloads p));
    }

-- a payload keeps to its limit
pub front_limit : (f : Framing) (max : ℕ) (x p more : List ℕ) → IsBytes x → front f max x ≡ Whole p more → length p ≤ max
front_limit f max x p more fits e = (front_found f max x p more fits e).within

-- a frame that is whole is so for a smaller limit that it keeps to
pub whole_narrower : (f : Framing) (small max : ℕ) (x p more : List ℕ) → IsBytes x → front f max x ≡ Whole p more → length p ≤ small → front f small x ≡ Whole p more
whole_narrower f small max x p more fits e few =
    let found = front_found f max x p more fits e in
    subst (λ (t : List ℕ). front f small t ≡ Whole p more) (sym found.parts) (front_again f small p more few found.possible)

-- a frame that is whole is so whatever stands behind it
whole_followed : (f : Framing) (max : ℕ) (y z : List ℕ) (from n end : ℕ) → IsBytes y → IsWhole f max y from n end → IsWhole f max (y ++ z) from n end
whole_followed f max y z from n end fits is =
    let p = take n (drop from y) in
    let more = drop end y in
    let found = front_found f max y p more fits is.whole in
    let payload : take n (drop from (y ++ z)) ≡ p = ap (λ (t : List ℕ). take n t) (drop-append-le from y z (omega (arith, is.within.0, is.within.1))) ∙ take-append-le n (drop from y) z (omega (arith, is.within.0, is.within.1, length-drop from y)) in
    let rest : drop end (y ++ z) ≡ more ++ z = drop-append-le end y z is.within.1 in
    let parts : y ++ z ≡ spelling f p ++ (more ++ z) = ap (λ (t : List ℕ). t ++ z) found.parts ∙ append_assoc (spelling f p) more z in
    record {
      whole = rw (payload, rest) (subst (λ (t : List ℕ). front f max t ≡ Whole p (more ++ z)) (sym parts) (front_again f max p (more ++ z) found.within found.possible));
      within = (is.within.0, omega (arith, is.within.1, length-append y z));
    }

pub whole_before : (f : Framing) (max : ℕ) (x : List ℕ) (k from n end : ℕ) → IsBytes x → IsWhole f max (take k x) from n end → IsWhole f max x from n end
whole_before f max x k from n end fits is =
    subst (λ (t : List ℕ). IsWhole f max t from n end) (take-append-drop k x) (whole_followed f max (take k x) (drop k x) from n end (bytes_take k x fits) is)

-- and without some of what stands behind it
whole_cut : (f : Framing) (max : ℕ) (y z p more : List ℕ) → IsBytes (y ++ z) → front f max (y ++ z) ≡ Whole p more → length z ≤ length more → front f max y ≡ Whole p (take (length more - length z) more)
whole_cut f max y z p more fits e few =
    let found = front_found f max (y ++ z) p more fits e in
    let one = spelling f p in
    let k = length more - length z in
    let size : length y ≡ length one + k = omega (arith, few, ap length found.parts, length-append y z, length-append one more) in
    let parts : y ≡ one ++ take k more = sym (take_at y z (length y) refl) ∙ ap (λ (n : ℕ). take n (y ++ z)) size ∙ ap (λ (t : List ℕ). take (length one + k) t) found.parts ∙ take-append-add one more k in
    subst (λ (t : List ℕ). front f max t ≡ Whole p (take k more)) (sym parts) (front_again f max p (take k more) found.within found.possible)

-- where no whole frame stands before the last `k` bytes, less stands behind one
pub few_behind : (f : Framing) (max : ℕ) (x : List ℕ) (k : ℕ) → IsBytes x → k ≤ length x → HasNoFrame f max (take (length x - k) x) → (p more : List ℕ) → front f max x ≡ Whole p more → length more < k
few_behind f max x k fits within none p more e =
    let n = length x - k in
    let parts = take-append-drop n x in
    elim (cases_lt (length more) k) [
      | inl less ↦ less
      | inr enough ↦ absurd (none p _ (whole_cut f max (take n x) (drop n x) p more (subst IsBytes (sym parts) fits) (subst (λ (t : List ℕ). front f max t ≡ Whole p more) (sym parts) e) (omega (arith, enough, length-drop n x, within))))
    ]

pub none_then : {A : Type 0} (r : Option A) {P Q : Type 0} → IfNone r P → (P → Q) → IfNone r Q
none_then None here then = then here
none_then (Some x) here then = tt

-- payloads that are small enough are so for a greater limit too
each_wider : (input output : Framing) (small max : ℕ) → small ≤ max → (ps : List (List ℕ)) → AllByRecursion (λ p. (length p ≤ small) × IsNone (obstacle input p) × IsNone (obstacle output p)) ps
    → AllByRecursion (λ p. (length p ≤ max) × IsNone (obstacle input p) × IsNone (obstacle output p)) ps
each_wider input output small max less [] each = tt
each_wider input output small max less (p ∷ ps) each = ((omega (arith, each.0.0, less), each.0.1, each.0.2), each_wider input output small max less ps each.1)

pub front_wider : (input output : Framing) (small max : ℕ) (x : List ℕ) (len frames : ℕ) (ps : List (List ℕ)) → small ≤ max → IsFront input output small x len frames ps → IsFront input output max x len frames ps
front_wider input output small max x len frames ps less front = record {
  counted = front.counted;
  size = front.size;
  parts = front.parts;
  each = each_wider input output small max less ps front.each;
}

-- frames behind frames
all_joined : (P : List ℕ → Type 0) (ps qs : List (List ℕ)) → AllByRecursion P ps → AllByRecursion P qs → AllByRecursion P (ps ++ qs)
all_joined P [] qs each others = others
all_joined P (p ∷ ps) qs each others = (each.0, all_joined P ps qs each.1 others)

pub fronts_joined : (input output : Framing) (max : ℕ) (x : List ℕ) (len frames n more : ℕ) (ps qs : List (List ℕ)) → IsFront input output max x len frames ps → IsFront input output max (drop len x) n more qs → IsFront input output max x (len + n) (frames + more) (ps ++ qs)
fronts_joined input output max x len frames n more ps qs front behind =
    let joined : text input (ps ++ qs) ≡ text input ps ++ text input qs = flat_map-append (spelling input) ps qs in
    record {
      counted = omega (arith, front.counted, behind.counted, length-append ps qs);
      size = omega (arith, front.size, behind.size, ap length joined, length-append (text input ps) (text input qs));
      parts =
          front.parts ∙ ap (λ (t : List ℕ). text input ps ++ t) (behind.parts ∙ ap (λ (t : List ℕ). text input qs ++ t) (drop-drop n len x))
          ∙ sym (append_assoc (text input ps) (text input qs) (drop (len + n) x)) ∙ ap (λ (t : List ℕ). t ++ drop (len + n) x) (sym joined);
      each = all_joined (λ p. (length p ≤ max) × IsNone (obstacle input p) × IsNone (obstacle output p)) ps qs front.each behind.each;
    }

-- frames have a byte each, and lie within the bytes
text_long : (f : Framing) (ps : List (List ℕ)) → length ps ≤ length (text f ps)
text_long f [] = omega arith
text_long f (p ∷ ps) = omega (arith, text_long f ps, spelling_some f p, length-append (spelling f p) (text f ps))

pub front_few : (input output : Framing) (max : ℕ) (x : List ℕ) (len frames : ℕ) (ps : List (List ℕ)) → IsFront input output max x len frames ps → (frames ≤ len) × (len ≤ length x)
front_few input output max x len frames ps front = (
  omega (arith, front.counted, front.size, text_long input ps),
  omega (arith, front.size, ap length front.parts, length-append (text input ps) (drop len x)),
)
