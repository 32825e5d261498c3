-- The names that were read are lawful.
use Rattle.std.proofs.Common.{◌≡◌, ◌≢◌, ◌+◌, ◌-◌, ◌≤◌, ◌<◌, ℕ, Bool, true, false, not, nat_le, nat_lt, nat_eq, ◌&&◌, List, [], ◌∷◌, ◌++◌, length, take, get_or, Option, Some, None, refl, sym, ap, ◌∙◌, subst, arith, if◌then◌else◌, codes, append_assoc, rules}
use Rattle.std.specs.Prelude.{All, AllPairs, String, string_bytes}
use Rattle.std.specs.List.{ends_with, list_any}
use Rattle.std.specs.Str.{bytes_eq}
use Rattle.std.specs.declared.alloc.Global.{Global}
use Rattle.std.proofs.lemmas.Bool.{and_parts, leb-true, ltb-true}
use Rattle.std.proofs.lemmas.Bool.Decides.{Decides-eqb}
use Rattle.std.proofs.lemmas.List.{append-nil, length-append, take-map}
use Rattle.std.proofs.Math.Seq.{take-append_seam}
use Rattle.std.proofs.lemmas.List.Elements.{All-push}
use Rattle.std.proofs.lemmas.List.Folds.{list_any_at}
use Rattle.std.proofs.lemmas.List.Quantifiers.{all_pairs_push}
use Rattle.std.proofs.lemmas.Slice.Eq.{bytes_eq-Decides, ends_is}
use Rattle.relay_words.specs.Names.{AreNames, IsName, can_join, is_name, misnamed}
use Rattle.relay_words.specs.Words.{texts}

is_false : (b : Bool) → not b ≡ true → b ≡ false
is_false true e = absurd cc
is_false false e = refl

true_or_false : (b : Bool) → b ≡ true → b ≡ false → ⊥
true_or_false b t f = absurd cc

-- what the test says of a word
named : (word : List ℕ) → is_name word ≡ true → IsName word
named word e =
    let parts = and_parts (nat_le 1 (length word) && nat_le (length word) 255) (not (ends_with nat_eq word (codes ".out"))) e in
    let sizes = and_parts (nat_le 1 (length word)) (nat_le (length word) 255) parts.0 in
    record {
      some = leb-true 1 (length word) sizes.0;
      short = leb-true (length word) 255 sizes.1;
      no_outlet = λ front is. true_or_false (ends_with nat_eq word (codes ".out")) ((ends_is Decides-eqb word (codes ".out") _ refl).1 front is) (is_false _ parts.1);
    }

-- what holds of names while there are more to come
record AreSoFar (names : List (List ℕ)) : Type 0 where
  pub few : length names ≤ 256
  pub each : All IsName names
  pub differ : AllPairs (λ one other. one ≢ other) names

not_among : (names : List (List ℕ)) (word : List ℕ) → list_any (bytes_eq word) names ≡ false → (k : ℕ) (d : List ℕ) → k < length names → get_or names k d ≢ word
not_among names word e k d below = λ same.
    true_or_false (list_any (bytes_eq word) names)
    (list_any_at (bytes_eq word) names k d below ((bytes_eq-Decides word (get_or names k d)).1 (sym same))) e

joined : (names : List (List ℕ)) (word : List ℕ) → AreSoFar names → can_join names word ≡ true → AreSoFar (names ++ word ∷ [])
joined names word far e =
    let parts = and_parts (nat_lt (length names) 256 && is_name word) (not (list_any (bytes_eq word) names)) e in
    let front = and_parts (nat_lt (length names) 256) (is_name word) parts.0 in
    record {
      few = omega (arith, ltb-true (length names) 256 front.0, length-append names (word ∷ []));
      each = All-push IsName names word far.each (named word front.1);
      differ = all_pairs_push (λ one other. one ≢ other) names word far.differ (not_among names word (is_false _ parts.1));
    }

all_joined : (names words : List (List ℕ)) → AreSoFar names → misnamed names words ≡ None → AreSoFar (names ++ words)
all_joined names [] far e = subst (λ (x : List (List ℕ)). AreSoFar x) (sym (append-nil names)) far
all_joined names (word ∷ words) far e = by (can_join names word) refl (λ q. all_joined (names ++ word ∷ []) words (joined names word far q)) e
  where
    by : (b : Bool) → can_join names word ≡ b → (can_join names word ≡ true → misnamed (names ++ word ∷ []) words ≡ None → AreSoFar ((names ++ word ∷ []) ++ words))
        → ◌≡◌ {A = Option ℕ} (if b then misnamed (names ++ word ∷ []) words else Some (length names)) None → AreSoFar (names ++ word ∷ words)
    by true q others e = subst (λ (x : List (List ℕ)). AreSoFar x) (append_assoc names (word ∷ []) words) (others q e)
    by false q others e = absurd cc

none_yet : AreSoFar []
none_yet = record { few = omega arith; each = search rules; differ = search rules }

pub are_names : (name : List ℕ) (names : List (List ℕ)) → misnamed [] (name ∷ names) ≡ None → AreNames (name ∷ names)
are_names name names e =
    let far = all_joined [] (name ∷ names) none_yet e in
    record { some = omega arith; few = far.few; each = far.each; differ = far.differ }

-- ---- the loop that reads them

-- the words before the loop's place are those that it has read
pub front_is : (words rest : List (String Global)) (done : List (List ℕ)) → texts words ≡ done ++ texts rest → length words ≡ length done + length rest → texts (take (length words - length rest) words) ≡ done
front_is words rest done parts count =
    let at : length words - length rest ≡ length done = omega (arith, count) in
    sym (take-map string_bytes (length words - length rest) words)
    ∙ ap (λ (x : List (List ℕ)). take (length words - length rest) x) parts
    ∙ ap (λ (n : ℕ). take n (done ++ texts rest)) at
    ∙ take-append_seam done (texts rest)

pub stops_at : (all done rest behind : List (List ℕ)) (word : List ℕ) (at : ℕ) → misnamed [] all ≡ misnamed done rest → rest ≡ word ∷ behind → can_join done word ≡ false → at ≡ length done → Some at ≡ misnamed [] all
stops_at all done rest behind word at place next none a =
    sym (place ∙ ap (λ (x : List (List ℕ)). misnamed done x) next ∙ rw none (ap (λ (n : ℕ). Some n) (sym a)))

pub goes_on : (all done rest behind : List (List ℕ)) (word : List ℕ) → misnamed [] all ≡ misnamed done rest → rest ≡ word ∷ behind → can_join done word ≡ true → misnamed [] all ≡ misnamed (done ++ word ∷ []) behind
goes_on all done rest behind word place next joins = place ∙ ap (λ (x : List (List ℕ)). misnamed done x) next ∙ rw joins refl

pub length_on : {X : Type 0} (word : List ℕ) (done : List (List ℕ)) (rest behind : List X) (count : ℕ) → count ≡ length done + length rest → length behind + 1 ≡ length rest → count ≡ length (done ++ word ∷ []) + length behind
length_on word done rest behind count e r = rw (length-append done (word ∷ [])) omega (arith, e, r)
