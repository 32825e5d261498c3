-- How heads are told and written: the laws of each kind of head.
use Rattle.std.proofs.Common.{◌≡◌, ◌≢◌, ◌<◌, ◌≤◌, ◌+◌, ◌*◌, ◌%◌, ◌/◌, ◌^◌, ◌||◌, ◌⊎◌, inl, inr, ℕ, zero, suc, Bool, true, false, cond, nat_lt, List, [], ◌∷◌, ◌++◌, length, take, drop, get_or, Some, None, refl, sym, ap, ◌∙◌, arith, lit<}
use Rattle.std.specs.Prelude.{◌↔◌}
use Rattle.std.specs.Int.{Width, w16, w32, byte_len, from_be_bytes, to_be_bytes}
use Rattle.std.proofs.lemmas.Bool.{cases_lt, ltb-true, ltb-false, lt-ltb, le-ltb}
use Rattle.std.proofs.lemmas.List.{append-nil, length-append, length-take, length-drop, take-append-drop, take-append-le, take_at}
use Rattle.std.proofs.lemmas.Nat.{be_bytes_2, be_bytes_4, from_be_bytes-to_be_bytes_2, from_be_bytes-to_be_bytes_4}
use Rattle.frame_model.specs.declared.framing.Framing.{Framing}
use Rattle.frame_model.specs.declared.framing.Framing.TheVariants.{Len4, Len2, Line, VLen}
use Rattle.frame_model.specs.declared.head.Head.{Head}
use Rattle.frame_model.specs.declared.head.Head.TheVariants.{Short, Broken, Told}
use Rattle.frame_model.specs.Heads.{Heads, IsSmallHead, Layout, Counted, Lines, layout, behind_group, group_head, grouped, groups, numbers, number_head, told_by, told_in}
use Rattle.frame_model.specs.Cut.{IsBadHead, IsBytes, IsGroupHead, IsNumberHead}

-- What holds of the heads of a framing. Each law of frames is shown from these.
pub record AreLawful (heads : Heads) : Type 0 where
  -- a head has a byte, lies within the input, and is as long as it is written
  pub some : (x : List ℕ) (h n : ℕ) → heads.tells x ≡ Told h n → 0 < h
  pub within : (x : List ℕ) (h n : ℕ) → heads.tells x ≡ Told h n → h ≤ length x
  pub counted : (x : List ℕ) (h n : ℕ) → heads.tells x ≡ Told h n → h ≡ length (heads.writes n)
  -- nothing is told of nothing
  pub empty : heads.tells [] ≡ Short
  -- what was told stays, whatever comes
  pub more : (x z : List ℕ) (h n : ℕ) → heads.tells x ≡ Told h n → heads.tells (x ++ z) ≡ Told h n
  pub broken : (x z : List ℕ) (k : ℕ) → heads.tells x ≡ Broken k → heads.tells (x ++ z) ≡ Broken k
  -- what is told of bytes is what was written, and the other way round
  pub spelt : (x : List ℕ) (h n : ℕ) → IsBytes x → heads.tells x ≡ Told h n → take h x ≡ heads.writes n
  pub below : (x : List ℕ) (h n : ℕ) → IsBytes x → heads.tells x ≡ Told h n → n < heads.limit
  pub again : (n : ℕ) (x : List ℕ) → n < heads.limit → heads.tells (heads.writes n ++ x) ≡ Told (length (heads.writes n)) n
  -- how long heads get
  pub short : (x : List ℕ) → heads.tells x ≡ Short → length x < heads.longest
  pub written : (n : ℕ) → (0 < length (heads.writes n)) × (length (heads.writes n) ≤ heads.longest)
  pub few : heads.longest ≤ 4
  -- each length of two bytes can be told
  pub wide : 2 ^ 16 ≤ heads.limit

abbrev pub IsLawful : Layout → Type 0
IsLawful (Counted heads) = AreLawful heads
IsLawful Lines = Unit {0}

picked : {A : Type 0} (b : Bool) (x y z : A) → cond b x y ≡ z → ((b ≡ true) × (x ≡ z)) ⊎ ((b ≡ false) × (y ≡ z))
picked true x y z e = inl (refl, e)
picked false x y z e = inr (refl, e)

abbrev pub head_len : Head → ℕ
head_len (Told h n) = h
head_len v = 0

abbrev pub head_number : Head → ℕ
head_number (Told h n) = n
head_number v = 0

-- ---- a number of a fixed width

pub record IsNumber (w : Width) (limit : ℕ) : Type 0 where
  pub wide : 0 < byte_len w
  pub len : (n : ℕ) → length (to_be_bytes w n) ≡ byte_len w
  pub back : (x : List ℕ) → length x ≡ byte_len w → IsBytes x → to_be_bytes w (from_be_bytes w x) ≡ x
  pub again : (n : ℕ) → n < limit → from_be_bytes w (to_be_bytes w n) ≡ n
  pub below : (x : List ℕ) → IsBytes x → from_be_bytes w x < limit
  pub few : byte_len w ≤ 4
  pub great : 2 ^ 16 ≤ limit

number4 : IsNumber w32 (2 ^ 32)
number4 = record {
  wide = lit< tt;
  len = λ n. refl;
  back = λ x len h. be_bytes_4 x _ len h refl;
  again = λ n lt. from_be_bytes-to_be_bytes_4 n lt;
  below = λ x h. omega (arith, h 0, h 1, h 2, h 3);
  few = omega arith;
  great = omega arith;
}

number2 : IsNumber w16 (2 ^ 16)
number2 = record {
  wide = lit< tt;
  len = λ n. refl;
  back = λ x len h. be_bytes_2 x _ len h refl;
  again = λ n lt. from_be_bytes-to_be_bytes_2 n lt;
  below = λ x h. omega (arith, h 0, h 1);
  few = omega arith;
  great = omega arith;
}

bytes_take : (n : ℕ) (x : List ℕ) → IsBytes x → IsBytes (take n x)
bytes_take zero x h i = omega arith
bytes_take (suc n) [] h i = h i
bytes_take (suc n) (b ∷ x) h zero = h zero
bytes_take (suc n) (b ∷ x) h (suc i) = bytes_take n x (λ k. h (suc k)) i

pub told_number : (w : Width) (x : List ℕ) (h n : ℕ) → number_head w x ≡ Told h n → IsNumberHead w x h n
told_number w x h n e = elim (picked (nat_lt (length x) (byte_len w)) Short (Told (byte_len w) (from_be_bytes w (take (byte_len w) x))) (Told h n) e) [
  | inl a ↦ absurd cc
  | inr a ↦ record { whole = ltb-false _ _ a.0; size = sym (ap head_len a.1); number = sym (ap head_number a.1) }
]

pub never_broken : (w : Width) (x : List ℕ) (k : ℕ) → number_head w x ≢ Broken k
never_broken w x k e = elim (picked (nat_lt (length x) (byte_len w)) Short (Told (byte_len w) (from_be_bytes w (take (byte_len w) x))) (Broken k) e) [
  | inl a ↦ absurd cc
  | inr a ↦ absurd cc
]

number_told : (w : Width) (x : List ℕ) → byte_len w ≤ length x → number_head w x ≡ Told (byte_len w) (from_be_bytes w (take (byte_len w) x))
number_told w x long = rw (le-ltb (length x) (byte_len w) long) refl

pub number_in_words : (w : Width) (x : List ℕ) (h n : ℕ) → (number_head w x ≡ Told h n) ↔ IsNumberHead w x h n
number_in_words w x h n = (told_number w x h n, λ is. rw (is.size, is.number) (number_told w x is.whole))

-- less than a head has fewer bytes
number_short : (w : Width) (x : List ℕ) → number_head w x ≡ Short → length x < byte_len w
number_short w x e = elim (picked (nat_lt (length x) (byte_len w)) Short (Told (byte_len w) (from_be_bytes w (take (byte_len w) x))) Short e) [
  | inl a ↦ ltb-true _ _ a.0
  | inr a ↦ absurd cc
]

numbers_lawful : (w : Width) (limit : ℕ) → IsNumber w limit → AreLawful (numbers w limit)
numbers_lawful w limit num = record {
  some = λ x h n e. let t = told_number w x h n e in omega (arith, t.size, num.wide);
  within = λ x h n e. let t = told_number w x h n e in omega (arith, t.size, t.whole);
  counted = λ x h n e. (told_number w x h n e).size ∙ sym (num.len n);
  empty = rw (lt-ltb 0 (byte_len w) num.wide) refl;
  more = λ x z h n e. let t = told_number w x h n e in
      number_told w (x ++ z) (omega (arith, t.whole, length-append x z)) ∙ (rw (take-append-le (byte_len w) x z t.whole, t.size, t.number) refl);
  broken = λ x z k e. absurd (never_broken w x k e);
  spelt = λ x h n bytes e. let t = told_number w x h n e in
      rw (t.size, t.number) (sym (num.back (take (byte_len w) x) (omega (arith, length-take (byte_len w) x, t.whole)) (bytes_take (byte_len w) x bytes)));
  below = λ x h n bytes e. let t = told_number w x h n e in rw t.number (num.below (take (byte_len w) x) (bytes_take (byte_len w) x bytes));
  again = λ n x lt. let len = num.len n in
      number_told w (to_be_bytes w n ++ x) (omega (arith, len, length-append (to_be_bytes w n) x)) ∙ (rw (take_at (to_be_bytes w n) x (byte_len w) len, num.again n lt, len) refl);
  short = number_short w;
  written = λ n. (omega (arith, num.len n, num.wide), omega (arith, num.len n));
  few = num.few;
  wide = num.great;
}

-- ---- a number in groups of 7 bits

abbrev pub room : ℕ → ℕ
room zero = 1
room (suc most) = 128 * room most

some_room : (most : ℕ) → 0 < room most
some_room zero = omega arith
some_room (suc most) = let s = some_room most in omega (arith, s)

pub record IsToldGroups (most : ℕ) (alone : Bool) (x : List ℕ) (h n : ℕ) : Type 0 where
  pub some : 0 < h
  pub long : h ≤ length x
  pub counted : h ≡ length (groups most n)
  pub nonzero : alone ≡ false → 0 < n
  pub below : n < room most
  pub spelt : IsBytes x → take h x ≡ groups most n

record IsBehind (low : ℕ) (v : Head) (h n : ℕ) : Type 0 where
  h' : ℕ
  n' : ℕ
  inner : v ≡ Told h' n'
  h_is : h ≡ suc h'
  n_is : n ≡ low + 128 * n'

behind_is : (low : ℕ) (v : Head) (h n : ℕ) → behind_group low v ≡ Told h n → IsBehind low v h n
behind_is low Short h n e = absurd cc
behind_is low (Broken k) h n e = absurd cc
behind_is low (Told h' n') h n e = record { h' = h'; n' = n'; inner = refl; h_is = sym (ap head_len e); n_is = sym (ap head_number e) }

-- a number behind a group
one_group : (most n : ℕ) → n < 128 → groups (suc most) n ≡ n ∷ []
one_group most n lt = rw (lt-ltb n 128 lt) refl

next_group : (most low n' n : ℕ) → low < 128 → 0 < n' → n ≡ low + 128 * n' → groups (suc most) n ≡ (128 + low) ∷ groups most n'
next_group most low n' n less some is =
    let rem : n % 128 ≡ low = omega (arith, less, is) in
    let quot : n / 128 ≡ n' = omega (arith, less, is) in
    let great : 128 ≤ n = omega (arith, some, is) in
    rw (le-ltb n 128 great, rem, quot) refl

or_some : (alone : Bool) (b : ℕ) → alone || nat_lt 0 b ≡ true → alone ≡ false → 0 < b
or_some true b t f = absurd cc
or_some false b t f = ltb-true 0 b t

group_told : (most : ℕ) (alone : Bool) (x : List ℕ) (h n : ℕ) → group_head most alone x ≡ Told h n → IsToldGroups most alone x h n
group_told zero alone x h n e = absurd cc
group_told (suc most) alone [] h n e = absurd cc
group_told (suc most) alone (b ∷ x) h n e =
    elim (picked (nat_lt b 128) (cond (alone || nat_lt 0 b) (Told 1 b) (Broken 1)) (behind_group (b % 128) (group_head most false x)) (Told h n) e) [
      | inl a ↦ elim (picked (alone || nat_lt 0 b) (Told 1 b) (Broken 1) (Told h n) a.1) [
        | inl c ↦
            let lt : b < 128 = ltb-true _ _ a.0 in
            let h_is : 1 ≡ h = ap head_len c.1 in
            let n_is : b ≡ n = ap head_number c.1 in
            let one : groups (suc most) n ≡ n ∷ [] = one_group most n (omega (arith, lt, n_is)) in
            record {
              some = omega (arith, h_is);
              long = omega (arith, h_is);
              counted = sym h_is ∙ ap length (sym one);
              nonzero = λ f. let s = or_some alone b c.0 f in omega (arith, s, n_is);
              below = let s = some_room most in omega (arith, s, lt, n_is);
              spelt = λ bytes. (rw (← h_is) refl) ∙ (ap (λ (k : ℕ). k ∷ []) n_is) ∙ sym one;
            }
        | inr c ↦ absurd cc
      ]
      | inr a ↦
          let great : 128 ≤ b = ltb-false _ _ a.0 in
          let i = behind_is (b % 128) (group_head most false x) h n a.1 in
          let t = group_told most false x i.h' i.n' i.inner in
          let less : b % 128 < 128 = omega arith in
          let more : groups (suc most) n ≡ (128 + b % 128) ∷ groups most i.n' = next_group most (b % 128) i.n' n less (t.nonzero refl) i.n_is in
          record {
            some = omega (arith, i.h_is);
            long = let l = t.long in omega (arith, i.h_is, l);
            counted = i.h_is ∙ ap suc t.counted ∙ ap length (sym more);
            nonzero = λ f. let s = t.nonzero refl in omega (arith, s, i.n_is);
            below = let l = t.below in omega (arith, less, l, i.n_is);
            spelt = λ bytes.
                let high : b ≡ 128 + b % 128 = let lt = bytes 0 in omega (arith, lt, great) in
                ap (λ (k : ℕ). take k (b ∷ x)) i.h_is ∙ (λ j. high j ∷ t.spelt (λ k. bytes (suc k)) j) ∙ sym more;
          }
    ]

group_more : (most : ℕ) (alone : Bool) (x z : List ℕ) → group_head most alone x ≢ Short → group_head most alone (x ++ z) ≡ group_head most alone x
group_more zero alone x z some = refl
group_more (suc most) alone [] z some = absurd (some refl)
group_more (suc most) alone (b ∷ x) z some =
    elim (cases_lt b 128) [
      | inl lt ↦ rw (lt-ltb b 128 lt) refl
      | inr ge ↦
          let here : group_head (suc most) alone (b ∷ x) ≡ behind_group (b % 128) (group_head most false x) = rw (le-ltb b 128 ge) refl in
          let there : group_head (suc most) alone (b ∷ (x ++ z)) ≡ behind_group (b % 128) (group_head most false (x ++ z)) = rw (le-ltb b 128 ge) refl in
          there ∙ ap (behind_group (b % 128)) (group_more most false x z (λ short. some (here ∙ ap (behind_group (b % 128)) short))) ∙ sym here
    ]

group_one : (most : ℕ) (alone : Bool) (n : ℕ) (x : List ℕ) → n < 128 → (alone || nat_lt 0 n ≡ true) → group_head (suc most) alone (groups (suc most) n ++ x) ≡ Told (length (groups (suc most) n)) n
group_one most alone n x lt some = rw (lt-ltb n 128 lt) (rw (lt-ltb n 128 lt, some) refl)

group_next : (most low n' n : ℕ) (alone : Bool) (x : List ℕ) → low < 128 → 0 < n' → n ≡ low + 128 * n' → group_head most false (groups most n' ++ x) ≡ Told (length (groups most n')) n'
    → group_head (suc most) alone (groups (suc most) n ++ x) ≡ Told (length (groups (suc most) n)) n
group_next most low n' n alone x under some parts rest =
    let first : groups (suc most) n ≡ (128 + low) ∷ groups most n' = next_group most low n' n under some parts in
    let high : 128 ≤ 128 + low = omega arith in
    let rem : (128 + low) % 128 ≡ low = omega (arith, under) in
    rw first (rw (le-ltb (128 + low) 128 high, rem, rest) (ap (λ (k : ℕ). Told (suc (length (groups most n'))) k) (sym parts)))

group_again : (most : ℕ) (alone : Bool) (n : ℕ) (x : List ℕ) → n < room (suc most) → (alone || nat_lt 0 n ≡ true) → group_head (suc most) alone (groups (suc most) n ++ x) ≡ Told (length (groups (suc most) n)) n
group_again zero alone n x less some = group_one zero alone n x less some
group_again (suc most) alone n x less some =
    elim (cases_lt n 128) [
      | inl lt ↦ group_one (suc most) alone n x lt some
      | inr ge ↦
          let small : n / 128 < room (suc most) = omega (arith, less) in
          let more : 0 < n / 128 = omega (arith, ge) in
          let parts : n ≡ n % 128 + 128 * (n / 128) = omega arith in
          let under : n % 128 < 128 = omega arith in
          group_next (suc most) (n % 128) (n / 128) n alone x under more parts (group_again most false (n / 128) x small (lt-ltb 0 (n / 128) more))
    ]

-- less than a head has fewer bytes than the longest
group_short : (most : ℕ) (alone : Bool) (x : List ℕ) → group_head most alone x ≡ Short → length x < most
group_short zero alone x e = absurd cc
group_short (suc most) alone [] e = omega arith
group_short (suc most) alone (b ∷ x) e =
    elim (picked (nat_lt b 128) (cond (alone || nat_lt 0 b) (Told 1 b) (Broken 1)) (behind_group (b % 128) (group_head most false x)) Short e) [
      | inl a ↦ elim (picked (alone || nat_lt 0 b) (Told 1 b) (Broken 1) Short a.1) [
        | inl c ↦ absurd cc
        | inr c ↦ absurd cc
      ]
      | inr a ↦ let few = group_short most false x (behind_short (b % 128) (group_head most false x) a.1) in omega (arith, few)
    ]
  where
    behind_short : (low : ℕ) (v : Head) → behind_group low v ≡ Short → v ≡ Short
    behind_short low Short e = refl
    behind_short low (Broken k) e = absurd cc
    behind_short low (Told h n) e = absurd cc

-- a length has a byte, and no more than there may be
groups_size : (most n : ℕ) → (0 < length (groups (suc most) n)) × (length (groups (suc most) n) ≤ suc most)
groups_size zero n = elim (cases_lt n 128) [
  | inl lt ↦ rw (lt-ltb n 128 lt) (omega arith, omega arith)
  | inr ge ↦ rw (le-ltb n 128 ge) (omega arith, omega arith)
]
groups_size (suc most) n = elim (cases_lt n 128) [
  | inl lt ↦ rw (lt-ltb n 128 lt) (omega arith, omega arith)
  | inr ge ↦ let rest = groups_size most (n / 128) in rw (le-ltb n 128 ge) (omega arith, omega (arith, rest.1))
]

grouped_lawful : AreLawful grouped
grouped_lawful = record {
  some = λ x h n e. (group_told 4 true x h n e).some;
  within = λ x h n e. (group_told 4 true x h n e).long;
  counted = λ x h n e. (group_told 4 true x h n e).counted;
  empty = refl;
  more = λ x z h n e. group_more 4 true x z (λ short. told_no_short h n (sym e ∙ short)) ∙ e;
  broken = λ x z k e. group_more 4 true x z (λ short. broken_no_short k (sym e ∙ short)) ∙ e;
  spelt = λ x h n bytes e. (group_told 4 true x h n e).spelt bytes;
  below = λ x h n bytes e. (group_told 4 true x h n e).below;
  again = λ n x lt. group_again 3 true n x lt refl;
  short = λ x e. group_short 4 true x e;
  written = λ n. groups_size 3 n;
  few = omega arith;
  wide = omega arith;
}
  where
    told_no_short : (h n : ℕ) → Told h n ≡ Short → ⊥
    told_no_short h n e = absurd cc

    broken_no_short : (k : ℕ) → Broken k ≡ Short → ⊥
    broken_no_short k e = absurd cc

-- ---- the same in words

pub group_in_words : (x : List ℕ) (h n : ℕ) → IsBytes x → (group_head 4 true x ≡ Told h n) ↔ IsGroupHead x h n
group_in_words x h n bytes = (
  λ e. let t = group_told 4 true x h n e in record { below = t.below; size = t.counted; begins = t.spelt bytes },
  λ is.
      ap (λ (y : List ℕ). group_head 4 true y) (sym (take-append-drop h x) ∙ ap (λ (y : List ℕ). y ++ drop h x) is.begins)
      ∙ group_again 3 true n (drop h x) is.below refl ∙ ap (λ (k : ℕ). Told k n) (sym is.size),
)

-- bytes that are no head of at most so many groups, where the first is alone or behind another
record AreNoHead (most : ℕ) (alone : Bool) (x : List ℕ) (k : ℕ) : Type 0 where
  few : k ≤ most
  some : (0 < k) ⊎ (most ≡ 0)
  long : k ≤ length x
  high : (i : ℕ) → suc i < k → 128 ≤ get_or x i 0
  last : (i : ℕ) → suc i ≡ k → (((alone ≡ false) ⊎ (0 < i)) × (get_or x i 0 ≡ 0)) ⊎ ((k ≡ most) × (128 ≤ get_or x i 0))

abbrev head_bytes : Head → ℕ
head_bytes (Broken k) = k
head_bytes v = 0

behind_broken : (low : ℕ) (v : Head) (k : ℕ) → behind_group low v ≡ Broken k → (j : ℕ) × (v ≡ Broken j) × (k ≡ suc j)
behind_broken low Short k e = absurd cc
behind_broken low (Broken j) k e = (j, refl, sym (ap head_bytes e))
behind_broken low (Told h n) k e = absurd cc

none_some : (alone : Bool) (b : ℕ) → alone || nat_lt 0 b ≡ false → (alone ≡ false) × (b ≡ 0)
none_some true b e = absurd cc
none_some false b e = (refl, omega (arith, ltb-false 0 b e))

-- one group more in front
wider_no_head : (most : ℕ) (alone : Bool) (b : ℕ) (x : List ℕ) (k j : ℕ) → k ≡ suc j → 128 ≤ b → AreNoHead most false x j → AreNoHead (suc most) alone (b ∷ x) k
wider_no_head most alone b x k j is great inner = record {
  few = omega (arith, is, inner.few);
  some = inl (omega (arith, is));
  long = omega (arith, is, inner.long);
  high = higher;
  last = latest;
}
  where
    higher : (i : ℕ) → suc i < k → 128 ≤ get_or (b ∷ x) i 0
    higher zero lt = great
    higher (suc i) lt = inner.high i (omega (arith, lt, is))

    latest : (i : ℕ) → suc i ≡ k → (((alone ≡ false) ⊎ (0 < i)) × (get_or (b ∷ x) i 0 ≡ 0)) ⊎ ((k ≡ suc most) × (128 ≤ get_or (b ∷ x) i 0))
    latest zero at = elim inner.some [
      | inl more ↦ absurd (omega (arith, more, at, is))
      | inr none ↦ inr (omega (arith, none, at), great)
    ]
    latest (suc i) at = elim (inner.last i (omega (arith, at, is))) [
      | inl ended ↦ inl (inr (omega arith), ended.1)
      | inr full ↦ inr (omega (arith, full.0, is), full.1)
    ]

no_head_is : (most : ℕ) (alone : Bool) (x : List ℕ) (k : ℕ) → group_head most alone x ≡ Broken k → AreNoHead most alone x k
no_head_is zero alone x k e =
    let none : k ≡ 0 = sym (ap head_bytes e) in
    record { few = omega (arith, none); some = inr refl; long = omega (arith, none); high = λ i lt. absurd (omega (arith, none, lt)); last = λ i is. absurd (omega (arith, none, is)) }
no_head_is (suc most) alone [] k e = absurd cc
no_head_is (suc most) alone (b ∷ x) k e =
    elim (picked (nat_lt b 128) (cond (alone || nat_lt 0 b) (Told 1 b) (Broken 1)) (behind_group (b % 128) (group_head most false x)) (Broken k) e) [
      | inl a ↦ elim (picked (alone || nat_lt 0 b) (Told 1 b) (Broken 1) (Broken k) a.1) [
        | inl c ↦ absurd cc
        | inr c ↦
            let one : 1 ≡ k = ap head_bytes c.1 in
            let is = none_some alone b c.0 in
            record { few = omega (arith, one); some = inl (omega (arith, one)); long = omega (arith, one); high = λ i lt. absurd (omega (arith, one, lt)); last = first_is one is }
      ]
      | inr a ↦
          let great : 128 ≤ b = ltb-false _ _ a.0 in
          let i = behind_broken (b % 128) (group_head most false x) k a.1 in
          wider_no_head most alone b x k i.0 i.2 great (no_head_is most false x i.0 i.1)
    ]
  where
    first_is : 1 ≡ k → (alone ≡ false) × (b ≡ 0) → (i : ℕ) → suc i ≡ k → (((alone ≡ false) ⊎ (0 < i)) × (get_or (b ∷ x) i 0 ≡ 0)) ⊎ ((k ≡ suc most) × (128 ≤ get_or (b ∷ x) i 0))
    first_is one is zero at = inl (inl is.0, is.1)
    first_is one is (suc i) at = absurd (omega (arith, one, at))

no_head_from : (most : ℕ) (alone : Bool) (x : List ℕ) (k : ℕ) → AreNoHead most alone x k → group_head most alone x ≡ Broken k
no_head_from zero alone x k is = let few = is.few in ap Broken (omega (arith, few))
no_head_from (suc most) alone [] k is = elim is.some [ inl more ↦ let long = is.long in absurd (omega (arith, more, long)) | inr none ↦ absurd (omega (arith, none)) ]
no_head_from (suc most) alone (b ∷ x) zero is = elim is.some [ inl more ↦ absurd (omega (arith, more)) | inr none ↦ absurd (omega (arith, none)) ]
no_head_from (suc most) alone (b ∷ x) (suc zero) is = elim (is.last 0 refl) [
  | inl ended ↦ elim ended.0 [
    | inl other ↦ rw (ended.1, other) refl
    | inr more ↦ absurd (omega (arith, more))
  ]
  | inr full ↦ let none : most ≡ 0 = omega (arith, full.0) in rw (le-ltb b 128 full.1, none) refl
]
no_head_from (suc most) alone (b ∷ x) (suc (suc j)) is =
    let great = is.high 0 (omega arith) in
    let here : group_head (suc most) alone (b ∷ x) ≡ behind_group (b % 128) (group_head most false x) = rw (le-ltb b 128 great) refl in
    here ∙ ap (behind_group (b % 128)) (no_head_from most false x (suc j) (record {
      few = let few = is.few in omega (arith, few);
      some = inl (omega arith);
      long = let long = is.long in omega (arith, long);
      high = λ i lt. is.high (suc i) (omega (arith, lt));
      last = λ i at. elim (is.last (suc i) (ap suc at)) [ inl ended ↦ inl (inl refl, ended.1) | inr full ↦ inr (omega (arith, full.0), full.1) ];
    }))

bad_head_is : (x : List ℕ) (k : ℕ) → AreNoHead 4 true x k → IsBadHead x k
bad_head_is x k is = record {
  some = two k 4 (omega arith) is.some is.last;
  most = is.few;
  long = is.long;
  high = is.high;
  last = λ i at. elim (is.last i at) [ inl ended ↦ inl ended.1 | inr full ↦ inr full ];
}
  where
    two : (k most : ℕ) → 1 < most → (0 < k) ⊎ (most ≡ 0) → ((i : ℕ) → suc i ≡ k → (((true ≡ false) ⊎ (0 < i)) × (get_or x i 0 ≡ 0)) ⊎ ((k ≡ most) × (128 ≤ get_or x i 0))) → 2 ≤ k
    two zero most wide some last = elim some [ inl more ↦ absurd (omega (arith, more)) | inr none ↦ absurd (omega (arith, none, wide)) ]
    two (suc zero) most wide some last = elim (last 0 refl) [
      | inl ended ↦ elim ended.0 [ inl other ↦ absurd cc | inr more ↦ absurd (omega (arith, more)) ]
      | inr full ↦ absurd (omega (arith, full.0, wide))
    ]
    two (suc (suc k)) most wide some last = omega arith

pub bad_in_words : (x : List ℕ) (k : ℕ) → (group_head 4 true x ≡ Broken k) ↔ IsBadHead x k
bad_in_words x k = (
  λ e. bad_head_is x k (no_head_is 4 true x k e),
  λ is. no_head_from 4 true x k (record {
    few = is.most;
    some = let some = is.some in inl (omega (arith, some));
    long = is.long;
    high = is.high;
    last = λ i at. elim (is.last i at) [ inl ended ↦ let some = is.some in inl (inr (omega (arith, at, some)), ended) | inr full ↦ inr full ];
  }),
)

-- what a few groups tell is small

groups_few : (most n : ℕ) → length (groups most n) ≤ most
groups_few zero n = omega arith
groups_few (suc most) n = (groups_size most n).1

room_few : (most : ℕ) → most ≤ 3 → room most ≤ 2 ^ 21
room_few zero few = omega arith
room_few (suc zero) few = omega arith
room_few (suc (suc zero)) few = omega arith
room_few (suc (suc (suc zero))) few = omega arith
room_few (suc (suc (suc (suc most)))) few = absurd (omega (arith, few))

pub small_heads : (most : ℕ) (x : List ℕ) (v : Head) → most ≤ 3 → v ≡ group_head most false x → IsSmallHead v
small_heads most x Short few is = tt
small_heads most x (Broken k) few is = let none = no_head_is most false x k (sym is) in let bytes = none.few in omega (arith, bytes, few)
small_heads most x (Told h n) few is =
    let t = group_told most false x h n (sym is) in
    let counted = t.counted in
    let below = t.below in
    (omega (arith, counted, groups_few most n, few), omega (arith, below, room_few most few))

-- ---- each framing

pub lawful : (f : Framing) → IsLawful (layout f)
lawful Len4 = numbers_lawful w32 (2 ^ 32) number4
lawful Len2 = numbers_lawful w16 (2 ^ 16) number2
lawful VLen = grouped_lawful
lawful Line = tt

-- ---- the first bytes alone tell

length_zero : (x : List ℕ) → length x ≡ 0 → x ≡ []
length_zero [] e = refl
length_zero (b ∷ x) e = absurd (omega (arith, e))

front_tells : (heads : Heads) → AreLawful heads → (y z : List ℕ) (v : Head) → heads.tells y ≡ v → (v ≡ Short → z ≡ []) → heads.tells y ≡ heads.tells (y ++ z)
front_tells heads laws y z Short e all = rw (all refl, append-nil y) refl
front_tells heads laws y z (Broken k) e all = e ∙ sym (laws.broken y z k e)
front_tells heads laws y z (Told h n) e all = e ∙ sym (laws.more y z h n e)

heads_front : (heads : Heads) → AreLawful heads → (x : List ℕ) (n : ℕ) → (4 ≤ n) ⊎ (length x ≤ n) → heads.tells (take n x) ≡ heads.tells x
heads_front heads laws x n enough =
    front_tells heads laws (take n x) (drop n x) (heads.tells (take n x)) refl (λ short. none (all short)) ∙ ap heads.tells (take-append-drop n x)
  where
    all : heads.tells (take n x) ≡ Short → length x ≤ n
    all short = elim enough [
      | inl four ↦ let few = laws.short (take n x) short in omega (arith, four, few, laws.few, length-take n x)
      | inr few ↦ few
    ]

    none : length x ≤ n → drop n x ≡ []
    none few = length_zero (drop n x) (omega (arith, few, length-drop n x))

front_in_tells : (l : Layout) → IsLawful l → (x : List ℕ) (n : ℕ) → (4 ≤ n) ⊎ (length x ≤ n) → told_in l (take n x) ≡ told_in l x
front_in_tells (Counted heads) laws x n enough = ap (λ v. Some v) (heads_front heads laws x n enough)
front_in_tells Lines laws x n enough = refl

pub first_bytes_tell : (f : Framing) (x : List ℕ) (n : ℕ) → (4 ≤ n) ⊎ (length x ≤ n) → told_by f (take n x) ≡ told_by f x
first_bytes_tell f = front_in_tells (layout f) (lawful f)

-- ---- what is told by the front of an input

pub some_is : (v w : Head) → Some v ≡ Some w → v ≡ w
some_is v w e = cc

-- a head lies within the input
within_in : (l : Layout) → IsLawful l → (x : List ℕ) (h n : ℕ) → told_in l x ≡ Some (Told h n) → h ≤ length x
within_in (Counted heads) laws x h n e = laws.within x h n (some_is (heads.tells x) (Told h n) e)
within_in Lines laws x h n e = absurd cc

pub lies_within : (f : Framing) (x : List ℕ) (h n : ℕ) → told_by f x ≡ Some (Told h n) → h ≤ length x
lies_within f = within_in (layout f) (lawful f)

-- lines alone have no heads
pub lines_is_line : (f : Framing) → layout f ≡ Lines → f ≡ Line
lines_is_line Len4 e = absurd cc
lines_is_line Len2 e = absurd cc
lines_is_line VLen e = absurd cc
lines_is_line Line e = refl

none_in : (l : Layout) (x : List ℕ) → told_in l x ≡ None → l ≡ Lines
none_in (Counted heads) x e = absurd cc
none_in Lines x e = refl

pub none_is_line : (f : Framing) (x : List ℕ) → told_by f x ≡ None → f ≡ Line
none_is_line f x e = lines_is_line f (none_in (layout f) x e)
