-- The frames that a cut finds are those that the payloads spell, and there are no more.
use Rattle.std.proofs.Common.{◌≡◌, ◌≢◌, ◌<◌, ◌≤◌, ◌+◌, ◌-◌, ℕ, zero, suc, cond, nat_lt, List, [], ◌∷◌, ◌++◌, length, take, drop, get_or, refl, sym, ap, subst, ◌∙◌, arith, inl, inr, append_assoc, Some, None}
use Rattle.std.specs.Prelude.{IsNone, position}
use Rattle.std.specs.List.{position_or_len}
use mathlib.Core.List.{IsPrefix}
use Rattle.std.proofs.lemmas.Bool.{eqb-true, cases_lt, lt-ltb, le-ltb}
use Rattle.std.proofs.lemmas.List.{append-nil, length-append, length-take, length-drop, take-append-drop, take_at, drop_at, drop-drop, get_or-take, get_or-drop, get_or_append_left, get_or_at}
use Rattle.std.proofs.lemmas.List.Sums.{split_at_first, passes_at_first, fails_before_first, position_or_len_is}
use Rattle.frame_model.specs.declared.framing.Framing.{Framing}
use Rattle.frame_model.specs.Heads.{Heads, Layout, Counted, Lines, layout}
use Rattle.frame_model.specs.Spelling.{is_line_feed, obstacle, obstacle_in, spelling, spelling_in, text}
use Rattle.frame_model.specs.Cut.{Whole, Refused, Partial, front, front_in, headed_front, line_front, frames, BeginsWith, IsBytes}
use Rattle.frame_model.proofs.HeadLemmas.{AreLawful, IsLawful, lawful}
use Rattle.frame_model.proofs.FrontLemmas.{headed_is, headed_from, line_is, line_from, front_shorter, front_empty, line_len_le}
use Rattle.frame_model.proofs.FramesLemmas.{frames_whole, frames_refused, frames_partial}

bytes_drop : (n : ℕ) (x : List ℕ) → IsBytes x → IsBytes (drop n x)
bytes_drop n x h i = rw get_or-drop (h (n + i))

-- a payload that is found is in its frame's limits and spelt at the front
pub record IsFrame (l : Layout) (max : ℕ) (x p more : List ℕ) : Type 0 where
  pub within : length p ≤ max
  pub possible : IsNone (obstacle_in l p)
  pub parts : x ≡ spelling_in l p ++ more
  pub bytes : IsBytes more

-- ---- a head, and as many bytes as it tells

pub record IsHeadedFrame (heads : Heads) (max : ℕ) (x p more : List ℕ) : Type 0 where
  pub within : length p ≤ max
  pub possible : length p < heads.limit
  pub parts : x ≡ (heads.writes (length p) ++ p ++ []) ++ more
  pub bytes : IsBytes more

parts_are : (h n : ℕ) (x head p more : List ℕ) → take h x ≡ head → take n (drop h x) ≡ p → drop n (drop h x) ≡ more → x ≡ (head ++ p ++ []) ++ more
parts_are h n x head p more a b c = sym (rw (append-nil, append_assoc, ← a, ← b, ← c, take-append-drop n (drop h x)) (take-append-drop h x))

module _ (heads : Heads) (laws : AreLawful heads) where
  headed_found : (max : ℕ) (x p more : List ℕ) → IsBytes x → headed_front (heads.tells x) max x ≡ Whole p more → IsHeadedFrame heads max x p more
  headed_found max x p more fits e =
      let c = headed_is (heads.tells x) max x p more e in
      let rest = drop c.h x in
      let len : length (take c.n rest) ≡ c.n = omega (arith, length-take c.n rest, length-drop c.h x, c.whole) in
      let p_len : length p ≡ c.n = sym (ap length c.payload) ∙ len in
      let spelt : heads.writes c.n ≡ take c.h x = sym (laws.spelt x c.h c.n fits c.told) in
      let more_is : drop c.n rest ≡ more = drop-drop c.n c.h x ∙ c.rest in
      let below = laws.below x c.h c.n fits c.told in
      record {
        within = rw p_len c.within;
        possible = rw p_len below;
        parts = parts_are c.h c.n x (heads.writes (length p)) p more (sym spelt ∙ ap heads.writes (sym p_len)) c.payload more_is;
        bytes = subst IsBytes more_is (bytes_drop c.n rest (bytes_drop c.h x fits));
      }

  headed_again : (max : ℕ) (p more : List ℕ) → length p < heads.limit → length p ≤ max → headed_front (heads.tells ((heads.writes (length p) ++ p ++ []) ++ more)) max ((heads.writes (length p) ++ p ++ []) ++ more) ≡ Whole p more
  headed_again max p more possible within =
      let n = length p in
      let head = heads.writes n in
      let regrouped : (head ++ p ++ []) ++ more ≡ head ++ (p ++ more) = rw (append-nil (head ++ p)) (append_assoc head p more) in
      let rest_is : drop (length head) (head ++ (p ++ more)) ≡ p ++ more = drop_at head (p ++ more) (length head) refl in
      let size : length (head ++ (p ++ more)) ≡ length head + (n + length more) = omega (arith, length-append head (p ++ more), length-append p more) in
      rw regrouped (headed_from (heads.tells (head ++ (p ++ more))) (length head) n max (head ++ (p ++ more)) p more (laws.again n (p ++ more) possible) within (omega (arith, size))
      (rw rest_is (take_at p more n refl))
      (rw (← drop-drop n (length head) (head ++ (p ++ more)), rest_is) (drop_at p more n refl)))

-- ---- the bytes up to a line feed

pub no_line_feed_len : (p : List ℕ) → IsNone (position is_line_feed p) → position_or_len is_line_feed p ≡ length p
no_line_feed_len p none =
    elim (cases_lt (position_or_len is_line_feed p) (length p)) [
      | inl lt ↦ let some = rw (lt-ltb (position_or_len is_line_feed p) (length p) lt) at none in absurd cc
      | inr ge ↦ omega (arith, line_len_le p)
    ]

line_found : (max : ℕ) (x p more : List ℕ) → IsBytes x → line_front max x ≡ Whole p more → IsFrame Lines max x p more
line_found max x p more fits e =
    let l = line_is max x p more e in
    let n = position_or_len is_line_feed x in
    let len : length (take n x) ≡ n = omega (arith, length-take n x, l.ends) in
    let p_len : length p ≡ n = rw (← l.payload) len in
    let line_feed : get_or x n 0 ≡ 10 = eqb-true (get_or x n 0) 10 (passes_at_first is_line_feed x 0 l.ends) in
    let clean : position_or_len is_line_feed (take n x) ≡ n = position_or_len_is is_line_feed (take n x) n 0 (omega arith)
    (λ k lt. rw (get_or-take n x k 0 lt) (fails_before_first is_line_feed x k 0 lt))
    (λ lt. absurd (omega (arith, len, lt))) in
    record {
      within = rw p_len l.within;
      possible = rw (← l.payload, clean, len, le-ltb n n (omega arith)) refl;
      parts = split_at_first is_line_feed x 0 l.ends ∙ rw (line_feed, l.payload, l.rest) (sym (append_assoc p (10 ∷ []) more));
      bytes = rw (← l.rest) (bytes_drop (n + 1) x fits);
    }

line_again : (max : ℕ) (p more : List ℕ) → IsNone (position is_line_feed p) → length p ≤ max → line_front max ((p ++ 10 ∷ []) ++ more) ≡ Whole p more
line_again max p more none within =
    let n = length p in
    let all = no_line_feed_len p none in
    let size : length (p ++ 10 ∷ more) ≡ n + length (10 ∷ more) = length-append p (10 ∷ more) in
    let len : position_or_len is_line_feed (p ++ 10 ∷ more) ≡ n = position_or_len_is is_line_feed (p ++ 10 ∷ more) n 0 (omega arith)
    (λ k lt. rw (get_or_append_left p (10 ∷ more) 0 k lt) (fails_before_first is_line_feed p k 0 (omega (arith, all, lt))))
    (λ lt. rw (get_or_at p 10 more 0 n refl) refl) in
    let cut_off : drop (n + 1) (p ++ 10 ∷ more) ≡ more = rw (← append_assoc p (10 ∷ []) more) (drop_at (p ++ 10 ∷ []) more (n + 1) (length-append p (10 ∷ []))) in
    rw (append_assoc p (10 ∷ []) more) (line_from max (p ++ 10 ∷ more) p more (record {
      ends = rw len (omega arith);
      within = rw len within;
      payload = rw len (take_at p (10 ∷ more) n refl);
      rest = rw len cut_off;
    }))

-- ---- each layout, and so each framing

found_in : (l : Layout) → IsLawful l → (max : ℕ) (x p more : List ℕ) → IsBytes x → front_in l max x ≡ Whole p more → IsFrame l max x p more
found_in (Counted heads) laws max x p more fits e =
    let c = headed_found heads laws max x p more fits e in
    record { within = c.within; possible = rw (lt-ltb (length p) heads.limit c.possible) refl; parts = c.parts; bytes = c.bytes }
found_in Lines laws max x p more fits e = line_found max x p more fits e

pub front_found : (f : Framing) (max : ℕ) (x p more : List ℕ) → IsBytes x → front f max x ≡ Whole p more → IsFrame (layout f) max x p more
front_found f = found_in (layout f) (lawful f)

pub below_limit : (n limit at : ℕ) → IsNone (cond (nat_lt n limit) None (Some at)) → n < limit
below_limit n limit at none =
    elim (cases_lt n limit) [
      | inl lt ↦ lt
      | inr ge ↦ let some = rw (le-ltb n limit ge) at none in absurd cc
    ]

again_in : (l : Layout) → IsLawful l → (max : ℕ) (p more : List ℕ) → length p ≤ max → IsNone (obstacle_in l p) → front_in l max (spelling_in l p ++ more) ≡ Whole p more
again_in (Counted heads) laws max p more within possible = headed_again heads laws max p more (below_limit (length p) heads.limit (heads.limit - 1) possible) within
again_in Lines laws max p more within possible = line_again max p more possible within

pub front_again : (f : Framing) (max : ℕ) (p more : List ℕ) → length p ≤ max → IsNone (obstacle f p) → front f max (spelling f p ++ more) ≡ Whole p more
front_again f = again_in (layout f) (lawful f)

-- ---- the whole list

begins_within : (most : ℕ) (f : Framing) (max : ℕ) (x : List ℕ) → length x ≤ most → IsBytes x → BeginsWith f max x (frames f max x).0 (frames f max x).1
begins_within zero f max [] h fits = record { each = tt; parts = refl }
begins_within zero f max (y ∷ x) h fits = absurd (omega arith)
begins_within (suc most) f max x h fits =
    (elim (front f max x) as (λ v. front f max x ≡ v → BeginsWith f max x (frames f max x).0 (frames f max x).1) [
      | Whole p more ↦ λ e.
          let shorter = front_shorter f max x p more e in
          let whole = frames_whole f max x p more e in
          let found = front_found f max x p more fits e in
          let then = begins_within most f max more (omega arith) found.bytes in
          subst (λ (o : List (List ℕ) × List ℕ). BeginsWith f max x o.0 o.1) (sym whole) (record {
            each = ((found.within, found.possible), then.each);
            parts = found.parts ∙ ap (λ (t : List ℕ). spelling f p ++ t) then.parts ∙ sym (append_assoc (spelling f p) (text f (frames f max more).0) (frames f max more).1);
          })
      | Refused kind ↦ λ e. subst (λ (o : List (List ℕ) × List ℕ). BeginsWith f max x o.0 o.1) (sym (frames_refused f max x kind e)) (record { each = tt; parts = refl })
      | Partial ↦ λ e. subst (λ (o : List (List ℕ) × List ℕ). BeginsWith f max x o.0 o.1) (sym (frames_partial f max x e)) (record { each = tt; parts = refl })
    ]) refl

pub begins : (f : Framing) (max : ℕ) (x : List ℕ) → IsBytes x → BeginsWith f max x (frames f max x).0 (frames f max x).1
begins f max x fits = begins_within (length x) f max x (omega arith) fits

pub longest : (f : Framing) (max : ℕ) (x : List ℕ) (payloads : List (List ℕ)) (rest : List ℕ) → BeginsWith f max x payloads rest → IsPrefix payloads (frames f max x).0
longest f max x [] rest b = ((frames f max x).0, refl)
longest f max x (p ∷ payloads) rest b =
    let more = text f payloads ++ rest in
    let parts : x ≡ spelling f p ++ more = b.parts ∙ append_assoc (spelling f p) (text f payloads) rest in
    let at_front : front f max x ≡ Whole p more = rw parts (front_again f max p more b.each.0.0 b.each.0.1) in
    let then = longest f max more payloads rest (record { each = b.each.1; parts = refl }) in
    rw (frames_whole f max x p more at_front) (then.0, ap (λ (o : List (List ℕ)). p ∷ o) then.1)

-- ---- and no more

no_more_within : (most : ℕ) (f : Framing) (max : ℕ) (x p more : List ℕ) → length x ≤ most → front f max (frames f max x).1 ≢ Whole p more
no_more_within zero f max [] p more h = λ e. let nothing = front_empty f max in cc
no_more_within zero f max (y ∷ x) p more h = absurd (omega arith)
no_more_within (suc most) f max x p more h =
    (elim (front f max x) as (λ v. front f max x ≡ v → front f max (frames f max x).1 ≢ Whole p more) [
      | Whole first then ↦ λ e.
          let shorter = front_shorter f max x first then e in
          subst (λ (o : List (List ℕ) × List ℕ). front f max o.1 ≢ Whole p more) (sym (frames_whole f max x first then e)) (no_more_within most f max then p more (omega arith))
      | Refused kind ↦ λ e. subst (λ (o : List (List ℕ) × List ℕ). front f max o.1 ≢ Whole p more) (sym (frames_refused f max x kind e)) (λ whole. cc)
      | Partial ↦ λ e. subst (λ (o : List (List ℕ) × List ℕ). front f max o.1 ≢ Whole p more) (sym (frames_partial f max x e)) (λ whole. cc)
    ]) refl

-- behind the whole frames there is none
pub no_more : (f : Framing) (max : ℕ) (x p more : List ℕ) → front f max (frames f max x).1 ≢ Whole p more
no_more f max x p more = no_more_within (length x) f max x p more (omega arith)
