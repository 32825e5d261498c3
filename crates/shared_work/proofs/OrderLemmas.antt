-- Things with places, set in their order.
use Rattle.std.proofs.Common.{◌≡◌, ◌≢◌, ◌≤◌, ◌<◌, ◌+◌, ◌-◌, ℕ, zero, suc, List, [], ◌∷◌, ◌++◌, length, set, sym, refl, ap, ◌∙◌, subst, arith, Option, Some, None, inl, inr, ⊎_elim, ◌⊎◌}
use Rattle.std.specs.Prelude.{slice_get}
use Rattle.std.specs.List.{All, AllZip}
use Rattle.std.proofs.lemmas.List.Elements.{All-append, All-cons, All-head, All-nil, All-tail}
use Rattle.shared_work.specs.declared.placed.Placed.{Placed}
use Rattle.seg_block.specs.Numbered.{mark}
use Rattle.shared_work.specs.Tasks.{AreTaken, IsOfPlace, Lies, below, count}
use Rattle.shared_work.specs.Workers.{Does}
use Rattle.shared_work.proofs.StepLemmas.{count-append}

module _ {D : Type 0} where
  get_set : (slots : List (Option D)) (i : ℕ) (v : Option D) → i < length slots → slice_get (set slots i v) i ≡ Some v
  get_set [] i v within = absurd (omega (arith, within))
  get_set (s ∷ slots) zero v within = refl
  get_set (s ∷ slots) (suc i) v within = get_set slots i v (omega (arith, within))

  get_other : (slots : List (Option D)) (i j : ℕ) (v : Option D) → j ≢ i → slice_get (set slots i v) j ≡ slice_get slots j
  get_other [] i j v apart = refl
  get_other (s ∷ slots) zero zero v apart = absurd (apart refl)
  get_other (s ∷ slots) zero (suc j) v apart = refl
  get_other (s ∷ slots) (suc i) zero v apart = refl
  get_other (s ∷ slots) (suc i) (suc j) v apart = get_other slots i j v (λ e. apart (ap suc e))

  length_set : (slots : List (Option D)) (i : ℕ) (v : Option D) → length (set slots i v) ≡ length slots
  length_set [] i v = refl
  length_set (s ∷ slots) zero v = refl
  length_set (s ∷ slots) (suc i) v = ap suc (length_set slots i v)

  -- one that wasn't there leaves the others
  lie_still : (slots : List (Option D)) (i : ℕ) (v : Option D) (ys : List (Placed D)) → count i ys ≡ 0 → All (Lies slots) ys → All (Lies (set slots i v)) ys
  lie_still slots i v [] none each = All-nil (Lies (set slots i v))
  lie_still slots i v (y ∷ ys) none each =
      All-cons (Lies (set slots i v)) y ys
      (get_other slots i y.place v (λ e. let s = ap (mark i) e in absurd (omega (arith, s, none))) ∙ All-head (Lies slots) y ys each)
      (lie_still slots i v ys (omega (arith, none)) (All-tail (Lies slots) y ys each))

  -- While they are set: which are, and which aren't yet.
  pub record AreSet (all yielded rest : List (Placed D)) (slots : List (Option D)) : Type 0 where
    pub parts : yielded ++ rest ≡ all
    pub long : length slots ≡ length all
    pub lie : All (Lies slots) yielded

  pub place_within : (all yielded behind : List (Placed D)) (p : Placed D) → yielded ++ p ∷ behind ≡ all → ((i : ℕ) → count i all ≡ below i (length all)) → (p.place < length all) × (count p.place yielded ≡ 0)
  place_within all yielded behind p parts once =
      let a = once p.place in
      let b = count-append p.place yielded (p ∷ behind) in
      let c = ap (count p.place) parts in
      (omega (arith, a, b, c), omega (arith, a, b, c))

  pub sets_on : (all yielded rest behind : List (Placed D)) (p : Placed D) (slots : List (Option D)) (it : D) (place : ℕ) → AreSet all yielded rest slots → rest ≡ p ∷ behind → place ≡ p.place → it ≡ p.it → ((i : ℕ) → count i all ≡ below i (length all))
      → AreSet all (yielded ++ p ∷ []) behind (set slots place (Some it))
  sets_on all yielded rest behind p slots it place are is at same once =
      let parts : yielded ++ p ∷ behind ≡ all = ap (λ (l : List (Placed D)). yielded ++ l) (sym is) ∙ are.parts in
      let within = place_within all yielded behind p parts once in
      subst (λ (y : ℕ × D). AreSet all (yielded ++ p ∷ []) behind (set slots y.0 (Some y.1))) (λ i. (sym at i, sym same i))
      (record {
        parts = shift yielded behind p ∙ parts;
        long = length_set slots p.place (Some p.it) ∙ are.long;
        lie = All-append (Lies (set slots p.place (Some p.it))) yielded (p ∷ []) (lie_still slots p.place (Some p.it) yielded within.1 are.lie)
            (All-cons (Lies (set slots p.place (Some p.it))) p [] (get_set slots p.place (Some p.it) (omega (arith, within.0, are.long))) (All-nil (Lies (set slots p.place (Some p.it)))));
      })
    where
      shift : (xs ys : List (Placed D)) (x : Placed D) → (xs ++ x ∷ []) ++ ys ≡ xs ++ x ∷ ys
      shift [] ys x = refl
      shift (a ∷ xs) ys x = ap (λ (l : List (Placed D)). a ∷ l) (shift xs ys x)

  -- one of them has this place
  find : (all : List (Placed D)) (i : ℕ) (P : Placed D → Type 0) → 0 < count i all → All P all → (p : Placed D) × (p.place ≡ i) × P p
  find [] i P some_one each = absurd (omega (arith, some_one))
  find (p ∷ ps) i P some_one each = by (mark i p.place) refl (λ none. find ps i P (omega (arith, some_one, none)) (All-tail P p ps each))
    where
      by : (m : ℕ) → mark i p.place ≡ m → (mark i p.place ≡ 0 → (p : Placed D) × (p.place ≡ i) × P p) → (p : Placed D) × (p.place ≡ i) × P p
      by zero m rest = rest m
      by (suc n) m rest = (p, omega (arith, m), All-head P p ps each)

  -- no slot is empty
  pub slot_full : (all : List (Placed D)) (slots : List (Option D)) → All (Lies slots) all → ((i : ℕ) → count i all ≡ below i (length all)) → length slots ≡ length all → (i : ℕ) → i < length slots → (d : D) × (slice_get slots i ≡ Some (Some d))
  slot_full all slots lie once long i within =
      let o = once i in
      let found = find all i (Lies slots) (omega (arith, o, within, long)) lie in
      (found.0.it, ap (slice_get slots) (sym found.1) ∙ found.2)

  -- the slots that were emptied into a list, and those that weren't yet
  pub record Empties (slots yielded rest : List (Option D)) (list : List D) : Type 0 where
    pub parts : yielded ++ rest ≡ slots
    pub filled : AllZip (λ o d. o ≡ Some d) yielded list

  get_front : (xs ys : List (Option D)) (o : Option D) → slice_get (xs ++ o ∷ ys) (length xs) ≡ Some o
  get_front [] ys o = refl
  get_front (x ∷ xs) ys o = get_front xs ys o

  length_more : (xs ys : List (Option D)) (o : Option D) → length xs < length (xs ++ o ∷ ys)
  length_more [] ys o = omega arith
  length_more (x ∷ xs) ys o = let rest = length_more xs ys o in omega (arith, rest)

  pub not_empty : (all : List (Placed D)) (slots yielded rest behind : List (Option D)) (list : List D) → Empties slots yielded rest list → rest ≡ None ∷ behind → All (Lies slots) all → ((i : ℕ) → count i all ≡ below i (length all)) → length slots ≡ length all → ⊥
  not_empty all slots yielded rest behind list empties is lie once long =
      let parts : yielded ++ None ∷ behind ≡ slots = ap (λ (l : List (Option D)). yielded ++ l) (sym is) ∙ empties.parts in
      let here = ap (λ (l : List (Option D)). slice_get l (length yielded)) (sym parts) ∙ get_front yielded behind None in
      let within = subst (λ (l : List (Option D)). length yielded < length l) parts (length_more yielded behind None) in
      let full = slot_full all slots lie once long (length yielded) within in
      let both : Some None ≡ Some (Some full.0) = sym here ∙ full.1 in
      absurd cc

  zipped_more : (xs : List (Option D)) (ys : List D) (o : Option D) (d : D) → AllZip (λ o d. o ≡ Some d) xs ys → o ≡ Some d → AllZip (λ o d. o ≡ Some d) (xs ++ o ∷ []) (ys ++ d ∷ [])
  zipped_more [] [] o d each one = (one, tt)
  zipped_more [] (y ∷ ys) o d each one = absurd each
  zipped_more (x ∷ xs) [] o d each one = absurd each
  zipped_more (x ∷ xs) (y ∷ ys) o d each one = (each.0, zipped_more xs ys o d each.1 one)

  pub empties_on : (slots yielded rest behind : List (Option D)) (list more : List D) (d : D) → Empties slots yielded rest list → rest ≡ Some d ∷ behind → more ≡ list ++ d ∷ [] → Empties slots (yielded ++ Some d ∷ []) behind more
  empties_on slots yielded rest behind list more d empties is grown = record {
    parts = shift yielded behind (Some d) ∙ ap (λ (l : List (Option D)). yielded ++ l) (sym is) ∙ empties.parts;
    filled = subst (AllZip (λ o d. o ≡ Some d) (yielded ++ Some d ∷ [])) (sym grown) (zipped_more yielded list (Some d) d empties.filled refl);
  }
    where
      shift : (xs ys : List (Option D)) (x : Option D) → (xs ++ x ∷ []) ++ ys ≡ xs ++ x ∷ ys
      shift [] ys x = refl
      shift (a ∷ xs) ys x = ap (λ (l : List (Option D)). a ∷ l) (shift xs ys x)

  pub zipped_length : (xs : List (Option D)) (ys : List D) → AllZip (λ o d. o ≡ Some d) xs ys → length xs ≡ length ys
  zipped_length [] [] each = refl
  zipped_length [] (y ∷ ys) each = absurd each
  zipped_length (x ∷ xs) [] each = absurd each
  zipped_length (x ∷ xs) (y ∷ ys) each = ap suc (zipped_length xs ys each.1)

  lies_in : (slots : List (Option D)) (list : List D) (i : ℕ) (d : D) → AllZip (λ o d. o ≡ Some d) slots list → slice_get slots i ≡ Some (Some d) → slice_get list i ≡ Some d
  lies_in [] [] i d each is = absurd cc
  lies_in [] (y ∷ ys) i d each is = absurd each
  lies_in (x ∷ xs) [] i d each is = absurd each
  lies_in (x ∷ xs) (y ∷ ys) zero d each is = let a : Some x ≡ Some (Some d) = is in let b = each.0 in cc
  lies_in (x ∷ xs) (y ∷ ys) (suc i) d each is = lies_in xs ys i d each.1 is

  pub are_of_place : (all : List (Placed D)) (slots : List (Option D)) (list : List D) → AllZip (λ o d. o ≡ Some d) slots list → All (Lies slots) all → All (IsOfPlace list) all
  are_of_place [] slots list each lie = All-nil (IsOfPlace list)
  are_of_place (p ∷ ps) slots list each lie = All-cons (IsOfPlace list) p ps (lies_in slots list p.place p.it each (All-head (Lies slots) p ps lie)) (are_of_place ps slots list each (All-tail (Lies slots) p ps lie))

module _ {T D : Type 0} (gives : T → D → Type 0) where
  pub count_same : (taken : List (Placed T)) (done : List (Placed D)) (i : ℕ) → AllZip (Does gives) taken done → count i done ≡ count i taken
  count_same [] [] i each = refl
  count_same [] (y ∷ ys) i each = absurd each
  count_same (x ∷ xs) [] i each = absurd each
  count_same (x ∷ xs) (y ∷ ys) i each = let rest = count_same xs ys i each.1 in let here = ap (mark i) each.0.0 in omega (arith, rest, here)

  pub length_same : (taken : List (Placed T)) (done : List (Placed D)) → AllZip (Does gives) taken done → length done ≡ length taken
  length_same [] [] each = refl
  length_same [] (y ∷ ys) each = absurd each
  length_same (x ∷ xs) [] each = absurd each
  length_same (x ∷ xs) (y ∷ ys) each = ap suc (length_same xs ys each.1)

  record Both (all : List T) (list : List D) (i : ℕ) : Type 0 where
    task : T
    it : D
    task_is : slice_get all i ≡ Some task
    it_is : slice_get list i ≡ Some it
    gave : gives task it

  both_at : (all : List T) (list : List D) (taken : List (Placed T)) (done : List (Placed D)) (i : ℕ) → All (IsOfPlace all) taken → All (IsOfPlace list) done → AllZip (Does gives) taken done → 0 < count i taken → Both all list i
  both_at all list [] [] i tasks its each some_one = absurd (omega (arith, some_one))
  both_at all list [] (y ∷ ys) i tasks its each some_one = absurd each
  both_at all list (x ∷ xs) [] i tasks its each some_one = absurd each
  both_at all list (x ∷ xs) (y ∷ ys) i tasks its each some_one = by (mark i x.place) refl (λ none. both_at all list xs ys i (All-tail (IsOfPlace all) x xs tasks) (All-tail (IsOfPlace list) y ys its) each.1 (omega (arith, some_one, none)))
    where
      by : (m : ℕ) → mark i x.place ≡ m → (mark i x.place ≡ 0 → Both all list i) → Both all list i
      by zero m rest = rest m
      by (suc n) m rest =
          let here : x.place ≡ i = omega (arith, m) in
          record {
            task = x.it;
            it = y.it;
            task_is = ap (slice_get all) (sym here) ∙ All-head (IsOfPlace all) x xs tasks;
            it_is = ap (slice_get list) (sym (each.0.0 ∙ here)) ∙ All-head (IsOfPlace list) y ys its;
            gave = each.0.1;
          }

  zips : (all : List T) (list : List D) → length list ≡ length all → ((i : ℕ) → i < length all → Both all list i) → AllZip gives all list
  zips [] [] long each = tt
  zips [] (d ∷ list) long each = absurd (omega (arith, long))
  zips (t ∷ all) [] long each = absurd (omega (arith, long))
  zips (t ∷ all) (d ∷ list) long each = (first (each 0 (omega arith)), zips all list (omega (arith, long)) (λ i within. behind i (each (suc i) (omega (arith, within)))))
    where
      first : Both (t ∷ all) (d ∷ list) 0 → gives t d
      first b = let a : t ≡ b.task = same b.task_is in let c : d ≡ b.it = same b.it_is in subst (λ (y : T × D). gives y.0 y.1) (λ i. (sym a i, sym c i)) b.gave
        where
          same : {A : Type 0} {x y : A} → Some x ≡ Some y → x ≡ y
          same e = cc

      behind : (i : ℕ) → Both (t ∷ all) (d ∷ list) (suc i) → Both all list i
      behind i b = record { task = b.task; it = b.it; task_is = b.task_is; it_is = b.it_is; gave = b.gave }

  -- what came out stands in the order of the tasks
  pub ordered : (all : List T) (list : List D) (taken : List (Placed T)) (done : List (Placed D)) → AreTaken all taken → AllZip (Does gives) taken done → All (IsOfPlace list) done → length list ≡ length done → AllZip gives all list
  ordered all list taken done are each places long =
      let l = length_same taken done each in
      zips all list (omega (arith, l, long, are.lengths)) (λ i within. both_at all list taken done i are.places places each (let o = are.once i in omega (arith, o, within)))

-- what the last worker has
pub record IsComplete {T D : Type 0} (gives : T → D → Type 0) (all : List T) (taken : List (Placed T)) (done : List (Placed D)) : Type 0 where
  pub are : AreTaken all taken
  pub each : AllZip (Does gives) taken done
  pub long : length done ≡ length all
  pub once : (i : ℕ) → count i done ≡ below i (length done)

pub complete : {T D : Type 0} (gives : T → D → Type 0) (all tasks : List T) (taken : List (Placed T)) (done : List (Placed D)) → all ≡ tasks → AreTaken all taken → AllZip (Does gives) taken done → IsComplete gives tasks taken done
complete gives all tasks taken done is are each =
    let l = length_same gives taken done each in
    let t = ap length is in
    let now = subst (λ a. AreTaken a taken) is are in
    record {
      are = now;
      each = each;
      long = omega (arith, l, t, are.lengths);
      once = λ i. let c = count_same gives taken done i each in let o = now.once i in omega (arith, c, o, l, now.lengths);
    }
