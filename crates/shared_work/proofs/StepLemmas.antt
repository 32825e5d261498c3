-- Each step keeps the rule of the queue of tasks.
use Rattle.std.proofs.Common.{◌≡◌, ◌≢◌, ◌≤◌, ◌<◌, ◌+◌, ◌-◌, ◌⊎◌, ℕ, zero, suc, List, [], ◌∷◌, ◌++◌, length, set, sym, refl, ap, ◌∙◌, subst, arith, inl, inr, ⊎_elim, rules, append-nil, Option, Some, None}
use Rattle.std.specs.Prelude.{slice_get}
use Rattle.std.specs.List.{All}
use Rattle.std.proofs.lemmas.List.{length-append, length_push}
use Rattle.std.proofs.lemmas.List.Elements.{All-append, All-cons, All-head, All-nil, All-tail}
use mathlib.Core.Option.{some, some-injective, some-ne-none}
use lib.ListN.{get_elem?}
use Rattle.crossbeam_queue.specs.Fifo.{Pushes, Pops, Forks, Merges, Learns}
use Rattle.crossbeam_queue.proofs.Lists.{at_set, at_snoc}
use Rattle.seg_block.specs.Numbered.{weigh}
use Rattle.shared_work.specs.declared.placed.Placed.{Placed}
use Rattle.shared_work.specs.declared.placed.WorkerView.{WorkerView}
use Rattle.shared_work.specs.Tasks.{AreTaken, IsOfPlace, IsSharedOut, IsTaken, Knows, AtMoment, below, both, count, forked, gone, view_with, total, first_view, whole, with_taken, with_task, new_worker}

module _ {T : Type 0} where
  module _ (f : WorkerView T → ℕ) where
    total_set : (views : List (WorkerView T)) (k : ℕ) (v w : WorkerView T) → get_elem? views k ≡ some v → total f (set views k w) + f v ≡ total f views + f w
    total_set [] k v w at = absurd (some-ne-none v (sym at))
    total_set (u ∷ us) zero v w at = let is = ap f (some-injective u v at) in omega (arith, is)
    total_set (u ∷ us) (suc k) v w at = let rest = total_set us k v w at in omega (arith, rest)

    total_snoc : (views : List (WorkerView T)) (w : WorkerView T) → total f (views ++ w ∷ []) ≡ total f views + f w
    total_snoc [] w = omega arith
    total_snoc (u ∷ us) w = let rest = total_snoc us w in omega (arith, rest)

    total_has : (views : List (WorkerView T)) (k : ℕ) (v : WorkerView T) → get_elem? views k ≡ some v → f v ≤ total f views
    total_has [] k v at = absurd (some-ne-none v (sym at))
    total_has (u ∷ us) zero v at = let is = ap f (some-injective u v at) in omega (arith, is)
    total_has (u ∷ us) (suc k) v at = let rest = total_has us k v at in omega (arith, rest)

    total_fork : (views : List (WorkerView T)) (k : ℕ) (v w n : WorkerView T) → get_elem? views k ≡ some v → total f (set views k w ++ n ∷ []) + f v ≡ total f views + (f w + f n)
    total_fork views k v w n at = let one = total_set views k v w at in let more = total_snoc (set views k w) n in omega (arith, one, more)

    total_zero : (views : List (WorkerView T)) → ((k : ℕ) (u : WorkerView T) → get_elem? views k ≡ some u → f u ≡ 0) → total f views ≡ 0
    total_zero [] none = refl
    total_zero (u ∷ us) none = let here = none 0 u refl in let rest = total_zero us (λ k w at. none (suc k) w at) in omega (arith, here, rest)

  pub count-append : (i : ℕ) (xs ys : List (Placed T)) → count i (xs ++ ys) ≡ count i xs + count i ys
  count-append i [] ys = omega arith
  count-append i (x ∷ xs) ys = let rest = count-append i xs ys in omega (arith, rest)

  each_set : (F : WorkerView T → Type 0) (views : List (WorkerView T)) (k : ℕ) (w : WorkerView T) → F w → ((j : ℕ) (u : WorkerView T) → get_elem? views j ≡ some u → F u) → (j : ℕ) (u : WorkerView T) → get_elem? (set views k w) j ≡ some u → F u
  each_set F views k w mine all j u at = ⊎_elim (λ (x : (j ≡ k) × (w ≡ u)). subst F x.1 mine) (λ (x : (j ≢ k) × (get_elem? views j ≡ some u)). all j u x.1) (at_set views k j w u at)

  each_snoc : (F : WorkerView T → Type 0) (views : List (WorkerView T)) (n : WorkerView T) → F n → ((j : ℕ) (u : WorkerView T) → get_elem? views j ≡ some u → F u) → (j : ℕ) (u : WorkerView T) → get_elem? (views ++ n ∷ []) j ≡ some u → F u
  each_snoc F views n new all j u at = ⊎_elim (λ (old : get_elem? views j ≡ some u). all j u old) (λ (is : n ≡ u). subst F is new) (at_snoc views n u j at)

  -- the pass with all parts

  others_idle : (views : List (WorkerView T)) (items : List (Placed T)) (k : ℕ) (v : WorkerView T) → IsSharedOut items views → get_elem? views k ≡ some v → v.parts ≡ whole → (j : ℕ) (u : WorkerView T) → get_elem? (set views k gone) j ≡ some u → (u.parts ≡ 0) × (u.taken ≡ [])
  others_idle views items k v shared at all j u there =
      let s = total_set (λ u. u.parts) views k v gone at in
      let few = total_has (λ u. u.parts) (set views k gone) j u there in
      let none : u.parts ≡ 0 = omega (arith, s, few, shared.parts, all) in
      (none, each_set (λ u. u.parts ≡ 0 → u.taken ≡ []) views k gone (λ _. refl) shared.idle j u there none)

  sole : (f : WorkerView T → ℕ) → ((u : WorkerView T) → u.taken ≡ [] → f u ≡ 0) → (views : List (WorkerView T)) (items : List (Placed T)) (k : ℕ) (v : WorkerView T) → IsSharedOut items views → get_elem? views k ≡ some v → v.parts ≡ whole → total f views ≡ f v
  sole f zeros views items k v shared at all =
      let s = total_set f views k v gone at in
      let none = total_zero f (set views k gone) (λ j u there. zeros u (others_idle views items k v shared at all j u there).1) in
      let nil = zeros gone refl in
      omega (arith, s, none, nil)

  -- a task is put

  get_longer : (all : List T) (i : ℕ) (x t : T) → slice_get all i ≡ Some t → slice_get (all ++ x ∷ []) i ≡ Some t
  get_longer [] i x t is = absurd cc
  get_longer (y ∷ ys) zero x t is = is
  get_longer (y ∷ ys) (suc i) x t is = get_longer ys i x t is

  get_last : (all : List T) (i : ℕ) (x : T) → i ≡ length all → slice_get (all ++ x ∷ []) i ≡ Some x
  get_last [] zero x is = refl
  get_last [] (suc i) x is = absurd (omega (arith, is))
  get_last (y ∷ ys) zero x is = absurd (omega (arith, is))
  get_last (y ∷ ys) (suc i) x is = get_last ys i x (omega (arith, is))

  all_longer : (all : List T) (x : T) (xs : List (Placed T)) → All (IsOfPlace all) xs → All (IsOfPlace (all ++ x ∷ [])) xs
  all_longer all x [] each = All-nil (IsOfPlace (all ++ x ∷ []))
  all_longer all x (y ∷ ys) each = All-cons (IsOfPlace (all ++ x ∷ [])) y ys (get_longer all y.place x y.it (All-head (IsOfPlace all) y ys each)) (all_longer all x ys (All-tail (IsOfPlace all) y ys each))

  pub puts : (n k : ℕ) (v : WorkerView T) (x : Placed T) → v.parts ≡ whole → x.place ≡ length v.all → Pushes IsSharedOut n k v x (λ w. w ≡ with_task x v)
  puts n k v x all place items views room shared at =
      let w : WorkerView T = with_task x v in
      let knows : Knows shared.all v = shared.knows k v at (omega (arith, all)) in
      let long : x.place ≡ length shared.all = place ∙ ap length knows.knows in
      let grown = length_push shared.all x.it in (
        w,
        record {
          all = shared.all ++ x.it ∷ [];
          parts = let s = total_set (λ u. u.parts) views k v w at in omega (arith, s, shared.parts);
          places = All-append (IsOfPlace (shared.all ++ x.it ∷ [])) items (x ∷ []) (all_longer shared.all x.it items shared.places) (All-cons (IsOfPlace (shared.all ++ x.it ∷ [])) x [] (get_last shared.all x.place x.it long) (All-nil (IsOfPlace (shared.all ++ x.it ∷ []))));
          once = λ i. let s = total_set (λ u. count i u.taken) views k v w at in let more = count-append i items (x ∷ []) in let old = shared.once i in omega (arith, s, more, old, long, grown);
          lengths = let s = total_set (λ u. length u.taken) views k v w at in let more = length_push items x in omega (arith, s, more, shared.lengths, grown);
          idle = each_set (λ u. u.parts ≡ 0 → u.taken ≡ []) views k w (λ none. absurd (omega (arith, none, all))) shared.idle;
          knows = λ j u there some_part. ⊎_elim
              (λ (e : (j ≡ k) × (w ≡ u)). subst (Knows (shared.all ++ x.it ∷ [])) e.1 (record { knows = ap (λ l. l ++ x.it ∷ []) knows.knows; places = all_longer shared.all x.it v.taken knows.places }))
              (λ (e : (j ≢ k) × (get_elem? views j ≡ some u)). absurd (let o = others_idle views items k v shared at all j u (other views k j u e.0 e.1) in omega (arith, o.0, some_part)))
              (at_set views k j w u there);
        },
        refl,
      )
    where
      other : (views : List (WorkerView T)) (k j : ℕ) (u : WorkerView T) → j ≢ k → get_elem? views j ≡ some u → get_elem? (set views k gone) j ≡ some u
      other [] k j u apart there = absurd (some-ne-none u (sym there))
      other (y ∷ ys) zero zero u apart there = absurd (apart refl)
      other (y ∷ ys) zero (suc j) u apart there = there
      other (y ∷ ys) (suc k) zero u apart there = there
      other (y ∷ ys) (suc k) (suc j) u apart there = other ys k j u (λ e. apart (ap suc e)) there

  -- a task is taken

  pub takes : (k : ℕ) (v : WorkerView T) → 0 < v.parts → Pops IsSharedOut k v (IsTaken v)
  takes k v some_part x items views shared at =
      let w : WorkerView T = with_taken x v in
      let knows : Knows shared.all v = shared.knows k v at some_part in
      let here = All-head (IsOfPlace shared.all) x items shared.places in (
        w,
        record {
          all = shared.all;
          parts = let s = total_set (λ u. u.parts) views k v w at in omega (arith, s, shared.parts);
          places = All-tail (IsOfPlace shared.all) x items shared.places;
          once = λ i. let s = total_set (λ u. count i u.taken) views k v w at in let more = count-append i v.taken (x ∷ []) in let old = shared.once i in omega (arith, s, more, old);
          lengths = let s = total_set (λ u. length u.taken) views k v w at in let more = length_push v.taken x in let old = shared.lengths in omega (arith, s, more, old);
          idle = each_set (λ u. u.parts ≡ 0 → u.taken ≡ []) views k w (λ none. absurd (omega (arith, none, some_part))) shared.idle;
          knows = each_set (λ u. 0 < u.parts → Knows shared.all u) views k w
              (λ _. record { knows = knows.knows; places = All-append (IsOfPlace shared.all) v.taken (x ∷ []) knows.places (All-cons (IsOfPlace shared.all) x [] here (All-nil (IsOfPlace shared.all))) }) shared.knows;
        },
        (refl, subst (λ (l : List T). IsOfPlace l x) (sym knows.knows) here),
      )

  -- a worker more

  pub forks : (k : ℕ) (v : WorkerView T) → 1 < v.parts → Forks IsSharedOut k v (forked v) (new_worker v)
  forks k v parts items views shared at =
      let w : WorkerView T = forked v in
      let n : WorkerView T = new_worker v in
      let knows : Knows shared.all v = shared.knows k v at (omega (arith, parts)) in
      record {
        all = shared.all;
        parts = let f = total_fork (λ u. u.parts) views k v w n at in omega (arith, f, shared.parts, parts);
        places = shared.places;
        once = λ i. let f = total_fork (λ u. count i u.taken) views k v w n at in let old = shared.once i in omega (arith, f, old);
        lengths = let f = total_fork (λ u. length u.taken) views k v w n at in omega (arith, f, shared.lengths);
        idle = each_snoc (λ u. u.parts ≡ 0 → u.taken ≡ []) (set views k w) n (λ _. refl) (each_set (λ u. u.parts ≡ 0 → u.taken ≡ []) views k w (λ none. absurd (omega (arith, none, parts))) shared.idle);
        knows = each_snoc (λ u. 0 < u.parts → Knows shared.all u) (set views k w) n (λ _. record { knows = knows.knows; places = All-nil (IsOfPlace shared.all) })
            (each_set (λ u. 0 < u.parts → Knows shared.all u) views k w (λ _. record { knows = knows.knows; places = knows.places }) shared.knows);
      }

  -- a worker less

  pub merges : (k : ℕ) (v : WorkerView T) (other : ℕ) (u : WorkerView T) → 0 < v.parts → 0 < u.parts → Merges IsSharedOut k v other u (both v u) gone
  merges k v other u some_part their_part items views shared at apart there =
      let w : WorkerView T = both v u in
      let knows : Knows shared.all v = shared.knows k v at some_part in
      let before : get_elem? views other ≡ some u = ⊎_elim (λ (e : (other ≡ k) × (w ≡ u)). absurd (apart e.0)) (λ (e : (other ≢ k) × (get_elem? views other ≡ some u)). e.1) (at_set views k other w u there) in
      let theirs : Knows shared.all u = shared.knows other u before their_part in
      let two : (f : WorkerView T → ℕ) → total f (set (set views k w) other gone) + (f v + f u) ≡ total f views + (f w + f gone) = λ f. let a = total_set f views k v w at in let b = total_set f (set views k w) other u gone there in omega (arith, a, b) in
      record {
        all = shared.all;
        parts = let f = two (λ u. u.parts) in omega (arith, f, shared.parts);
        places = shared.places;
        once = λ i. let f = two (λ u. count i u.taken) in let more = count-append i v.taken u.taken in let old = shared.once i in omega (arith, f, more, old);
        lengths = let f = two (λ u. length u.taken) in let more = length-append v.taken u.taken in omega (arith, f, more, shared.lengths);
        idle = each_set (λ u. u.parts ≡ 0 → u.taken ≡ []) (set views k w) other gone (λ _. refl) (each_set (λ u. u.parts ≡ 0 → u.taken ≡ []) views k w (λ none. absurd (omega (arith, none, some_part))) shared.idle);
        knows = each_set (λ u. 0 < u.parts → Knows shared.all u) (set views k w) other gone (λ p. absurd (omega (arith, p)))
            (each_set (λ u. 0 < u.parts → Knows shared.all u) views k w (λ _. record { knows = knows.knows; places = All-append (IsOfPlace shared.all) v.taken u.taken knows.places theirs.places }) shared.knows);
      }

  pub learns : (k : ℕ) (v : WorkerView T) → Learns IsSharedOut k v (AtMoment v)
  learns k v items views shared at = record { workers = views; shared = shared; place = k; there = at }

  pub begins : IsSharedOut {T = T} [] (first_view ∷ [])
  begins = record {
    all = [];
    parts = refl;
    places = All-nil (IsOfPlace []);
    once = λ i. omega arith;
    lengths = refl;
    idle = first_idle;
    knows = first_knows;
  }
    where
      first_idle : (k : ℕ) (v : WorkerView T) → get_elem? (first_view ∷ []) k ≡ some v → v.parts ≡ 0 → v.taken ≡ []
      first_idle zero v at none = ap (λ (u : WorkerView T). u.taken) (sym (some-injective first_view v at))
      first_idle (suc k) v at none = absurd (some-ne-none v (sym at))

      first_knows : (k : ℕ) (v : WorkerView T) → get_elem? (first_view ∷ []) k ≡ some v → 0 < v.parts → Knows [] v
      first_knows zero v at _ = subst (Knows []) (some-injective first_view v at) (record { knows = refl; places = All-nil (IsOfPlace []) })
      first_knows (suc k) v at _ = absurd (some-ne-none v (sym at))

  -- where all workers have met and the queue is empty

  nothing_left : (items : List (Placed T)) → length items ≡ 0 → items ≡ []
  nothing_left [] none = refl
  nothing_left (x ∷ xs) none = absurd (omega (arith, none))

  pub all_taken : (v : WorkerView T) (items : List (Placed T)) → AtMoment v items → v.parts ≡ whole → length items ≡ 0 → AreTaken v.all v.taken
  all_taken v items stands all empty =
      let knows : Knows stands.shared.all v = stands.shared.knows stands.place v stands.there (omega (arith, all)) in
      let none = nothing_left items empty in
      record {
        places = subst (λ (l : List T). All (IsOfPlace l) v.taken) (sym knows.knows) knows.places;
        once = λ i.
            let s = sole (λ u. count i u.taken) (λ u idle. ap (count i) idle) stands.workers items stands.place v stands.shared stands.there all in
            let o = stands.shared.once i in
            let e = ap (count i) none in
            let l = ap length knows.knows in
            omega (arith, s, o, e, l);
        lengths =
            let s = sole (λ u. length u.taken) (λ u idle. ap length idle) stands.workers items stands.place v stands.shared stands.there all in
            let l = ap length knows.knows in
            omega (arith, s, stands.shared.lengths, empty, l);
      }

  -- no more were taken than there are
  pub taken_few : (v : WorkerView T) (items : List (Placed T)) → AtMoment v items → 0 < v.parts → length v.taken ≤ length v.all
  taken_few v items stands some_part =
      let knows : Knows stands.shared.all v = stands.shared.knows stands.place v stands.there some_part in
      let has = total_has (λ u. length u.taken) stands.workers stands.place v stands.there in
      let l = ap length knows.knows in
      omega (arith, has, stands.shared.lengths, l)

  -- no more are in the queue than there are
  pub queued_few : (v : WorkerView T) (items : List (Placed T)) → AtMoment v items → 0 < v.parts → length items ≤ length v.all
  queued_few v items stands some_part =
      let knows : Knows stands.shared.all v = stands.shared.knows stands.place v stands.there some_part in
      let l = ap length knows.knows in
      omega (arith, stands.shared.lengths, l)
