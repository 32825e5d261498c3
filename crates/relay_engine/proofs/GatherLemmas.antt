-- What comes to a sink through a gathering.
use Rattle.std.proofs.Common.{◌≡◌, ◌+◌, ℕ, List, [], ◌++◌, length, take, drop, Result, Ok, Err, refl, sym, ap, ◌∙◌, subst, arith, append_assoc, append-nil}
use Rattle.std.specs.Prelude.{OnErr, OnOk}
use Rattle.std.proofs.lemmas.List.{length-append, take-append-drop}
use Rattle.std.proofs.KnownBytes.{Appends-trans}
use Rattle.edge_core.specs.Device.{SinkState}
use Rattle.edge_core.proofs.DeviceLemmas.{Takes-trans}
use Rattle.relay_engine.specs.Gathering.{Gathered, Puts, PutsFront, counted}
use Rattle.relay_engine.proofs.DeviceLemmas.{takes_nothing}

pub on_err : {T E P : Type 0} (r : Result T E) → P → OnErr r P
on_err (Ok x) holds = tt
on_err (Err x) holds = holds

pub on_err_from : {T E P Q : Type 0} (r : Result T E) → (P → Q) → OnErr r P → OnErr r Q
on_err_from (Ok x) so holds = tt
on_err_from (Err x) so holds = so holds

pub on_ok_from : {T E P Q : Type 0} (r : Result T E) → (P → Q) → OnOk r P → OnOk r Q
on_ok_from (Ok x) so holds = so holds
on_ok_from (Err x) so holds = tt

-- nothing was put
pub puts_nothing : (g : Gathered) (s : SinkState) → Puts g s [] g s
puts_nothing g s = record {
  out = [];
  parts = append-nil g.bytes;
  taken = takes_nothing s s refl;
  passed = omega arith;
}

counted_more : (a b c m n : ℕ) → counted b ≡ counted (a + m) → counted c ≡ counted (b + n) → counted c ≡ counted (a + (m + n))
counted_more a b c m n first second = omega (arith, first, second)

-- one piece behind the other
pub puts_more : (g h i : Gathered) (s t u : SinkState) (xs ys : List ℕ) → Puts g s xs h t → Puts h t ys i u → Puts g s (xs ++ ys) i u
puts_more g h i s t u xs ys first second = record {
  out = first.out ++ second.out;
  parts =
      sym (append_assoc g.bytes xs ys) ∙ ap (λ (b : List ℕ). b ++ ys) first.parts ∙ append_assoc first.out h.bytes ys
      ∙ ap (λ (b : List ℕ). first.out ++ b) second.parts ∙ sym (append_assoc first.out second.out i.bytes);
  taken = Takes-trans s t u first.out second.out first.taken second.taken;
  passed = counted_more g.passed h.passed i.passed (length first.out) (length second.out) first.passed second.passed ∙ ap (λ (n : ℕ). counted (g.passed + n)) (sym (length-append first.out second.out));
}

-- a write failed in a piece before the last
pub front_before : (g h : Gathered) (s t : SinkState) (xs ys : List ℕ) → PutsFront g s xs h t → PutsFront g s (xs ++ ys) h t
front_before g h s t xs ys f =
    let all : g.bytes ++ (xs ++ ys) ≡ (g.bytes ++ xs) ++ ys = sym (append_assoc g.bytes xs ys) in
    record {
      out = f.out;
      front = (f.front.0 ++ ys, sym (append_assoc f.out f.front.0 ys) ∙ ap (λ (b : List ℕ). b ++ ys) f.front.1 ∙ sym all);
      short = omega (arith, f.short, ap length all, length-append (g.bytes ++ xs) ys);
      taken = f.taken;
      risen = f.risen;
      same = f.same;
      passed = f.passed;
    }

-- or in the last one
pub front_last : (g h i : Gathered) (s t u : SinkState) (xs ys : List ℕ) → Puts g s xs h t → PutsFront h t ys i u → PutsFront g s (xs ++ ys) i u
front_last g h i s t u xs ys first f =
    let all : g.bytes ++ (xs ++ ys) ≡ first.out ++ (h.bytes ++ ys) = sym (append_assoc g.bytes xs ys) ∙ ap (λ (b : List ℕ). b ++ ys) first.parts ∙ append_assoc first.out h.bytes ys in
    record {
      out = first.out ++ f.out;
      front = (f.front.0, append_assoc first.out f.out f.front.0 ∙ ap (λ (b : List ℕ). first.out ++ b) f.front.1 ∙ sym all);
      short = omega (arith, f.short, ap length all, length-append first.out (h.bytes ++ ys), length-append first.out f.out);
      taken = Appends-trans s.written t.written u.written first.out f.out first.taken.taken f.taken;
      risen = rw (← first.taken.unfailed) f.risen;
      same = f.same ∙ first.taken.same;
      passed = counted_more g.passed h.passed i.passed (length first.out) (length f.out) first.passed f.passed ∙ ap (λ (n : ℕ). counted (g.passed + n)) (sym (length-append first.out f.out));
    }

-- or in writing what was gathered, where the first bytes of a piece filled the room
pub front_filled : (g h i : Gathered) (s t : SinkState) (xs piece : List ℕ) (n : ℕ) → xs ≡ take n piece → h ≡ record { bytes = g.bytes ++ xs; passed = g.passed } → PutsFront h s [] i t → PutsFront g s piece i t
front_filled g h i s t xs piece n first is f =
    let ys = drop n piece in
    let parts : piece ≡ xs ++ ys = sym (take-append-drop n piece) ∙ ap (λ (b : List ℕ). b ++ ys) (sym first) in
    let gathered : h.bytes ++ [] ≡ g.bytes ++ xs = append-nil h.bytes ∙ ap (λ (x : Gathered). x.bytes) is in
    let all : g.bytes ++ piece ≡ (h.bytes ++ []) ++ ys = ap (λ (b : List ℕ). g.bytes ++ b) parts ∙ sym (append_assoc g.bytes xs ys) ∙ sym (ap (λ (b : List ℕ). b ++ ys) gathered) in
    record {
      out = f.out;
      front = (f.front.0 ++ ys, sym (append_assoc f.out f.front.0 ys) ∙ ap (λ (b : List ℕ). b ++ ys) f.front.1 ∙ sym all);
      short = omega (arith, f.short, ap length all, length-append (h.bytes ++ []) ys);
      taken = f.taken;
      risen = f.risen;
      same = f.same;
      passed = f.passed ∙ ap (λ (x : Gathered). counted (x.passed + length f.out)) is;
    }

-- or in a piece in the middle
pub front_within : (g h i : Gathered) (s t u : SinkState) (whole xs ys zs : List ℕ) → whole ≡ xs ++ (ys ++ zs) → Puts g s xs h t → PutsFront h t ys i u → PutsFront g s whole i u
front_within g h i s t u whole xs ys zs parts first f =
    subst (λ (b : List ℕ). PutsFront g s b i u) (append_assoc xs ys zs ∙ sym parts) (front_before g i s u (xs ++ ys) zs (front_last g h i s t u xs ys first f))
