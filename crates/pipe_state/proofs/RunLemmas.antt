-- The runs of a pipe's segments, of which no two have one number.
use Rattle.std.proofs.Common.{eqb-true, ◌≡◌, ◌≤◌, ℕ, Bool, true, false, List, [], ◌∷◌, ◌++◌, refl, sym, ap, subst, ◌∙◌, arith, inl, inr}
use Rattle.std.specs.Prelude.{map, ◌==◌, if◌then◌else◌}
use Rattle.std.specs.List.{AllByRecursion}
use Rattle.std.proofs.lemmas.Bool.{cases_Bool}
use Rattle.std.proofs.lemmas.List.{map-append, append-nil}
use Rattle.seg_block.specs.Numbered.{AreDistinct, mark, times, weigh}
use Rattle.pipe_core.specs.History.{Run}
use Rattle.pipe_core.specs.Lends.{onto_runs, joined}
use Rattle.pipe_state.specs.Fetched.{Fetched}
use Rattle.pipe_state.specs.Released.{BlockName, block_in, blocks_in}
use Rattle.pipe_state.specs.Sides.{Unfinished, IsUnsent, going_of, unsent_of}
use Rattle.pipe_state.specs.Segments.{AreInOrder, blocks_of, sent_in}
use Rattle.pipe_state.specs.Lying.{HaveOwnIds, run_of, runs_of}
use Rattle.pipe_state.proofs.PlaceLemmas.{weigh-append, sent_is}
use Rattle.pipe_state.proofs.LyingLemmas.{joined_front}

abbrev segments_of : List Run → List ℕ
segments_of runs = map (λ (r : Run). r.segment) runs

weigh-map : {X Y : Type 0} (f : X → Y) (weight : Y → ℕ) (xs : List X) → weigh weight (map f xs) ≡ weigh (λ x. weight (f x)) xs
weigh-map f weight [] = refl
weigh-map f weight (x ∷ xs) = let rest = weigh-map f weight xs in omega arith

twice : (r s : Run) (runs : List Run) → AreDistinct (segments_of (r ∷ s ∷ runs)) → (r.segment == s.segment) ≡ false
twice r s runs distinct = elim (cases_Bool (r.segment == s.segment)) [
  | inl same ↦ absurd (let e = eqb-true r.segment s.segment same in let few = distinct r.segment in omega arith)
  | inr other ↦ other
]

fewer : (r : Run) (runs : List Run) → AreDistinct (segments_of (r ∷ runs)) → AreDistinct (segments_of runs)
fewer r runs distinct x = let few = distinct x in omega arith

onto_distinct : (r : Run) (runs : List Run) → AreDistinct (segments_of (r ∷ runs)) → onto_runs r runs ≡ r ∷ runs
onto_distinct r [] distinct = refl
onto_distinct r (s ∷ runs) distinct = rw (twice r s runs distinct) refl

pub joined_distinct : (runs : List Run) → AreDistinct (segments_of runs) → joined runs ≡ runs
joined_distinct [] distinct = refl
joined_distinct (r ∷ runs) distinct = ap (onto_runs r) (joined_distinct runs (fewer r runs distinct)) ∙ onto_distinct r runs distinct

joined_longer : (runs : List Run) (a b : Run) → AreDistinct (segments_of (runs ++ a ∷ [])) → (a.segment == b.segment) ≡ true
    → joined ((runs ++ a ∷ []) ++ b ∷ []) ≡ runs ++ record { segment = a.segment; bytes = a.bytes ++ b.bytes } ∷ []
joined_longer [] a b distinct same = rw same refl
joined_longer (r ∷ runs) a b distinct same =
    let c : Run = record { segment = a.segment; bytes = a.bytes ++ b.bytes } in
    let ids : segments_of (runs ++ a ∷ []) ≡ segments_of (runs ++ c ∷ []) = map-append (λ (s : Run). s.segment) runs (a ∷ []) ∙ sym (map-append (λ (s : Run). s.segment) runs (c ∷ [])) in
    ap (onto_runs r) (joined_longer runs a b (fewer r (runs ++ a ∷ []) distinct) same)
    ∙ onto_distinct r (runs ++ c ∷ []) (subst (λ l. AreDistinct (r.segment ∷ l)) ids distinct)

-- ---- the segments that the writer has finished, and the next one
own_before : (home : List BlockName) (live : List Fetched) (unfinished rest : List Unfinished) (blocks : List BlockName) (u : Unfinished) → unfinished ≡ u ∷ rest
    → HaveOwnIds blocks → (order : AreInOrder home live unfinished blocks) → (s : Fetched) → s.label ≡ u.label → AreDistinct (segments_of (runs_of (order.before ++ s ∷ [])))
own_before home live unfinished rest blocks u is own order s label x =
    let weight : BlockName → ℕ = λ b. mark x b.id in
    let placed = order.placed weight in let all = own x in
    let a : times x (map (λ (b : BlockName). b.id) blocks) ≡ weigh weight blocks = weigh-map (λ (b : BlockName). b.id) (mark x) blocks in
    let b : weigh weight (blocks_in order.before) ≡ weigh (λ (t : Fetched). weight (block_in t.label)) order.before = weigh-map (λ (t : Fetched). block_in t.label) weight order.before in
    let c : times x (segments_of (runs_of (order.before ++ s ∷ []))) ≡ weigh (λ (r : Run). mark x r.segment) (runs_of (order.before ++ s ∷ [])) = weigh-map (λ (r : Run). r.segment) (mark x) (runs_of (order.before ++ s ∷ [])) in
    let d : weigh (λ (r : Run). mark x r.segment) (runs_of (order.before ++ s ∷ [])) ≡ weigh (λ (t : Fetched). mark x t.label.id) (order.before ++ s ∷ []) = weigh-map run_of (λ (r : Run). mark x r.segment) (order.before ++ s ∷ []) in
    let e = weigh-append (λ (t : Fetched). mark x t.label.id) order.before (s ∷ []) in
    let f = ap (λ us. weigh weight (blocks_of us)) is in let g = ap (λ l. mark x l.id) label in
    omega arith

sends_sent : (sent : Bool) (before : List Fetched) (u : Unfinished) (bytes : List ℕ) (finished : Bool) → u.sent ≡ sent → AllByRecursion IsUnsent (unsent_of (u ∷ []))
    → AreDistinct (segments_of (runs_of (before ++ record { label = u.label; bytes = u.bytes; finished = false } ∷ [])))
    → runs_of (before ++ record { label = u.label; bytes = u.bytes ++ bytes; finished = finished } ∷ []) ≡ joined (runs_of (before ++ going_of (u ∷ [])) ++ record { segment = u.label.id; bytes = bytes } ∷ [])
sends_sent true before u bytes finished sent unsent distinct =
    let s : Fetched = record { label = u.label; bytes = u.bytes; finished = false } in let t : Fetched = record { label = u.label; bytes = u.bytes ++ bytes; finished = finished } in
    let going : going_of (u ∷ []) ≡ s ∷ [] = rw sent refl in
    map-append run_of before (t ∷ [])
    ∙ sym (joined_longer (runs_of before) (run_of s) (record { segment = u.label.id; bytes = bytes }) (subst (λ l. AreDistinct (segments_of l)) (map-append run_of before (s ∷ [])) distinct) (same_id u.label.id))
    ∙ ap (λ l. joined (l ++ record { segment = u.label.id; bytes = bytes } ∷ [])) (sym (map-append run_of before (s ∷ [])) ∙ ap (λ g. runs_of (before ++ g)) (sym going))
  where
    same_id : (n : ℕ) → (n == n) ≡ true
    same_id n = grind arith
sends_sent false before u bytes finished sent unsent distinct =
    let s : Fetched = record { label = u.label; bytes = u.bytes; finished = false } in let r : Run = record { segment = u.label.id; bytes = bytes } in
    let none : u.bytes ≡ [] = (subst (λ b. AllByRecursion IsUnsent (if b then [] else u ∷ [])) sent unsent).0.1 in
    let going : going_of (u ∷ []) ≡ [] = rw sent refl in
    let ids : segments_of (runs_of (before ++ s ∷ [])) ≡ segments_of (runs_of before ++ r ∷ []) =
    ap segments_of (map-append run_of before (s ∷ [])) ∙ map-append (λ (q : Run). q.segment) (runs_of before) (run_of s ∷ []) ∙ sym (map-append (λ (q : Run). q.segment) (runs_of before) (r ∷ [])) in
    map-append run_of before (record { label = u.label; bytes = u.bytes ++ bytes; finished = finished } ∷ [])
    ∙ ap (λ b. runs_of before ++ record { segment = u.label.id; bytes = b ++ bytes } ∷ []) none
    ∙ sym (joined_distinct (runs_of before ++ r ∷ []) (subst AreDistinct ids distinct))
    ∙ ap (λ l. joined (l ++ r ∷ [])) (ap runs_of (sym (append-nil before) ∙ ap (λ g. before ++ g) (sym going)))

-- A draft that is committed joins the runs behind all others.
pub sends_run : (home : List BlockName) (live : List Fetched) (unfinished rest : List Unfinished) (blocks : List BlockName) (u : Unfinished) (bytes : List ℕ) (finished : Bool)
    → unfinished ≡ u ∷ rest → HaveOwnIds blocks → AreInOrder home live unfinished blocks
    → runs_of (sent_in u.sent (record { label = u.label; bytes = u.bytes ++ bytes; finished = finished }) live) ≡ joined (runs_of live ++ record { segment = u.label.id; bytes = bytes } ∷ [])
sends_run home live unfinished rest blocks u bytes finished is own order =
    let s : Fetched = record { label = u.label; bytes = u.bytes ++ bytes; finished = finished } in
    let live_is : live ≡ order.before ++ going_of (u ∷ []) = order.live_is ∙ ap (λ us. order.before ++ going_of us) is in
    ap (λ l. runs_of (sent_in u.sent s l)) live_is ∙ ap runs_of (sent_is order.before s u)
    ∙ sends_sent u.sent order.before u bytes finished refl (one_unsent u rest (subst (λ us. AllByRecursion IsUnsent (unsent_of us)) is order.unsent))
    (own_before home live unfinished rest blocks u is own order (record { label = u.label; bytes = u.bytes; finished = false }) refl)
    ∙ ap (λ l. joined (runs_of l ++ record { segment = u.label.id; bytes = bytes } ∷ [])) (sym live_is)
  where
    one_unsent : (u : Unfinished) (rest : List Unfinished) → AllByRecursion IsUnsent (unsent_of (u ∷ rest)) → AllByRecursion IsUnsent (unsent_of (u ∷ []))
    one_unsent u rest unsent = elim (cases_Bool u.sent) [
      | inl yes' ↦ subst (λ b. AllByRecursion IsUnsent (if b then [] else u ∷ [])) (sym yes') tt
      | inr no' ↦ subst (λ b. AllByRecursion IsUnsent (if b then [] else u ∷ [])) (sym no') ((subst (λ b. AllByRecursion IsUnsent (if b then rest else u ∷ rest)) no' unsent).0, tt)
    ]

-- ---- what the reader has or gets
going_weighs : (weight : BlockName → ℕ) (unfinished : List Unfinished) → weigh weight (blocks_in (going_of unfinished)) ≤ weigh weight (blocks_of unfinished)
going_weighs weight [] = omega arith
going_weighs weight (u ∷ unfinished) = elim (cases_Bool u.sent) [
  | inl yes' ↦ rw yes' (omega arith)
  | inr no' ↦ rw no' (omega arith)
]

pub live_apart : (home : List BlockName) (live : List Fetched) (unfinished : List Unfinished) (blocks : List BlockName) → HaveOwnIds blocks → AreInOrder home live unfinished blocks
    → joined (runs_of live) ≡ runs_of live
live_apart home live unfinished blocks own order = joined_distinct (runs_of live) distinct
  where
    distinct : AreDistinct (segments_of (runs_of live))
    distinct x =
        let weight : BlockName → ℕ = λ b. mark x b.id in
        let placed = order.placed weight in let all = own x in let less = going_weighs weight unfinished in
        let a : times x (map (λ (b : BlockName). b.id) blocks) ≡ weigh weight blocks = weigh-map (λ (b : BlockName). b.id) (mark x) blocks in
        let b : weigh weight (blocks_in live) ≡ weigh (λ (t : Fetched). weight (block_in t.label)) live = weigh-map (λ (t : Fetched). block_in t.label) weight live in
        let c : times x (segments_of (runs_of live)) ≡ weigh (λ (r : Run). mark x r.segment) (runs_of live) = weigh-map (λ (r : Run). r.segment) (mark x) (runs_of live) in
        let d : weigh (λ (r : Run). mark x r.segment) (runs_of live) ≡ weigh (λ (t : Fetched). mark x t.label.id) live = weigh-map run_of (λ (r : Run). mark x r.segment) live in
        let e = ap (λ l. weigh weight (blocks_in l)) order.live_is ∙ ap (weigh weight) (map-append (λ (t : Fetched). block_in t.label) order.before (going_of unfinished))
        ∙ weigh-append weight (blocks_in order.before) (blocks_in (going_of unfinished)) in
        omega arith

pub still_apart : (runs : List Run) → joined (joined runs) ≡ joined runs
still_apart runs = ap joined (sym (append-nil (joined runs))) ∙ joined_front runs [] ∙ ap joined (append-nil runs)
