-- Where the blocks are.
use Rattle.std.proofs.Common.{◌≡◌, ◌≤◌, ◌+◌, ℕ, true, false, List, [], ◌∷◌, ◌++◌, length, refl, ap, sym, subst, arith, inl, inr, Option, Some, None}
use Rattle.std.specs.Prelude.{IsSome, if◌then◌else◌}
use Rattle.std.specs.List.{AllByRecursion}
use Rattle.std.proofs.lemmas.Bool.{cases_Bool}
use Rattle.std.proofs.lemmas.List.{length-append, length-map, append-nil}
use Rattle.seg_block.specs.Numbered.{weigh}
use Rattle.pipe_state.specs.Fetched.{Fetched, AllFit, Fits, arrive, arrived, continued, fetched_front, put, renewed}
use Rattle.pipe_state.specs.Released.{BlockName, blocks_in}
use Rattle.pipe_state.specs.Sides.{Unfinished, IsUnsent, going_of, unsent_of}
use Rattle.pipe_state.specs.Segments.{ArePlaced, AreFronted, AreInOrder, blocks_of, sent_in}
use Rattle.pipe_state.specs.declared.arrival.Arrival.{Arrival}
use Rattle.seg_block.specs.declared.front.SegFront.{SegFront}
use Rattle.seg_block.specs.declared.tail.Mark.{Mark}
use Rattle.seg_block.specs.declared.tail.TailEnd.{TailEnd}
use Rattle.pipe_state.proofs.ListLemmas.{all_behind}
use Rattle.pipe_state.proofs.FetchedLemmas.{as_many}

-- ---- weights
module _ {X : Type 0} (weight : X → ℕ) where
  pub weigh-append : (xs ys : List X) → weigh weight (xs ++ ys) ≡ weigh weight xs + weigh weight ys
  weigh-append [] ys = omega arith
  weigh-append (x ∷ xs) ys = let rest = weigh-append xs ys in omega arith

pub weigh-ones : {X : Type 0} (xs : List X) → weigh (λ (x : X). 1) xs ≡ length xs
weigh-ones [] = refl
weigh-ones (x ∷ xs) = let rest = weigh-ones xs in omega arith

-- how many blocks there are in each place
pub counted : (home : List BlockName) (finished : List Fetched) (unfinished : List Unfinished) (blocks : List BlockName) → ArePlaced home finished unfinished blocks
    → length home + length finished + length unfinished ≡ length blocks
counted home finished unfinished blocks placed =
    let all = placed (λ b. 1) in
    let a = weigh-ones home in let b = weigh-ones (blocks_in finished) in let c = weigh-ones (blocks_of unfinished) in let d = weigh-ones blocks in
    let e : length (blocks_in finished) ≡ length finished = length-map finished _ in let f : length (blocks_of unfinished) ≡ length unfinished = length-map unfinished _ in
    omega arith

-- ---- those that are not sent
pub none_going : (unfinished : List Unfinished) → AllByRecursion IsUnsent unfinished → going_of unfinished ≡ []
none_going [] unsent = refl
none_going (u ∷ unfinished) unsent = rw unsent.0.0 refl

pub all_unsent : (unfinished : List Unfinished) → AllByRecursion IsUnsent unfinished → AllByRecursion IsUnsent (unsent_of unfinished)
all_unsent [] unsent = tt
all_unsent (u ∷ unfinished) unsent = subst (λ b. AllByRecursion IsUnsent (if b then unfinished else u ∷ unfinished)) (sym unsent.0.0) unsent

pub unsent_behind : (u : Unfinished) (unfinished : List Unfinished) → AllByRecursion IsUnsent (unsent_of (u ∷ unfinished)) → AllByRecursion IsUnsent unfinished
unsent_behind u unfinished unsent = elim (cases_Bool u.sent) [
  | inl yes' ↦ rw yes' at unsent
  | inr no' ↦ (rw no' at unsent).1
]

-- ---- the last segment
last_replaced : (before : List Fetched) (s t : Fetched) → sent_in true s (before ++ t ∷ []) ≡ before ++ s ∷ []
last_replaced [] s t = refl
last_replaced (r ∷ []) s t = refl
last_replaced (r ∷ q ∷ before) s t = ap (λ l. r ∷ l) (last_replaced (q ∷ before) s t)

pub sent_is : (before : List Fetched) (s : Fetched) (u : Unfinished) → sent_in u.sent s (before ++ going_of (u ∷ [])) ≡ before ++ s ∷ []
sent_is before s u = elim (cases_Bool u.sent) [
  | inl yes' ↦ rw yes' (last_replaced before s (record { label = u.label; bytes = u.bytes; finished = false }))
  | inr no' ↦ rw no' (ap (λ l. l ++ s ∷ []) (append-nil before))
]

-- ---- the inbox has no more arrivals than there are segments
one_more : (fetched : List Fetched) (s : Fetched) → length (fetched ++ s ∷ []) ≡ length fetched + 1
one_more fetched s = length-append fetched (s ∷ [])

arrived_some : (fetched : List Fetched) (front : Option SegFront) (m : Mark) (end : Option TailEnd) → Fits fetched front m end → 1 ≤ length (arrived fetched front m end)
arrived_some fetched (Some f) m end fits = let e = one_more fetched (continued (fetched_front f) m end) in omega arith
arrived_some [] None m end fits = absurd fits
arrived_some (s ∷ fetched) None m end fits = let e = as_many (s ∷ fetched) m end in omega arith

arrived_more : (fetched : List Fetched) (front : Option SegFront) (m : Mark) (end : Option TailEnd) → IsSome front → length (arrived fetched front m end) ≡ length fetched + 1
arrived_more fetched (Some f) m end some = one_more fetched (continued (fetched_front f) m end)
arrived_more fetched None m end some = cc (some)

all_more : (fetched : List Fetched) (inbox : List Arrival) → AllByRecursion (λ (a : Arrival). IsSome a.front) inbox → length (arrive fetched inbox) ≡ length fetched + length inbox
all_more fetched [] fronted = omega arith
all_more fetched (a ∷ inbox) fronted =
    let one = arrived_more fetched a.front a.mark a.end fronted.0 in let rest = all_more (arrived fetched a.front a.mark a.end) inbox fronted.1 in omega arith

pub no_more_arrivals : (fetched : List Fetched) (inbox : List Arrival) → AreFronted inbox → AllFit fetched inbox → length inbox ≤ length (arrive fetched inbox)
no_more_arrivals fetched [] fronted fit = omega arith
no_more_arrivals fetched (a ∷ inbox) fronted fit =
    let one = arrived_some fetched a.front a.mark a.end fit.0 in let rest = all_more (arrived fetched a.front a.mark a.end) inbox fronted in omega arith

behind_fronted : (inbox : List Arrival) (a : Arrival) → IsSome a.front → AreFronted inbox → AreFronted (inbox ++ a ∷ [])
behind_fronted [] a some fronted = tt
behind_fronted (b ∷ inbox) a some fronted = all_behind (λ c. IsSome c.front) inbox a fronted some

renewed_all : (b : Arrival) (inbox : List Arrival) (m : Mark) (end : Option TailEnd) → AllByRecursion (λ (a : Arrival). IsSome a.front) (b ∷ inbox)
    → AllByRecursion (λ (a : Arrival). IsSome a.front) (renewed (b ∷ inbox) m end)
renewed_all b [] m end fronted = fronted
renewed_all b (c ∷ inbox) m end fronted = (fronted.0, renewed_all c inbox m end fronted.1)

renewed_fronted : (inbox : List Arrival) (m : Mark) (end : Option TailEnd) → AreFronted inbox → AreFronted (renewed inbox m end)
renewed_fronted [] m end fronted = tt
renewed_fronted (a ∷ []) m end fronted = tt
renewed_fronted (a ∷ b ∷ inbox) m end fronted = renewed_all b inbox m end fronted

pub put_fronted : (inbox : List Arrival) (front : Option SegFront) (m : Mark) (end : Option TailEnd) → AreFronted inbox → AreFronted (put inbox front m end)
put_fronted inbox (Some f) m end fronted = behind_fronted inbox (record { front = Some f; mark = m; end = end }) refl fronted
put_fronted inbox None m end fronted = renewed_fronted inbox m end fronted

-- ---- what the reader has or gets fits into the places of all blocks
going_few : (unfinished : List Unfinished) → length (going_of unfinished) ≤ length unfinished
going_few [] = omega arith
going_few (u ∷ unfinished) = elim (cases_Bool u.sent) [
  | inl yes' ↦ rw yes' (omega arith)
  | inr no' ↦ rw no' (omega arith)
]

pub live_few : (home : List BlockName) (live : List Fetched) (unfinished : List Unfinished) (blocks : List BlockName) → AreInOrder home live unfinished blocks → length home + length live ≤ length blocks
live_few home live unfinished blocks order =
    let count = counted home order.before unfinished blocks order.placed in let few = going_few unfinished in
    let long = length-append order.before (going_of unfinished) in let is = ap length order.live_is in omega arith

-- ---- one more
pub next_going : (unfinished : List Unfinished) (u : Unfinished) → IsUnsent u → going_of (unfinished ++ u ∷ []) ≡ going_of unfinished
next_going [] u unsent = none_going (u ∷ []) (unsent, tt)
next_going (v ∷ unfinished) u unsent = refl

pub next_unsent : (unfinished : List Unfinished) (u : Unfinished) → IsUnsent u → AllByRecursion IsUnsent (unsent_of unfinished) → AllByRecursion IsUnsent (unsent_of (unfinished ++ u ∷ []))
next_unsent [] u one all = all_unsent (u ∷ []) (one, tt)
next_unsent (v ∷ unfinished) u one all = elim (cases_Bool v.sent) [
  | inl yes' ↦ rw yes' (all_behind IsUnsent unfinished u (rw yes' at all) one)
  | inr no' ↦ subst (λ b. AllByRecursion IsUnsent (if b then unfinished ++ u ∷ [] else v ∷ unfinished ++ u ∷ [])) (sym no')
      (all_behind IsUnsent (v ∷ unfinished) u (subst (λ b. AllByRecursion IsUnsent (if b then unfinished else v ∷ unfinished)) no' all) one)
]
