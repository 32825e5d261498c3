-- What was done to a segment, put into the inbox.
use Rattle.std.proofs.Common.{◌≡◌, ◌<◌, ◌≤◌, ◌-◌, ℕ, List, [], ◌∷◌, ◌++◌, length, take, refl, ap, sym, ◌∙◌, subst, arith, Option, Some, None}
use Rattle.std.proofs.lemmas.List.{length-append}
use Rattle.circular_buffer.specs.Buffer.{Buffer, buffer, last_item}
use Rattle.seg_block.specs.declared.front.SegFront.{SegFront}
use Rattle.seg_block.specs.declared.tail.Mark.{Mark}
use Rattle.seg_block.specs.declared.tail.TailEnd.{TailEnd}
use Rattle.pipe_state.specs.Fetched.{Fetched, Continues, FitsLast, Fits, AllFit, arrive, arrived, continued, continue_last, fetched_front, put, renewed}
use Rattle.pipe_state.specs.declared.arrival.Arrival.{Arrival}
use Rattle.pipe_state.proofs.ListLemmas.{last_apart, no_last}
use Rattle.pipe_state.proofs.FetchedLemmas.{fits_the_last, last_goes_on}

arrive_behind : (fetched : List Fetched) (xs : List Arrival) (a : Arrival) → arrive fetched (xs ++ a ∷ []) ≡ arrived (arrive fetched xs) a.front a.mark a.end
arrive_behind fetched [] a = refl
arrive_behind fetched (x ∷ xs) a = arrive_behind (arrived fetched x.front x.mark x.end) xs a

fit_behind : (fetched : List Fetched) (xs : List Arrival) (a : Arrival) → AllFit fetched xs → Fits (arrive fetched xs) a.front a.mark a.end → AllFit fetched (xs ++ a ∷ [])
fit_behind fetched [] a fit fits = (fits, tt)
fit_behind fetched (x ∷ xs) a fit fits = (fit.0, fit_behind (arrived fetched x.front x.mark x.end) xs a fit.1 fits)

fit_before : (fetched : List Fetched) (xs : List Arrival) (a : Arrival) → AllFit fetched (xs ++ a ∷ []) → AllFit fetched xs × Fits (arrive fetched xs) a.front a.mark a.end
fit_before fetched [] a fit = (tt, fit.0)
fit_before fetched (x ∷ xs) a fit = let rest = fit_before (arrived fetched x.front x.mark x.end) xs a fit.1 in ((fit.0, rest.0), rest.1)

renewed_last : (xs : List Arrival) (a : Arrival) (m : Mark) (end : Option TailEnd) → renewed (xs ++ a ∷ []) m end ≡ xs ++ record { front = a.front; mark = m; end = end } ∷ []
renewed_last [] a m end = refl
renewed_last (x ∷ []) a m end = refl
renewed_last (x ∷ y ∷ xs) a m end = ap (λ r. x ∷ r) (renewed_last (y ∷ xs) a m end)

goes_on_twice : (fetched : List Fetched) (m n : Mark) (end later : Option TailEnd) → continue_last (continue_last fetched m end) n later ≡ continue_last fetched n later
goes_on_twice [] m n end later = refl
goes_on_twice (s ∷ []) m n end later = refl
goes_on_twice (s ∷ t ∷ []) m n end later = refl
goes_on_twice (s ∷ t ∷ u ∷ fetched) m n end later = ap (λ r. s ∷ r) (goes_on_twice (t ∷ u ∷ fetched) m n end later)

-- one segment with a later mark in the place of an earlier one
later_continues : (segment : Fetched) (m n : Mark) (end later : Option TailEnd) → Continues segment m end → Continues (continued segment m end) n later → Continues segment n later
later_continues segment m n end later had more =
    let a = had.longer in let b = more.longer in record { part = more.part; longer = omega arith; going = had.going; ends = more.ends }

later_fits : (fetched : List Fetched) (front : Option SegFront) (m n : Mark) (end later : Option TailEnd) → Fits fetched front m end → FitsLast (arrived fetched front m end) n later
    → Fits fetched front n later × (arrived fetched front n later ≡ continue_last (arrived fetched front m end) n later)
later_fits fetched (Some f) m n end later fits last =
    (later_continues (fetched_front f) m n end later fits (fits_the_last fetched (continued (fetched_front f) m end) n later last), sym (last_goes_on fetched (continued (fetched_front f) m end) n later))
later_fits fetched None m n end later fits last = (behind fetched fits last, sym (goes_on_twice fetched m n end later))
  where
    behind : (fetched : List Fetched) → FitsLast fetched m end → FitsLast (continue_last fetched m end) n later → FitsLast fetched n later
    behind [] fits last = fits
    behind (s ∷ []) fits last = later_continues s m n end later fits last
    behind (s ∷ t ∷ []) fits last = later_continues t m n end later fits last
    behind (s ∷ t ∷ u ∷ fetched) fits last = behind (t ∷ u ∷ fetched) fits last

-- What was put fits, and the reader is to have what it tells.
pub record Puts (fetched : List Fetched) (old new : List Arrival) (front : Option SegFront) (mark : Mark) (end : Option TailEnd) : Type 0 where
  pub fit : AllFit fetched new
  pub then : arrive fetched new ≡ arrived (arrive fetched old) front mark end

puts_behind : (fetched : List Fetched) (old : List Arrival) (front : Option SegFront) (mark : Mark) (end : Option TailEnd) → AllFit fetched old → Fits (arrive fetched old) front mark end
    → Puts fetched old (old ++ record { front = front; mark = mark; end = end } ∷ []) front mark end
puts_behind fetched old front mark end fit fits = let a : Arrival = record { front = front; mark = mark; end = end } in record {
  fit = fit_behind fetched old a fit fits;
  then = arrive_behind fetched old a;
}

puts_again : (fetched : List Fetched) (old : List Arrival) (mark : Mark) (end : Option TailEnd) → AllFit fetched old → FitsLast (arrive fetched old) mark end → Puts fetched old (renewed old mark end) None mark end
puts_again fetched [] mark end fit last = puts_behind fetched [] None mark end fit last
puts_again fetched (x ∷ xs) mark end fit last =
    let old : List Arrival = x ∷ xs in
    let (init, a, apart) = has_last x xs in
    (let fit' = fit_before fetched init a (subst (AllFit fetched) (sym apart) fit) in
    let now : arrive fetched old ≡ arrived (arrive fetched init) a.front a.mark a.end = ap (arrive fetched) (sym apart) ∙ arrive_behind fetched init a in
    let new : renewed old mark end ≡ init ++ record { front = a.front; mark = mark; end = end } ∷ [] = ap (λ l. renewed l mark end) (sym apart) ∙ renewed_last init a mark end in
    let later = later_fits (arrive fetched init) a.front a.mark mark a.end end fit'.1 (subst (λ l. FitsLast l mark end) now last) in
    record {
      fit = subst (AllFit fetched) (sym new) (fit_behind fetched init (record { front = a.front; mark = mark; end = end }) fit'.0 later.0);
      then = ap (arrive fetched) new ∙ arrive_behind fetched init (record { front = a.front; mark = mark; end = end }) ∙ later.1 ∙ ap (λ l. continue_last l mark end) (sym now);
    })
  where
    has_last : (x : Arrival) (xs : List Arrival) → (init : List Arrival) × (a : Arrival) × (init ++ a ∷ [] ≡ x ∷ xs)
    has_last x [] = ([], x, refl)
    has_last x (y ∷ xs) = let rest = has_last y xs in (x ∷ rest.0, rest.1, ap (λ l. x ∷ l) rest.2)

pub puts : (fetched : List Fetched) (old : List Arrival) (front : Option SegFront) (mark : Mark) (end : Option TailEnd) → AllFit fetched old → Fits (arrive fetched old) front mark end
    → Puts fetched old (put old front mark end) front mark end
puts fetched old (Some f) mark end fit fits = puts_behind fetched old (Some f) mark end fit fits
puts fetched old None mark end fit fits = puts_again fetched old mark end fit fits

-- ---- the inbox without its last arrival, and that one again
pub renewed_of : (items : List Arrival) (a : Arrival) (front : Option SegFront) (m : Mark) (end : Option TailEnd) → last_item items ≡ Some a → a.front ≡ front
    → renewed items m end ≡ take (length items - 1) items ++ record { front = front; mark = m; end = end } ∷ []
renewed_of items a front m end last same =
    ap (λ l. renewed l m end) (sym (last_apart items a last)) ∙ renewed_last (take (length items - 1) items) a m end
    ∙ ap (λ f. take (length items - 1) items ++ record { front = f; mark = m; end = end } ∷ []) same

pub renewed_none : (items : List Arrival) (m : Mark) (end : Option TailEnd) → last_item items ≡ None → renewed items m end ≡ take (length items - 1) items ++ record { front = None; mark = m; end = end } ∷ []
renewed_none items m end last = let none = no_last items last in rw none refl

pub has_room : (items : List Arrival) (a : Arrival) (new : List Arrival) (rest : Buffer Arrival) (room : ℕ) → new ≡ take (length items - 1) items ++ a ∷ [] → length new ≤ room → rest ≡ buffer (take (length items - 1) items) room
    → length rest.items < rest.capacity
has_room items a new rest room is small left =
    let count = ap length is in let both = length-append (take (length items - 1) items) (a ∷ []) in
    let n = ap (λ b. length b.items) left in let c = ap (λ b. b.capacity) left in omega arith

pub is_renewed : (items : List Arrival) (a : Arrival) (new : List Arrival) (rest now : Buffer Arrival) (room : ℕ) → new ≡ take (length items - 1) items ++ a ∷ [] → rest ≡ buffer (take (length items - 1) items) room
    → now ≡ buffer (rest.items ++ a ∷ []) rest.capacity → now ≡ buffer new room
is_renewed items a new rest now room is left put_in = put_in ∙ ap (λ b. buffer (b.items ++ a ∷ []) b.capacity) left ∙ ap (λ l. buffer l room) (sym is)
