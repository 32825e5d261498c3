-- How much a full pipe holds, and how its segments are counted.
use Rattle.std.proofs.Common.{◌≡◌, ◌≤◌, ◌<◌, ◌+◌, ◌-◌, ◌*◌, ℕ, zero, suc, false, List, [], ◌∷◌, ◌++◌, length, take, drop, min, max, refl, sym, ap, subst, ◌∙◌, arith, inl, inr, Option, Some, None}
use Rattle.std.specs.Prelude.{map, IsNone, IsSome, is_none, if◌then◌else◌}
use Rattle.std.specs.List.{AllByRecursion}
use Rattle.std.proofs.lemmas.Bool.{cases_Bool}
use Rattle.std.proofs.lemmas.List.{length-append, length-map}
use Rattle.std.proofs.lemmas.Grind.{flat_map-append}
use Rattle.circular_buffer.specs.Buffer.{Buffer}
use Rattle.seg_block.specs.Numbered.{weigh}
use Rattle.pipe_core.specs.declared.marks.Marks.{Marks}
use Rattle.pipe_core.specs.History.{Call, Run, bytes_of, reader_end, run_in}
use Rattle.pipe_core.specs.Progress.{held}
use Rattle.pipe_state.specs.Fetched.{Fetched}
use Rattle.pipe_state.specs.Chains.{first_len}
use Rattle.pipe_state.specs.Released.{BlockName, blocks_in, bytes_in, first_goes}
use Rattle.pipe_state.specs.Segments.{AreFilled, AreInOrder, AreSized, IsFinished, SegmentsState}
use Rattle.pipe_state.specs.Sides.{FillingState, Unfinished, WriterHas, IsUnsent, going_of, unfinished_of, unsent_of}
use Rattle.pipe_state.specs.Current.{IsSound, IsWhole, drafts_in, free_in, list_of}
use Rattle.pipe_state.specs.Writing.{IsLeft, IsSized, IsWriting, TakeUp, WritingState}
use Rattle.pipe_state.specs.Held.{HoldsRuns, IsHeld}
use Rattle.pipe_state.specs.Full.{IsFull, finished_len}
use Rattle.pipe_state.specs.declared.current.Current.{Current}
use Rattle.pipe_state.specs.declared.filling.Filling.{Filling}
use Rattle.pipe_state.specs.declared.full.Full.{Full}
use Rattle.pipe_state.specs.declared.reading.Reading.{Reading}
use Rattle.pipe_state.proofs.GoneLemmas.{going_is}
use Rattle.pipe_state.proofs.HeldLemmas.{held_len, kept_closed}
use Rattle.pipe_state.proofs.ListLemmas.{all_before, all_behind}
use Rattle.pipe_state.proofs.PlaceLemmas.{counted}
use Rattle.pipe_state.proofs.TakingLemmas.{filled_weaker, none_wrong, wrong}
use Rattle.pipe_state.proofs.WritingLemmas.{last_all, run_len}

one_more : (n k : ℕ) → suc n * k ≡ k + n * k
one_more n k = omega arith

-- ---- what the writer has not finished
-- it takes up so much of its segment, committed and drafted
abbrev TakesUp : ℕ → FillingState → Type 0
TakesUp least f = least ≤ length f.bytes + length f.draft

draft_first : (f : FillingState) (fs : List FillingState) → length (bytes_of (drafts_in (f ∷ fs))) ≡ length f.draft + length (bytes_of (drafts_in fs))
draft_first f fs =
    let both : bytes_of (drafts_in (f ∷ fs)) ≡ bytes_of (run_in f.label.id f.draft) ++ bytes_of (drafts_in fs) = flat_map-append (λ (r : Run). r.bytes) (run_in f.label.id f.draft) (drafts_in fs) in
    let long = ap length both in let sum = length-append (bytes_of (run_in f.label.id f.draft)) (bytes_of (drafts_in fs)) in let first = ap length (run_len f.label.id f.draft) in
    omega arith

unsent_up : (least : ℕ) (fs : List FillingState) → AllByRecursion (TakesUp least) fs → AllByRecursion IsUnsent (map unfinished_of fs) → length fs * least ≤ length (bytes_of (drafts_in fs))
unsent_up least [] up unsent = omega arith
unsent_up least (f ∷ fs) up unsent =
    let rest = unsent_up least fs up.1 unsent.1 in let sum = draft_first f fs in let one = up.0 in let none = ap length unsent.0.1 in let times = one_more (length fs) least in
    omega arith

going_up : (least : ℕ) (f : FillingState) (us : List Unfinished) → least ≤ length f.bytes + length f.draft → AllByRecursion IsUnsent (unsent_of (unfinished_of f ∷ us))
    → least ≤ length (bytes_in (going_of (unfinished_of f ∷ us))) + length f.draft
going_up least f us up unsent = elim (cases_Bool f.sent) [
  | inl yes' ↦ rw yes' (let all = length-append f.bytes [] in omega arith)
  | inr no' ↦ rw no' (let one = (rw no' at unsent).0 in let none = ap length one.1 in omega arith)
]

all_up : (least : ℕ) (fs : List FillingState) (us : List Unfinished) → us ≡ map unfinished_of fs → AllByRecursion (TakesUp least) fs → AllByRecursion IsUnsent (drop 1 us) → AllByRecursion IsUnsent (unsent_of us)
    → (length us * least ≤ length (bytes_in (going_of us)) + length (bytes_of (drafts_in fs))) × ((length us - 1) * least ≤ length (bytes_of (drafts_in fs)))
all_up least [] us told up behind unsent =
    let none = ap length told in let a : length us * least ≡ 0 * least = ap (λ k. k * least) none in let b : (length us - 1) * least ≡ 0 * least = ap (λ k. (k - 1) * least) none in
    (omega arith, omega arith)
all_up least (f ∷ fs) us told up behind unsent =
    let behind' : AllByRecursion IsUnsent (map unfinished_of fs) = subst (λ (vs : List Unfinished). AllByRecursion IsUnsent (drop 1 vs)) told behind in
    let rest = unsent_up least fs up.1 behind' in let sum = draft_first f fs in
    let one = going_up least f (map unfinished_of fs) up.0 (subst (λ vs. AllByRecursion IsUnsent (unsent_of vs)) told unsent) in
    let going = ap (λ vs. length (bytes_in (going_of vs))) told in
    let count = ap length told in let n = length-map fs unfinished_of in
    let many : length us ≡ suc (length fs) = omega arith in
    let few : length us - 1 ≡ length fs = omega arith in
    let a = ap (λ k. k * least) many in let b = ap (λ k. k * least) few in let times = one_more (length fs) least in
    (omega arith, omega arith)

left_up : (size hint more : ℕ) (fs : List FillingState) → AllByRecursion (IsLeft hint) fs → AllByRecursion (IsSized size) fs → AllByRecursion (TakesUp (size - max hint more + 1)) fs
left_up size hint more [] left sized = tt
left_up size hint more (f ∷ fs) left sized = ((let low = left.0.1 in let some = left.0.0 in let is = sized.0.0 in omega arith), left_up size hint more fs left.1 sized.1)

current_up : (size hint more : ℕ) (left : List FillingState) (current : Current) → AllByRecursion (IsLeft hint) left → AllByRecursion (IsSized size) (left ++ list_of current) → IsSound left current
    → IsWhole current → length (free_in current) < more → more ≤ size → AllByRecursion (TakesUp (size - max hint more + 1)) (left ++ list_of current)
current_up size hint more left (Current.Filling f) all sized sound whole short fits =
    let label = (last_all (IsSized size) left f sized).0 in
    all_behind (TakesUp (size - max hint more + 1)) left f (left_up size hint more left all (all_before (IsSized size) left f sized)) (omega arith)
current_up size hint more left (Current.Untaken none) all sized sound whole short fits = subst (λ l. AllByRecursion (TakesUp (size - max hint more + 1)) (l ++ [])) (sym sound.1) tt

pub takes_up : (left : Buffer Filling) (current : Current) (drafted count size hint : ℕ) (has : WriterHas) (home : List BlockName) (live : List Fetched) (blocks : List BlockName)
    → IsWriting left current drafted count size has → AreInOrder home live has.segments blocks → IsWhole current → length (free_in current) < hint → hint ≤ size
    → (name : ℕ) → TakeUp (size - max has.hint hint + 1) (record { draft = drafts_in (left.items ++ list_of current); free = free_in current; has = has; name = name; count = count; size = size })
takes_up left current drafted count size hint has home live blocks is order whole short fits name =
    let up = current_up size has.hint hint left.items current is.left_full is.sizes is.sound whole short fits in
    let all = all_up (size - max has.hint hint + 1) (left.items ++ list_of current) has.segments is.told up is.unsent order.unsent in
    record { all = all.0; behind = all.1 }

-- ---- how many are finished
none_finished : (segments : List Fetched) → AllByRecursion (λ (s : Fetched). s.finished ≡ false) segments → finished_len segments ≡ 0
none_finished [] all = refl
none_finished (s ∷ segments) all = let rest = none_finished segments all.1 in rw all.0 (omega arith)

none_in_front : (k : ℕ) (segments : List Fetched) → AllByRecursion (λ (s : Fetched). s.finished ≡ false) segments → finished_len (take k segments) ≡ 0
none_in_front zero segments all = refl
none_in_front (suc k) [] all = refl
none_in_front (suc k) (s ∷ segments) all = let rest = none_in_front k segments all.1 in rw all.0 (omega arith)

in_front : (k : ℕ) (before going : List Fetched) → AllByRecursion IsFinished before → AllByRecursion (λ (s : Fetched). s.finished ≡ false) going → finished_len (take k (before ++ going)) ≡ min (length before) k
in_front k [] going finished unfinished = let none = none_in_front k going unfinished in omega arith
in_front zero (s ∷ before) going finished unfinished = omega arith
in_front (suc k) (s ∷ before) going finished unfinished = let rest = in_front k before going finished.1 unfinished in rw finished.0 (omega arith)

behind_front : (k : ℕ) (before going : List Fetched) → AllByRecursion IsFinished before → AllByRecursion (λ (s : Fetched). s.finished ≡ false) going → finished_len (drop k (before ++ going)) ≡ length before - k
behind_front k [] going finished unfinished = let none = none_behind k going unfinished in omega arith
  where
    none_behind : (k : ℕ) (segments : List Fetched) → AllByRecursion (λ (s : Fetched). s.finished ≡ false) segments → finished_len (drop k segments) ≡ 0
    none_behind zero segments all = none_finished segments all
    none_behind (suc k) [] all = refl
    none_behind (suc k) (s ∷ segments) all = none_behind k segments all.1
behind_front zero (s ∷ before) going finished unfinished = let rest = behind_front zero before going finished.1 unfinished in rw finished.0 (omega arith)
behind_front (suc k) (s ∷ before) going finished unfinished = let rest = behind_front k before going finished.1 unfinished in omega arith

-- ---- what the finished ones hold
abbrev HasSize : ℕ → Fetched → Type 0
HasSize size s = s.label.size ≡ size

none_wrong_in : (size : ℕ) (segments : List Fetched) → weigh (wrong size) (blocks_in segments) ≡ 0 → AllByRecursion (HasSize size) segments
none_wrong_in size [] none = tt
none_wrong_in size (s ∷ segments) none = (omega arith, none_wrong_in size segments (omega arith))

front_sized : (size : ℕ) (home : List BlockName) (live : List Fetched) (unfinished : List Unfinished) (blocks : List BlockName) → AreSized size blocks → (order : AreInOrder home live unfinished blocks)
    → AllByRecursion (HasSize size) order.before
front_sized size home live unfinished blocks sized order =
    let placed = order.placed (wrong size) in let none = none_wrong size blocks sized in none_wrong_in size order.before (omega arith)

front_filled : (hint : ℕ) (before going : List Fetched) → AreFilled hint (before ++ going) → AreFilled hint before
front_filled hint [] going all = tt
front_filled hint (s ∷ before) going all = (all.0, front_filled hint before going all.1)

least_held : (hint size : ℕ) (before : List Fetched) → AllByRecursion IsFinished before → AreFilled hint before → AllByRecursion (HasSize size) before → length before * (size - hint + 1) ≤ length (bytes_in before)
least_held hint size [] finished filled sized = omega arith
least_held hint size (s ∷ before) finished filled sized =
    let rest = least_held hint size before finished.1 filled.1 sized.1 in let low = filled.0 finished.0 in let is = sized.0 in
    let both : length (bytes_in (s ∷ before)) ≡ length s.bytes + length (bytes_in before) = length-append s.bytes (bytes_in before) in
    let times = one_more (length before) (size - hint + 1) in
    omega arith

-- ---- the bound
-- Of m segments, those before the last are finished, and k are not; n bytes are left of what they hold.
held_bound : (hint size k d skip n m : ℕ) (before going : List Fetched) → AllByRecursion IsFinished before → AreFilled hint before → AllByRecursion (HasSize size) before
    → skip ≤ first_len (before ++ going) → skip + n ≡ length (bytes_in (before ++ going)) → k * (size - hint + 1) ≤ length (bytes_in going) + d → (k - 1) * (size - hint + 1) ≤ d
    → m ≡ length before + k → (m - 1) * (size - hint + 1) ≤ n + d
held_bound hint size k d skip n m [] going finished filled sized within left all behind count =
    let same : (m - 1) * (size - hint + 1) ≡ (k - 1) * (size - hint + 1) = ap (λ c. (c - 1) * (size - hint + 1)) (omega arith) in omega arith
held_bound hint size k d skip n m (s ∷ before) going finished filled sized within left all behind count =
    let rest = least_held hint size before finished.1 filled.1 sized.1 in
    let first : length (bytes_in (s ∷ before ++ going)) ≡ length s.bytes + length (bytes_in (before ++ going)) = length-append s.bytes (bytes_in (before ++ going)) in
    let both : length (bytes_in (before ++ going)) ≡ length (bytes_in before) + length (bytes_in going) =
    ap length (flat_map-append (λ (t : Fetched). t.bytes) before going) ∙ length-append (bytes_in before) (bytes_in going) in
    let less : m - 1 ≡ length before + k = omega arith in
    let same : (m - 1) * (size - hint + 1) ≡ (length before + k) * (size - hint + 1) = ap (λ c. c * (size - hint + 1)) less in
    let apart = sum_times (length before) k (size - hint + 1) in
    omega arith
  where
    sum_times : (a b c : ℕ) → (a + b) * c ≡ a * c + b * c
    sum_times a b c = omega arith

-- ---- once the reader has completed, none is finished
none_before : (skip : ℕ) (before going : List Fetched) → AllByRecursion IsFinished before → skip ≡ length (bytes_in (before ++ going)) → first_goes skip (before ++ going) ≡ false → before ≡ []
none_before skip [] going finished all stays = refl
none_before skip (s ∷ before) going finished all stays = absurd (
    let done = finished.0 in let both : length (bytes_in (s ∷ before ++ going)) ≡ length s.bytes + length (bytes_in (before ++ going)) = length-append s.bytes (bytes_in (before ++ going)) in
    let low : length s.bytes ≤ skip = omega arith in grind (arith, stays, done, low))

-- ---- a full pipe, whole
-- What is known where no segment is at home.
pub record Found (control : Marks) (s : SegmentsState) (retired : Option Reading) (w : WritingState) (hint : ℕ) : Type 0 where
  pub held : IsHeld (record { control = control; segments = s }) retired
  pub order : AreInOrder s.home s.live s.writer.segments s.blocks
  pub home : s.home ≡ []
  pub same : w.has ≡ s.writer
  pub going : IsNone control.ended
  pub sizes : AreSized w.size s.blocks
  pub count : length s.blocks ≡ w.count
  pub up : TakeUp (w.size - max w.has.hint hint + 1) w

module _ (control : Marks) (s : SegmentsState) (retired : Option Reading) (w : WritingState) (hint : ℕ) (found : Found control s retired w hint) where
  abbrev going_here : List Fetched
  going_here = going_of s.writer.segments

  filled_here : AreFilled (max w.has.hint hint) found.order.before
  filled_here =
      let all = subst (AreFilled s.writer.hint) found.order.live_is (found.held.filled found.going) in
      let hints = ap (λ h. h.hint) found.same in
      subst (λ n. AreFilled (max n hint) found.order.before) (sym hints) (filled_weaker s.writer.hint hint found.order.before (front_filled s.writer.hint found.order.before going_here all))

  counted_here : length found.order.before + length w.has.segments ≡ length s.blocks
  counted_here =
      let all = counted s.home found.order.before s.writer.segments s.blocks found.order.placed in let none = ap length found.home in
      let us = ap (λ h. length h.segments) found.same in omega arith

  lone : IsSome control.gone → found.order.before ≡ []
  lone some =
      let closed = kept_closed control.gone s retired some found.held.kept in
      none_before s.reader.skip found.order.before going_here found.order.finished (closed.0 ∙ ap (λ l. length (bytes_in l)) found.order.live_is)
      (ap (first_goes s.reader.skip) (sym found.order.live_is) ∙ closed.1)

  bound_here : (h : List Call) → HoldsRuns (record { control = control; segments = s }) h → (gone : Option ℕ) → reader_end h ≡ gone
      → (w.count - 1) * (w.size - max w.has.hint hint + 1) ≤ length (if is_none gone then held h else []) + length (bytes_of w.draft)
  bound_here h holds None open' =
      let lies = holds.lies (subst IsNone (sym open') refl) in
      let attends : IsNone control.gone = subst IsNone (sym (holds.marks.gone ∙ open')) refl in
      let left = held_len h s.reader.skip s.live lies in let live = ap (λ l. length (bytes_in l)) found.order.live_is in
      let within = found.held.within attends in let first = ap first_len found.order.live_is in let count = counted_here in let is = found.count in
      let going = ap (λ b. length (bytes_in (going_of b.segments))) found.same in let all = found.up.all in
      held_bound (max w.has.hint hint) w.size (length w.has.segments) (length (bytes_of w.draft)) s.reader.skip (length (held h)) w.count found.order.before going_here
      found.order.finished filled_here (front_sized w.size s.home s.live s.writer.segments s.blocks found.sizes found.order) (omega arith) (omega arith) (omega arith) found.up.behind (omega arith)
  bound_here h holds (Some code) completed =
      let none = ap length (lone (subst IsSome (sym (holds.marks.gone ∙ completed)) refl)) in let count = counted_here in let is = found.count in let behind = found.up.behind in
      let same : (w.count - 1) * (w.size - max w.has.hint hint + 1) ≡ (length w.has.segments - 1) * (w.size - max w.has.hint hint + 1) = ap (λ c. (c - 1) * (w.size - max w.has.hint hint + 1)) (omega arith) in
      omega arith

  pub is_full : (told : Full) (unfinished finished : ℕ) → unfinished ≡ length w.has.segments → finished ≡ length s.blocks - unfinished → told.writer ≡ unfinished → told.reader ≡ min finished (length s.reader.segments)
      → told.waiting ≡ finished - told.reader → IsFull (max w.has.hint hint) told (record { control = control; segments = s }) w
  is_full told unfinished finished us fs writer reader waiting =
      let count = counted_here in
      let front = in_front (length s.reader.segments) found.order.before going_here found.order.finished (going_is s.writer.segments) in
      let back = behind_front (length s.reader.segments) found.order.before going_here found.order.finished (going_is s.writer.segments) in
      let live_front = ap (λ l. finished_len (take (length s.reader.segments) l)) found.order.live_is in
      let live_back = ap (λ l. finished_len (drop (length s.reader.segments) l)) found.order.live_is in
      record {
        home = found.home;
        writer = writer ∙ us;
        waiting = omega arith;
        reader = omega arith;
        sum = omega arith;
        bound = λ h holds. bound_here h holds (reader_end h) refl;
        alone = λ some. let none = ap length (lone some) in (omega arith, omega arith);
      }
