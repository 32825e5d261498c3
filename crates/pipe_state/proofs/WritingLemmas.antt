-- The writer's segments.
use Rattle.std.proofs.Common.{Global, ◌≡◌, ◌≤◌, ◌<◌, ◌+◌, ◌*◌, ◌^◌, ℕ, suc, Bool, true, false, List, [], ◌∷◌, ◌++◌, length, take, drop, refl, sym, ap, subst, ◌∙◌, arith, append_assoc, Some}
use Rattle.std.specs.Prelude.{map, slice_get, Vec}
use Rattle.std.specs.List.{AllByRecursion}
use Rattle.std.specs.Vec.{with_items_from}
use Rattle.std.proofs.lemmas.List.{length-append, length-take-le, map-append, append-nil, nil_from_length}
use Rattle.std.proofs.lemmas.Nat.{mul-le}
use Rattle.std.proofs.lemmas.Grind.{flat_map-append}
use Rattle.circular_buffer.specs.Buffer.{Buffer, buffer}
use Rattle.pipe_core.specs.Bytes.{overwritten}
use Rattle.pipe_core.specs.History.{Run, bytes_of, run_in}
use Rattle.pipe_core.specs.Lends.{joined}
use Rattle.pipe_state.specs.Fetched.{Fetched}
use Rattle.pipe_state.specs.Released.{BlockName}
use Rattle.pipe_state.specs.Sides.{FillingState, Unfinished, WriterHas, IsUnsent, unfinished_of}
use Rattle.pipe_state.specs.Sending.{committed_in}
use Rattle.pipe_state.specs.Segments.{AreFilled, AreInOrder, IsFilled, SegmentsState, SendsOnly, sent_in}
use Rattle.pipe_state.specs.Lying.{AreFull, HaveOwnIds, runs_of}
use Rattle.pipe_state.specs.Current.{HasDraft, IsAdvanced, IsCommitted, drafts_in, free_in, list_of, with_advanced}
use Rattle.pipe_state.specs.CurrentLending.{with_room}
use Rattle.pipe_state.specs.Writing.{IsLeft, IsSized, IsWriting}
use Rattle.pipe_state.specs.declared.filling.Filling.{Filling}
use Rattle.pipe_state.specs.declared.current.Current.{Current}
use Rattle.pipe_state.proofs.ListLemmas.{all_before, all_behind, first_apart}
use Rattle.pipe_state.proofs.LyingLemmas.{both_full, joined_front}
use Rattle.pipe_state.proofs.RunLemmas.{live_apart, sends_run}

-- ---- a draft as a run
full_run : (segment : ℕ) (bytes : List ℕ) → 0 < length bytes → run_in segment bytes ≡ record { segment = segment; bytes = bytes } ∷ []
full_run segment [] some = absurd (omega arith)
full_run segment (b ∷ bytes) some = refl

pub commits_run : (home : List BlockName) (live live' : List Fetched) (unfinished rest : List Unfinished) (blocks : List BlockName) (f : FillingState) (finished : Bool)
    → unfinished ≡ unfinished_of f ∷ rest → HaveOwnIds blocks → AreInOrder home live unfinished blocks → HasDraft f → live' ≡ sent_in f.sent (committed_in f finished) live
    → runs_of live' ≡ joined (runs_of live ++ run_in f.label.id f.draft)
commits_run home live live' unfinished rest blocks f finished is own order some sent =
    ap runs_of sent ∙ sends_run home live unfinished rest blocks (unfinished_of f) f.draft finished is own order
    ∙ ap (λ r. joined (runs_of live ++ r)) (sym (full_run f.label.id f.draft some))

pub nothing_drafted : (home : List BlockName) (live : List Fetched) (unfinished : List Unfinished) (blocks : List BlockName) (segment : ℕ) (draft : List ℕ)
    → HaveOwnIds blocks → AreInOrder home live unfinished blocks → draft ≡ [] → runs_of live ≡ joined (runs_of live ++ run_in segment draft)
nothing_drafted home live unfinished blocks segment draft own order none =
    sym (ap (λ d. joined (runs_of live ++ run_in segment d)) none ∙ ap joined (append-nil (runs_of live)) ∙ live_apart home live unfinished blocks own order)

-- ---- what is finished has too little room
pub sent_filled : (hint : ℕ) (sent : Bool) (s : Fetched) (live : List Fetched) → IsFilled hint s → AreFilled hint live → AreFilled hint (sent_in sent s live)
sent_filled hint false s live one all = all_behind (IsFilled hint) live s all one
sent_filled hint true s [] one all = tt
sent_filled hint true s (t ∷ []) one all = (one, tt)
sent_filled hint true s (t ∷ r ∷ live) one all = (all.0, sent_filled hint true s (r ∷ live) one all.1)

pub going_filled : (hint : ℕ) (f : FillingState) → IsFilled hint (committed_in f false)
going_filled hint f finished = absurd (cc (finished))

pub left_filled : (hint : ℕ) (f : FillingState) → IsLeft hint f → IsFilled hint (committed_in f true)
left_filled hint f left finished = let some = left.0 in let low = left.1 in let both = length-append f.bytes f.draft in omega arith

-- ---- those that were left, one after the other
pub record Next (hint : ℕ) (left left' : List FillingState) (f : FillingState) : Type 0 where
  pub apart : left ≡ f ∷ left'
  pub first : IsLeft hint f
  pub rest : AllByRecursion (IsLeft hint) left'

pub next : (hint : ℕ) (left left' : List FillingState) (f : FillingState) → slice_get left 0 ≡ Some f → left' ≡ drop 1 left → AllByRecursion (IsLeft hint) left → Next hint left left' f
next hint left left' f first is all_left =
    let apart : left ≡ f ∷ left' = first_apart left f first ∙ ap (λ l. f ∷ l) (sym is) in
    let all = subst (AllByRecursion (IsLeft hint)) apart all_left in
    record { apart = apart; first = all.0; rest = all.1 }

pub next_runs : (runs runs' : List Run) (left left' : List FillingState) (f : FillingState) → left ≡ f ∷ left' → runs' ≡ joined (runs ++ run_in f.label.id f.draft)
    → joined (runs' ++ drafts_in left') ≡ joined (runs ++ drafts_in left)
next_runs runs runs' left left' f apart is =
    ap (λ r. joined (r ++ drafts_in left')) is ∙ joined_front (runs ++ run_in f.label.id f.draft) (drafts_in left')
    ∙ ap joined (append_assoc runs (run_in f.label.id f.draft) (drafts_in left')) ∙ ap (λ l. joined (runs ++ drafts_in l)) (sym apart)

pub last_all : (P : FillingState → Type 0) (fs : List FillingState) (f : FillingState) → AllByRecursion P (fs ++ f ∷ []) → P f
last_all P [] f all = all.0
last_all P (g ∷ fs) f all = last_all P fs f all.1

-- ---- a loan of the free part
pub still_writing : (left : Buffer Filling) (current : Current) (drafted count size : ℕ) (has : WriterHas) → IsWriting left current drafted count size has
    → (w : List ℕ) → IsWriting left (with_room current w) drafted count size has
still_writing left (Current.Filling f) drafted count size has is w =
    let g : FillingState = record f { spare = overwritten f.spare w } in
    let longer : length (left.items ++ g ∷ []) ≡ length (left.items ++ f ∷ []) = length-append left.items (g ∷ []) ∙ sym (length-append left.items (f ∷ [])) in
    let drafts : drafts_in (left.items ++ g ∷ []) ≡ drafts_in (left.items ++ f ∷ []) =
    flat_map-append (λ (h : FillingState). run_in h.label.id h.draft) left.items (g ∷ []) ∙ sym (flat_map-append (λ (h : FillingState). run_in h.label.id h.draft) left.items (f ∷ [])) in
    record {
      told = is.told ∙ map-append unfinished_of left.items (f ∷ []) ∙ sym (map-append unfinished_of left.items (g ∷ []));
      unsent = is.unsent;
      sound = tt;
      left_full = is.left_full;
      sizes = all_behind (IsSized size) left.items g (all_before (IsSized size) left.items f is.sizes) (last_all (IsSized size) left.items f is.sizes);
      counted = is.counted ∙ ap (λ r. length (bytes_of r)) (sym drafts);
      room = is.room;
      few = (let few = is.few in omega arith);
      small = is.small;
    }
still_writing left (Current.Untaken none) drafted count size has is w =
    let same : length (with_items_from none 0 w).items ≡ none.len = sym (with_items_from none 0 w).ok.0 in
    record {
      told = is.told;
      unsent = is.unsent;
      sound = (nil_from_length (with_items_from none 0 w).items (let ok = none.ok.0 in omega (arith, ap length is.sound.0)), is.sound.1);
      left_full = is.left_full;
      sizes = is.sizes;
      counted = is.counted;
      room = is.room;
      few = is.few;
      small = is.small;
    }

pub untaken_drafts : (current : Current) (none : Vec ℕ Global) → current ≡ Current.Untaken none → drafts_in (list_of current) ≡ []
untaken_drafts (Current.Filling f) none is = cc (is)
untaken_drafts (Current.Untaken other) none is = refl

-- ---- nothing else changed
pub sends_only : (before after : SegmentsState) (live : List Fetched) (writer : WriterHas) → after ≡ record before { live = live; writer = writer } → SendsOnly before after
sends_only before after live writer is =
    let lives = ap (λ (s : SegmentsState). s.live) is in let writers = ap (λ (s : SegmentsState). s.writer) is in
    is ∙ (λ i. record before { live = sym lives i; writer = sym writers i })

pub sends_later : (first before after : SegmentsState) → SendsOnly first before → SendsOnly before after → SendsOnly first after
sends_later first before after one two = two ∙ ap {A = SegmentsState} (λ (s : SegmentsState). record s { live = after.live; writer = after.writer }) one

-- ---- a commit
pub drafts_joined : (runs runs' runs'' : List Run) (left right : List FillingState) → runs' ≡ joined (runs ++ drafts_in left) → runs'' ≡ joined (runs' ++ drafts_in right)
    → runs'' ≡ joined (runs ++ drafts_in (left ++ right))
drafts_joined runs runs' runs'' left right one two =
    two ∙ ap (λ r. joined (r ++ drafts_in right)) one ∙ joined_front (runs ++ drafts_in left) (drafts_in right) ∙ ap joined (append_assoc runs (drafts_in left) (drafts_in right))
    ∙ ap (λ d. joined (runs ++ d)) (sym (flat_map-append (λ (f : FillingState). run_in f.label.id f.draft) left right))

pub committed_writing : (left left' : Buffer Filling) (current current' : Current) (drafted count size : ℕ) (has has' : WriterHas) → left' ≡ buffer [] left.capacity
    → IsCommitted current current' → has'.segments ≡ map unfinished_of (list_of current') → IsWriting left current drafted count size has → IsWriting left' current' 0 count size has'
committed_writing left left' (Current.Filling f) (Current.Filling g) drafted count size has has' none same told is =
    subst (λ (l : Buffer Filling). IsWriting l (Current.Filling g) 0 count size has') (sym none) (record {
      told = told;
      unsent = subst (λ (us : List Unfinished). AllByRecursion IsUnsent (drop 1 us)) (sym told) tt;
      sound = tt;
      left_full = tt;
      sizes = ((ap (λ l. l.size) same.0 ∙ (last_all (IsSized size) left.items f is.sizes).0, (let none = ap length same.2 in omega arith)), tt);
      counted = ap (λ d. length (bytes_of (run_in g.label.id d ++ []))) (sym same.2);
      room = is.room;
      few = (let few = is.few in let long = length-append left.items (f ∷ []) in omega arith);
      small = is.small;
    })
committed_writing left left' (Current.Untaken v) (Current.Untaken w) drafted count size has has' none same told is =
    subst (λ (l : Buffer Filling). IsWriting l (Current.Untaken w) 0 count size has') (sym none) (record {
      told = told;
      unsent = subst (λ (us : List Unfinished). AllByRecursion IsUnsent (drop 1 us)) (sym told) tt;
      sound = (ap (λ u. u.items) same ∙ is.sound.0, refl);
      left_full = tt;
      sizes = tt;
      counted = refl;
      room = is.room;
      few = omega arith;
      small = is.small;
    })
committed_writing left left' (Current.Filling f) (Current.Untaken w) drafted count size has has' none same told is = absurd same
committed_writing left left' (Current.Untaken v) (Current.Filling g) drafted count size has has' none same told is = absurd same

-- ---- how much is drafted
pub run_len : (segment : ℕ) (bytes : List ℕ) → bytes_of (run_in segment bytes) ≡ bytes
run_len segment [] = refl
run_len segment (b ∷ bytes) = append-nil (b ∷ bytes)

drafts_bounded : (size : ℕ) (fs : List FillingState) → AllByRecursion (IsSized size) fs → length (bytes_of (drafts_in fs)) ≤ length fs * size
drafts_bounded size [] all = omega arith
drafts_bounded size (f ∷ fs) all =
    let rest = drafts_bounded size fs all.1 in let one = all.0.1 in
    let both : bytes_of (drafts_in (f ∷ fs)) ≡ bytes_of (run_in f.label.id f.draft) ++ bytes_of (drafts_in fs) = flat_map-append (λ (r : Run). r.bytes) (run_in f.label.id f.draft) (drafts_in fs) in
    let long = ap length both in let sum = length-append (bytes_of (run_in f.label.id f.draft)) (bytes_of (drafts_in fs)) in let first = ap length (run_len f.label.id f.draft) in
    let more : suc (length fs) * size ≡ size + length fs * size = omega arith in
    omega arith

drafts_behind : (fs : List FillingState) (f : FillingState) → bytes_of (drafts_in (fs ++ f ∷ [])) ≡ bytes_of (drafts_in fs) ++ f.draft
drafts_behind fs f =
    ap bytes_of (flat_map-append (λ (h : FillingState). run_in h.label.id h.draft) fs (f ∷ [])) ∙ flat_map-append (λ (r : Run). r.bytes) (drafts_in fs) (drafts_in (f ∷ []))
    ∙ ap (λ r. bytes_of (drafts_in fs) ++ bytes_of r) (append-nil (run_in f.label.id f.draft)) ∙ ap (λ b. bytes_of (drafts_in fs) ++ b) (run_len f.label.id f.draft)

-- What stands once the first bytes of the free part joined the draft.
pub record Advances (left : Buffer Filling) (current current' : Current) (drafted count size n : ℕ) (has : WriterHas) : Type 0 where
  pub writing : IsWriting left current' (drafted + n) count size has
  pub draft : bytes_of (drafts_in (left.items ++ list_of current')) ≡ bytes_of (drafts_in (left.items ++ list_of current)) ++ take n (free_in current)
  pub free : free_in current' ≡ drop n (free_in current)
  pub small : drafted + n ≤ 2 ^ 62

pub advances_writing : (left : Buffer Filling) (current current' : Current) (drafted count size n : ℕ) (has : WriterHas) → IsAdvanced n current current' → n ≤ length (free_in current)
    → IsWriting left current drafted count size has → Advances left current current' drafted count size n has
advances_writing left (Current.Filling f) (Current.Filling g) drafted count size n has same within is =
    subst (λ h. Advances left (Current.Filling f) (Current.Filling h) drafted count size n has) (sym same.0) (
    let g' : FillingState = with_advanced n f in
    let draft : bytes_of (drafts_in (left.items ++ g' ∷ [])) ≡ bytes_of (drafts_in (left.items ++ f ∷ [])) ++ take n f.spare =
    drafts_behind left.items g' ∙ sym (append_assoc (bytes_of (drafts_in left.items)) f.draft (take n f.spare)) ∙ ap (λ b. b ++ take n f.spare) (sym (drafts_behind left.items f)) in
    let longer : length (left.items ++ g' ∷ []) ≡ length (left.items ++ f ∷ []) = length-append left.items (g' ∷ []) ∙ sym (length-append left.items (f ∷ [])) in
    let was = last_all (IsSized size) left.items f is.sizes in
    let taken : length (take n f.spare) ≡ n = length-take-le n f.spare within in
    let both = length-append f.draft (take n f.spare) in
    let size_is = same.1 in let label = was.0 in
    let sizes : AllByRecursion (IsSized size) (left.items ++ g' ∷ []) = all_behind (IsSized size) left.items g' (all_before (IsSized size) left.items f is.sizes) (was.0, omega arith) in
    let sum = length-append (bytes_of (drafts_in (left.items ++ f ∷ []))) (take n f.spare) in let long = ap length draft in
    let counted = is.counted in
    let few : length (left.items ++ g' ∷ []) ≤ count = (let few = is.few in omega arith) in
    let bound = drafts_bounded size (left.items ++ g' ∷ []) sizes in
    let times : length (left.items ++ g' ∷ []) * size ≤ count * size = mul-le (length (left.items ++ g' ∷ [])) size count size few (omega arith) in
    let small = is.small in
    record {
      writing = record {
        told = is.told ∙ map-append unfinished_of left.items (f ∷ []) ∙ sym (map-append unfinished_of left.items (g' ∷ []));
        unsent = is.unsent;
        sound = tt;
        left_full = is.left_full;
        sizes = sizes;
        counted = omega arith;
        room = is.room;
        few = few;
        small = is.small;
      };
      draft = draft;
      free = refl;
      small = omega arith;
    })
advances_writing left (Current.Untaken v) (Current.Untaken w) drafted count size n has same within is =
    subst (λ u. Advances left (Current.Untaken v) (Current.Untaken u) drafted count size n has) (sym same) (
    let none : n ≡ 0 = (let e = ap length is.sound.0 in omega arith) in
    let taken : take n v.items ≡ [] = ap (take n) is.sound.0 ∙ ap (λ k. take k []) none in
    let bound = drafts_bounded size (left.items ++ []) is.sizes in let counted = is.counted in
    let times : length (left.items ++ []) * size ≤ count * size = mul-le (length (left.items ++ [])) size count size is.few (omega arith) in let small = is.small in
    record {
      writing = subst (λ d. IsWriting left (Current.Untaken v) d count size has) (omega arith) is;
      draft = sym (append-nil _) ∙ ap (λ t. bytes_of (drafts_in (left.items ++ [])) ++ t) (sym taken);
      free = is.sound.0 ∙ sym (ap (drop n) is.sound.0 ∙ ap (λ k. drop k []) none);
      small = omega arith;
    })
advances_writing left (Current.Filling f) (Current.Untaken w) drafted count size n has same within is = absurd same
advances_writing left (Current.Untaken v) (Current.Filling g) drafted count size n has same within is = absurd same

-- ---- no run of a draft is empty
run_full : (segment : ℕ) (bytes : List ℕ) → AreFull (run_in segment bytes)
run_full segment [] = tt
run_full segment (b ∷ bytes) = (omega arith, tt)

pub drafts_full : (fs : List FillingState) → AreFull (drafts_in fs)
drafts_full [] = tt
drafts_full (f ∷ fs) = both_full (run_in f.label.id f.draft) (drafts_in fs) (run_full f.label.id f.draft) (drafts_full fs)
