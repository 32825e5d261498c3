-- A writer that fills another segment.
use Rattle.std.proofs.Common.{Global, ◌≡◌, ◌≤◌, ◌<◌, ◌+◌, ◌-◌, ℕ, true, false, List, [], ◌∷◌, ◌++◌, length, drop, max, refl, sym, ap, subst, ◌∙◌, arith, inl, inr}
use Rattle.std.specs.Prelude.{map, Vec, if◌then◌else◌}
use Rattle.std.specs.List.{AllByRecursion}
use Rattle.std.proofs.lemmas.Bool.{cases_Bool}
use Rattle.std.proofs.lemmas.List.{length-append, length-map, map-append, append-nil}
use Rattle.std.proofs.lemmas.Grind.{flat_map-append}
use Rattle.circular_buffer.specs.Buffer.{Buffer, buffer}
use Rattle.seg_block.specs.Numbered.{mark, weigh}
use Rattle.pipe_core.specs.History.{bytes_of, run_in}
use Rattle.pipe_state.specs.Fetched.{Fetched}
use Rattle.pipe_state.specs.Released.{BlockName, block_in}
use Rattle.pipe_state.specs.Sides.{FillingState, Unfinished, WriterHas, IsUnsent, going_of, unfinished_of, unsent_of}
use Rattle.pipe_state.specs.Sending.{committed_in}
use Rattle.pipe_state.specs.Segments.{AreFilled, AreInOrder, AreSized, IsFilled, SegmentsState, Starts, sent_in, with_next, without_first}
use Rattle.pipe_state.specs.Lying.{run_of, runs_of}
use Rattle.pipe_state.specs.Current.{HasDraft, drafts_in, free_in, list_of}
use Rattle.pipe_state.specs.Writing.{IsLeft, IsSized, IsWriting, SetsAside}
use Rattle.pipe_state.specs.declared.filling.Filling.{Filling}
use Rattle.pipe_state.specs.declared.current.Current.{Current}
use Rattle.pipe_state.proofs.ListLemmas.{all_behind}
use Rattle.pipe_state.proofs.PlaceLemmas.{counted, sent_is}
use Rattle.pipe_state.proofs.WritingLemmas.{last_all, sent_filled}

-- ---- each block has its size
abbrev pub wrong : ℕ → BlockName → ℕ
wrong size b = 1 - mark size b.size

pub none_wrong : (size : ℕ) (blocks : List BlockName) → AreSized size blocks → weigh (wrong size) blocks ≡ 0
none_wrong size [] all = refl
none_wrong size (b ∷ blocks) all = let rest = none_wrong size blocks all.1 in let same = all.0 in omega arith

pub first_sized : (size : ℕ) (first : BlockName) (home home' : List BlockName) (live : List Fetched) (unfinished : List Unfinished) (blocks : List BlockName)
    → home ≡ first ∷ home' → AreInOrder home live unfinished blocks → AreSized size blocks → first.size ≡ size
first_sized size first home home' live unfinished blocks is order sized =
    let placed = order.placed (wrong size) in let none = none_wrong size blocks sized in let here = ap (weigh (wrong size)) is in omega arith

pub few_unfinished : (home : List BlockName) (live : List Fetched) (unfinished : List Unfinished) (blocks : List BlockName) → AreInOrder home live unfinished blocks → length unfinished ≤ length blocks
few_unfinished home live unfinished blocks order = let count = counted home order.before unfinished blocks order.placed in omega arith

-- ---- one with no draft that lacks the room is the one that the reader has
last_unsent : (fs : List FillingState) (f : FillingState) → AllByRecursion IsUnsent (map unfinished_of (fs ++ f ∷ [])) → f.bytes ≡ []
last_unsent [] f all = all.0.1
last_unsent (g ∷ fs) f all = last_unsent fs f all.1

pub record Alone (left : List FillingState) (f : FillingState) (has : WriterHas) : Type 0 where
  pub none_left : left ≡ []
  pub sent : f.sent ≡ true
  pub only : has.segments ≡ unfinished_of f ∷ []

pub alone : (left : List FillingState) (f : FillingState) (size hint : ℕ) (has : WriterHas) (home : List BlockName) (live : List Fetched) (blocks : List BlockName)
    → has.segments ≡ map unfinished_of (left ++ f ∷ []) → AllByRecursion IsUnsent (drop 1 has.segments) → f.label.size ≡ size
    → length f.bytes + length f.draft + length f.spare ≡ f.label.size → f.draft ≡ [] → length f.spare < hint → hint ≤ size
    → AreInOrder home live has.segments blocks → Alone left f has
alone [] f size hint has home live blocks told unsent label parts none short fits order = elim (cases_Bool f.sent) [
  | inl yes' ↦ record { none_left = refl; sent = yes'; only = told }
  | inr no' ↦ absurd (
      let all = subst (λ us. AllByRecursion IsUnsent (unsent_of us)) told order.unsent in
      let one = subst (λ b. AllByRecursion IsUnsent (if b then [] else unfinished_of f ∷ [])) no' all in
      let bytes = ap length one.0.1 in let draft = ap length none in omega arith)
]
alone (g ∷ left) f size hint has home live blocks told unsent label parts none short fits order = absurd (
    let all = subst (λ (us : List Unfinished). AllByRecursion IsUnsent (drop 1 us)) told unsent in
    let bytes = ap length (last_unsent left f all) in let draft = ap length none in omega arith)

-- and what was committed in it stays where it lies
pub finished_runs : (home : List BlockName) (live : List Fetched) (unfinished : List Unfinished) (blocks : List BlockName) (f : FillingState) → AreInOrder home live unfinished blocks
    → unfinished ≡ unfinished_of f ∷ [] → f.sent ≡ true → f.draft ≡ [] → runs_of (sent_in f.sent (committed_in f true) live) ≡ runs_of live
finished_runs home live unfinished blocks f order only sent none =
    let opened : Fetched = record { label = f.label; bytes = f.bytes; finished = false } in
    let going : going_of (unfinished_of f ∷ []) ≡ opened ∷ [] = rw sent refl in
    let live_is : live ≡ order.before ++ going_of (unfinished_of f ∷ []) = order.live_is ∙ ap (λ us. order.before ++ going_of us) only in
    ap (λ l. runs_of (sent_in f.sent (committed_in f true) l)) live_is ∙ ap runs_of (sent_is order.before (committed_in f true) (unfinished_of f))
    ∙ map-append run_of order.before (committed_in f true ∷ [])
    ∙ ap (λ d. runs_of order.before ++ record { segment = f.label.id; bytes = f.bytes ++ d } ∷ []) none
    ∙ ap (λ b. runs_of order.before ++ record { segment = f.label.id; bytes = b } ∷ []) (append-nil f.bytes)
    ∙ sym (map-append run_of order.before (opened ∷ [])) ∙ ap (λ g. runs_of (order.before ++ g)) (sym going) ∙ ap runs_of (sym live_is)

-- ---- a new one
-- it has nothing yet
pub record IsNew (size : ℕ) (g : FillingState) : Type 0 where
  pub label : g.label.size ≡ size
  pub bytes : g.bytes ≡ []
  pub draft : g.draft ≡ []
  pub unsent : g.sent ≡ false

pub no_drafts : (fs : List FillingState) (g : FillingState) → g.draft ≡ [] → drafts_in (fs ++ g ∷ []) ≡ drafts_in fs
no_drafts fs g none =
    flat_map-append (λ (h : FillingState). run_in h.label.id h.draft) fs (g ∷ [])
    ∙ ap (λ d. drafts_in fs ++ (run_in g.label.id d ++ [])) none ∙ append-nil (drafts_in fs)

drop_behind : (us : List Unfinished) (u : Unfinished) → 0 < length us → drop 1 (us ++ u ∷ []) ≡ drop 1 us ++ u ∷ []
drop_behind [] u some = absurd (omega arith)
drop_behind (v ∷ us) u some = refl

left_weaker : (hint more : ℕ) (fs : List FillingState) → AllByRecursion (IsLeft hint) fs → AllByRecursion (IsLeft (max hint more)) fs
left_weaker hint more [] all = tt
left_weaker hint more (f ∷ fs) all = let low = all.0.1 in ((all.0.0, omega arith), left_weaker hint more fs all.1)

new_unfinished : (has : WriterHas) (fs : List FillingState) (g : FillingState) (hint : ℕ) → has.segments ≡ map unfinished_of fs → (with_next g hint has).segments ≡ map unfinished_of (fs ++ g ∷ [])
new_unfinished has fs g hint told = ap (λ us. us ++ unfinished_of g ∷ []) told ∙ sym (map-append unfinished_of fs (g ∷ []))

module _ (left : Buffer Filling) (g : FillingState) (drafted count size hint : ℕ) (has : WriterHas) (new : IsNew size g) where
  pub leaves_it : (f : FillingState) → IsWriting left (Current.Filling f) drafted count size has
      → HasDraft f → length f.bytes + length f.draft + length f.spare ≡ f.label.size → length f.spare < hint → length (with_next g hint has).segments ≤ count
      → IsWriting (buffer (left.items ++ f ∷ []) left.capacity) (Current.Filling g) drafted count size (with_next g hint has)
  leaves_it f is draft parts short few =
      let told = new_unfinished has (left.items ++ f ∷ []) g hint is.told in
      let some : 0 < length has.segments = (let n = ap length is.told in let m = length-map (left.items ++ f ∷ []) unfinished_of in let k = length-append left.items (f ∷ []) in omega arith) in
      record {
        told = told;
        unsent = subst (AllByRecursion IsUnsent) (sym (drop_behind has.segments (unfinished_of g) some)) (all_behind IsUnsent (drop 1 has.segments) (unfinished_of g) is.unsent (new.unsent, new.bytes));
        sound = tt;
        left_full = all_behind (IsLeft (max has.hint hint)) left.items f (left_weaker has.hint hint left.items is.left_full) (draft, omega arith);
        sizes = all_behind (IsSized size) (left.items ++ f ∷ []) g is.sizes (new.label, (let none = ap length new.draft in omega arith));
        counted = is.counted ∙ ap (λ r. length (bytes_of r)) (sym (no_drafts (left.items ++ f ∷ []) g new.draft));
        room = is.room;
        few = (let n = ap length told in let m = length-map ((left.items ++ f ∷ []) ++ g ∷ []) unfinished_of in omega arith);
        small = is.small;
      }

  pub finishes_it : (f : FillingState) → IsWriting left (Current.Filling f) drafted count size has → f.draft ≡ [] → Alone left.items f has
      → IsWriting left (Current.Filling g) drafted count size (without_first (with_next g hint has))
  finishes_it f is none one =
      let told : (without_first (with_next g hint has)).segments ≡ map unfinished_of (left.items ++ g ∷ []) =
      ap (λ us. drop 1 (us ++ unfinished_of g ∷ [])) one.only ∙ ap (λ l. map unfinished_of (l ++ g ∷ [])) (sym one.none_left) in
      let nothing : drafts_in (left.items ++ f ∷ []) ≡ drafts_in (left.items ++ g ∷ []) = no_drafts left.items f none ∙ sym (no_drafts left.items g new.draft) in
      record {
        told = told;
        unsent = subst (λ (us : List Unfinished). AllByRecursion IsUnsent (drop 1 (drop 1 (us ++ unfinished_of g ∷ [])))) (sym one.only) tt;
        sound = tt;
        left_full = left_weaker has.hint hint left.items is.left_full;
        sizes = subst (λ l. AllByRecursion (IsSized size) (l ++ g ∷ [])) (sym one.none_left) ((new.label, (let none = ap length new.draft in omega arith)), tt);
        counted = is.counted ∙ ap (λ r. length (bytes_of r)) nothing;
        room = is.room;
        few = (let few = is.few in let n = length-append left.items (f ∷ []) in let m = length-append left.items (g ∷ []) in omega arith);
        small = is.small;
      }

  pub first_taken : (none : Vec ℕ Global) → IsWriting left (Current.Untaken none) drafted count size has → length (with_next g hint has).segments ≤ count
      → IsWriting left (Current.Filling g) drafted count size (with_next g hint has)
  first_taken none is few =
      let told = new_unfinished has (left.items ++ []) g hint is.told ∙ ap (λ l. map unfinished_of (l ++ g ∷ [])) (append-nil left.items) in
      let nothing : has.segments ≡ [] = is.told ∙ ap (λ l. map unfinished_of (l ++ [])) is.sound.1 in
      record {
        told = told;
        unsent = subst (λ (us : List Unfinished). AllByRecursion IsUnsent (drop 1 (us ++ unfinished_of g ∷ []))) (sym nothing) tt;
        sound = tt;
        left_full = left_weaker has.hint hint left.items is.left_full;
        sizes = subst (λ l. AllByRecursion (IsSized size) (l ++ g ∷ [])) (sym is.sound.1) ((new.label, (let none = ap length new.draft in omega arith)), tt);
        counted = is.counted ∙ ap (λ l. length (bytes_of (drafts_in l))) (append-nil left.items) ∙ ap (λ r. length (bytes_of r)) (sym (no_drafts left.items g new.draft));
        room = is.room;
        few = (let n = ap length told in let m = length-map (left.items ++ g ∷ []) unfinished_of in omega arith);
        small = is.small;
      }

-- ---- the step, whole
-- What is known once a block at home became the segment g.
pub record Found (left : Buffer Filling) (current : Current) (drafted count size hint : ℕ) (has : WriterHas) (s s1 : SegmentsState) (g : FillingState) : Type 0 where
  pub writing : IsWriting left current drafted count size has
  pub same : has ≡ s.writer
  pub order : AreInOrder s.home s.live s.writer.segments s.blocks
  pub later : AreInOrder s1.home s1.live s1.writer.segments s1.blocks
  pub starts : Starts s.home g s1.home
  pub taken : s1 ≡ record s { home = s1.home; writer = with_next g hint s.writer }
  pub sizes : AreSized size s.blocks
  pub count_is : length s.blocks ≡ count
  pub short : length (free_in current) < hint
  pub fits : hint ≤ size
  pub parts : length g.bytes + length g.draft + length g.spare ≡ g.label.size

pub record Fills (left' : Buffer Filling) (current : Current) (left : List FillingState) (drafted count size hint : ℕ) (has has' : WriterHas) (s s' : SegmentsState) (g : FillingState) : Type 0 where
  pub writing : IsWriting left' (Current.Filling g) drafted count size has'
  pub draft : drafts_in (left'.items ++ g ∷ []) ≡ drafts_in (left ++ list_of current)
  pub hint_is : has'.hint ≡ max has.hint hint
  pub whole : length g.spare ≡ size
  pub home : s.home ≡ block_in g.label ∷ s'.home
  pub runs : runs_of s'.live ≡ runs_of s.live
  pub filled : AreFilled s.writer.hint s.live → AreFilled s'.writer.hint s'.live
  pub segments : s' ≡ record s { home = s'.home; live = s'.live; writer = s'.writer }

is_new : (left : Buffer Filling) (current : Current) (drafted count size hint : ℕ) (has : WriterHas) (s s1 : SegmentsState) (g : FillingState)
    → Found left current drafted count size hint has s s1 g → IsNew size g
is_new left current drafted count size hint has s s1 g found = record {
  label = first_sized size (block_in g.label) s.home s1.home s.live s.writer.segments s.blocks found.starts.block found.order found.sizes;
  bytes = found.starts.empty.0;
  draft = found.starts.empty.1;
  unsent = found.starts.empty.2;
}

whole_room : (size : ℕ) (g : FillingState) → IsNew size g → length g.bytes + length g.draft + length g.spare ≡ g.label.size → length g.spare ≡ size
whole_room size g new parts = let b = ap length new.bytes in let d = ap length new.draft in let l = new.label in omega arith

-- ---- what is finished lacks the room for a greater hint too
pub filled_weaker : (hint more : ℕ) (live : List Fetched) → AreFilled hint live → AreFilled (max hint more) live
filled_weaker hint more [] all = tt
filled_weaker hint more (s ∷ live) all = ((λ finished. let low = all.0 finished in omega arith), filled_weaker hint more live all.1)

short_filled : (hint : ℕ) (f : FillingState) → length f.bytes + length f.draft + length f.spare ≡ f.label.size → length f.spare < hint → hint ≤ f.label.size → IsFilled hint (committed_in f true)
short_filled hint f parts short fits finished = let both = length-append f.bytes f.draft in omega arith

filled_now : (s s1 : SegmentsState) (g : FillingState) (hint : ℕ) → s1 ≡ record s { home = s1.home; writer = with_next g hint s.writer } → AreFilled s.writer.hint s.live → AreFilled s1.writer.hint s1.live
filled_now s s1 g hint taken all = subst (λ (t : SegmentsState). AreFilled t.writer.hint t.live) (sym taken) (filled_weaker s.writer.hint hint s.live all)

few_next : (left : Buffer Filling) (current : Current) (drafted count size hint : ℕ) (has : WriterHas) (s s1 : SegmentsState) (g : FillingState)
    → Found left current drafted count size hint has s s1 g → length (with_next g hint has).segments ≤ count
few_next left current drafted count size hint has s s1 g found =
    let few = few_unfinished s1.home s1.live s1.writer.segments s1.blocks found.later in
    let blocks = ap (λ (t : SegmentsState). length t.blocks) found.taken in
    let us = ap (λ (t : SegmentsState). length t.writer.segments) found.taken in
    let same = ap (λ w. length (with_next g hint w).segments) found.same in let count_is = found.count_is in
    omega arith

pub alone_here : (left : Buffer Filling) (f g : FillingState) (drafted count size hint : ℕ) (has : WriterHas) (s s1 : SegmentsState)
    → Found left (Current.Filling f) drafted count size hint has s s1 g → length f.bytes + length f.draft + length f.spare ≡ f.label.size → f.draft ≡ [] → Alone left.items f has
alone_here left f g drafted count size hint has s s1 found parts none =
    alone left.items f size hint has s.home s.live s.blocks found.writing.told found.writing.unsent (last_all (IsSized size) left.items f found.writing.sizes).0 parts none found.short found.fits
    (subst (λ (w : WriterHas). AreInOrder s.home s.live w.segments s.blocks) (sym found.same) found.order)

-- what set_aside asks of a segment with no draft
pub aside_first : (left : Buffer Filling) (f g : FillingState) (drafted count size hint : ℕ) (has has1 : WriterHas) (s s1 : SegmentsState)
    → Found left (Current.Filling f) drafted count size hint has s s1 g → has1 ≡ s1.writer → length f.bytes + length f.draft + length f.spare ≡ f.label.size → f.draft ≡ []
    → has1.segments ≡ unfinished_of f ∷ drop 1 has1.segments
aside_first left f g drafted count size hint has has1 s s1 found half parts none =
    let one = alone_here left f g drafted count size hint has s s1 found parts none in
    let next : has1 ≡ with_next g hint has = half ∙ ap (λ (t : SegmentsState). t.writer) found.taken ∙ ap (with_next g hint) (sym found.same) in
    let is : has1.segments ≡ unfinished_of f ∷ unfinished_of g ∷ [] = ap (λ w. w.segments) next ∙ ap (λ us. us ++ unfinished_of g ∷ []) one.only in
    is ∙ ap (λ us. unfinished_of f ∷ drop 1 us) (sym is)

pub aside_fills : (left left' : Buffer Filling) (f g : FillingState) (drafted count size hint : ℕ) (has has1 has' : WriterHas) (s s1 s' : SegmentsState)
    → Found left (Current.Filling f) drafted count size hint has s s1 g → has1 ≡ s1.writer → length f.bytes + length f.draft + length f.spare ≡ f.label.size
    → SetsAside f left s1 has1 left' s' has' → Fills left' (Current.Filling f) left.items drafted count size hint has has' s s' g
aside_fills left left' f g drafted count size hint has has1 has' s s1 s' found half parts (inl was_left) =
    let new = is_new left (Current.Filling f) drafted count size hint has s s1 g found in
    let few = few_next left (Current.Filling f) drafted count size hint has s s1 g found in
    let next : has' ≡ with_next g hint has = was_left.3 ∙ half ∙ ap (λ (t : SegmentsState). t.writer) found.taken ∙ ap (with_next g hint) (sym found.same) in
    let state = was_left.2 in
    record {
      writing = subst (λ l. IsWriting l (Current.Filling g) drafted count size has') (sym was_left.1)
          (subst (IsWriting (buffer (left.items ++ f ∷ []) left.capacity) (Current.Filling g) drafted count size) (sym next)
          (leaves_it left g drafted count size hint has new f found.writing was_left.0 parts found.short few));
      draft = ap (λ (l : Buffer Filling). drafts_in (l.items ++ g ∷ [])) was_left.1 ∙ no_drafts (left.items ++ f ∷ []) g new.draft;
      hint_is = ap (λ w. w.hint) next;
      whole = whole_room size g new found.parts;
      home = found.starts.block ∙ ap (λ (t : SegmentsState). block_in g.label ∷ t.home) (sym state);
      runs = ap (λ (t : SegmentsState). runs_of t.live) (state ∙ found.taken);
      filled = λ all. subst (λ (t : SegmentsState). AreFilled t.writer.hint t.live) (sym state) (filled_now s s1 g hint found.taken all);
      segments = subst (λ (t : SegmentsState). t ≡ record s { home = t.home; live = t.live; writer = t.writer }) (sym state) (
          found.taken ∙ (λ i. record s { home = s1.home; live = (ap (λ (t : SegmentsState). t.live) (sym found.taken)) i; writer = (ap (λ (t : SegmentsState). t.writer) (sym found.taken)) i }));
    }
aside_fills left left' f g drafted count size hint has has1 has' s s1 s' found half parts (inr was_finished) =
    let new = is_new left (Current.Filling f) drafted count size hint has s s1 g found in
    let one = alone_here left f g drafted count size hint has s s1 found parts was_finished.0 in
    let next : has' ≡ without_first (with_next g hint has) = was_finished.3 ∙ ap without_first (half ∙ ap (λ (t : SegmentsState). t.writer) found.taken ∙ ap (with_next g hint) (sym found.same)) in
    let state = was_finished.2 in
    let live : s'.live ≡ sent_in f.sent (committed_in f true) s.live = ap (λ (t : SegmentsState). t.live) state ∙ ap (λ (t : SegmentsState). sent_in f.sent (committed_in f true) t.live) found.taken in
    let only : s.writer.segments ≡ unfinished_of f ∷ [] = ap (λ w. w.segments) (sym found.same) ∙ one.only in
    record {
      writing = subst (λ l. IsWriting l (Current.Filling g) drafted count size has') (sym was_finished.1)
          (subst (IsWriting left (Current.Filling g) drafted count size) (sym next) (finishes_it left g drafted count size hint has new f found.writing was_finished.0 one));
      draft = ap (λ (l : Buffer Filling). drafts_in (l.items ++ g ∷ [])) was_finished.1 ∙ no_drafts left.items g new.draft ∙ sym (no_drafts left.items f was_finished.0);
      hint_is = ap (λ w. w.hint) next;
      whole = whole_room size g new found.parts;
      home = found.starts.block ∙ ap (λ h. block_in g.label ∷ h) (sym (ap (λ (t : SegmentsState). t.home) state));
      runs = ap runs_of live ∙ finished_runs s.home s.live s.writer.segments s.blocks f found.order only one.sent was_finished.0;
      filled = λ all.
          let hint_is = ap (λ (t : SegmentsState). t.writer.hint) found.taken in
          let label = (last_all (IsSized size) left.items f found.writing.sizes).0 in let short = found.short in let fits = found.fits in
          let low : IsFilled hint (committed_in f true) = short_filled hint f parts short (omega arith) in
          subst (λ (t : SegmentsState). AreFilled t.writer.hint t.live) (sym state)
          (sent_filled s1.writer.hint f.sent (committed_in f true) s1.live (λ finished. let below = low finished in omega arith) (filled_now s s1 g hint found.taken all));
      segments = kept_parts s s1 s' (sent_in f.sent (committed_in f true) s1.live) (without_first s1.writer) state found.taken;
    }
  where
    kept_parts : (s s1 s' : SegmentsState) (live : List Fetched) (writer : WriterHas) → s' ≡ record s1 { live = live; writer = writer } → s1 ≡ record s { home = s1.home; writer = with_next g hint s.writer }
        → s' ≡ record s { home = s'.home; live = s'.live; writer = s'.writer }
    kept_parts s s1 s' live writer state taken =
        state ∙ (λ i. record {
          home = (ap (λ (t : SegmentsState). t.home) (sym state)) i;
          live = (ap (λ (t : SegmentsState). t.live) (sym state)) i;
          reader = (ap (λ (t : SegmentsState). t.reader) taken) i;
          writer = (ap (λ (t : SegmentsState). t.writer) (sym state)) i;
          reader_name = (ap (λ (t : SegmentsState). t.reader_name) taken) i;
          writer_name = (ap (λ (t : SegmentsState). t.writer_name) taken) i;
          blocks = (ap (λ (t : SegmentsState). t.blocks) taken) i;
        })

pub untaken_fills : (left : Buffer Filling) (none : Vec ℕ Global) (g : FillingState) (drafted count size hint : ℕ) (has has1 : WriterHas) (s s1 : SegmentsState)
    → Found left (Current.Untaken none) drafted count size hint has s s1 g → has1 ≡ s1.writer → Fills left (Current.Untaken none) left.items drafted count size hint has has1 s s1 g
untaken_fills left none g drafted count size hint has has1 s s1 found half =
    let new = is_new left (Current.Untaken none) drafted count size hint has s s1 g found in
    let few = few_next left (Current.Untaken none) drafted count size hint has s s1 g found in
    let next : has1 ≡ with_next g hint has = half ∙ ap (λ (t : SegmentsState). t.writer) found.taken ∙ ap (with_next g hint) (sym found.same) in
    record {
      writing = subst (IsWriting left (Current.Filling g) drafted count size) (sym next) (first_taken left g drafted count size hint has new none found.writing few);
      draft = no_drafts left.items g new.draft ∙ ap drafts_in (sym (append-nil left.items));
      hint_is = ap (λ w. w.hint) next;
      whole = whole_room size g new found.parts;
      home = found.starts.block;
      runs = ap (λ (t : SegmentsState). runs_of t.live) found.taken;
      filled = filled_now s s1 g hint found.taken;
      segments = found.taken ∙ (λ i. record s { home = s1.home; live = (ap (λ (t : SegmentsState). t.live) (sym found.taken)) i; writer = (ap (λ (t : SegmentsState). t.writer) (sym found.taken)) i });
    }
