-- What the steps of a pipe make of the segments and of the marks.
use Rattle.std.proofs.Common.{◌≡◌, ◌≢◌, ◌≤◌, ◌+◌, ◌-◌, ◌^◌, ℕ, Bool, true, false, List, [], ◌∷◌, ◌++◌, length, refl, sym, ap, subst, ◌∙◌, arith, inl, inr, Option, Some, None}
use Rattle.std.specs.Prelude.{IsNone, IsSome, IfSome, option_map, unwrap_or, ◌||◌, ◌==◌}
use Rattle.std.specs.List.{AllByRecursion}
use Rattle.std.proofs.lemmas.Bool.{cases_Bool}
use Rattle.std.proofs.lemmas.List.{length-append, length-drop, append_cancel_left, append-nil}
use Rattle.std.proofs.lemmas.Grind.{flat_map-append}
use Rattle.pipe_core.specs.declared.marks.Marks.{Marks}
use Rattle.pipe_core.specs.History.{Call, Run, Read, Advance, Commit, EndReader, EndWriter, bytes_of, closing, reader_end}
use Rattle.pipe_core.specs.Answers.{Flushed, Woke}
use Rattle.pipe_core.specs.Wakes.{either_wake, wake_of}
use Rattle.pipe_core.specs.declared.reply.FlushReply.{FlushReply}
use Rattle.pipe_core.specs.declared.reply.Wake.{Wake}
use Rattle.pipe_core.specs.Lends.{lend, joined, onto_runs}
use Rattle.pipe_core.specs.Legal.{IsLegal}
use Rattle.pipe_core.specs.Progress.{consumed, held, total}
use Rattle.pipe_core.specs.Reads.{read_is_ready}
use Rattle.pipe_core.specs.Standing.{MayAdvance, StandsFor, Thresholds, thresholds_of}
use Rattle.pipe_core.proofs.RunLemmas.{runs_held}
use Rattle.pipe_core.proofs.OrderLemmas.{ordered}
use Rattle.seg_block.specs.Numbered.{weigh}
use Rattle.pipe_state.specs.Fetched.{Fetched}
use Rattle.pipe_state.specs.Released.{BlockName, blocks_in, bytes_in, first_goes}
use Rattle.pipe_state.specs.Chains.{first_len}
use Rattle.pipe_state.specs.Segments.{AreFilled, AreInOrder, IsFinished, Releases, SegmentsState}
use Rattle.pipe_state.specs.Sides.{ReaderHas, Unfinished, WriterHas}
use Rattle.pipe_state.specs.Lying.{AreFull, HaveOwnIds, Lies, run_of, runs_of}
use Rattle.pipe_state.specs.Held.{AreAll, HasGivenUp, HeldAnswers, HeldMade, IsHeld, IsKept, HoldsRuns, PipeHeld, Settles, all_fetched_in, held_made}
use Rattle.pipe_state.specs.declared.reading.Reading.{Reading}
use Rattle.pipe_state.proofs.LyingLemmas.{advances, commits, cut_len, goes_home, joined_bytes}
use Rattle.pipe_state.proofs.RunLemmas.{live_apart}

-- how many bytes the first has, none where there is none
abbrev first_run : List Run → ℕ
first_run [] = 0
first_run (r ∷ runs) = length r.bytes

-- ---- bytes of runs
pub runs_bytes : (segments : List Fetched) → bytes_of (runs_of segments) ≡ bytes_in segments
runs_bytes [] = refl
runs_bytes (s ∷ segments) = ap (λ b. s.bytes ++ b) (runs_bytes segments)

-- what is held lies in the segments, behind what is skipped
pub held_len : (h : List Call) (skip : ℕ) (segments : List Fetched) → Lies h skip (runs_of segments) → skip + length (held h) ≡ length (bytes_in segments)
held_len h skip segments lies =
    let a = ap length (sym (runs_held h)) in let b = ap (λ r. length (bytes_of r)) lies.lent in let c = cut_len skip (runs_of segments) in
    let d = ap length (runs_bytes segments) in let within = lies.within in omega arith

-- a read lends all that is held, where it is ready
pub read_lent : (h : List Call) (n skip : ℕ) (segments : List Fetched) → Lies h skip (runs_of segments) → IfSome (option_map length (lend (Read n ∷ h))) (λ m. skip + m ≡ length (bytes_in segments))
read_lent h n skip segments lies = elim (cases_Bool (read_is_ready n h)) [
  | inl yes' ↦ rw yes' (held_len h skip segments lies)
  | inr no' ↦ rw no' tt
]

-- ---- who attends has its part for itself
pub kept_none : (gone gone' : Option ℕ) (s s' : SegmentsState) (retired : Option Reading) → IsNone gone → gone' ≡ gone → IsKept gone s retired → IsKept gone' s' retired
kept_none None gone' s s' None none same kept = subst (λ g. IsKept g s' None) (sym same) tt
kept_none None gone' s s' (Some r) none same kept = absurd kept
kept_none (Some code) gone' s s' retired none same kept = cc (none)

pub reads : (h : List Call) (n skip : ℕ) (runs : List Run) → Lies h skip runs → Lies (Read n ∷ h) skip runs
reads h n skip runs lies = record { lent = lies.lent; apart = lies.apart; full = lies.full; within = lies.within; reached = lies.reached }

-- What stands once the reader has fetched.
pub read_held : (control control' : Marks) (s s' : SegmentsState) (retired : Option Reading) (n : ℕ) → IsHeld (record { control = control; segments = s }) retired → IsNone control.gone
    → s' ≡ record s { reader = record { segments = s.live; skip = s.reader.skip } } → ((h : List Call) → StandsFor control h → StandsFor control' (Read n ∷ h))
    → control'.gone ≡ control.gone → control'.ended ≡ control.ended → IsHeld (record { control = control'; segments = s' }) retired
read_held control control' s s' retired n is none state stands gone ended =
    let h = is.history.0 in let holds = is.history.1 in
    let open' : IsNone (reader_end h) = subst IsNone holds.marks.gone none in
    let lies = holds.lies open' in let marks = stands h holds.marks in
    subst (λ t. IsHeld (record { control = control'; segments = t }) retired) (sym state) (record {
      history = (Read n ∷ h, record { marks = marks; lies = λ still. reads h n s.reader.skip (runs_of s.live) lies });
      own = is.own;
      lent = subst (λ l. IfSome l (λ m. s.reader.skip + m ≡ length (bytes_in s.live))) (sym marks.lent) (read_lent h n s.reader.skip s.live lies);
      within = λ attends. is.within (subst IsNone gone attends);
      filled = λ goes_on. is.filled (subst IsNone ended goes_on);
      kept = kept_none control.gone control'.gone s (record s { reader = record { segments = s.live; skip = s.reader.skip } }) retired none gone is.kept;
      ended = λ completed. is.ended (subst IsSome ended completed);
    })

-- ---- what stays is filled where all was
filled_after : (hint : ℕ) (gone live : List Fetched) → AreFilled hint (gone ++ live) → AreFilled hint live
filled_after hint [] live all = all
filled_after hint (s ∷ gone) live all = filled_after hint gone live all.1

pub released_filled : (n hint : ℕ) (s s' : SegmentsState) → Releases n s s' → AreFilled hint s.live → AreFilled hint s'.live
released_filled n hint s s' released all = filled_after hint released.gone s'.live (subst (AreFilled hint) released.live all)

-- ---- an advance
gone_lies : (h : List Call) (gone live : List Fetched) (skip skip' : ℕ) → skip ≡ length (bytes_in gone) + skip' → Lies h skip (runs_of (gone ++ live)) → Lies h skip' (runs_of live)
gone_lies h [] live skip skip' same lies = subst (λ n. Lies h n (runs_of live)) (omega (arith, same)) lies
gone_lies h (s ∷ gone) live skip skip' same lies =
    let both : length (bytes_in (s ∷ gone)) ≡ length s.bytes + length (bytes_in gone) = length-append s.bytes (bytes_in gone) in
    gone_lies h gone live (skip - length s.bytes) skip' (omega arith) (goes_home h (run_of s) (runs_of (gone ++ live)) skip (omega arith) lies)

-- who may advance has a lend, and gives up no more
record Lent (h : List Call) (c : ℕ) : Type 0 where
  pub bytes : List ℕ
  pub lends : lend h ≡ Some bytes
  pub enough : c ≤ length bytes

lent_of : (o : Option ℕ) (h : List Call) (c e : ℕ) (l : Option (List ℕ)) → lend h ≡ l → MayAdvance o c e → o ≡ option_map length l → Lent h c
lent_of None h c e l is may same = elim may [ ]
lent_of (Some n) h c e None is may same = absurd (cc (same))
lent_of (Some n) h c e (Some bytes) is may same =
    let long : n ≡ length bytes = (let p = ap (λ (o : Option ℕ). unwrap_or o 0) same in p) in let a = may.0 in let b = may.1 in
    record { bytes = bytes; lends = is; enough = omega arith }

pub advance_stands : (control control' : Marks) (s s' : SegmentsState) (h : List Call) (c e : ℕ) → HoldsRuns (record { control = control; segments = s }) h → MayAdvance control.lent c e
    → Releases c s s' → StandsFor control' (Advance c e ∷ h) → HoldsRuns (record { control = control'; segments = s' }) (Advance c e ∷ h)
advance_stands control control' s s' h c e holds may released marks =
    let lent = lent_of control.lent h c e (lend h) refl may holds.marks.lent in
    let order = ordered h holds.marks.legal in let within = order.lent_in lent.bytes lent.lends in let enough = lent.enough in
    record {
      marks = marks;
      lies = λ still.
          let lies = holds.lies still in
          let len = held_len h s.reader.skip s.live lies in let held_is : length (held h) ≡ length (total h) - consumed h = length-drop (consumed h) (total h) in
          let bytes = ap length (runs_bytes s.live) in
          let moved = advances h (runs_of s.live) s.reader.skip c e (omega arith) lies in
          gone_lies (Advance c e ∷ h) released.gone s'.live (s.reader.skip + c) s'.reader.skip released.skip (subst (λ l. Lies (Advance c e ∷ h) (s.reader.skip + c) (runs_of l)) released.live moved);
    }

pub advance_held : (control control' : Marks) (s s' : SegmentsState) (retired : Option Reading) (c e : ℕ) → IsHeld (record { control = control; segments = s }) retired → MayAdvance control.lent c e
    → Releases c s s' → ((h : List Call) → StandsFor control h → StandsFor control' (Advance c e ∷ h))
    → control'.gone ≡ control.gone → control'.ended ≡ control.ended → control'.lent ≡ None → IsHeld (record { control = control'; segments = s' }) retired
advance_held control control' s s' retired c e is may released stands gone ended none =
    let h = is.history.0 in let holds = is.history.1 in
    let lent = lent_of control.lent h c e (lend h) refl may holds.marks.lent in
    let open' : IsNone control.gone = subst IsNone (sym holds.marks.gone) ((ordered h holds.marks.legal).attended lent.bytes lent.lends) in
    record {
      history = (Advance c e ∷ h, advance_stands control control' s s' h c e holds may released (stands h holds.marks));
      own = subst HaveOwnIds (sym (ap (λ (t : SegmentsState). t.blocks) released.kept)) is.own;
      lent = subst (λ l. IfSome l (λ m. s'.reader.skip + m ≡ length (bytes_in s'.reader.segments))) (sym none) tt;
      within = λ attends. released.within;
      filled = λ goes_on. subst (λ (w : WriterHas). AreFilled w.hint s'.live) (sym (ap (λ (t : SegmentsState). t.writer) released.kept)) (released_filled c s.writer.hint s s' released (is.filled (subst IsNone ended goes_on)));
      kept = kept_none control.gone control'.gone s s' retired open' gone is.kept;
      ended = λ completed. ap (λ (t : SegmentsState). t.writer.segments) released.kept ∙ is.ended (subst IsSome ended completed);
    }

pub made_stays : (control control' : Marks) (s s' : SegmentsState) → thresholds_of control' ≡ thresholds_of control → s'.blocks ≡ s.blocks → s'.reader_name ≡ s.reader_name → s'.writer_name ≡ s.writer_name
    → held_made (record { control = control'; segments = s' }) ≡ held_made (record { control = control; segments = s })
made_stays control control' s s' thresholds blocks reader writer = λ i. record { thresholds = thresholds i; blocks = blocks i; reader_name = reader i; writer_name = writer i }

-- ---- the writer's steps
-- What the ends are known by stays, and what the reader has.
pub record SameEnds (s s' : SegmentsState) : Type 0 where
  pub reader : s'.reader ≡ s.reader
  pub blocks : s'.blocks ≡ s.blocks
  pub reader_name : s'.reader_name ≡ s.reader_name
  pub writer_name : s'.writer_name ≡ s.writer_name

-- The part of a reader that has completed may take what was sent, and give up as much.
pub settle_may : (gone : Option ℕ) (s s' : SegmentsState) (retired : Option Reading) (n : ℕ) → IsKept gone s retired → SameEnds s s' → length (bytes_in s'.live) ≡ length (bytes_in s.live) + n
    → IfSome retired (λ reading. (reading.half.name ≡ s'.reader_name) × (length s'.blocks ≤ reading.chain.capacity)) × (IsSome retired → s'.reader.skip + n ≤ length (bytes_in s'.live))
settle_may None s s' None n kept same len = (tt, λ some. cc (some))
settle_may None s s' (Some r) n kept same len = absurd kept
settle_may (Some code) s s' None n kept same len = absurd kept
settle_may (Some code) s s' (Some r) n kept same len =
    let room = kept.room in let blocks = ap length same.blocks in let skip = ap (λ x. x.skip) same.reader in let consumed = kept.consumed in
    ((kept.pair ∙ sym same.reader_name, omega arith), λ some. omega arith)

-- What stands once it did.
pub record Settled (gone : Option ℕ) (s s' : SegmentsState) (retired' : Option Reading) : Type 0 where
  pub kept : IsKept gone s' retired'
  pub ends : (s'.blocks ≡ s.blocks) × (s'.reader_name ≡ s.reader_name) × (s'.writer_name ≡ s.writer_name)
  pub attended : IsNone gone → s' ≡ s
  pub writer : s'.writer ≡ s.writer
  pub filled : (hint : ℕ) → AreFilled hint s.live → AreFilled hint s'.live

pub settled : (gone : Option ℕ) (s s1 s2 : SegmentsState) (retired retired' : Option Reading) (n : ℕ) → IsKept gone s retired → SameEnds s s1 → length (bytes_in s1.live) ≡ length (bytes_in s.live) + n
    → Settles n retired s1 retired' s2 → Settled gone s1 s2 retired'
settled None s s1 s2 None None n kept same len settles = record { kept = tt; ends = (ap (λ (t : SegmentsState). t.blocks) settles, ap (λ (t : SegmentsState). t.reader_name) settles, ap (λ (t : SegmentsState). t.writer_name) settles); attended = λ none. settles; writer = ap (λ (t : SegmentsState). t.writer) settles; filled = λ hint all. subst (λ (t : SegmentsState). AreFilled hint t.live) (sym settles) all }
settled None s s1 s2 None (Some r') n kept same len settles = absurd settles
settled None s s1 s2 (Some r) retired' n kept same len settles = absurd kept
settled (Some code) s s1 s2 None retired' n kept same len settles = absurd kept
settled (Some code) s s1 s2 (Some r) None n kept same len settles = absurd settles
settled (Some code) s s1 s2 (Some r) (Some r') n kept same len settles =
    let released = settles.released in let stay = released.kept in
    let blocks = ap (λ (t : SegmentsState). t.blocks) stay in
    record {
      kept = record {
        pair = settles.pair;
        room = (let room = kept.room in let a = ap length blocks in let b = ap length same.blocks in let capacity = settles.capacity in omega arith);
        all = append_cancel_left released.gone s2.reader.segments s2.live (sym released.fetched ∙ released.live);
        consumed = (
            let skip = released.skip in let had = ap (λ x. x.skip) same.reader in let consumed = kept.consumed in
            let both = ap (λ l. length (bytes_in l)) released.live in
            let sum : length (bytes_in (released.gone ++ s2.live)) ≡ length (bytes_in released.gone) + length (bytes_in s2.live) =
            ap length (flat_map-append (λ (t : Fetched). t.bytes) released.gone s2.live) ∙ length-append (bytes_in released.gone) (bytes_in s2.live) in
            omega arith);
        home = released.stays;
      };
      ends = (blocks, ap (λ (t : SegmentsState). t.reader_name) stay, ap (λ (t : SegmentsState). t.writer_name) stay);
      attended = λ none. absurd (cc (none));
      writer = ap (λ (t : SegmentsState). t.writer) stay;
      filled = λ hint all. released_filled n hint (all_fetched_in s1) s2 released all;
    }

-- so many bytes were committed
pub committed_len : (live live' : List Fetched) (draft : List Run) (n : ℕ) → runs_of live' ≡ joined (runs_of live ++ draft) → n ≡ length (bytes_of draft) → length (bytes_in live') ≡ length (bytes_in live) + n
committed_len live live' draft n runs is =
    let a = ap length (runs_bytes live') in let b = ap (λ r. length (bytes_of r)) runs in let c = ap length (joined_bytes (runs_of live ++ draft)) in
    let d = ap length (flat_map-append (λ (r : Run). r.bytes) (runs_of live) draft) in let e = length-append (bytes_of (runs_of live)) (bytes_of draft) in let f = ap length (runs_bytes live) in
    omega arith

pub commit_stands : (control control' : Marks) (s s1 s2 : SegmentsState) (retired' : Option Reading) (h : List Call) (draft : List Run) → HoldsRuns (record { control = control; segments = s }) h → AreFull draft
    → runs_of s1.live ≡ joined (runs_of s.live ++ draft) → SameEnds s s1 → Settled control.gone s1 s2 retired' → StandsFor control' (Commit draft ∷ h)
    → HoldsRuns (record { control = control'; segments = s2 }) (Commit draft ∷ h)
commit_stands control control' s s1 s2 retired' h draft holds full runs same settled marks = record {
  marks = marks;
  lies = λ still.
      let none : IsNone control.gone = subst IsNone (sym holds.marks.gone) still in
      let unsettled = settled.attended none in
      subst (λ (t : SegmentsState). Lies (Commit draft ∷ h) t.reader.skip (runs_of t.live)) (sym unsettled)
      (subst (λ (r : ReaderHas). Lies (Commit draft ∷ h) r.skip (runs_of s1.live)) (sym same.reader)
      (subst (Lies (Commit draft ∷ h) s.reader.skip) (sym runs) (commits h draft (runs_of s.live) s.reader.skip still full (holds.lies still))));
}

-- what was consumed of the first segment lies in it still
joined_longer : (r : Run) (runs : List Run) → length r.bytes ≤ first_run (joined (r ∷ runs))
joined_longer r runs = onto_longer (joined runs)
  where
    onto_longer : (xs : List Run) → length r.bytes ≤ first_run (onto_runs r xs)
    onto_longer [] = omega arith
    onto_longer (x ∷ xs) = elim (cases_Bool (r.segment == x.segment)) [
      | inl same ↦ rw same (let both = length-append r.bytes x.bytes in omega arith)
      | inr other ↦ rw other (omega arith)
    ]

first_is : (live : List Fetched) → first_len live ≡ first_run (runs_of live)
first_is [] = refl
first_is (s ∷ live) = refl

first_longer : (live live' : List Fetched) (draft : List Run) → runs_of live' ≡ joined (runs_of live ++ draft) → first_len live ≤ first_len live'
first_longer [] live' draft runs = omega arith
first_longer (s ∷ live) live' draft runs =
    let a = joined_longer (run_of s) (runs_of live ++ draft) in let b = ap first_run runs in let c = first_is live' in omega arith

same_first : (live live' : List Fetched) → runs_of live' ≡ runs_of live → first_len live ≤ first_len live'
same_first live live' runs = let a = first_is live in let b = first_is live' in let c = ap first_run runs in omega arith

-- what was consumed lies in the first segment, while the reader attends
within_stays : (gone : Option ℕ) (s s1 s2 : SegmentsState) (retired' : Option Reading) → SameEnds s s1 → Settled gone s1 s2 retired' → first_len s.live ≤ first_len s1.live
    → (IsNone gone → s.reader.skip ≤ first_len s.live) → IsNone gone → s2.reader.skip ≤ first_len s2.live
within_stays had_end s s1 s2 retired' same settled longer within attends =
    let had = within attends in let skip = ap (λ (r : ReaderHas). r.skip) same.reader in
    subst (λ (t : SegmentsState). t.reader.skip ≤ first_len t.live) (sym (settled.attended attends)) (omega arith)

filled_stays : (gone : Option ℕ) (s1 s2 : SegmentsState) (retired' : Option Reading) → Settled gone s1 s2 retired' → AreFilled s1.writer.hint s1.live → AreFilled s2.writer.hint s2.live
filled_stays had_end s1 s2 retired' settled all = subst (λ (w : WriterHas). AreFilled w.hint s2.live) (sym settled.writer) (settled.filled s1.writer.hint all)

-- a lend stays while the writer commits, and there is none once the reader has completed
lent_stays : (gone : Option ℕ) (lent : Option ℕ) (h : List Call) (s s1 s2 : SegmentsState) (retired' : Option Reading) → IsLegal h → gone ≡ reader_end h → lent ≡ option_map length (lend h)
    → SameEnds s s1 → Settled gone s1 s2 retired' → IfSome lent (λ m. s.reader.skip + m ≡ length (bytes_in s.reader.segments)) → IfSome lent (λ m. s2.reader.skip + m ≡ length (bytes_in s2.reader.segments))
lent_stays None lent h s s1 s2 retired' legal gone is same settled had =
    subst (λ (r : ReaderHas). IfSome lent (λ m. r.skip + m ≡ length (bytes_in r.segments))) (sym (ap (λ (t : SegmentsState). t.reader) (settled.attended refl) ∙ same.reader)) had
lent_stays (Some code) lent h s s1 s2 retired' legal gone is same settled had =
    subst (λ l. IfSome l (λ m. s2.reader.skip + m ≡ length (bytes_in s2.reader.segments))) (sym (is ∙ ap (option_map length) (none_lent (lend h) refl))) tt
  where
    none_lent : (l : Option (List ℕ)) → lend h ≡ l → lend h ≡ None
    none_lent None e = e
    none_lent (Some bytes) e = absurd (let open' = (ordered h legal).attended bytes e in cc (open', gone))

pub commit_held : (control control' : Marks) (s s1 s2 : SegmentsState) (retired retired' : Option Reading) (draft : List Run) → IsHeld (record { control = control; segments = s }) retired → AreFull draft
    → runs_of s1.live ≡ joined (runs_of s.live ++ draft) → SameEnds s s1 → Settled control.gone s1 s2 retired' → ((h : List Call) → StandsFor control h → StandsFor control' (Commit draft ∷ h))
    → control'.gone ≡ control.gone → control'.lent ≡ control.lent → IsNone control.ended → control'.ended ≡ control.ended → (AreFilled s.writer.hint s.live → AreFilled s1.writer.hint s1.live)
    → IsHeld (record { control = control'; segments = s2 }) retired'
commit_held control control' s s1 s2 retired retired' draft is full runs same settled stands gone lent going ended filled =
    let h = is.history.0 in let holds = is.history.1 in
    record {
      history = (Commit draft ∷ h, commit_stands control control' s s1 s2 retired' h draft holds full runs same settled (stands h holds.marks));
      own = subst HaveOwnIds (sym (settled.ends.0 ∙ same.blocks)) is.own;
      lent = subst (λ l. IfSome l (λ m. s2.reader.skip + m ≡ length (bytes_in s2.reader.segments))) (sym lent)
          (lent_stays control.gone control.lent h s s1 s2 retired' holds.marks.legal holds.marks.gone holds.marks.lent same settled is.lent);
      within = λ attends. within_stays control.gone s s1 s2 retired' same settled (first_longer s.live s1.live draft runs) is.within (subst IsNone gone attends);
      filled = λ goes_on. filled_stays control.gone s1 s2 retired' settled (filled (is.filled going));
      kept = subst (λ g. IsKept g s2 retired') (sym gone) settled.kept;
      ended = λ some. absurd (cc (some, going, ended));
    }

-- ---- another segment for the writer
pub same_len : (live live' : List Fetched) → runs_of live' ≡ runs_of live → length (bytes_in live') ≡ length (bytes_in live) + 0
same_len live live' runs = let a = ap length (runs_bytes live') in let b = ap (λ r. length (bytes_of r)) runs in let c = ap length (runs_bytes live) in omega arith

pub room_stands : (control : Marks) (s s1 s2 : SegmentsState) (retired' : Option Reading) (h : List Call) → runs_of s1.live ≡ runs_of s.live → SameEnds s s1 → Settled control.gone s1 s2 retired'
    → HoldsRuns (record { control = control; segments = s }) h → HoldsRuns (record { control = control; segments = s2 }) h
room_stands control s s1 s2 retired' h runs same settled holds = record {
  marks = holds.marks;
  lies = λ still.
      let none : IsNone control.gone = subst IsNone (sym holds.marks.gone) still in
      subst (λ (t : SegmentsState). Lies h t.reader.skip (runs_of t.live)) (sym (settled.attended none))
      (subst (λ (r : ReaderHas). Lies h r.skip (runs_of s1.live)) (sym same.reader) (subst (Lies h s.reader.skip) (sym runs) (holds.lies still)));
}

pub room_held : (control : Marks) (s s1 s2 : SegmentsState) (retired retired' : Option Reading) → IsHeld (record { control = control; segments = s }) retired → runs_of s1.live ≡ runs_of s.live
    → SameEnds s s1 → Settled control.gone s1 s2 retired' → IsNone control.ended → (AreFilled s.writer.hint s.live → AreFilled s1.writer.hint s1.live)
    → IsHeld (record { control = control; segments = s2 }) retired'
room_held control s s1 s2 retired retired' is runs same settled going filled =
    let h = is.history.0 in let holds = is.history.1 in
    record {
      history = (h, room_stands control s s1 s2 retired' h runs same settled holds);
      own = subst HaveOwnIds (sym (settled.ends.0 ∙ same.blocks)) is.own;
      lent = lent_stays control.gone control.lent h s s1 s2 retired' holds.marks.legal holds.marks.gone holds.marks.lent same settled is.lent;
      within = within_stays control.gone s s1 s2 retired' same settled (same_first s.live s1.live runs) is.within;
      filled = λ goes_on. filled_stays control.gone s1 s2 retired' settled (filled (is.filled going));
      kept = settled.kept;
      ended = λ some. absurd (cc (some, going));
    }

-- ---- the writer's end
ended_lies : (h : List Call) (code skip : ℕ) (runs : List Run) → Lies h skip runs → Lies (EndWriter code ∷ h) skip runs
ended_lies h code skip runs lies = record { lent = lies.lent; apart = lies.apart; full = lies.full; within = lies.within; reached = lies.reached }

pub nothing_joined : (home : List BlockName) (live live' : List Fetched) (unfinished : List Unfinished) (blocks : List BlockName) (draft : List Run)
    → HaveOwnIds blocks → AreInOrder home live unfinished blocks → draft ≡ [] → runs_of live' ≡ joined (runs_of live ++ draft) → runs_of live' ≡ runs_of live
nothing_joined home live live' unfinished blocks draft own order none runs =
    runs ∙ ap (λ d. joined (runs_of live ++ d)) none ∙ ap joined (append-nil (runs_of live)) ∙ live_apart home live unfinished blocks own order

pub end_stands : (control control' : Marks) (s s1 s2 : SegmentsState) (retired' : Option Reading) (h : List Call) (code : ℕ) → runs_of s1.live ≡ runs_of s.live → SameEnds s s1 → Settled control.gone s1 s2 retired'
    → HoldsRuns (record { control = control; segments = s }) h → StandsFor control' (EndWriter code ∷ h) → HoldsRuns (record { control = control'; segments = s2 }) (EndWriter code ∷ h)
end_stands control control' s s1 s2 retired' h code runs same settled holds marks =
    let later = room_stands control s s1 s2 retired' h runs same settled holds in
    record { marks = marks; lies = λ still. ended_lies h code s2.reader.skip (runs_of s2.live) (later.lies still) }

pub end_held : (control control' : Marks) (s s1 s2 : SegmentsState) (retired retired' : Option Reading) (code : ℕ) → IsHeld (record { control = control; segments = s }) retired → runs_of s1.live ≡ runs_of s.live
    → SameEnds s s1 → Settled control.gone s1 s2 retired' → ((h : List Call) → StandsFor control h → StandsFor control' (EndWriter code ∷ h))
    → control'.gone ≡ control.gone → control'.lent ≡ control.lent → control'.ended ≡ Some code → s1.writer.segments ≡ [] → IsHeld (record { control = control'; segments = s2 }) retired'
end_held control control' s s1 s2 retired retired' code is runs same settled stands gone lent ended none =
    let h = is.history.0 in let holds = is.history.1 in
    record {
      history = (EndWriter code ∷ h, end_stands control control' s s1 s2 retired' h code runs same settled holds (stands h holds.marks));
      own = subst HaveOwnIds (sym (settled.ends.0 ∙ same.blocks)) is.own;
      lent = subst (λ l. IfSome l (λ m. s2.reader.skip + m ≡ length (bytes_in s2.reader.segments))) (sym lent)
          (lent_stays control.gone control.lent h s s1 s2 retired' holds.marks.legal holds.marks.gone holds.marks.lent same settled is.lent);
      within = λ attends. within_stays control.gone s s1 s2 retired' same settled (same_first s.live s1.live runs) is.within (subst IsNone gone attends);
      filled = λ goes_on. absurd (cc (goes_on, ended));
      kept = subst (λ g. IsKept g s2 retired') (sym gone) settled.kept;
      ended = λ some. ap (λ w. w.segments) settled.writer ∙ none;
    }

-- a commit, and the end behind it
both_wakes : (v v' w w' : Wake) → v ≡ v' → w ≡ w' → either_wake v w ≡ either_wake v' w'
both_wakes v v' w w' e f = rw (e, f) refl

unjoined : (w : Wake) → w ≡ either_wake w (record { reader = false; writer = false })
unjoined w = λ i. record { reader = (or_false w.reader) i; writer = (or_false w.writer) i }
  where
    or_false : (b : Bool) → b ≡ b || false
    or_false true = refl
    or_false false = refl

pub closes : (p m q : PipeHeld) (draft : List Run) (code : ℕ) (reply : FlushReply) (first second : Wake) → draft ≢ [] → HeldAnswers p (Commit draft ∷ []) (Flushed reply first) m
    → HeldAnswers m (EndWriter code ∷ []) (Woke second) q → HeldAnswers p (closing draft code) (Woke (either_wake second first)) q
closes p m q [] code reply first second some a b = absurd (some refl)
closes p m q (r ∷ runs) code reply first second some a b = record {
  kept = b.kept ∙ a.kept;
  ended = b.ended;
  gone = b.gone ∙ a.gone;
  lent = b.lent ∙ a.lent;
  told = λ h s.
      let draft : List Run = r ∷ runs in
      let e = a.told h s in
      let f : first ≡ wake_of p.control.pause p.control.resume (Commit draft) h = cc (e) in
      let g = b.told (Commit draft ∷ h) (a.stands h s) in
      let i : second ≡ wake_of m.control.pause m.control.resume (EndWriter code) (Commit draft ∷ h) = cc (g) in
      let j : second ≡ wake_of p.control.pause p.control.resume (EndWriter code) (Commit draft ∷ h) =
      subst (λ (t : Thresholds). second ≡ wake_of t.pause t.resume (EndWriter code) (Commit draft ∷ h)) (ap (λ (t : HeldMade). t.thresholds) a.kept) i in
      ap Woke (both_wakes second _ first _ j (f ∙ unjoined (wake_of p.control.pause p.control.resume (Commit draft) h)));
  stands = λ h s. b.stands (Commit (r ∷ runs) ∷ h) (a.stands h s);
}

pub nothing_drafted_runs : (draft : List Run) → AreFull draft → length (bytes_of draft) ≡ 0 → draft ≡ []
nothing_drafted_runs [] full none = refl
nothing_drafted_runs (r ∷ draft) full none =
    absurd (let some = full.0 in let both : length (bytes_of (r ∷ draft)) ≡ length r.bytes + length (bytes_of draft) = length-append r.bytes (bytes_of draft) in omega arith)

pub total_fits : (control : Marks) (s : SegmentsState) (retired : Option Reading) → IsHeld (record { control = control; segments = s }) retired → control.committed ≤ 2 ^ 62
total_fits control s retired is =
    let holds = is.history.1 in let order = ordered is.history.0 holds.marks.legal in let total = order.total_in in let committed = holds.marks.committed in omega arith

-- ---- the reader's end
pub given_up : (s s' : SegmentsState) (reading reading' : Reading) (n : ℕ) → s.reader.skip + n ≡ length (bytes_in s.live) → Releases n (all_fetched_in s) s' → reading'.half.name ≡ s'.reader_name
    → length s.blocks ≤ reading'.chain.capacity → HasGivenUp s' reading'
given_up s s' reading reading' n held released pair room =
    record {
      pair = pair;
      room = (let blocks = ap (λ (t : SegmentsState). length t.blocks) released.kept in omega arith);
      all = append_cancel_left released.gone s'.reader.segments s'.live (sym released.fetched ∙ released.live);
      consumed = (
          let skip = released.skip in let both = ap (λ l. length (bytes_in l)) released.live in
          let sum : length (bytes_in (released.gone ++ s'.live)) ≡ length (bytes_in released.gone) + length (bytes_in s'.live) =
          ap length (flat_map-append (λ (t : Fetched). t.bytes) released.gone s'.live) ∙ length-append (bytes_in released.gone) (bytes_in s'.live) in
          omega arith);
      home = released.stays;
    }

-- what is held is what was committed less what was consumed
pub held_here : (control : Marks) (s : SegmentsState) (retired : Option Reading) → IsHeld (record { control = control; segments = s }) retired → IsNone control.gone
    → s.reader.skip + (control.committed - control.consumed) ≡ length (bytes_in s.live)
held_here control s retired is none =
    let h = is.history.0 in let holds = is.history.1 in
    let len = held_len h s.reader.skip s.live (holds.lies (subst IsNone holds.marks.gone none)) in
    let held_is : length (held h) ≡ length (total h) - consumed h = length-drop (consumed h) (total h) in
    let committed = holds.marks.committed in let gone = holds.marks.consumed in omega arith

pub consumed_in : (control : Marks) (s : SegmentsState) (retired : Option Reading) → IsHeld (record { control = control; segments = s }) retired → control.consumed ≤ control.committed
consumed_in control s retired is =
    let holds = is.history.1 in let order = (ordered is.history.0 holds.marks.legal).consumed_in in let committed = holds.marks.committed in let gone = holds.marks.consumed in omega arith

pub reader_ended : (control' : Marks) (s' : SegmentsState) (h : List Call) (code : ℕ) → StandsFor control' (EndReader code ∷ h) → HoldsRuns (record { control = control'; segments = s' }) (EndReader code ∷ h)
reader_ended control' s' h code marks = record { marks = marks; lies = λ still. absurd (cc (still)) }

pub reader_end_held : (control control' : Marks) (s s' : SegmentsState) (retired : Option Reading) (reading' : Reading) (code : ℕ) → IsHeld (record { control = control; segments = s }) retired
    → HasGivenUp s' reading' → s'.blocks ≡ s.blocks → s'.writer ≡ s.writer → (AreFilled s.writer.hint s.live → AreFilled s.writer.hint s'.live) → ((h : List Call) → StandsFor control h → StandsFor control' (EndReader code ∷ h))
    → control'.gone ≡ Some code → control'.lent ≡ None → control'.ended ≡ control.ended → IsHeld (record { control = control'; segments = s' }) (Some reading')
reader_end_held control control' s s' retired reading' code is up blocks writer filled stands gone lent ended =
    let h = is.history.0 in let holds = is.history.1 in
    record {
      history = (EndReader code ∷ h, reader_ended control' s' h code (stands h holds.marks));
      own = subst HaveOwnIds (sym blocks) is.own;
      lent = subst (λ l. IfSome l (λ m. s'.reader.skip + m ≡ length (bytes_in s'.reader.segments))) (sym lent) tt;
      within = λ attends. absurd (cc (attends, gone));
      filled = λ goes_on. subst (λ (w : WriterHas). AreFilled w.hint s'.live) (sym writer) (filled (is.filled (subst IsNone ended goes_on)));
      kept = subst (λ g. IsKept g s' (Some reading')) (sym gone) up;
      ended = λ some. ap (λ w. w.segments) writer ∙ is.ended (subst IsSome ended some);
    }

-- ---- a pipe that is closed
all_gone : (home : List BlockName) (live : List Fetched) (blocks : List BlockName) (skip : ℕ) → AreInOrder home live [] blocks → skip ≡ length (bytes_in live) → first_goes skip live ≡ false → live ≡ []
all_gone home live blocks skip order consumed stays = finished_none live (subst (AllByRecursion IsFinished) (sym (order.live_is ∙ append-nil order.before)) order.finished) consumed stays
  where
    finished_none : (live : List Fetched) → AllByRecursion IsFinished live → skip ≡ length (bytes_in live) → first_goes skip live ≡ false → live ≡ []
    finished_none [] all consumed stays = refl
    finished_none (s ∷ live) all consumed stays =
        absurd (let finished = all.0 in let both : length (bytes_in (s ∷ live)) ≡ length s.bytes + length (bytes_in live) = length-append s.bytes (bytes_in live) in
        let low : length s.bytes ≤ skip = omega arith in grind (arith, stays, finished, low))

pub kept_closed : (gone : Option ℕ) (s : SegmentsState) (retired : Option Reading) → IsSome gone → IsKept gone s retired → (s.reader.skip ≡ length (bytes_in s.live)) × (first_goes s.reader.skip s.live ≡ false)
kept_closed None s retired some kept = absurd (cc (some))
kept_closed (Some code) s None some kept = absurd kept
kept_closed (Some code) s (Some r) some kept = (kept.consumed, ap (first_goes s.reader.skip) (sym kept.all) ∙ kept.home)

pub all_home_at_last : (control : Marks) (s : SegmentsState) (retired : Option Reading) → IsHeld (record { control = control; segments = s }) retired → IsSome control.ended → IsSome control.gone
    → AreInOrder s.home s.live s.writer.segments s.blocks → AreAll s.home s.blocks
all_home_at_last control s retired is ended gone order weight =
    let none = is.ended ended in
    let closed = kept_closed control.gone s retired gone is.kept in
    let order' = subst (λ us. AreInOrder s.home s.live us s.blocks) none order in
    let live = all_gone s.home s.live s.blocks s.reader.skip order' closed.0 closed.1 in
    let before : order'.before ≡ [] = sym (append-nil order'.before) ∙ sym order'.live_is ∙ live in
    let placed = order'.placed weight in let here = ap (λ l. weigh weight (blocks_in l)) before in
    omega arith
