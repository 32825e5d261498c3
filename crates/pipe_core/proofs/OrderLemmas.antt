-- What a legal history consumes and examines is committed.
use Rattle.std.proofs.Common.{◌≡◌, ◌≤◌, ◌<◌, ◌+◌, ◌^◌, ◌⊎◌, inl, inr, ℕ, Bool, true, false, List, [], ◌∷◌, ◌++◌, length, refl, ap, ◌∙◌, arith, Option, Some, None, append-nil}
use Rattle.std.specs.Prelude.{is_none, is_some, cond, IsSome, IsNone, IsSomeAnd, ◌&&◌, ◌||◌, nat_lt, nat_le}
use Rattle.std.proofs.lemmas.List.Concat.{flat_map-append}
use Rattle.std.proofs.lemmas.Bool.{or_parts, ltb-false, leb-false}
use Rattle.pipe_core.specs.declared.reply.ReadReply.TheVariants.{Ready, Pending}
use Rattle.std.proofs.lemmas.List.{length-append, length-drop}
use Rattle.pipe_core.specs.History.{Run, Call, Commit, EndWriter, Read, Advance, EndReader, CancelRead, CancelFlush, bytes_of, reader_end, writer_end}
use Rattle.pipe_core.specs.Progress.{committed_runs, total, consumed, examined, unexamined, held, canceled_read}
use Rattle.pipe_core.specs.Reads.{read_is_ready, reply_to_read}
use Rattle.pipe_core.specs.Lends.{lend}
use Rattle.pipe_core.specs.Legal.{IsLegal}

bytes_where : (b : Bool) (runs : List Run) → bytes_of (cond b runs []) ≡ cond b (bytes_of runs) []
bytes_where true runs = refl
bytes_where false runs = refl

-- a commit adds its bytes to the total where the reader has not completed
pub total_commit : (runs : List Run) (h : List Call) → total (Commit runs ∷ h) ≡ total h ++ cond (is_none (reader_end h)) (bytes_of runs) []
total_commit runs h =
    let more = cond (is_none (reader_end h)) runs [] in
    flat_map-append (λ (r : Run). r.bytes) (committed_runs h) more ∙ ap (λ (t : List ℕ). total h ++ t) (bytes_where (is_none (reader_end h)) runs)

none_added : (b : Bool) (t : List ℕ) → t ++ cond b [] [] ≡ t
none_added true t = append-nil t
none_added false t = append-nil t

pub total_nothing : (h : List Call) → total (Commit [] ∷ h) ≡ total h
total_nothing h = total_commit [] h ∙ none_added (is_none (reader_end h)) (total h)

pub grows : (runs : List Run) (h : List Call) → length (total h) ≤ length (total (Commit runs ∷ h))
grows runs h = omega (arith, ap length (total_commit runs h), length-append (total h) (cond (is_none (reader_end h)) (bytes_of runs) []))

within : (b : Bool) (o : Option ℕ) (t n : ℕ) (xs : List ℕ) → is_none o ≡ b → t ≤ 2 ^ 62 → IsSome o ⊎ (t + length xs ≤ 2 ^ 62) → t + length (cond b xs []) ≤ 2 ^ 62
within true (Some v) t n xs e le may = absurd cc
within true None t n xs e le (inl some) = absurd cc
within true None t n xs e le (inr fits) = fits
within false o t n xs e le may = omega (arith, le)

-- what is lent is committed and not consumed
pub record IsOrdered (h : List Call) : Type 0 where
  pub total_in : length (total h) ≤ 2 ^ 62
  pub consumed_in : consumed h ≤ length (total h)
  pub examined_in : examined h ≤ length (total h)
  pub lent_in : (bytes : List ℕ) → lend h ≡ Some bytes → consumed h + length bytes ≤ length (total h)
  pub attended : (bytes : List ℕ) → lend h ≡ Some bytes → IsNone (reader_end h)

pub read_lends : (b : Bool) (bytes lent : List ℕ) → cond b (Some bytes) None ≡ Some lent → lent ≡ bytes
read_lends true bytes lent e = cc
read_lends false bytes lent e = absurd cc

advanced : (o : Option (List ℕ)) (c e : ℕ) → IsSomeAnd o (λ bytes. (c ≤ e) × (e ≤ length bytes)) → (bytes : List ℕ) × (o ≡ Some bytes) × (c ≤ e) × (e ≤ length bytes)
advanced (Some bytes) c e h = (bytes, refl, h.0, h.1)
advanced None c e h = elim h [ ]

pub ordered : (h : List Call) → IsLegal h → IsOrdered h
ordered [] legal = record { total_in = omega arith; consumed_in = omega arith; examined_in = omega arith; lent_in = λ bytes e. absurd cc; attended = λ bytes e. absurd cc }
ordered (Commit runs ∷ h) legal =
    let o = ordered h legal.0 in
    let more = grows runs h in
    let added = cond (is_none (reader_end h)) (bytes_of runs) [] in
    record {
      total_in = omega (arith, ap length (total_commit runs h), length-append (total h) added, within (is_none (reader_end h)) (reader_end h) (length (total h)) 0 (bytes_of runs) refl o.total_in legal.1.1);
      consumed_in = omega (arith, o.consumed_in, more);
      examined_in = omega (arith, o.examined_in, more);
      lent_in = λ bytes e. omega (arith, o.lent_in bytes e, more);
      attended = o.attended;
    }
ordered (EndWriter code ∷ h) legal = let o = ordered h legal.0 in record { total_in = o.total_in; consumed_in = o.consumed_in; examined_in = o.examined_in; lent_in = o.lent_in; attended = o.attended }
ordered (Read n ∷ h) legal =
    let o = ordered h legal.0 in
    record {
      total_in = o.total_in;
      consumed_in = o.consumed_in;
      examined_in = o.examined_in;
      lent_in = λ bytes e. omega (arith, o.consumed_in, ap length (read_lends (read_is_ready n h) (held h) bytes e), length-drop (consumed h) (total h));
      attended = λ bytes e. legal.1.0;
    }
ordered (Advance c e ∷ h) legal =
    let o = ordered h legal.0 in
    let a = advanced (lend h) c e legal.1.1 in
    let room = o.lent_in a.0 a.1 in
    record { total_in = o.total_in; consumed_in = omega (arith, room, a.2, a.3); examined_in = omega (arith, room, a.3, o.examined_in); lent_in = λ bytes d. absurd cc; attended = λ bytes d. absurd cc }
ordered (EndReader code ∷ h) legal = let o = ordered h legal.0 in record { total_in = o.total_in; consumed_in = o.consumed_in; examined_in = o.examined_in; lent_in = λ bytes d. absurd cc; attended = λ bytes d. absurd cc }
ordered (CancelRead ∷ h) legal = let o = ordered h legal.0 in record { total_in = o.total_in; consumed_in = o.consumed_in; examined_in = o.examined_in; lent_in = o.lent_in; attended = o.attended }
ordered (CancelFlush ∷ h) legal = let o = ordered h legal.0 in record { total_in = o.total_in; consumed_in = o.consumed_in; examined_in = o.examined_in; lent_in = o.lent_in; attended = o.attended }

-- what a read that waits tells
pending : (b canceled : Bool) (ended : Option ℕ) (len mark count n k : ℕ) → cond b (Ready canceled ended len) (Pending mark count) ≡ Pending n k → (b ≡ false) × (n ≡ mark) × (k ≡ count)
pending true canceled ended len mark count n k e = absurd cc
pending false canceled ended len mark count n k e = (refl, cc, cc)

pub pending_tells : (n : ℕ) (h : List Call) (mark count : ℕ) → reply_to_read n h ≡ Pending mark count → (read_is_ready n h ≡ false) × (mark ≡ examined h) × (count ≡ length (held h))
pending_tells n h mark count e = pending (read_is_ready n h) (canceled_read h) (writer_end h) (length (held h)) (examined h) (length (held h)) mark count e

pub either : (a b : Bool) → a && b ≡ false → (a ≡ false) ⊎ (b ≡ false)
either true b e = inr e
either false b e = inl refl

pub seen_all : (h : List Call) (n mark count : ℕ) → IsLegal h → reply_to_read n h ≡ Pending mark count → (mark ≡ length (total h)) ⊎ (count < n)
seen_all h n mark count legal e =
    let p = pending_tells n h mark count e in
    let none = or_parts (canceled_read h || is_some (writer_end h)) (nat_lt 0 (unexamined h) && nat_le n (length (held h))) p.0 in
    let o = ordered h legal in
    elim (either (nat_lt 0 (unexamined h)) (nat_le n (length (held h))) none.1) [
      | inl few ↦ inl (omega (arith, p.1, ltb-false 0 (unexamined h) few, o.examined_in))
      | inr short ↦ inr (omega (arith, p.2, leb-false n (length (held h)) short))
    ]

-- a read for any number of bytes that waits has seen all
pub plain_seen_all : (h : List Call) (mark count : ℕ) → IsLegal h → reply_to_read 0 h ≡ Pending mark count → mark ≡ length (total h)
plain_seen_all h mark count legal e = elim (seen_all h 0 mark count legal e) [
  | inl all ↦ all
  | inr short ↦ absurd (omega (arith, short))
]
