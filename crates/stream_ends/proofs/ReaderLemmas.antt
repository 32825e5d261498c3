-- What a reader stands for, call by call.
use Rattle.std.proofs.Common.{◌≡◌, ◌≢◌, ◌^◌, ℕ, cond, false, List, [], ◌∷◌, length, refl, sym, ap, subst, ◌∙◌, arith, Option, Some, None, Err}
use Rattle.std.specs.Prelude.{IsNone, IfSome, is_none}
use Rattle.std.specs.Io.KnownBytes.{Consumes, IsAtEnd}
use Rattle.std.proofs.KnownBytes.{Consumes-trans}
use Rattle.pipe_core.specs.History.{Call, writer_end, reader_end}
use Rattle.pipe_core.specs.Progress.{total, held}
use Rattle.pipe_core.specs.Reads.{read_is_ready}
use Rattle.pipe_core.specs.Pipe.{Made}
use Rattle.pipe_core.proofs.PipeLemmas.{total_within}
use Rattle.stream_ends.specs.Reader.{ReaderState, Stands, room_for}
use Rattle.stream_ends.specs.declared.faults.StreamFault.{StreamFault}
use Rattle.stream_ends.specs.declared.faults.StreamFault.TheVariants as fault
use Rattle.stream_ends.specs.Reads.{IsDue, IsRead, IsTold, IsWhy, nothing, more, telling, FindsRoom, HasFilled, ReadsIn}
use Rattle.stream_ends.proofs.ToldLemmas.{total_told}

told_end : (bytes : List ℕ) (h : List Call) (left : Option (List ℕ)) → IsNone (writer_end h) → (bytes ≡ [] → IsAtEnd left)
    → IfSome (writer_end (telling bytes ∷ h)) (λ code. (code ≡ 0) × IsAtEnd left)
told_end [] h left writing end = (refl, end refl)
told_end (b ∷ bytes) h left writing end = none_told (writer_end h) writing
  where
    none_told : (o : Option ℕ) → IsNone o → IfSome o (λ code. (code ≡ 0) × IsAtEnd left)
    none_told None none = tt
    none_told (Some code) none = absurd cc

told_there : (bytes : List ℕ) (h : List Call) → IsNone (reader_end h) → IsNone (reader_end (telling bytes ∷ h))
told_there [] h there = there
told_there (b ∷ bytes) h there = there

-- the source was read, and the pipe was told of it
pub stands_told : (first : Option (List ℕ)) (r s : ReaderState) (bytes : List ℕ) (h : List Call) → Stands first r h → IsNone r.pipe.control.ended → IsRead r.source bytes s.source
    → IsTold (telling bytes) r.pipe s.pipe → Stands first s (telling bytes ∷ h)
stands_told first r s bytes h stands writing given told =
    let open_still : IsNone (writer_end h) = subst IsNone stands.holds.marks.ended writing in
    let taken = Consumes-trans first r.source.left s.source.left (total h) bytes stands.given given.given.given in
    record {
      holds = told.stands h stands.holds;
      given = subst (Consumes first s.source.left) (sym (total_told bytes h stands.attended)) taken;
      ended = told_end bytes h s.source.left open_still given.end;
      attended = told_there bytes h stands.attended;
      unpaused = ap (λ (m : Made). m.thresholds.pause) told.made ∙ stands.unpaused;
    }

kept_there : (xs : List ℕ) (o : Option ℕ) → IsNone o → cond (is_none o) xs [] ≡ xs
kept_there xs None there = refl
kept_there xs (Some code) there = absurd cc

-- what the buffer holds is what is held in the history
pub holds_all : (first : Option (List ℕ)) (r : ReaderState) (h : List Call) → Stands first r h → length r.pipe.bytes.held ≡ length (held h)
holds_all first r h stands = ap length (stands.holds.held ∙ kept_there (held h) (reader_end h) stands.attended)

pub why_full : (first : Option (List ℕ)) (r : ReaderState) (n : ℕ) (h : List Call) (sum room count : ℕ) → r.pipe.bytes.draft ≡ [] → sum ≡ r.pipe.control.committed → sum ≢ 2 ^ 62
    → room ≡ length r.pipe.bytes.free → room ≡ 0 → count ≡ length r.pipe.bytes.held → Stands first r h → read_is_ready n h ≡ false
    → FindsRoom n (room_for r) h r.source (Err (fault.Full count))
why_full first r n h sum room count empty told below free none holds stands unready =
    let within = total_within r.pipe h stands.holds in
    let marked = stands.holds.marks.committed in
    (unready, omega (arith, told, below, within, marked), holds ∙ holds_all first r h stands, omega (arith, ap length empty, free, none, holds), refl)

pub why_due : (first : Option (List ℕ)) (r : ReaderState) (n : ℕ) (h : List Call) (sum room : ℕ) → r.pipe.bytes.draft ≡ [] → sum ≡ r.pipe.control.committed → sum ≢ 2 ^ 62
    → room ≡ length r.pipe.bytes.free → room ≢ 0 → Stands first r h → read_is_ready n h ≡ false → IsDue n (room_for r) h
why_due first r n h sum room empty told below free some stands unready =
    let within = total_within r.pipe h stands.holds in
    let marked = stands.holds.marks.committed in
    record {
      unready = unready;
      below = omega (arith, told, below, within, marked);
      room = omega (arith, free, some, holds_all first r h stands, ap length empty);
    }

-- before the first read of the source
pub fills_none : (first : Option (List ℕ)) (n : ℕ) (r : ReaderState) (h : List Call) → Stands first r h → HasFilled first n r r h
fills_none first n r h stands = record { filled = h; fills = nothing; stands = stands }

-- the source was read once more
pub fills_more : (first : Option (List ℕ)) (n : ℕ) (start r s : ReaderState) (h : List Call) → room_for r ≡ room_for start → HasFilled first n start r h
    → ((g : List Call) → Stands first r g → IsDue n (room_for r) g × ((bytes : List ℕ) × IsRead r.source bytes s.source × Stands first s (telling bytes ∷ g))) → HasFilled first n start s h
fills_more first n start r s h room f once =
    let o = once f.filled f.stands in
    let due = subst (λ (most : ℕ). IsDue n most f.filled) room o.0 in
    record { filled = telling o.1.0 ∷ f.filled; fills = more f.filled r.source s.source o.1.0 f.fills due o.1.1; stands = o.1.2 }

-- a read that is answered by a fault
pub refused : (first : Option (List ℕ)) (n : ℕ) (start r s : ReaderState) (h : List Call) (why : StreamFault) → room_for r ≡ room_for start → HasFilled first n start r h
    → ((g : List Call) → Stands first r g → IsWhy n (room_for r) g r.source (Err why) s.source × Stands first s g) → ReadsIn first n start (Err why) s h
refused first n start r s h why room f once =
    let o = once f.filled f.stands in
    record {
      filled = f.filled;
      middle = r.source;
      fills = f.fills;
      why = subst (λ (most : ℕ). IsWhy n most f.filled r.source (Err why) s.source) room o.0;
      stands = o.1;
    }
