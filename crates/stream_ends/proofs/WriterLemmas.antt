-- What a writer has written, flush by flush.
use Rattle.std.proofs.Common.{◌≡◌, ℕ, List, [], ◌++◌, drop, sym, ap, subst, ◌∙◌, Option, append_assoc, append-nil}
use Rattle.std.specs.Io.KnownBytes.{Appends}
use Rattle.std.proofs.KnownBytes.{Appends-trans}
use Rattle.std.proofs.lemmas.List.{drop_at}
use Rattle.edge_core.specs.Device.{Takes, TakesFront}
use Rattle.stream_ends.specs.Writer.{WriterState, HasWritten}

-- with nothing left in the draft, the sink was given all
pub all_written : (first : Option (List ℕ)) (w : WriterState) (bytes : List ℕ) → HasWritten first w bytes → w.draft ≡ [] → Appends first w.sink.written bytes
all_written first w bytes h none =
    let whole : h.given ≡ bytes = sym (h.whole ∙ ap (λ (xs : List ℕ). h.given ++ xs) none ∙ append-nil h.given) in
    subst (Appends first w.sink.written) whole h.written

pub written_whole : (first : Option (List ℕ)) (v w : WriterState) (bytes : List ℕ) → HasWritten first v bytes → Takes v.sink v.draft w.sink → w.draft ≡ [] → HasWritten first w bytes
written_whole first v w bytes h takes none = record {
  given = bytes;
  whole = sym (ap (λ (xs : List ℕ). bytes ++ xs) none ∙ append-nil bytes);
  written = subst (Appends first w.sink.written) (sym h.whole) (Appends-trans first v.sink.written w.sink.written h.given v.draft h.written takes.taken);
}

pub written_front : (first : Option (List ℕ)) (v w : WriterState) (bytes : List ℕ) (count : ℕ) → HasWritten first v bytes → TakesFront v.sink v.draft count w.sink → w.draft ≡ drop count v.draft
    → HasWritten first w bytes
written_front first v w bytes count h takes left =
    let front = takes.front in
    let rest = takes.is_front.0 in
    let split : front ++ rest ≡ v.draft = takes.is_front.1 in
    let behind : w.draft ≡ rest = left ∙ ap (λ (xs : List ℕ). drop count xs) (sym split) ∙ drop_at front rest count (sym takes.counted) in
    let apart = append_assoc h.given front rest ∙ ap (λ (xs : List ℕ). h.given ++ xs) split in
    record {
      given = h.given ++ front;
      whole = h.whole ∙ sym apart ∙ ap (λ (xs : List ℕ). (h.given ++ front) ++ xs) (sym behind);
      written = Appends-trans first v.sink.written w.sink.written h.given front h.written takes.taken;
    }
