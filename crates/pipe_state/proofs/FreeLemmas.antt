-- What is written to a lent free part.
use Rattle.std.proofs.Common.{◌≡◌, ◌≤◌, ◌-◌, ℕ, List, ◌++◌, length, take, drop, sym, ap, ◌∙◌, arith, Option}
use Rattle.std.specs.Prelude.{Vec}
use Rattle.std.specs.Vec.{with_items_from}
use Rattle.std.proofs.lemmas.List.{length-drop}
use Rattle.std.proofs.Math.Seq.{take-length}
use Rattle.pipe_core.specs.Bytes.{overwritten}
use Rattle.pipe_core.proofs.BufferLemmas.{written_before, written_behind}
use Rattle.seg_block.specs.Words.{with_spare}
use Rattle.seg_block.specs.declared.front.SegFront.{SegFront}
use Rattle.seg_block.specs.declared.tail.SegTail.{SegTail}
use Rattle.pipe_state.specs.Sides.{FillingState, filling_of}

module _ {Z : Type 0} where
  front_stays : (v : Vec ℕ Z) (k : ℕ) (w : List ℕ) → k ≤ length v.items → take k (with_items_from v k w).items ≡ take k v.items
  front_stays v k w within = let size : length v.items ≡ v.len = sym v.ok.0 in written_before v.items w v.len k size (omega arith)

  rest_is : (v : Vec ℕ Z) (k : ℕ) (w : List ℕ) → k ≤ length v.items → drop k (with_items_from v k w).items ≡ overwritten (drop k v.items) w
  rest_is v k w within =
      let size : length v.items ≡ v.len = sym v.ok.0 in
      let now : List ℕ = (with_items_from v k w).items in
      let same : length now ≡ v.len = sym (with_items_from v k w).ok.0 in
      let left : length (drop k now) ≡ length now - k = length-drop k now in
      let left' : length (drop k v.items) ≡ length v.items - k = length-drop k v.items in
      sym (take-length (drop k now)) ∙ ap (λ n. take n (drop k now)) (omega arith)
      ∙ written_behind v.items w v.len k (v.len - k) size (omega arith)
      ∙ ap (λ n. take n (w ++ drop (length w) (drop k v.items))) (omega arith)

pub lent : (tail : SegTail) (front : Option SegFront) (w : List ℕ) → filling_of (with_spare tail w) front ≡ record (filling_of tail front) { spare = overwritten (filling_of tail front).spare w }
lent tail front w =
    let within : tail.drafted ≤ length tail.free.items = (let c = tail.counted.2 in let ok = tail.free.ok.0 in omega arith) in
    let f : FillingState = filling_of tail front in
    λ i. record { label = f.label; bytes = f.bytes; draft = front_stays tail.free tail.drafted w within i; spare = rest_is tail.free tail.drafted w within i; sent = f.sent }
