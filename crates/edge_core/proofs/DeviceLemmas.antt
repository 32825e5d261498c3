-- What a sink is given by one call after another.
use Rattle.std.proofs.Common.{◌+◌, ℕ, List, ◌++◌, length, sym, ap, ◌∙◌, append_assoc, arith}
use Rattle.std.proofs.KnownBytes.{Appends-trans}
use Rattle.std.proofs.lemmas.List.{length-append}
use Rattle.edge_core.specs.Device.{SinkState, Takes, TakesFront}

pub Takes-trans : (a b c : SinkState) (xs ys : List ℕ) → Takes a xs b → Takes b ys c → Takes a (xs ++ ys) c
Takes-trans a b c xs ys first second = record {
  taken = Appends-trans a.written b.written c.written xs ys first.taken second.taken;
  unfailed = second.unfailed ∙ first.unfailed;
  same = second.same ∙ first.same;
}

-- a front of a front
pub front_more : (a b : SinkState) (xs ys : List ℕ) (count : ℕ) → TakesFront a xs count b → TakesFront a (xs ++ ys) count b
front_more a b xs ys count f = record {
  front = f.front;
  is_front = (f.is_front.0 ++ ys, sym (append_assoc f.front f.is_front.0 ys) ∙ ap (λ t. t ++ ys) f.is_front.1);
  counted = f.counted;
  taken = f.taken;
  risen = f.risen;
  same = f.same;
}

-- a front behind what was taken
pub front_behind : (a b c : SinkState) (xs ys : List ℕ) (count : ℕ) → Takes a xs b → TakesFront b ys count c → TakesFront a (xs ++ ys) (length xs + count) c
front_behind a b c xs ys count t f = record {
  front = xs ++ f.front;
  is_front = (f.is_front.0, append_assoc xs f.front f.is_front.0 ∙ ap (λ t. xs ++ t) f.is_front.1);
  counted = omega (arith, f.counted, length-append xs f.front);
  taken = Appends-trans a.written b.written c.written xs f.front t.taken f.taken;
  risen = rw (← t.unfailed) f.risen;
  same = f.same ∙ t.same;
}
