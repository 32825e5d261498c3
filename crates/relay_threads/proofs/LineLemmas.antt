-- A line that is written in pieces.
use Rattle.std.proofs.Common.{◌+◌, ℕ, List, ◌++◌, length, inl, inr}
use Rattle.edge_core.specs.Device.{SinkState, Takes, TakesFront}
use Rattle.edge_core.proofs.DeviceLemmas.{Takes-trans, front_behind, front_more}
use Rattle.relay_model.specs.Lines.{IsWritten}

-- what is broken off is a front of the line
pub broken_line : (a b : SinkState) (xs ys : List ℕ) (count : ℕ) → TakesFront a xs count b → IsWritten (xs ++ ys) a b
broken_line a b xs ys count f = inr (count, front_more a b xs ys count f)

pub line_behind : (a b c : SinkState) (xs ys : List ℕ) → Takes a xs b → IsWritten ys b c → IsWritten (xs ++ ys) a c
line_behind a b c xs ys taken (inl all) = inl (Takes-trans a b c xs ys taken all)
line_behind a b c xs ys taken (inr front) = inr (length xs + front.0, front_behind a b c xs ys front.0 taken front.1)
