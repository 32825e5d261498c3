-- What a source in memory gives.
use Rattle.std.proofs.Common.{◌≡◌, ℕ, ◌+◌, ◌-◌, List, ◌++◌, length, take, drop, arith}
use Rattle.std.proofs.Math.Seq.{take-append_seam}
use Rattle.std.proofs.lemmas.List.Folds.{drop_split}

-- A read copied the next bytes to the front of a buffer.
pub drop-split_by_read : (content rest read : List ℕ) (given count : ℕ) → read ≡ take (given + count - given) (drop given content) → length read ≡ count
    → drop given content ≡ take count (read ++ rest) ++ drop (given + count) content
drop-split_by_read content rest read given count is size =
    let front : take count (read ++ rest) ≡ read = rw (← size) (take-append_seam read rest) in
    rw (front, is) (drop_split content given (given + count) (omega arith))
