-- What a group of marks says of places, and a vector of bytes.
use Rattle.std.specs.Prelude.{◌≡◌, ◌↔◌, ℕ, ◌+◌, ◌<◌, ◌^◌, Bool, IsTrue, List, map, if◌then◌else◌}
use Rattle.std.specs.Int.{bit_at}

-- Each of the places behind `from`, so many as `count`, meets a test exactly where its bit is set.
pub record Marks (meets : ℕ → Bool) (from count marks : ℕ) : Type 0 where
  pub each : (k : ℕ) → k < count → (bit_at marks k ≡ 1) ↔ IsTrue (meets (from + k))
  pub small : marks < 2 ^ count

-- All bits where a byte meets a test, and none where it doesn't.
abbrev pub all_bits_where : (ℕ → Bool) → List ℕ → List ℕ
all_bits_where meets bytes = map (λ byte. if meets byte then 255 else 0) bytes
