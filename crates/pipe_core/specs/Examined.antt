-- How far the reader has looked, in words.
use Rattle.std.specs.Prelude.{ℕ, ◌≡◌, ◌≤◌, ◌+◌, ◌⊎◌, List, ◌∷◌, ◌++◌}
use Rattle.pipe_core.specs.History.{Call, Advance}
use Rattle.pipe_core.specs.Progress.{consumed}

-- An advance of the history has looked to this place, which is counted from the first byte of the pipe.
pub record LooksTo (h : List Call) (place : ℕ) : Type 0 where
  pub before : List Call
  pub c : ℕ
  pub e : ℕ
  pub later : List Call
  pub parts : h ≡ later ++ Advance c e ∷ before
  pub is : place ≡ consumed before + e

-- No advance has looked past this place, and one has looked to it, unless it is 0.
pub record IsFarthest (h : List Call) (place : ℕ) : Type 0 where
  pub most : (other : ℕ) → LooksTo h other → other ≤ place
  pub reached : (place ≡ 0) ⊎ LooksTo h place
