-- What an end of a pipe comes to see by a call, behind what others did in between.
use Rattle.std.specs.Prelude.{◌≡◌, List, ◌∷◌, ◌++◌}
use Rattle.std.specs.List.{AllByRecursion}
use Rattle.pipe_core.specs.History.{Call}
use Rattle.pipe_core.specs.Legal.{IsLegal}

-- A history that has gone on to another one by calls of others alone.
pub record Later (others : Call → Type 0) (h k : List Call) : Type 0 where
  pub between : List Call
  pub all : AllByRecursion others between
  pub is : k ≡ between ++ h

-- An end, of which `at` says which histories it stands for, has made a call behind a later history, of which this holds.
pub record CallsLater {P : Type 0} (at : P → List Call → Type 0) (others : Call → Type 0) (h : List Call) (call : Call) (holds : List Call → Type 0) (p : P) : Type 0 where
  pub found : List Call
  pub later : Later others h found
  pub so : holds found
  pub legal : IsLegal (call ∷ found)
  pub stands : at p (call ∷ found)

-- It has made none, and stands for a later history.
pub record HearsLater {P : Type 0} (at : P → List Call → Type 0) (others : Call → Type 0) (h : List Call) (p : P) : Type 0 where
  pub found : List Call
  pub later : Later others h found
  pub legal : IsLegal found
  pub stands : at p found
