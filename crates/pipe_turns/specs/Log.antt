-- The history of a pipe that several threads use: its calls in the order in which they were made, each with the number of the seat that made it.
use Rattle.std.specs.Prelude.{◌≡◌, ℕ, List, map, reverse}
use Rattle.std.specs.List.{All}
use Rattle.pipe_core.specs.History.{Call, seat_of}
use Rattle.pipe_core.specs.Legal.{IsLegal}

-- the calls of a history, the latest first, as the questions about a pipe take them
abbrev pub calls_of : List (ℕ × Call) → List Call
calls_of history = reverse (map (λ e. e.1) history)

-- Each call was made from its own seat, and the calls are lawful.
pub record IsLawful (history : List (ℕ × Call)) : Type 0 where
  pub seats : All (λ e. e.0 ≡ seat_of e.1) history
  pub legal : IsLegal (calls_of history)
