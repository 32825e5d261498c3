-- A history of entries, each with the number of the seat that made it.
use Rattle.std.specs.Prelude.{ℕ, ◌==◌, List, map, filter, length, if◌then◌else◌, nat_lt}

module _ {E : Type 0} where
  -- the entries of the seat with this number, in order
  abbrev pub entries_of : ℕ → List (ℕ × E) → List E
  entries_of number history = map (λ e. e.1) (filter (λ e. e.0 == number) history)

  -- these entries, each with the number of the seat that made it
  abbrev pub made_by : ℕ → List E → List (ℕ × E)
  made_by number entries = map (λ e. (number, e)) entries

-- The longer of two lists, the first where they are equally long.
abbrev pub longer : {A : Type 0} → List A → List A → List A
longer xs ys = if nat_lt (length xs) (length ys) then ys else xs
