-- Histories of the worked runs, the latest call first.
use Rattle.std.specs.Prelude.{ℕ, List, [], ◌∷◌}
use Rattle.pipe_core.specs.History.{Call, Read, Advance, CancelRead}
use Rattle.stream_ends.specs.Reads.{telling}

-- a read, and an advance that examined so many bytes and consumed so many
abbrev pub examined : ℕ → ℕ → List Call → List Call
examined e c h = Advance c e ∷ Read 0 ∷ h

-- the source gives `ab`, `cd` and `e`
abbrev pub first_two : List Call
first_two = telling (97 ∷ 98 ∷ []) ∷ []

abbrev pub four : List Call
four = telling (99 ∷ 100 ∷ []) ∷ examined 2 0 first_two

abbrev pub all_five : List Call
all_five = telling (101 ∷ []) ∷ examined 4 0 four

abbrev pub consumed : List Call
consumed = examined 5 5 all_five

-- the source gives `abcd`, and `ef` once these were consumed
abbrev pub four_at_once : List Call
four_at_once = telling (97 ∷ 98 ∷ 99 ∷ 100 ∷ []) ∷ []

abbrev pub canceled : List Call
canceled = CancelRead ∷ examined 4 0 four_at_once

abbrev pub behind_four : List Call
behind_four = telling (101 ∷ 102 ∷ []) ∷ examined 4 4 canceled
