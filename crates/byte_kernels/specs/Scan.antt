-- What a search of a list finds, told byte by byte.
-- The first index whose byte meets a test is std's `position`, and how far two lists begin alike its `common_prefix_len`.
use Rattle.std.specs.Prelude.{ℕ, ◌-◌, Bool, List, length, reverse, Option, option_map, position}

-- The last index whose byte meets a test.
abbrev pub last_position : (ℕ → Bool) → List ℕ → Option ℕ
last_position test bytes = option_map (λ index. length bytes - 1 - index) (position test (reverse bytes))
