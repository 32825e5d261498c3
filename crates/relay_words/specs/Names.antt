-- The names of a batch.
use Rattle.std.specs.Prelude.{ℕ, ◌≢◌, ◌≤◌, Bool, nat_le, nat_lt, nat_eq, not, ◌&&◌, All, AllPairs, List, [], ◌∷◌, ◌++◌, length, Option, Some, None, codes, if◌then◌else◌}
use Rattle.std.specs.List.{ends_with, list_any}
use Rattle.std.specs.Str.{bytes_eq}

-- A word can be a name: it has 1 to 255 bytes, and doesn't end in `.out`.
abbrev pub is_name : List ℕ → Bool
is_name word = nat_le 1 (length word) && nat_le (length word) 255 && not (ends_with nat_eq word (codes ".out"))

-- A word can be the next name behind these, of which there are fewer than 256.
abbrev pub can_join : List (List ℕ) → List ℕ → Bool
can_join names word = nat_lt (length names) 256 && is_name word && not (list_any (bytes_eq word) names)

-- The index of the first of these words that can't be the next name, where they stand behind these names.
abbrev pub misnamed : List (List ℕ) → List (List ℕ) → Option ℕ
misnamed names [] = None
misnamed names (word ∷ words) = if can_join names word then misnamed (names ++ word ∷ []) words else Some (length names)

-- ---- what the names are that were read

-- A name: 1 to 255 bytes, and no word with `.out` behind it.
pub record IsName (name : List ℕ) : Type 0 where
  pub some : 1 ≤ length name
  pub short : length name ≤ 255
  pub no_outlet : (front : List ℕ) → name ≢ front ++ codes ".out"

-- The names of a batch: 1 to 256 of them, all different.
pub record AreNames (names : List (List ℕ)) : Type 0 where
  pub some : 1 ≤ length names
  pub few : length names ≤ 256
  pub each : All IsName names
  pub differ : AllPairs (λ one other. one ≢ other) names
