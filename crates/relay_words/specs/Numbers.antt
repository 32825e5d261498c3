-- Numbers in words.
use Rattle.std.specs.Prelude.{ℕ, Bool, true, false, nat_le, ◌==◌, ◌&&◌, not, List, [], ◌∷◌, length, Option, Some, None, option_and_then, if◌then◌else◌}
use Rattle.std.specs.Char.{is_ascii_digit}
use Rattle.std.specs.List.{list_all}
use Rattle.std.specs.Str.Parse.{digits_value}

-- 1 to 10 bytes, of which only a single one is a 0 in front.
abbrev pub is_plain : List ℕ → Bool
is_plain [] = false
is_plain (b ∷ []) = true
is_plain (b ∷ c ∷ word) = not (b == 48) && nat_le (length word) 8

-- The number that a word is, in 1 to 10 decimal digits. Only `0` itself begins with a 0.
abbrev pub number_of : List ℕ → Option ℕ
number_of word = if list_all is_ascii_digit word && is_plain word then Some (digits_value 10 word) else None

-- The same, where it is in a range.
abbrev pub number_within : ℕ → ℕ → List ℕ → Option ℕ
number_within least greatest word = option_and_then (λ n. if nat_le least n && nat_le n greatest then Some n else None) (number_of word)
