-- A text of at most ten digits is read as the number that they write.
use Rattle.std.proofs.Common.{◌≡◌, ◌<◌, ◌≤◌, ◌^◌, ℕ, true, List, [], ◌∷◌, length, Some, Result, Ok, refl, arith, rules}
use Rattle.std.specs.Char.{is_ascii_digit}
use Rattle.std.specs.List.{list_all}
use Rattle.std.specs.Str.Parse.{digits_value, ParsesUnsigned}
use Rattle.std.proofs.lemmas.Bool.{and_parts, leb-true}
use Rattle.std.proofs.lemmas.Str.Parse.{IsNumeralModel, numerals_by_value, digits_value_short, parse_gives}
use Rattle.relay_words.specs.Numbers.{is_plain, number_of}

own : IsNumeralModel (λ ds. list_all is_ascii_digit ds ≡ true) (digits_value 10)
own = numerals_by_value _ (search rules)

plain_len : (word : List ℕ) → is_plain word ≡ true → (0 < length word) × (length word ≤ 10)
plain_len [] e = absurd cc
plain_len (b ∷ []) e = (omega arith, omega arith)
plain_len (b ∷ c ∷ word) e = (omega arith, omega (arith, leb-true (length word) 8 (and_parts _ _ e).1))

pub reads : {E : Type 0} (word : List ℕ) (r : Result ℕ E) → ParsesUnsigned 64 10 word r → list_all is_ascii_digit word ≡ true → is_plain word ≡ true → (r ≡ Ok (digits_value 10 word)) × (number_of word ≡ Some (digits_value 10 word))
reads word r h digits plain =
    let len = plain_len word plain in
    let short : digits_value 10 word < 10 ^ 10 = digits_value_short own word 10 digits len.1 in
    (parse_gives own 64 word r h digits len.0 (omega (arith, short)), rw (digits, plain) refl)
