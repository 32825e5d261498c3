-- The first line feed that a search finds is that of the definitions.
use Rattle.std.proofs.Common.{◌≡◌, ◌≤◌, ◌+◌, ℕ, Some, None, Option, List, length, take, drop, refl, sym, subst, arith, ap, ◌∙◌}
use Rattle.std.specs.Prelude.{IsNone}
use Rattle.std.specs.List.{position, position_or_len}
use Rattle.std.proofs.lemmas.List.{length-take, length-drop, take-append-drop}
use Rattle.frame_model.specs.Spelling.{is_line_feed}
use Rattle.span_seq.proofs.ScanLemmas.{at_none, at_some, passed_over, position_at, position_past}

none_is : (o : Option ℕ) → IsNone o → o ≡ None
none_is None none = refl
none_is (Some at) none = absurd cc

-- where a first part has none, the place is behind it
len_behind : (x : List ℕ) (k : ℕ) → k ≤ length x → IsNone (position is_line_feed (take k x)) → position_or_len is_line_feed x ≡ k + position_or_len is_line_feed (drop k x)
len_behind x k within none =
    let passed = at_none is_line_feed (take k x) (none_is (position is_line_feed (take k x)) none) in
    ap (λ (xs : List ℕ). position_or_len is_line_feed xs) (sym (take-append-drop k x))
    ∙ passed_over is_line_feed (take k x) (drop k x) passed
    ∙ ap (λ (n : ℕ). n + position_or_len is_line_feed (drop k x)) size
  where
    size : length (take k x) ≡ k
    size = omega (arith, within, length-take k x)

pub found_behind : (x : List ℕ) (k at : ℕ) → k ≤ length x → IsNone (position is_line_feed (take k x)) → Some at ≡ position is_line_feed (drop k x) → Some (k + at) ≡ position is_line_feed x
found_behind x k at within none found =
    let there = at_some is_line_feed (drop k x) at (sym found) in
    let len = len_behind x k within none ∙ ap (λ (n : ℕ). k + n) there.0 in
    sym (position_at is_line_feed x (k + at) len (omega (arith, there.1, length-drop k x, within)))

pub none_behind : (x : List ℕ) (k : ℕ) → k ≤ length x → IsNone (position is_line_feed (take k x)) → None ≡ position is_line_feed (drop k x) → None ≡ position is_line_feed x
none_behind x k within none nowhere =
    let there = at_none is_line_feed (drop k x) (sym nowhere) in
    let len = len_behind x k within none in
    sym (position_past is_line_feed x (omega (arith, len, there, length-drop k x, within)))

pub some_position : (x : List ℕ) (at : ℕ) → Some at ≡ position is_line_feed x → at ≡ position_or_len is_line_feed x
some_position x at e = sym (at_some is_line_feed x at (sym e)).0

pub no_position : (x : List ℕ) → None ≡ position is_line_feed x → length x ≡ position_or_len is_line_feed x
no_position x e = sym (at_none is_line_feed x (sym e))

-- no line feed stands in as many bytes as there are before it
pub ended_by_none : (x : List ℕ) → length x ≤ position_or_len is_line_feed x → position_or_len is_line_feed x ≤ length x → IsNone (position is_line_feed x)
ended_by_none x low high = subst (λ (o : Option ℕ). IsNone o) (sym (position_past is_line_feed x (omega (arith, low, high)))) refl
