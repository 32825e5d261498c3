-- The lines of names.
use Rattle.std.proofs.Common.{◌≡◌, ℕ, List, ◌∷◌, ◌++◌, sym, ap, ◌∙◌, append_assoc}
use Rattle.relay_model.specs.Answers.{Answer, answer_line, answer_lines}

-- one line more, of names that are left
pub line_more : (lines longer name : List ℕ) (answer : Answer) (names names' : List (List ℕ)) (given given' : List Answer) (all : List ℕ) → names ≡ name ∷ names' → given ≡ answer ∷ given' → longer ≡ lines ++ answer_line name answer
    → lines ++ answer_lines names given ≡ all → longer ++ answer_lines names' given' ≡ all
line_more lines longer name answer names names' given given' all n g more so =
    ap (λ (t : List ℕ). t ++ answer_lines names' given') more ∙ append_assoc lines (answer_line name answer) (answer_lines names' given')
    ∙ ap (λ (x : List (List ℕ)). lines ++ answer_lines x (answer ∷ given')) (sym n) ∙ ap (λ (x : List Answer). lines ++ answer_lines names x) (sym g) ∙ so
