-- A completion of the writer ends it, and leaves what the reader has done.
use Rattle.std.proofs.Common.{◌≡◌, ℕ, List, [], ◌∷◌, refl, Option, Some}
use Rattle.pipe_core.specs.History.{Run, closing}
use Rattle.pipe_core.specs.Answers.{Answer, ended_after_all, gone_after_all, lent_after_all}

pub closing_gone : (runs : List Run) (code : ℕ) (o : Option ℕ) → gone_after_all (closing runs code) o ≡ o
closing_gone [] code o = refl
closing_gone (r ∷ runs) code o = refl

pub closing_lent : (runs : List Run) (code : ℕ) (answer : Answer) (o : Option ℕ) → lent_after_all (closing runs code) answer o ≡ o
closing_lent [] code answer o = refl
closing_lent (r ∷ runs) code answer o = refl

pub closing_ended : (runs : List Run) (code : ℕ) (o : Option ℕ) → ended_after_all (closing runs code) o ≡ Some code
closing_ended [] code o = refl
closing_ended (r ∷ runs) code o = refl
