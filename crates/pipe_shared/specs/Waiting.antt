-- Calls that are tried again until they have an answer.
use Rattle.std.specs.Prelude.{◌≡◌, Bool, true, false}

-- Attempts, one behind the other, took an end from one state to another, and each met an answer by which its caller tries again. There may be none.
pub data Tried {S A : Type 0} (attempt : S → A → S → Type 0) (waits : A → Bool) (old : S) : S → Type 0 where
  untried : Tried attempt waits old old
  tried : (before new : S) (met : A) → Tried attempt waits old before → attempt before met new → waits met ≡ true → Tried attempt waits old new

-- One or more attempts, one behind the other, took an end from one state to another: each but the last met an answer by which its caller tries again, and the last one met this answer, by which it doesn't.
pub record AtLast {S A : Type 0} (attempt : S → A → S → Type 0) (waits : A → Bool) (old : S) (answer : A) (new : S) : Type 0 where
  pub before : S
  pub tried : Tried attempt waits old before
  pub last : attempt before answer new
  pub settled : waits answer ≡ false
