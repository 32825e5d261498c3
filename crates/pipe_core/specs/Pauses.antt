-- When back-pressure holds the writer.
use Rattle.std.specs.Prelude.{ℕ, ◌≡◌, ◌<◌, ◌≤◌, Bool, false, not, ◌&&◌, ◌||◌, nat_lt, nat_le, List, [], ◌∷◌, ◌++◌, is_none, IsNone}
use Rattle.pipe_core.specs.History.{Run, Call, Commit, reader_end}
use Rattle.pipe_core.specs.Progress.{unexamined}
use Rattle.pipe_core.specs.Reads.{is_starved}

-- A commit leaves unexamined bytes up to the threshold or past it.
abbrev pub Begins : ℕ → List Run → List Call → Type 0
Begins pause runs before = pause ≤ unexamined (Commit runs ∷ before)

-- There are unexamined bytes enough for a pause to go on, and the reader is not starved.
abbrev pub Lasts : ℕ → List Call → Type 0
Lasts resume h = (resume ≤ unexamined h) × (is_starved h ≡ false)

-- A commit began a pause, which has lasted ever since: at that commit, and after each call that followed it.
pub record Paused (pause resume : ℕ) (h : List Call) : Type 0 where
  pub before : List Call
  pub runs : List Run
  pub since : List Call
  pub parts : h ≡ since ++ Commit runs ∷ before
  pub begun : Begins pause runs before
  pub lasting : (later sooner : List Call) → since ≡ later ++ sooner → Lasts resume (sooner ++ Commit runs ∷ before)

pub record IsPaused (pause resume : ℕ) (h : List Call) : Type 0 where
  pub on : 0 < pause
  pub attended : IsNone (reader_end h)
  pub held : Paused pause resume h

-- The same as a test, call by call from the latest.
abbrev pub begins_pause : ℕ → Call → List Call → Bool
begins_pause pause (Commit runs) h = nat_le pause (unexamined (Commit runs ∷ h))
begins_pause pause call h = false

abbrev pub lasts : ℕ → List Call → Bool
lasts resume h = nat_le resume (unexamined h) && not (is_starved h)

abbrev pub pause_stands : ℕ → ℕ → List Call → Bool
pause_stands pause resume [] = false
pause_stands pause resume (call ∷ h) = lasts resume (call ∷ h) && (begins_pause pause call h || pause_stands pause resume h)

abbrev pub is_paused : ℕ → ℕ → List Call → Bool
is_paused pause resume h = nat_lt 0 pause && is_none (reader_end h) && pause_stands pause resume h
