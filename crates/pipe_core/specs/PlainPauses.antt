-- Pauses where each read is for any number of bytes: a commit begins one where it takes the unexamined bytes from below the threshold
-- to it or past it, and who reads ends none.
use Rattle.std.specs.Prelude.{ℕ, ◌≡◌, Bool, false, ◌&&◌, ◌||◌, nat_lt, nat_le, List, [], ◌∷◌, is_none}
use Rattle.std.specs.List.{AllByRecursion}
use Rattle.pipe_core.specs.History.{Call, Commit, Read, reader_end}
use Rattle.pipe_core.specs.Progress.{unexamined}

-- for how many bytes at least a call asks
abbrev pub asked : Call → ℕ
asked (Read n) = n
asked call = 0

-- Each read is for any number of bytes.
abbrev pub IsPlain : List Call → Type 0
IsPlain h = AllByRecursion (λ call. asked call ≡ 0) h

abbrev pub begins_pause : ℕ → Call → List Call → Bool
begins_pause pause (Commit runs) h = nat_lt (unexamined h) pause && nat_le pause (unexamined (Commit runs ∷ h))
begins_pause pause call h = false

abbrev pub lasts : ℕ → List Call → Bool
lasts resume h = nat_le resume (unexamined h)

abbrev pub pause_stands : ℕ → ℕ → List Call → Bool
pause_stands pause resume [] = false
pause_stands pause resume (call ∷ h) = lasts resume (call ∷ h) && (begins_pause pause call h || pause_stands pause resume h)

abbrev pub is_paused : ℕ → ℕ → List Call → Bool
is_paused pause resume h = nat_lt 0 pause && is_none (reader_end h) && pause_stands pause resume h
