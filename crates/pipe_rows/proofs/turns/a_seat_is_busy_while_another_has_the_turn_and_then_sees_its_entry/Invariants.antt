use Rattle.std.proofs.Common.{[], ◌∷◌, take}
use Rattle.pipe_rows.proofs.turns.a_seat_is_busy_while_another_has_the_turn_and_then_sees_its_entry.Given as goal

-- so many entries as the call adds
abbrev pub ghosts-put : goal.ghosts-put
ghosts-put g a = record { entries = take a.added (0 ∷ []) }
