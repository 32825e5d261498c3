use Rattle.std.proofs.Common.{[], ◌∷◌, take}
use Rattle.pipe_rows.proofs.turns.count_one.Given as goal

-- so many entries as the call adds
abbrev pub ghosts-put : goal.ghosts-put
ghosts-put a = record { entries = take a.added (0 ∷ []) }
