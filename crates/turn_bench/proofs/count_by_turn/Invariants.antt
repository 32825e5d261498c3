use Rattle.std.proofs.Common.{[], ◌∷◌, take}
use Rattle.turn_bench.proofs.count_by_turn.Given as goal

-- so many entries as the call adds
abbrev pub ghosts-put : goal.ghosts-put
ghosts-put a = record { entries = take a.added (0 ∷ []) }
