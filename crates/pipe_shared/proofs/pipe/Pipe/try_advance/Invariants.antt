use Rattle.std.proofs.Common.{[], ◌∷◌}
use Rattle.pipe_core.specs.History.{Advance}
use Rattle.pipe_shared.proofs.pipe.Pipe.try_advance.Given as goal

-- the one entry
abbrev pub ghosts-advance : goal.ghosts-advance
ghosts-advance a = record { entries = Advance a.c a.e ∷ [] }
