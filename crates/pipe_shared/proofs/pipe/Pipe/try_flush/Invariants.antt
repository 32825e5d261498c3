use Rattle.std.proofs.Common.{[], ◌∷◌}
use Rattle.pipe_core.specs.History.{Commit}
use Rattle.pipe_shared.proofs.pipe.Pipe.try_flush.Given as goal

-- the one entry
abbrev pub ghosts-commit : goal.ghosts-commit
ghosts-commit a = record { entries = Commit a.part.now.draft ∷ [] }
