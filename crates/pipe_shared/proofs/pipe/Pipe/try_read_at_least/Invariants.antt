use Rattle.std.proofs.Common.{[], ◌∷◌}
use Rattle.pipe_core.specs.History.{Read}
use Rattle.pipe_shared.proofs.pipe.Pipe.try_read_at_least.Given as goal

-- the one entry
abbrev pub ghosts-read : goal.ghosts-read
ghosts-read a = record { entries = Read a.n ∷ [] }
