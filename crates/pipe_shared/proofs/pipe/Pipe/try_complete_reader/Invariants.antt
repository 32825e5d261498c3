use Rattle.std.proofs.Common.{[], ◌∷◌}
use Rattle.pipe_core.specs.History.{EndReader}
use Rattle.pipe_shared.proofs.pipe.Pipe.try_complete_reader.Given as goal

-- the one entry
abbrev pub ghosts-end_reader : goal.ghosts-end_reader
ghosts-end_reader a = record { entries = EndReader a.code ∷ [] }
