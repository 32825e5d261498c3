use Rattle.pipe_state.specs.Segments.{without_first}
use Rattle.pipe_state.proofs.segments.Segments.finish.Given as goal

-- the writer has one fewer
abbrev pub ghosts-update_halves : goal.ghosts-update_halves
ghosts-update_halves a = record { to = without_first }
