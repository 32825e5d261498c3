use Rattle.pipe_state.specs.Released.{names_of}
use Rattle.pipe_state.proofs.segments.Segments.make.Given as goal

-- which blocks these are
abbrev pub ghosts-note_blocks : goal.ghosts-note_blocks
ghosts-note_blocks a = record { to = λ before. names_of a.blocks.now }
