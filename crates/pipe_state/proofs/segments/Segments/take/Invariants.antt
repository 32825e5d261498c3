use Rattle.pipe_state.specs.Segments.{with_next}
use Rattle.pipe_state.proofs.segments.Segments.take.Given as goal

-- the writer has one more
abbrev pub ghosts-note_next : goal.ghosts-note_next
ghosts-note_next a = record { to = with_next a.filling.now a.hint }
