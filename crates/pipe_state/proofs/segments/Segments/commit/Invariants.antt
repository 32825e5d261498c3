use Rattle.pipe_state.specs.Segments.{with_one}
use Rattle.pipe_state.proofs.segments.Segments.commit.Given as goal

-- the writer has this one alone
abbrev pub ghosts-note_one : goal.ghosts-note_one
ghosts-note_one a = record { to = with_one a.filling.now }
