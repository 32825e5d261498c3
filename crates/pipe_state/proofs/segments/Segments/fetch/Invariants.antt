use Rattle.pipe_state.specs.Sides.{reader_has}
use Rattle.pipe_state.proofs.segments.Segments.fetch.Given as goal

-- what the chain is now
abbrev pub ghosts-note_chain : goal.ghosts-note_chain
ghosts-note_chain a = record { to = λ before. reader_has a.chain.now }
