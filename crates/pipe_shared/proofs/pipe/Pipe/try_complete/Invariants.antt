use Rattle.std.proofs.Common.{reverse}
use Rattle.pipe_core.specs.History.{closing}
use Rattle.pipe_shared.proofs.pipe.Pipe.try_complete.Given as goal

-- the commit of the draft, where there is one, and the completion
abbrev pub ghosts-complete : goal.ghosts-complete
ghosts-complete a = record { entries = reverse (closing a.part.draft a.code) }
