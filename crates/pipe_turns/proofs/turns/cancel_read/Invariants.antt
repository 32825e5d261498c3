use Rattle.std.proofs.Common.{[], ◌∷◌, take}
use Rattle.pipe_core.specs.History.{CancelRead}
use Rattle.pipe_turns.proofs.turns.cancel_read.Given as goal

-- so many entries as the call adds
abbrev pub ghosts-put : goal.ghosts-put
ghosts-put a = record { entries = take a.added (CancelRead ∷ []) }
