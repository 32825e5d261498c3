-- The words are read as what was run, or as the word that was told.
use Rattle.relay_words.specs.Words.{texts}
use Rattle.relay_top.proofs.local.run_words.Goals as goal

pub returns-in-Ok : goal.returns-in-Ok
returns-in-Ok g c = λ doors. rw c.in-Ok.ensures.command (c.run_local.ensures (texts c.args.words.now) doors)

pub returns-in-Err : goal.returns-in-Err
returns-in-Err g c = λ doors. rw c.in-Err.ensures.usage (c.tell_usage.ensures _ doors _)
