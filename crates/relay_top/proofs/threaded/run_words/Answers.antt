-- The words are read as what was run, or as the word that was told.
use Rattle.relay_words.specs.Words.{texts}
use Rattle.relay_top.proofs.threaded.run_words.Goals as goal

pub returns-in-Ok-Local : goal.returns-in-Ok-Local
returns-in-Ok-Local g c = rw (c.in-Ok-Local.ensures.command, c.in-Ok-Local.field-0-is) (c.run_local.ensures (texts c.args.words.now) _)

pub returns-in-Err : goal.returns-in-Err
returns-in-Err g c = rw c.in-Err.ensures.usage (c.tell_usage.ensures _ _ _)
