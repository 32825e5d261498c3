use Rattle.pipe_shared.proofs.EndLemmas.{lent_is_lend, no_lend_yet}
use Rattle.pipe_shared.proofs.laws.reader_is_lent_what_it_has_seen.Goals as goal

pub returns-clause-lent : goal.returns-clause-lent
returns-clause-lent c = rw (← c.reader.view_is) (lent_is_lend c.reader.inside.seat c.reader.inside.part c.reader.inside.lending c.reader.invariant)

pub returns-clause-none : goal.returns-clause-none
returns-clause-none c = rw (← c.reader.view_is) (no_lend_yet c.reader.inside.seat c.reader.inside.part c.reader.inside.lending c.reader.invariant)
