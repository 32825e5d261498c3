-- What holds of a batch and of a server follows from their words.
use Rattle.std.proofs.Common.{sym}
use Rattle.relay_words.specs.Words.{texts}
use Rattle.relay_words.proofs.BatchLemmas.{has_names, has_names_from, has_workers}
use Rattle.relay_words.proofs.ServeReading.{has_addresses, has_connections}
use Rattle.relay_words.proofs.words.read_words.Goals as goal

pub returns-in-Ok-clause-workers : goal.returns-in-Ok-clause-workers
returns-in-Ok-clause-workers c = has_workers (texts c.args.words.now) c.in-Ok.command (sym c.in-Ok.ensures.value)

pub returns-in-Ok-clause-names_from : goal.returns-in-Ok-clause-names_from
returns-in-Ok-clause-names_from c = has_names_from c.args.words.now c.in-Ok.command (sym c.in-Ok.ensures.value)

pub returns-in-Ok-clause-names : goal.returns-in-Ok-clause-names
returns-in-Ok-clause-names c = has_names (texts c.args.words.now) c.in-Ok.command (sym c.in-Ok.ensures.value)

pub returns-in-Ok-clause-addresses : goal.returns-in-Ok-clause-addresses
returns-in-Ok-clause-addresses c = has_addresses c.args.words.now c.in-Ok.command (sym c.in-Ok.ensures.value)

pub returns-in-Ok-clause-connections : goal.returns-in-Ok-clause-connections
returns-in-Ok-clause-connections c = has_connections (texts c.args.words.now) c.in-Ok.command (sym c.in-Ok.ensures.value)
