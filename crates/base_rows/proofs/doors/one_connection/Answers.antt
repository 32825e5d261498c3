use Rattle.std.proofs.Common.{refl}
use Rattle.base_rows.proofs.doors.one_connection.Goals as goal

pub make-requires-clause-names_differ : goal.make-requires-clause-names_differ
make-requires-clause-names_differ c = rw c.new.ensures.items refl
