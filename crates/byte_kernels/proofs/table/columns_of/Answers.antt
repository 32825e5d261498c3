-- The high half tells the column.
use Rattle.byte_kernels.proofs.TableLemmas.{columns_are}
use Rattle.byte_kernels.proofs.table.columns_of.Goals as goal

pub returns : goal.returns
returns c = columns_are c.args.bytes c.high_halves.result c.looked_up.result c.fits-bytes.1 c.high_halves.ensures.value c.looked_up.ensures
