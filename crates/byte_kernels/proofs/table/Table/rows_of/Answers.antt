-- The highest bit tells which half of the rows has the byte's row.
use Rattle.byte_kernels.proofs.TableLemmas.{loaded_rows, rows_are}
use Rattle.byte_kernels.proofs.table.Table.rows_of.Goals as goal

pub returns : goal.returns
returns c =
    rows_are c.args.self.now.rows _ _ (loaded_rows c.args.self.now.rows 0) (loaded_rows c.args.self.now.rows 16) c.args.bytes c.low_halves-at.result c.looked_up-front.result c.looked_up-back.result c.fits-bytes.0 c.fits-bytes.1 c.low_halves-at.ensures.value c.looked_up-front.ensures c.looked_up-back.ensures
