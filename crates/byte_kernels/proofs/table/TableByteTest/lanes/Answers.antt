-- Each byte has its row, and in it its bit.
use Rattle.std.proofs.Common.{get_or, ◌/◌, ◌%◌}
use Rattle.byte_kernels.specs.ByteSet.{row_of}
use Rattle.byte_kernels.proofs.TableLemmas.{lanes_of_rows}
use Rattle.byte_kernels.proofs.table.TableByteTest.lanes.Goals as goal

pub returns : goal.returns
returns c = lanes_of_rows (λ byte. get_or c.args.self.now.rows (row_of byte) 0) (λ byte. byte / 16 % 8) c.args.bytes c.rows_of.result c.columns_of-columns.result c.fits-bytes.0 c.rows_of.ensures c.columns_of-columns.ensures
