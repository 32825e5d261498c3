-- Nothing is left over behind it.
use Rattle.std.proofs.Common.{drop, length}
use Rattle.std.proofs.lemmas.List.{take_at}
use Rattle.pipe_core.proofs.laws.whole_loan_is_written.Goals as goal

pub returns : goal.returns
returns c bytes written size = take_at written (drop (length written) bytes) (length bytes) size
