-- A set of one byte has no other.
use Rattle.std.proofs.Common.{◌∙◌}
use Rattle.byte_kernels.specs.ByteSet.{contains}
use Rattle.seq_reader.specs.Reading.{rest_of}
use Rattle.seq_reader.proofs.ReaderLemmas.{counted_one}
use Rattle.seq_reader.proofs.reader.SeqReader.advance_past.Goals as goal

pub returns-clause-count : goal.returns-clause-count
returns-clause-count g c = c.advance_past_any.ensures.count ∙ counted_one (contains c.of.result) c.args.byte (rest_of c.args.self.now) c.of.ensures
