-- The rest is what stands behind the bytes that were passed.
use Rattle.std.proofs.Common.{arith}
use Rattle.span_seq.specs.Sequence.{part}
use Rattle.seq_reader.proofs.ReaderLemmas.{rest_of_view}
use Rattle.seq_reader.proofs.reader.SeqReader.unread.Goals as goal

pub returns-clause-bytes : goal.returns-clause-bytes
returns-clause-bytes g c = rest_of_view (part c.self.inside.rest) c.self.inside.place c.args.self.now c.self.invariant (omega arith) c.self.view_is
