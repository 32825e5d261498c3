-- The search finds the first such byte.
use Rattle.memchr.specs.Find.{is_byte}
use Rattle.span_seq.proofs.ScanLemmas.{found}
use Rattle.span_seq.proofs.search.ByteSearch.index_in.Goals as goal

pub returns : goal.returns
returns c = found (is_byte c.args.self.now.0) c.args.bytes.now c.memchr.result c.memchr.ensures
