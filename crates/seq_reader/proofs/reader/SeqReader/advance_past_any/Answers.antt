-- It stops at the first byte that isn't in the set, or at the end.
use Rattle.std.proofs.Common.{◌≡◌, not, sym, ap, ◌∙◌, length}
use Rattle.std.specs.List.{position}
use Rattle.byte_kernels.specs.ByteSet.{contains}
use Rattle.seq_reader.specs.Reading.{rest_of}
use Rattle.seq_reader.proofs.ReaderLemmas.{counted_to, counted_all}
use Rattle.seq_reader.proofs.reader.SeqReader.advance_past_any.Goals as goal
use Rattle.seq_reader.proofs.reader.SeqReader.advance_past_any.Goals.{in-Some, in-None}

pub returns-clause-count : goal.returns-clause-count
returns-clause-count g c =
    let test = contains c.args.set.now in
    let rest = rest_of c.args.self.now in
    let found : c.index_of.result ≡ position (λ b. not (test b)) rest = c.index_of.ensures ∙ ap (position (λ b. not (test b))) c.unread-rest.ensures.bytes in
    elim c.match-index_of.branch [
      | in-Some w ↦ w.count-is ∙ counted_to test rest w.in-Some.index (sym w.in-Some.is ∙ found)
      | in-None w ↦ w.count-is ∙ w.len-count.ensures.len ∙ ap length c.unread-rest.ensures.bytes ∙ counted_all test rest (sym w.in-None.is ∙ found)
    ]
