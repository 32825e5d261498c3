use Rattle.std.proofs.Common.{◌≡◌, length, refl, arith}
use Rattle.std.proofs.lemmas.Grind.{common_steps}
use Rattle.edge_core.proofs.SourceLemmas.{drop-split_by_read}
use Rattle.edge_core.proofs.whole_source.WholeSourceSource.read.Goals as goal

pub returns-clause-given : goal.returns-clause-given
returns-clause-given c =
    let read = c.copy_from_slice.ensures in
    let value = rw c.deref.ensures.value at read.after in
    let size : length c.copy_from_slice.new.self ≡ c.min-count.result = grind (arith, common_steps) in
    record {
      given = rw (← c.self.view_is) (drop-split_by_read _ _ c.copy_from_slice.new.self c.self.inside.given c.min-count.result value size);
      unfailed = refl;
    }
