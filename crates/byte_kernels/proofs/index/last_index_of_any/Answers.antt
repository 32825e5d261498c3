-- Each form of a set is a test.
use Rattle.std.proofs.Common.{eqb, ap, sym, ◌∙◌}
use Rattle.byte_kernels.specs.ByteSet.{in_form}
use Rattle.byte_kernels.specs.Scan.{last_position}
use Rattle.byte_kernels.proofs.PlaceLemmas.{last_is_position}
use Rattle.byte_kernels.proofs.index.last_index_of_any.Goals as goal

pub returns-in-One : goal.returns-in-One
returns-in-One c = last_is_position (λ byte. eqb byte c.in-One.just.0) c.args.hay.now c.memrchr.result c.memrchr.ensures ∙ ap (λ form. last_position (in_form form) c.args.hay.now) (sym c.in-One.is)

pub returns-in-Two : goal.returns-in-Two
returns-in-Two c = c.last_with.ensures ∙ ap (λ form. last_position (in_form form) c.args.hay.now) (sym c.in-Two.is)

pub returns-in-Four : goal.returns-in-Four
returns-in-Four c = c.last_with-in-Four.ensures ∙ ap (λ form. last_position (in_form form) c.args.hay.now) (sym c.in-Four.is)

pub returns-in-Many : goal.returns-in-Many
returns-in-Many c = c.last_with-in-Many.ensures ∙ ap (λ form. last_position (in_form form) c.args.hay.now) (sym c.in-Many.is)
