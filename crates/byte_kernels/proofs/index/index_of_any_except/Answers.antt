-- Each form of a set is a test.
use Rattle.std.proofs.Common.{not, ap, sym, ◌∙◌}
use Rattle.std.specs.List.{position}
use Rattle.byte_kernels.specs.ByteSet.{in_form}
use Rattle.byte_kernels.proofs.index.index_of_any_except.Goals as goal

pub returns-in-One : goal.returns-in-One
returns-in-One c = c.first_without.ensures ∙ ap (λ form. position (λ byte. not (in_form form byte)) c.args.hay.now) (sym c.in-One.is)

pub returns-in-Two : goal.returns-in-Two
returns-in-Two c = c.first_without-in-Two.ensures ∙ ap (λ form. position (λ byte. not (in_form form byte)) c.args.hay.now) (sym c.in-Two.is)

pub returns-in-Four : goal.returns-in-Four
returns-in-Four c = c.first_without-in-Four.ensures ∙ ap (λ form. position (λ byte. not (in_form form byte)) c.args.hay.now) (sym c.in-Four.is)

pub returns-in-Many : goal.returns-in-Many
returns-in-Many c = c.first_without-in-Many.ensures ∙ ap (λ form. position (λ byte. not (in_form form byte)) c.args.hay.now) (sym c.in-Many.is)
