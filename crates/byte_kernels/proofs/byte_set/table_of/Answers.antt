-- All bytes were passed.
use Rattle.std.proofs.Common.{eqb, ap, sym, ◌∙◌}
use Rattle.std.specs.List.{list_any}
use Rattle.std.proofs.lemmas.List.{take_all}
use Rattle.byte_kernels.proofs.BitLemmas.{any_is_contained, empty-has_none}
use Rattle.byte_kernels.proofs.byte_set.table_of.Goals as goal

pub returns : goal.returns
returns c = λ byte.
    let bytes = c.args.bytes.now in
    let both = any_is_contained byte bytes in
    let all = take_all c.loop-byte.byte-index bytes c.loop-byte-test.false in
    let is = c.loop-byte.invariant byte ∙ ap (list_any (λ member. eqb byte member)) all in
    (λ in_set. both.0 (sym is ∙ in_set), λ in_list. is ∙ both.1 in_list)

pub loop-byte-init : goal.loop-byte-init
loop-byte-init c = λ byte. empty-has_none 32 byte
