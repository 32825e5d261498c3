-- The chain has what is lent.
use Rattle.std.proofs.Common.{Bool, ap, sym, subst, ◌∙◌}
use Rattle.std.specs.Prelude.{option_map}
use Rattle.pipe_core.specs.History.{bytes_of}
use Rattle.pipe_state.specs.Sides.{reader_has}
use Rattle.pipe_state.specs.declared.reading.Reading.{Reading}
use Rattle.pipe_turns.specs.Log.{calls_of}
use Rattle.pipe_turns.specs.Lends.{runs_in}
use Rattle.pipe_turns.proofs.LendLemmas.{runs_are_the_lend}
use Rattle.pipe_shared.specs.Ends.{IsReader}
use Rattle.pipe_shared.proofs.EndLemmas.{reader_refused}
use Rattle.pipe_shared.proofs.WaitingLemmas.{read_lends}
use Rattle.pipe_shared.proofs.pipe.Pipe.try_read_at_least.Goals as goal

pub invariant_of-r : goal.invariant_of-r
invariant_of-r c =
    let h = c.in_err-answer in
    subst (λ (part : Reading). IsReader c.read.new.seat part c.r.inside.lending) (sym h.ensures.unchanged) (reader_refused h.field-0.0 c.r.inside.seat c.read.new.seat c.r.inside.part c.r.inside.lending c.r.invariant h.ensures.refused)

pub returns-clause-lent : goal.returns-clause-lent
returns-clause-lent c =
    let h = c.in_ok-answer.ensures in
    ap (λ (b : Bool). option_map bytes_of (runs_in b (reader_has c.read.new.part.chain))) c.lends-r-inside.ensures ∙ ap (option_map bytes_of) (sym h.lent) ∙ runs_are_the_lend (calls_of c.read.new.seat.seen)

pub returns-clause-lends : goal.returns-clause-lends
returns-clause-lends c = read_lends _ c.args.n c.r.inside.seat c.read.new.seat c.in_ok-answer.answer.0 c.in_ok-answer.answer.1 c.in_ok-answer.ensures.made _ (returns-clause-lent c)
