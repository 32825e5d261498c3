use Rattle.std.proofs.Common.{◌≡◌, ◌≤◌, ℕ, [], subst}
use Rattle.turn_cell.specs.History.{entries_of}
use Rattle.turn_cell.proofs.NumberLemmas.{three_have_met, three_agree}
use Rattle.turn_cell.proofs.cell.TurnCell.close_three.Goals as goal

pub close-requires-clause-all : goal.close-requires-clause-all
close-requires-clause-all g c = three_have_met c.args.self c.args.first c.args.second c.args.third c.meet-all.result c.requires.count c.requires.first.1 c.requires.second.1 c.requires.third.1 c.meet-all.ensures.met

pub returns-clause-closed : goal.returns-clause-closed
returns-clause-closed g c =
    let k = c.close.ensures.closed in
    let agree = three_agree c.args.first c.args.second c.args.third c.meet-all.result k.history c.meet-all.ensures.met k.agrees in
    record {
      history = k.history;
      stand = k.stand;
      first_agrees = agree.0;
      second_agrees = agree.1;
      third_agrees = agree.2;
      no_others = subst (λ (n : ℕ). (other : ℕ) → n ≤ other → entries_of other k.history ≡ []) c.requires.count k.no_others;
    }
