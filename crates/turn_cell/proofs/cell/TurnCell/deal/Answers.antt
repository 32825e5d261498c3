use Rattle.std.proofs.Common.{rules, sym, ap, ◌∙◌, ◌≡◌, ℕ, ◌+◌, [], length, arith, Some}
use Rattle.std.proofs.lemmas.List.{length_push}
use Rattle.turn_cell.specs.Rule.{fresh_view, view_settled, view_following, shown}
use Rattle.turn_cell.proofs.MeetingLemmas.{splits}
use Rattle.turn_cell.proofs.SeatLemmas.{one_more}
use Rattle.turn_cell.proofs.cell.TurnCell.deal.Goals as goal

pub split_seat-next-requires : goal.split_seat-next-requires
split_seat-next-requires g c =
    let i = c.loop-number.invariant in
    let cell = c.self.view_is in
    let more : c.loop-number.last.me.0.next ≡ length c.loop-number.all.items + 1 = ap (λ m. m.0.next) i.1 in
    let most : c.loop-number.last.me.0.seats ≡ c.args.seats = ap (λ m. m.0.seats) i.1 in (
      i.0 ∙ sym (ap (λ s. s.table) cell),
      search rules,
      splits g.S.Stands.stands g.S.Stands.name _ _ _ _ (ap (λ m. m.0.name) i.1 ∙ ap Some (sym (ap (λ s. s.name) cell))) (omega (arith, more, most, i.2, c.loop-number-test.true)),
    )

pub loop-number-preserved : goal.loop-number-preserved
loop-number-preserved g c =
    let i = c.loop-number.invariant in
    let s = c.split_seat-next.ensures in
    let name = Some c.args.self.now.name in
    let items = c.push_reserved.ensures.items in
    let count : length c.push_reserved.new.self.items ≡ length c.loop-number.all.items + 1 = ap length items ∙ length_push _ _ in (
      s.3 ∙ i.0,
      s.4 ∙ (ap (λ m. (view_following m.0, [])) i.1 ∙ ap (λ (k : ℕ). (fresh_view name c.args.seats k (k + 1) [], [])) (sym count)),
      omega (arith, count, i.2),
      rw c.push_reserved.ensures.capacity i.3,
      one_more c.args.self.now _ _ _ i.4 items (λ k. shown ((s.0 ∙ i.0) k) ((ap (λ m. m.0) s.2 ∙ ap (λ m. view_settled m.0) i.1) k)),
    )

pub returns-clause-seats : goal.returns-clause-seats
returns-clause-seats g c =
    let i = c.loop-number.invariant in
    one_more c.args.self.now _ _ _ i.4 c.push_reserved-2.ensures.items (λ k. shown (i.0 k) (ap (λ m. m.0) i.1 k))
