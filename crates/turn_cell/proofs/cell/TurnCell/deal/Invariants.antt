use Rattle.std.proofs.Common.{◌≡◌, ◌≤◌, ◌+◌, [], length, Some}
use Rattle.std.specs.Vec.{vec_capacity}
use Rattle.turn_cell.specs.Rule.{fresh_view}
use Rattle.turn_cell.specs.Seat.{AreNewSeats}
use Rattle.turn_cell.proofs.cell.TurnCell.deal.Given as goal

abbrev pub invariant-loop-number : goal.invariant-loop-number
invariant-loop-number g l =
    (l.last.table_id ≡ l.fn.self.table)
    × (l.last.me ≡ (fresh_view (Some l.fn.self.name) l.fn.seats (length l.all.items) (length l.all.items + 1) [], []))
    × (length l.all.items + 1 ≡ l.number)
    × (l.fn.seats ≤ vec_capacity l.all)
    × AreNewSeats l.fn.self l.all.items
