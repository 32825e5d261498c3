-- What a seat that has the turn finds, and what it leaves.
use Rattle.std.proofs.Common.{◌≡◌, ◌+◌, ◌*◌, ◌<◌, ◌^◌, ℕ, false, List, [], ◌++◌, append-nil, length, reverse, sym, ap, subst, ◌∙◌, arith}
use Rattle.std.specs.Prelude.{IsNone}
use Rattle.std.specs.List.{AllByRecursion}
use Rattle.turn_cell.specs.History.{made_by}
use Rattle.turn_cell.specs.Seat.{CellState, HeldState, Takes, after_find, after_put}
use Rattle.pipe_core.specs.History.{Call, seat_of}
use Rattle.pipe_core.specs.Answers.{Answer, answer_at_once}
use Rattle.pipe_turns.specs.Name.{Name}
use Rattle.pipe_state.specs.declared.options.Options.{Options}
use Rattle.pipe_turns.specs.declared.state.SharedPipe.{SharedPipe}
use Rattle.pipe_turns.specs.Log.{calls_of, IsLawful}
use Rattle.pipe_turns.specs.State.{Keeps, StateHolds, StateAnswers}
use Rattle.pipe_turns.specs.Turns.{FindsTooMuch, Seat, Wins, Makes}
use Rattle.pipe_turns.specs.Holding.{HasTurn}
use Rattle.pipe_turns.proofs.StateLemmas.{more_by, calls_behind}

-- a seat as it will be without the turn
abbrev pub off : Seat → Seat
off s = record s { holds = false }

pub won : (old new : Seat) (held : HeldState SharedPipe) → old.holds ≡ false → Takes Keeps old held new → Wins old (off new)
won old new held idle takes = record {
  after = ap off takes.after ∙ ap (λ b. record (after_find (2 * length new.seen) old) { seen = new.seen; holds = b }) (sym idle);
  begins = takes.agrees.begins;
  own = takes.agrees.own;
  lawful = record { seats = takes.stand.seats; legal = takes.stand.stands.runs.marks.legal };
}

-- the state that a seat has changed by calls of its own stands for the history with them
pub stands_with : (cell : CellState Name) (old taken : Seat) (held : HeldState SharedPipe) (s t : SharedPipe) (seat : ℕ) (calls : List Call) (answer : Answer) (es : List Call)
    → HasTurn cell old held taken → old.number ≡ seat → AllByRecursion (λ call. seat_of call ≡ seat) calls → s ≡ held.state → StateAnswers s calls answer t → es ≡ reverse calls → Keeps t (taken.seen ++ made_by taken.number es)
stands_with cell old taken held s t seat calls answer es turn mine all was step only =
    let number : taken.number ≡ seat = ap (λ (x : Seat). x.number) turn.takes.after ∙ mine in
    let keeps : Keeps s taken.seen = subst (λ (x : SharedPipe). Keeps x taken.seen) (sym was) turn.takes.stand in
    let kept : Keeps t (taken.seen ++ made_by seat (reverse calls)) = record {
      seats = more_by seat taken.seen calls all keeps.seats;
      stands = subst (StateHolds t) (sym (calls_behind taken.seen seat calls)) (step.stands (calls_of taken.seen) keeps.stands);
    } in
    subst (λ (p : ℕ × List Call). Keeps t (taken.seen ++ made_by p.0 p.1)) (λ i. (sym number i, sym only i)) kept

-- and the seat has made these calls
pub makes : (cell : CellState Name) (old taken new : Seat) (held : HeldState SharedPipe) (s t : SharedPipe) (seat : ℕ) (calls : List Call) (answer : Answer) (es : List Call)
    → HasTurn cell old held taken → old.holds ≡ false → old.number ≡ seat → AllByRecursion (λ call. seat_of call ≡ seat) calls → s ≡ held.state → StateAnswers s calls answer t → es ≡ reverse calls → new ≡ after_put es taken
    → Makes cell.name.options old calls answer new
makes cell old taken new held s t seat calls answer es turn idle mine all was step only after =
    let keeps : Keeps s taken.seen = subst (λ (x : SharedPipe). Keeps x taken.seen) (sym was) turn.takes.stand in
    let stands = stands_with cell old taken held s t seat calls answer es turn mine all was step only in
    let seen : new.seen ≡ taken.seen ++ made_by taken.number es = ap (λ (x : Seat). x.seen) after in
    let options : s.options ≡ cell.name.options = ap (λ (x : SharedPipe). x.options) was ∙ ap (λ (n : Name). n.options) turn.named in
    record {
      found = off taken;
      wins = won old taken held idle turn.takes;
      unworn = omega (arith, turn.takes.entries, turn.unworn);
      told = step.told (calls_of taken.seen) keeps.stands ∙ ap (λ (o : Options). answer_at_once o.pause o.resume calls (calls_of taken.seen)) options;
      after = after ∙ ap (λ (l : List Call). after_put l (off taken)) only;
      lawful = subst IsLawful (sym seen) (record { seats = stands.seats; legal = stands.stands.runs.marks.legal });
    }

-- a turn that is given back without a call
pub nothing_put : (taken : Seat) → after_put [] taken ≡ off taken
nothing_put taken = λ i. record taken { seen = append-nil taken.seen i; own = append-nil taken.own i; holds = false }

-- the turn was won, and the total would be too much
pub too_much : (cell : CellState Name) (old taken new : Seat) (held : HeldState SharedPipe) (s : SharedPipe) (size told : ℕ) → HasTurn cell old held taken → old.holds ≡ false → s ≡ held.state → new ≡ after_put [] taken
    → IsNone s.pipe.control.gone → 2 ^ 62 < s.pipe.control.committed + size → told ≡ s.pipe.control.committed → FindsTooMuch size told old new
too_much cell old taken new held s size told turn idle was after none past is =
    let keeps : Keeps s taken.seen = subst (λ (x : SharedPipe). Keeps x taken.seen) (sym was) turn.takes.stand in
    let marks = keeps.stands.runs.marks in
    subst (FindsTooMuch size told old) (sym (after ∙ nothing_put taken)) (record {
      wins = won old taken held idle turn.takes;
      unworn = omega (arith, turn.takes.entries, turn.unworn);
      attended = subst IsNone marks.gone none;
      told = is ∙ marks.committed;
      passes = omega (arith, past, is);
    })
