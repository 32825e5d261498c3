-- The state stands for the history with the read, the seat has made it, and the chain has what it lends.
use Rattle.std.proofs.Common.{List, refl, ap, ◌∙◌}
use Rattle.std.specs.Prelude.{[], ◌∷◌}
use Rattle.turn_cell.specs.Seat.{after_put}
use Rattle.pipe_core.specs.History.{Call, Read}
use Rattle.pipe_turns.specs.Log.{calls_of}
use Rattle.pipe_turns.specs.Lends.{lend_runs}
use Rattle.pipe_turns.specs.Turns.{Seat}
use Rattle.pipe_turns.proofs.StateLemmas.{answers, calls_with}
use Rattle.pipe_turns.proofs.TurnLemmas.{stands_with, makes}
use Rattle.pipe_turns.proofs.HoldLemmas.{attended, no_lend, keeps, not_gone}
use Rattle.pipe_turns.proofs.LendLemmas.{read_lends}
use Rattle.pipe_turns.proofs.turns.read.Goals as goal

pub read_at_least-answer-requires-clause-attended : goal.read_at_least-answer-requires-clause-attended
read_at_least-answer-requires-clause-attended g c =
    attended c.args.seat.now c.take.new.seat c.in_ok-held.held _ c.in_ok-held.ensures.taken.takes c.state_mut.ensures.state c.requires.attends

pub read_at_least-answer-requires-clause-no_lend : goal.read_at_least-answer-requires-clause-no_lend
read_at_least-answer-requires-clause-no_lend g c =
    no_lend c.args.seat.now c.take.new.seat c.in_ok-held.held _ c.in_ok-held.ensures.taken.takes c.state_mut.ensures.state c.requires.attends c.requires.no_lend

pub put-requires-clause-stands : goal.put-requires-clause-stands
put-requires-clause-stands g c =
    stands_with c.args.cell.now c.args.seat.now c.take.new.seat c.in_ok-held.held _ _ 1 _ _ _ c.in_ok-held.ensures.taken c.requires.attends.end.numbered (refl, tt) c.state_mut.ensures.state
    (answers _ c.read_at_least-answer.new.self _ _ c.read_at_least-answer.ensures.answers) c.requires.entry

pub returns-clause-made : goal.returns-clause-made
returns-clause-made g c =
    makes c.args.cell.now c.args.seat.now c.take.new.seat _ c.in_ok-held.held _ _ 1 _ _ _ c.in_ok-held.ensures.taken c.requires.attends.end.idle c.requires.attends.end.numbered (refl, tt) c.state_mut.ensures.state
    (answers _ c.read_at_least-answer.new.self _ _ c.read_at_least-answer.ensures.answers) c.requires.entry c.put.ensures.put

pub returns-clause-lent : goal.returns-clause-lent
returns-clause-lent g c =
    let k = keeps c.args.seat.now c.take.new.seat c.in_ok-held.held _ c.in_ok-held.ensures.taken.takes c.state_mut.ensures.state in
    let none = not_gone c.args.seat.now c.take.new.seat c.in_ok-held.held _ c.in_ok-held.ensures.taken.takes c.state_mut.ensures.state c.requires.attends in
    let read = c.read_at_least-answer in
    let after = c.put.ensures.put ∙ ap (λ (es : List Call). after_put es c.take.new.seat) c.requires.entry in
    ap (λ (x : Seat). lend_runs (calls_of x.seen)) after ∙ ap lend_runs (calls_with c.take.new.seat.seen c.take.new.seat.number (Read c.args.n ∷ []))
    ∙ read_lends c.args.n (calls_of c.take.new.seat.seen) _ _ read.new.self read.result.0 read.result.1 k.stands.runs none read.ensures.answers read.ensures.chain read.ensures.fetched
