-- What a turn finds in which another segment is asked for.
use Rattle.std.proofs.Common.{◌≡◌, ◌≢◌, ◌≤◌, ℕ, false, [], length, max, sym, subst, ◌∙◌}
use Rattle.std.specs.Prelude.{Result, Ok, Err, IfOk, IfErr, OnOk, OnErr}
use Rattle.turn_cell.specs.Seat.{HeldState, Takes, after_put}
use Rattle.pipe_state.specs.declared.options.Options.{Options}
use Rattle.pipe_state.specs.declared.full.Full.{Full}
use Rattle.pipe_state.specs.Full.{IsFull}
use Rattle.pipe_state.specs.Held.{PipeHeld}
use Rattle.pipe_state.specs.Writing.{WritingState}
use Rattle.pipe_turns.specs.declared.state.SharedPipe.{SharedPipe}
use Rattle.pipe_turns.specs.State.{Keeps}
use Rattle.pipe_turns.specs.Turns.{Seat}
use Rattle.pipe_turns.specs.Room.{Answers, FindsRoom}
use Rattle.pipe_turns.proofs.TurnLemmas.{nothing_put, won}

pub finds_room : (options : Options) (hint : ℕ) (answer : Result ℕ Full) (old taken new : Seat) (held : HeldState SharedPipe) (s : SharedPipe) (p : PipeHeld) (w w' : WritingState)
    → Takes Keeps old held taken → old.holds ≡ false → s ≡ held.state → new ≡ after_put [] taken → w.size ≡ options.segment
    → IfOk answer (λ n. (n ≡ length w'.free) × (n ≡ w.size) × (hint ≤ n)) → OnOk answer (s.pipe.segments.home ≢ [])
    → OnOk answer ((w' ≡ record w { free = w'.free; has = w'.has }) × (w'.has.hint ≡ max w.has.hint hint))
    → IfErr answer (λ told. IsFull (max w.has.hint hint) told s.pipe w) → OnErr answer ((p ≡ s.pipe) × (w' ≡ w)) → FindsRoom options hint answer old w new w'
finds_room options hint answer old taken new held s p w w' takes idle was after size granted home writing full unchanged =
    let keeps : Keeps s taken.seen = subst (λ (x : SharedPipe). Keeps x taken.seen) (sym was) takes.stand in
    subst (λ (x : Seat). FindsRoom options hint answer old w x w') (sym (after ∙ nothing_put taken)) (record {
      wins = won old taken held idle takes;
      found = s.pipe;
      stands = keeps.stands.runs;
      answers = each answer granted home writing full unchanged;
    })
  where
    each : (answer : Result ℕ Full) → IfOk answer (λ n. (n ≡ length w'.free) × (n ≡ w.size) × (hint ≤ n)) → OnOk answer (s.pipe.segments.home ≢ [])
        → OnOk answer ((w' ≡ record w { free = w'.free; has = w'.has }) × (w'.has.hint ≡ max w.has.hint hint))
        → IfErr answer (λ told. IsFull (max w.has.hint hint) told s.pipe w) → OnErr answer ((p ≡ s.pipe) × (w' ≡ w)) → Answers options hint s.pipe answer w w'
    each (Ok n) granted home writing full unchanged = (home, granted.1 ∙ size, sym granted.0, writing.0, writing.1)
    each (Err told) granted home writing full unchanged = (full, unchanged.1)
