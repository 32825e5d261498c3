-- What the state that a seat holds allows, by what the seat knew before it took the turn.
use Rattle.std.proofs.Common.{◌≡◌, ◌≤◌, ℕ, List, length, refl, sym, ap, subst, ◌∙◌, Option, Some, None}
use Rattle.std.specs.Prelude.{IsNone, IsSomeAnd, option_map, Result, Ok, Err, IfErr, IsErrAnd}
use Rattle.turn_cell.specs.Seat.{HeldState, Takes}
use Rattle.pipe_core.specs.History.{reader_end}
use Rattle.pipe_core.specs.Lends.{lend}
use Rattle.pipe_core.specs.Standing.{MayAdvance}
use Rattle.pipe_turns.specs.declared.state.SharedPipe.{SharedPipe}
use Rattle.pipe_turns.specs.declared.faults.TryFault.{TryFault}
use Rattle.pipe_turns.specs.declared.faults.TryFault.TheVariants.{Busy, Worn}
use Rattle.pipe_turns.specs.declared.faults.FlushFault.{FlushFault}
use Rattle.pipe_turns.specs.Log.{calls_of}
use Rattle.pipe_turns.specs.Faults.{flush_fault}
use Rattle.pipe_turns.specs.State.{Keeps}
use Rattle.pipe_turns.specs.Turns.{Seat, Refuses, RefusesFlush}
use Rattle.pipe_turns.specs.Ends.{IsEnd}
use Rattle.pipe_turns.specs.Holding.{GoesOn, Attends}
use Rattle.pipe_turns.proofs.SeenLemmas.{Others, others, same_writer_end, same_reader_end, same_lend}
use Rattle.pipe_turns.proofs.TurnLemmas.{off, won}

module _ (old taken : Seat) (held : HeldState SharedPipe) (s : SharedPipe) (takes : Takes Keeps old held taken) (was : s ≡ held.state) where
  pub keeps : Keeps s taken.seen
  keeps = subst (λ (x : SharedPipe). Keeps x taken.seen) (sym was) takes.stand

  seen_by : (k : ℕ) → IsEnd k old → Others k (calls_of old.seen) (calls_of taken.seen)
  seen_by k end = others k old (off taken) end (won old taken held end.idle takes)

  pub attended : Attends old → IsNone s.pipe.control.gone
  attended a =
      let gone : s.pipe.control.gone ≡ None = keeps.stands.runs.marks.gone ∙ same_reader_end (calls_of old.seen) (calls_of taken.seen) (seen_by 1 a.end) ∙ a.attended in
      subst IsNone (sym gone) refl

  pub not_gone : Attends old → IsNone (reader_end (calls_of taken.seen))
  not_gone a = subst IsNone (sym (same_reader_end (calls_of old.seen) (calls_of taken.seen) (seen_by 1 a.end) ∙ a.attended)) refl

  lent_is : Attends old → s.pipe.control.lent ≡ option_map length (lend (calls_of old.seen))
  lent_is a = keeps.stands.runs.marks.lent ∙ ap (option_map length) (same_lend (calls_of old.seen) (calls_of taken.seen) (seen_by 1 a.end))

  pub no_lend : Attends old → lend (calls_of old.seen) ≡ None → IsNone s.pipe.control.lent
  no_lend a none = subst IsNone (sym (lent_is a ∙ ap (option_map length) none)) refl

  pub may_advance : (c e : ℕ) → Attends old → IsSomeAnd (lend (calls_of old.seen)) (λ bytes. (c ≤ e) × (e ≤ length bytes)) → MayAdvance s.pipe.control.lent c e
  may_advance c e a may = subst (λ (o : Option ℕ). MayAdvance o c e) (sym (lent_is a)) (each (lend (calls_of old.seen)) may)
    where
      each : (o : Option (List ℕ)) → IsSomeAnd o (λ bytes. (c ≤ e) × (e ≤ length bytes)) → MayAdvance (option_map length o) c e
      each (Some bytes) m = m
      each None m = m

  pub going : GoesOn old → IsNone s.pipe.control.ended
  going g =
      let ended : s.pipe.control.ended ≡ None = keeps.stands.runs.marks.ended ∙ same_writer_end (calls_of old.seen) (calls_of taken.seen) (seen_by 0 g.end) ∙ g.going in
      subst IsNone (sym ended) refl

-- the same refusal, of a flush
pub refuses_flush : {T : Type 0} (size : ℕ) (fault : TryFault) (old new : Seat) (r : Result T FlushFault) → IsErrAnd r (λ given. given ≡ flush_fault fault) → Refuses fault old new
    → IfErr r (λ given. RefusesFlush size given old new)
refuses_flush size fault old new (Ok x) given refuses = tt
refuses_flush size fault old new (Err e) given refuses = subst (λ (f : FlushFault). RefusesFlush size f old new) (sym given) (same fault refuses)
  where
    same : (f : TryFault) → Refuses f old new → RefusesFlush size (flush_fault f) old new
    same (Busy word) r = r
    same (Worn entries) r = r
