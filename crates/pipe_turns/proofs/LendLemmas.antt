-- What a read lends, run by run.
use Rattle.std.proofs.Common.{◌≡◌, ℕ, List, [], ◌∷◌, refl, ap, ◌∙◌, inl, inr, Option, Some, None}
use Rattle.std.specs.Prelude.{option_map, IsNone}
use Rattle.std.proofs.lemmas.Bool.{cases_Bool}
use Rattle.pipe_core.specs.History.{Call, Read, bytes_of, last_of, reader_end}
use Rattle.pipe_core.specs.Lends.{bytes_lent_by, lend}
use Rattle.pipe_core.specs.Reads.{read_is_ready, reply_to_read}
use Rattle.pipe_core.specs.Answers.{Gave}
use Rattle.pipe_core.specs.declared.reply.ReadReply.{ReadReply}
use Rattle.pipe_core.specs.declared.reply.Wake.{Wake}
use Rattle.pipe_core.proofs.RunLemmas.{runs_held}
use Rattle.pipe_state.specs.Held.{HeldAnswers, HoldsRuns, PipeHeld}
use Rattle.pipe_state.specs.Sides.{ReaderHas}
use Rattle.pipe_turns.specs.Lends.{is_lending, lend_runs, runs_in, runs_lent_by}

-- the runs of a call's lend have its bytes
call_runs : (last : Option (Call × List Call)) → option_map bytes_of (runs_lent_by last) ≡ bytes_lent_by last
call_runs None = refl
call_runs (Some (Call.Commit runs, h)) = refl
call_runs (Some (Call.EndWriter code, h)) = refl
call_runs (Some (Call.Read n, h)) = elim (cases_Bool (read_is_ready n h)) [
  | inl yes' ↦ rw yes' (ap Some (runs_held h))
  | inr no' ↦ rw no' refl
]
call_runs (Some (Call.Advance c e, h)) = refl
call_runs (Some (Call.EndReader code, h)) = refl
call_runs (Some (Call.CancelRead, h)) = refl
call_runs (Some (Call.CancelFlush, h)) = refl

pub runs_are_the_lend : (h : List Call) → option_map bytes_of (lend_runs h) ≡ lend h
runs_are_the_lend h = call_runs (last_of 1 h)

-- a read lends where it is ready
lends_ready : (n : ℕ) (h : List Call) → is_lending (reply_to_read n h) ≡ read_is_ready n h
lends_ready n h = elim (cases_Bool (read_is_ready n h)) [
  | inl yes' ↦ rw yes' refl
  | inr no' ↦ rw no' refl
]

-- what a read lends lies in the chain, which has all that was committed
pub read_lends : (n : ℕ) (h : List Call) (has : ReaderHas) (p q : PipeHeld) (reply : ReadReply) (wake : Wake) → HoldsRuns p h → IsNone (reader_end h) → HeldAnswers p (Read n ∷ []) (Gave reply wake) q
    → has ≡ q.segments.reader → q.segments.reader.segments ≡ q.segments.live → lend_runs (Read n ∷ h) ≡ runs_in (is_lending reply) has
read_lends n h has p q reply wake holds attended a is fetched =
    let told : reply ≡ reply_to_read n h = (let e = a.told h holds in cc (e)) in
    let lies = (a.stands h holds).lies attended in
    let ready : is_lending reply ≡ read_is_ready n h = ap is_lending told ∙ lends_ready n h in
    elim (cases_Bool (read_is_ready n h)) [
      | inl yes' ↦ rw (is, ready, fetched, yes') (ap Some lies.lent)
      | inr no' ↦ rw (ready, no') refl
    ]
