-- What the calls of the writing ends say to a filler.
use Rattle.std.proofs.Common.{◌≡◌, ◌<◌, ◌≤◌, ◌+◌, ◌^◌, ℕ, Bool, true, false, cond, List, [], ◌∷◌, ◌++◌, length, refl, sym, ap, ◌∙◌, subst, arith, inl, inr}
use Rattle.std.specs.Prelude.{is_none}
use Rattle.std.proofs.lemmas.List.{length-append}
use Rattle.pipe_core.specs.declared.reply.FlushReply.{FlushReply}
use Rattle.pipe_core.specs.declared.reply.Wake.{Wake}
use Rattle.pipe_core.specs.History.{Run, Call, Commit, EndWriter, Read, Advance, EndReader, CancelRead, CancelFlush, bytes_of, reader_end}
use Rattle.pipe_core.specs.Answers.{Answer, Flushed, Gave, Woke}
use Rattle.pipe_core.specs.Flushes.{reply_to_commit}
use Rattle.pipe_core.specs.Legal.{IsLegal}
use Rattle.pipe_core.specs.Progress.{total}
use Rattle.pipe_core.proofs.OrderLemmas.{total_commit}
use Rattle.pipe_state.specs.declared.options.Options.{Options}
use Rattle.pipe_turns.specs.Log.{calls_of}
use Rattle.pipe_turns.specs.Heard.{CallsBehind, Hears}
use Rattle.pipe_turns.specs.Turns.{Wins, FindsTooMuch}
use Rattle.pipe_shared.specs.Ends.{Writer}
use Rattle.pipe_shared.specs.Granting.{Grants}
use Rattle.pipe_shared.specs.Local.{Local}
use Rattle.relay_engine.specs.LocalEnds.{HoldsLocal}
use Rattle.relay_engine.specs.Filler.{written}
use Rattle.relay_engine.specs.Later.{CallsLater, HearsLater}
use Rattle.relay_engine.specs.Filling.{IsGranted}
use Rattle.relay_engine.specs.WriterEnds.{HasWritten, IsOthers, drafting}
use Rattle.relay_engine.proofs.FillingLemmas.{written_later}
use Rattle.relay_engine.proofs.LaterLemmas.{wins_spends}

-- ---- what the end has heard

pub heard : (w w' : Writer) → Hears 0 (calls_of w.seat.seen) (calls_of w'.seat.seen) → IsLegal (calls_of w'.seat.seen) → (h : List Call) → HasWritten w h → HearsLater HasWritten IsOthers h w'
heard w w' hears legal h at = record {
  found = calls_of w'.seat.seen;
  later = record { between = hears.heard; all = hears.others; is = hears.seen ∙ ap (λ (x : List Call). hears.heard ++ x) (sym at.0) };
  legal = legal;
  stands = (refl, legal);
}

pub granted : (options : Options) (n : ℕ) (w w' : Writer) → (Wins w.seat w'.seat → Hears 0 (calls_of w.seat.seen) (calls_of w'.seat.seen)) → Grants options 1 n w w' → (h : List Call) → HasWritten w h → HearsLater HasWritten IsOthers h w'
granted options n w w' law g h at = elim g.how [
  | inl same ↦ record {
    found = h;
    later = record { between = []; all = tt; is = refl };
    legal = at.1;
    stands = (at.0 ∙ sym (ap (λ (x : Writer). calls_of x.seat.seen) same.1), at.1);
  }
  | inr anew ↦ heard w w' (law anew.wins) anew.wins.lawful.legal h at
]

pub room_granted : (options : Options) (n : ℕ) (w w' : Writer) → Grants options 1 n w w' → IsGranted (drafting w) (drafting w')
room_granted options n w w' g = elim g.how [
  | inl same ↦ inl (omega (arith, ap (λ (x : Writer). x.seat.exchanges) same.1, ap (λ (x : Writer). length x.seat.own) same.1))
  | inr anew ↦ inr (omega (arith, anew.short), wins_spends w.seat w'.seat anew.wins)
]

-- ---- what it has called

abbrev reply_of : FlushReply → Answer → FlushReply
reply_of none (Flushed reply wake) = reply
reply_of none (Gave reply wake) = none
reply_of none (Woke wake) = none

pub called : (options : Options) (runs : List Run) (reply answer : FlushReply) (wake : Wake) (w w' : Writer) → CallsBehind options 0 (calls_of w.seat.seen) (Commit runs ∷ []) (Flushed answer wake) (calls_of w'.seat.seen) → reply ≡ answer → (h : List Call) → HasWritten w h
    → CallsLater HasWritten IsOthers h (Commit runs) (λ found. reply ≡ reply_to_commit options.pause options.resume found runs) w'
called options runs reply answer wake w w' b same h at =
    let legal : IsLegal (Commit runs ∷ (b.heard ++ calls_of w.seat.seen)) = subst IsLegal b.seen b.legal in
    record {
      found = b.heard ++ calls_of w.seat.seen;
      later = record { between = b.heard; all = b.others; is = ap (λ (x : List Call). b.heard ++ x) (sym at.0) };
      so = same ∙ ap (reply_of answer) b.told;
      legal = legal;
      stands = (sym b.seen, legal);
    }

-- ---- what is committed fits

added : (b : Bool) (xs bytes : List ℕ) → length (xs ++ cond b bytes []) ≤ length xs + length bytes
added true xs bytes = omega (arith, length-append xs bytes)
added false xs bytes = omega (arith, length-append xs [])

pub total_short : (h : List Call) → length (total h) ≤ length (written h)
total_short [] = omega arith
total_short (Commit runs ∷ h) =
    omega (arith, ap length (total_commit runs h), added (is_none (reader_end h)) (total h) (bytes_of runs), total_short h, length-append (written h) (bytes_of runs))
total_short (EndWriter code ∷ h) = total_short h
total_short (Read n ∷ h) = total_short h
total_short (Advance c e ∷ h) = total_short h
total_short (EndReader code ∷ h) = total_short h
total_short (CancelRead ∷ h) = total_short h
total_short (CancelFlush ∷ h) = total_short h

pub never_too_much : (size told : ℕ) (w w' : Writer) → Hears 0 (calls_of w.seat.seen) (calls_of w'.seat.seen) → FindsTooMuch size told w.seat w'.seat → (h : List Call) × HasWritten w h × (length (written h) + size ≤ 2 ^ 62) → ⊥
never_too_much size told w w' hears finds total =
    let same : written (calls_of w'.seat.seen) ≡ written total.0 =
    written_later IsOthers (λ call is. is) total.0 (calls_of w'.seat.seen)
    (record { between = hears.heard; all = hears.others; is = hears.seen ∙ ap (λ (x : List Call). hears.heard ++ x) (sym total.1.0) }) in
    omega (arith, total.2, finds.told, finds.passes, total_short (calls_of w'.seat.seen), ap length same)

pub local_fits : (p : Local) (size : ℕ) → (h : List Call) × HoldsLocal p h × (length (written h) + size ≤ 2 ^ 62) → 2 ^ 62 < p.pipe.control.committed + size → ⊥
local_fits p size total passes = omega (arith, total.2, passes, total.1.runs.marks.committed, total_short total.0)
