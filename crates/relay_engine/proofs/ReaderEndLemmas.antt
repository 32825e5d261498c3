-- What the ends of a pipe for two threads come to see by their calls.
use Rattle.std.proofs.Common.{◌≡◌, ◌≢◌, ℕ, List, [], ◌∷◌, ◌++◌, refl, sym, ap, ◌∙◌, subst}
use Rattle.pipe_core.specs.declared.reply.ReadReply.{ReadReply}
use Rattle.pipe_core.specs.declared.reply.Wake.{Wake}
use Rattle.pipe_core.specs.History.{Call, Read, Advance, seat_of}
use Rattle.pipe_core.specs.Reads.{reply_to_read}
use Rattle.pipe_core.specs.Wakes.{wake_of}
use Rattle.pipe_core.specs.Legal.{IsLegal}
use Rattle.pipe_core.specs.Answers.{Answer, Gave, Woke, answer_to}
use Rattle.pipe_state.specs.declared.options.Options.{Options}
use Rattle.pipe_turns.specs.declared.faults.TryFault.{TryFault}
use Rattle.pipe_turns.specs.declared.faults.TryFault.TheVariants as try
use Rattle.pipe_turns.specs.Log.{calls_of}
use Rattle.pipe_turns.specs.Turns.{Refuses, Seat}
use Rattle.pipe_turns.specs.Heard.{CallsBehind, Hears}
use Rattle.pipe_shared.specs.Ends.{Reader}
use Rattle.relay_engine.specs.Later.{CallsLater, HearsLater}
use Rattle.relay_engine.specs.ReaderEnds.{HasRead}

-- a reader's call, and what its answer says
called : (options : Options) (call : Call) (answer : Answer) (holds : List Call → Type 0) (old new : Reader) (h : List Call) → CallsBehind options 1 (calls_of old.seat.seen) (call ∷ []) answer (calls_of new.seat.seen) → HasRead old h
    → ((found : List Call) → answer ≡ answer_to options.pause options.resume call found → holds found) → CallsLater HasRead (λ c. seat_of c ≢ 1) h call holds new
called options call answer holds old new h behind at says =
    let found = behind.heard ++ calls_of old.seat.seen in
    let legal = subst IsLegal behind.seen behind.legal in
    record {
      found = found;
      later = record { between = behind.heard; all = behind.others; is = ap (λ (x : List Call). behind.heard ++ x) (sym at.0) };
      so = says found behind.told;
      legal = legal;
      stands = (sym behind.seen, legal);
    }

same_reply : (reply reply' : ReadReply) (wake wake' : Wake) → Gave reply wake ≡ Gave reply' wake' → reply ≡ reply'
same_reply reply reply' wake wake' e = cc

pub has_read : (options : Options) (reply : ReadReply) (wake : Wake) (old new : Reader) (h : List Call) → CallsBehind options 1 (calls_of old.seat.seen) (Read 0 ∷ []) (Gave reply wake) (calls_of new.seat.seen) → HasRead old h
    → CallsLater HasRead (λ c. seat_of c ≢ 1) h (Read 0) (λ found. reply ≡ reply_to_read 0 found) new
has_read options reply wake old new h behind at =
    called options (Read 0) (Gave reply wake) (λ found. reply ≡ reply_to_read 0 found) old new h behind at (λ found told. same_reply reply (reply_to_read 0 found) wake (wake_of options.pause options.resume (Read 0) found) told)

pub has_advanced : (options : Options) (c e : ℕ) (wake : Wake) (old new : Reader) (h : List Call) → CallsBehind options 1 (calls_of old.seat.seen) (Advance c e ∷ []) (Woke wake) (calls_of new.seat.seen) → HasRead old h
    → CallsLater HasRead (λ c. seat_of c ≢ 1) h (Advance c e) (λ found. Unit {0}) new
has_advanced options c e wake old new h behind at = called options (Advance c e) (Woke wake) (λ found. Unit {0}) old new h behind at (λ found told. tt)

pub legal_behind : (fault : TryFault) (old new : Seat) → Refuses fault old new → IsLegal (calls_of old.seen) → IsLegal (calls_of new.seen)
legal_behind (try.Busy word) old new finds legal = subst (λ (s : Seat). IsLegal (calls_of s.seen)) (sym finds.after) legal
legal_behind (try.Worn entries) old new finds legal = finds.wins.lawful.legal

pub has_heard : (fault : TryFault) (old new : Reader) (h : List Call) → Hears 1 (calls_of old.seat.seen) (calls_of new.seat.seen) → Refuses fault old.seat new.seat → HasRead old h → HearsLater HasRead (λ c. seat_of c ≢ 1) h new
has_heard fault old new h hears refused at =
    let legal = legal_behind fault old.seat new.seat refused (subst IsLegal at.0 at.1) in record {
      found = calls_of new.seat.seen;
      later = record { between = hears.heard; all = hears.others; is = hears.seen ∙ ap (λ (x : List Call). hears.heard ++ x) (sym at.0) };
      legal = legal;
      stands = (refl, legal);
    }
