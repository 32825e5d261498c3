-- What a seat that has won a turn has heard of the others.
use Rattle.std.proofs.Common.{◌≡◌, ℕ, List, [], ◌++◌, ap, ◌∙◌}
use Rattle.std.proofs.lemmas.List.Elements.{recursion_from_All}
use Rattle.pipe_core.specs.History.{Call}
use Rattle.pipe_core.specs.Answers.{Answer, answer_at_once}
use Rattle.pipe_turns.specs.declared.faults.TryFault.{TryFault}
use Rattle.pipe_turns.specs.declared.faults.TryFault.TheVariants as try
use Rattle.pipe_state.specs.declared.options.Options.{Options}
use Rattle.pipe_turns.specs.Log.{calls_of}
use Rattle.pipe_turns.specs.Turns.{Makes, Refuses, Seat, Wins}
use Rattle.pipe_turns.specs.Ends.{IsEnd}
use Rattle.pipe_turns.specs.Heard.{CallsBehind, Hears}
use Rattle.pipe_turns.proofs.SeenLemmas.{Others, others, others_alone}
use Rattle.pipe_turns.proofs.StateLemmas.{calls_made}

heard : (number : ℕ) (before after : List Call) → Others number before after → Hears number before after
heard number before after o = record { heard = o.more; others = recursion_from_All _ o.more o.apart; seen = o.is }

pub won : (number : ℕ) (old new : Seat) → IsEnd number old → Wins old new → Hears number (calls_of old.seen) (calls_of new.seen)
won number old new end wins = heard number (calls_of old.seen) (calls_of new.seen) (others number old new end wins)

-- what an end that has made no entry has seen is others' calls
pub heard_all : (number : ℕ) (seat : Seat) → IsEnd number seat → seat.own ≡ [] → Hears number [] (calls_of seat.seen)
heard_all number seat end none = heard number [] (calls_of seat.seen) (others_alone number seat end none)

pub made : (number : ℕ) (options : Options) (calls : List Call) (answer : Answer) (old new : Seat) → IsEnd number old → Makes options old calls answer new → CallsBehind options number (calls_of old.seen) calls answer (calls_of new.seen)
made number options calls answer old new end m =
    let h = won number old m.found end m.wins in
    record {
      heard = h.heard;
      others = h.others;
      told = m.told ∙ ap (λ (l : List Call). answer_at_once options.pause options.resume calls l) h.seen;
      seen = calls_made calls m.found new m.after ∙ ap (λ (l : List Call). calls ++ l) h.seen;
      legal = m.lawful.legal;
    }

pub refused : (number : ℕ) (fault : TryFault) (old new : Seat) → IsEnd number old → Refuses fault old new → Hears number (calls_of old.seen) (calls_of new.seen)
refused number (try.Busy word) old new end finds = record { heard = []; others = tt; seen = ap (λ (s : Seat). calls_of s.seen) finds.after }
refused number (try.Worn entries) old new end worn = won number old new end worn.wins
