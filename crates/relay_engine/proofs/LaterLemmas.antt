-- What an end of a pipe comes to by calls: how histories go on, one behind the other, and how often it has turned to its pipe.
use Rattle.std.specs.List.{AllByRecursion}
use Rattle.std.specs.Prelude.{option_map}
use Rattle.std.proofs.Common.{◌≡◌, ℕ, List, [], ◌∷◌, ◌++◌, Option, Some, None, IsNone, refl, sym, ap, ◌∙◌, append_assoc, length, reverse, arith}
use Rattle.std.proofs.lemmas.List.{length-append}
use Rattle.pipe_core.specs.History.{Call}
use Rattle.pipe_core.specs.Answers.{Answer}
use Rattle.pipe_state.specs.declared.options.Options.{Options}
use Rattle.pipe_turns.specs.Turns.{Makes, Seat, Wins}
use Rattle.relay_engine.specs.Later.{Later}
use Rattle.relay_engine.specs.Tally.{Spends, tally_of}

pub none_is : (o : Option ℕ) → IsNone o → o ≡ None
none_is None none = refl
none_is (Some at) none = absurd cc

pub none_of : {A : Type 0} (o : Option A) → ((x : A) → o ≡ Some x → ⊥) → o ≡ None
none_of None never = refl
none_of (Some x) never = absurd (never x refl)

pub none_mapped : {A B : Type 0} (f : A → B) (o : Option A) → option_map f o ≡ None → o ≡ None
none_mapped f None is = refl
none_mapped f (Some it) is = absurd cc

pub all_as : (some others : Call → Type 0) → ((call : Call) → some call → others call) → (calls : List Call) → AllByRecursion some calls → AllByRecursion others calls
all_as some others are [] all = tt
all_as some others are (call ∷ calls) all = (are call all.0, all_as some others are calls all.1)

all_append : (others : Call → Type 0) (xs ys : List Call) → AllByRecursion others xs → AllByRecursion others ys → AllByRecursion others (xs ++ ys)
all_append others [] ys first second = second
all_append others (x ∷ xs) ys first second = (first.0, all_append others xs ys first.1 second)

pub later_here : (others : Call → Type 0) (h : List Call) → Later others h h
later_here others h = record { between = []; all = tt; is = refl }

pub later_as : (some others : Call → Type 0) → ((call : Call) → some call → others call) → (h k : List Call) → Later some h k → Later others h k
later_as some others are h k later = record { between = later.between; all = all_as some others are later.between later.all; is = later.is }

pub later_on : (others : Call → Type 0) (h k m : List Call) → Later others h k → Later others k m → Later others h m
later_on others h k m first second = record {
  between = second.between ++ first.between;
  all = all_append others second.between first.between second.all first.all;
  is = second.is ∙ ap (λ (x : List Call). second.between ++ x) first.is ∙ sym (append_assoc second.between first.between h);
}

pub later_with : (others : Call → Type 0) (h k : List Call) (call : Call) → others call → Later others h k → Later others h (call ∷ k)
later_with others h k call is later = record { between = call ∷ later.between; all = (is, later.all); is = ap (λ (x : List Call). call ∷ x) later.is }

-- the one exchange won the turn
pub wins_spends : (old new : Seat) → Wins old new → Spends 1 (tally_of old) (tally_of new)
wins_spends old new wins = omega (arith, ap (λ (s : Seat). s.exchanges) wins.after, ap (λ (s : Seat). length s.own) wins.after)

-- and one entry was made
pub makes_spends : (options : Options) (old new : Seat) (calls : List Call) (call : Call) (answer : Answer) → calls ≡ call ∷ [] → Makes options old calls answer new → Spends 0 (tally_of old) (tally_of new)
makes_spends options old new calls call answer one makes =
    omega (arith, wins_spends old makes.found makes.wins, ap (λ (s : Seat). s.exchanges) makes.after, ap (λ (s : Seat). length s.own) makes.after, length-append makes.found.own (reverse calls), ap (λ (l : List Call). length (reverse l)) one)
