-- The keys so far are those of the words that were read.
use Rattle.std.proofs.Common.{◌≡◌, ◌+◌, [], ◌∷◌, ◌++◌, List, ℕ, length}
use Rattle.relay_words.specs.Keys.{keys_among}
use Rattle.relay_words.specs.Words.{misplaced, texts}
use Rattle.relay_words.proofs.keys.keys_in.Given as goal

abbrev pub invariant-loop-word : goal.invariant-loop-word
invariant-loop-word l = record {
  done : List (List ℕ);
  parts : texts l.keys ≡ done ++ texts l.rest;
  given : l.given ≡ keys_among done;
  count : l.count ≡ 3 + length done + length l.rest;
  place : (input output : List ℕ) → misplaced (input ∷ output ∷ []) (texts l.keys) ≡ misplaced (input ∷ output ∷ done) (texts l.rest);
}

abbrev pub decreases-loop-word : goal.decreases-loop-word
decreases-loop-word l = length l.rest
