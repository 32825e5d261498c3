-- The words so far can be names, each behind those before it.
use Rattle.std.proofs.Common.{◌≡◌, ◌+◌, [], ◌++◌, List, ℕ, length}
use Rattle.relay_words.specs.Names.{misnamed}
use Rattle.relay_words.specs.Words.{texts}
use Rattle.relay_words.proofs.names.misnamed.Given as goal

abbrev pub invariant-loop-word : goal.invariant-loop-word
invariant-loop-word l = record {
  done : List (List ℕ);
  parts : texts l.words ≡ done ++ texts l.rest;
  count : length l.words ≡ length done + length l.rest;
  place : misnamed [] (texts l.words) ≡ misnamed done (texts l.rest);
}

abbrev pub decreases-loop-word : goal.decreases-loop-word
decreases-loop-word l = length l.rest
