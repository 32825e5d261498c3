-- What was given stands before what is left.
use Rattle.std.proofs.Common.{◌≡◌, ◌++◌, ◌-◌, List, ℕ, length, drop}
use Rattle.gen_core.proofs.source.GenSourceSource.read.Given as goal

abbrev pub invariant-loop-done : goal.invariant-loop-done
invariant-loop-done l = record {
  given : List ℕ;
  parts : l.fn.self ≡ given ++ l.self;
  counted : l.done ≡ length given;
  copied : l.buf ≡ given ++ drop (length given) l.fn.buf;
}

abbrev pub decreases-loop-done : goal.decreases-loop-done
decreases-loop-done l = length l.fn.buf - l.done
