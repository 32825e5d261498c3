-- What a device in memory is to do: how much each of its calls moves, and which of them fail.
use Rattle.std.specs.Prelude.{ℕ, ◌+◌, ◌-◌, ◌^◌, ◌<◌, min, max, List, [], ◌∷◌, drop, Contains}

-- The cuts of the transfers to come, the numbers of the calls that fail, and how many calls were made and how many failed.
pub record PlanState : Type 0 where
  pub cuts : List ℕ
  pub fails : List ℕ
  pub calls : ℕ
  pub faults : ℕ

-- The plan before the first call.
abbrev pub plan_of : List ℕ → List ℕ → PlanState
plan_of cuts fails = record { cuts = cuts; fails = fails; calls = 0; faults = 0 }

-- A count after one more. It stops at its greatest value.
abbrev pub raised : ℕ → ℕ
raised count = min (count + 1) (2 ^ 64 - 1)

-- The next call is one of those that fail. Calls are counted from 1, and past the greatest count none fails.
abbrev pub FailsNext : PlanState → Type 0
FailsNext plan = (plan.calls < 2 ^ 64 - 1) × Contains plan.fails (plan.calls + 1)

-- How many of `most` bytes the next transfer moves: no more than the first cut, where 0 counts as 1.
abbrev pub cut_to : List ℕ → ℕ → ℕ
cut_to [] most = most
cut_to (cut ∷ cuts) most = min most (max cut 1)

-- The plan after a call that moved nothing.
abbrev pub after_call : PlanState → PlanState
after_call plan = record plan { calls = raised plan.calls }

-- The plan after a call that failed.
abbrev pub after_fault : PlanState → PlanState
after_fault plan = record plan { calls = raised plan.calls; faults = raised plan.faults }

-- The plan after a transfer: its cut is used up.
abbrev pub after_transfer : PlanState → PlanState
after_transfer plan = record plan { calls = raised plan.calls; cuts = drop 1 plan.cuts }
