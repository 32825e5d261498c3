-- What a contract sees of a device: its bytes, where it tells them, its count of faults, and of a sink by which name it was opened.
use Rattle.std.specs.Prelude.{ℕ, ◌≡◌, ◌<◌, ◌-◌, ◌^◌, ◌⊎◌, List, length, Option}
use mathlib.Core.List.{IsPrefix}
use Rattle.std.specs.Io.KnownBytes.{Appends, Consumes, Keeps}

-- The bytes that a source will still give, or None where it doesn't tell, and how many of its calls have failed.
pub record SourceState : Type 0 where
  pub left : Option (List ℕ)
  pub faults : ℕ

-- The bytes that a sink was given, or None where it doesn't tell, how many of its calls have failed, and the name by which doors
-- opened it, or None where it was opened by none or the doors don't tell. No call of a sink changes its name.
pub record SinkState : Type 0 where
  pub written : Option (List ℕ)
  pub faults : ℕ
  pub name : Option (List ℕ)

-- A count of faults has risen. A count that stands at its greatest value may have counted more.
abbrev pub HasRisen : ℕ → ℕ → Type 0
HasRisen before after = (before < after) ⊎ ((before ≡ 2 ^ 64 - 1) × (after ≡ 2 ^ 64 - 1))

-- No call was counted as failed, and the count could have told.
abbrev pub HasNotRisen : ℕ → ℕ → Type 0
HasNotRisen before after = (after ≡ before) × (after < 2 ^ 64 - 1)

-- Calls of a source that didn't fail took these bytes from the front of what was left.
pub record Gives (before : SourceState) (bytes : List ℕ) (after : SourceState) : Type 0 where
  pub given : Consumes before.left after.left bytes
  pub unfailed : after.faults ≡ before.faults

-- A call of a source failed, and nothing was taken from it.
pub record Fails (before after : SourceState) : Type 0 where
  pub kept : Keeps before.left after.left
  pub risen : HasRisen before.faults after.faults

-- Calls of a sink that didn't fail put these bytes at the end of what was written.
pub record Takes (before : SinkState) (bytes : List ℕ) (after : SinkState) : Type 0 where
  pub taken : Appends before.written after.written bytes
  pub unfailed : after.faults ≡ before.faults
  pub same : after.name ≡ before.name

-- A call of a sink failed, and nothing was written by it.
pub record SinkFails (before after : SinkState) : Type 0 where
  pub kept : Keeps before.written after.written
  pub risen : HasRisen before.faults after.faults
  pub same : after.name ≡ before.name

-- Calls of a sink put the first `count` of these bytes at the end of what was written, and then one of them failed.
pub record TakesFront (before : SinkState) (bytes : List ℕ) (count : ℕ) (after : SinkState) : Type 0 where
  pub front : List ℕ
  pub is_front : IsPrefix front bytes
  pub counted : count ≡ length front
  pub taken : Appends before.written after.written front
  pub risen : HasRisen before.faults after.faults
  pub same : after.name ≡ before.name
