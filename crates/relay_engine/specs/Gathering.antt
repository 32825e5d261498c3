-- What is gathered for a sink, and how it comes to it.
use Rattle.std.specs.Prelude.{ℕ, ◌≡◌, ◌+◌, ◌-◌, ◌^◌, ◌<◌, List, [], ◌++◌, length, min}
use Rattle.std.specs.Io.KnownBytes.{Appends}
use mathlib.Core.List.{IsPrefix}
use Rattle.edge_core.specs.Device.{SinkState, Takes, HasRisen}

-- The bytes that are on their way to the sink, and how many came to it before them.
pub record Gathered : Type 0 where
  pub bytes : List ℕ
  pub passed : ℕ

-- nothing is gathered, and nothing came to the sink
abbrev pub begun : Gathered
begun = record { bytes = []; passed = 0 }

-- a count of bytes, as 128 bits tell it: from their greatest number on it stays there
abbrev pub counted : ℕ → ℕ
counted n = min n (2 ^ 128 - 1)

-- A piece was put behind what was gathered. A front of all that came to the sink, and the rest is gathered.
pub record Puts (old : Gathered) (before : SinkState) (piece : List ℕ) (new : Gathered) (after : SinkState) : Type 0 where
  pub out : List ℕ
  pub parts : old.bytes ++ piece ≡ out ++ new.bytes
  pub taken : Takes before out after
  pub passed : counted new.passed ≡ counted (old.passed + length out)

-- A write failed. Of what was gathered and the piece behind it a front came to the sink, and not all.
pub record PutsFront (old : Gathered) (before : SinkState) (piece : List ℕ) (new : Gathered) (after : SinkState) : Type 0 where
  pub out : List ℕ
  pub front : IsPrefix out (old.bytes ++ piece)
  pub short : length out < length (old.bytes ++ piece)
  pub taken : Appends before.written after.written out
  pub risen : HasRisen before.faults after.faults
  pub same : after.name ≡ before.name
  pub passed : counted new.passed ≡ counted (old.passed + length out)
