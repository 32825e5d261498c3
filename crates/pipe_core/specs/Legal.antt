-- Which calls may come next, and which histories are lawful.
use Rattle.std.specs.Prelude.{◌+◌, ◌^◌, ◌≤◌, ◌⊎◌, List, [], ◌∷◌, length, IsSome, IsNone, IsSomeAnd}
use Rattle.pipe_core.specs.History.{Call, Commit, EndWriter, Read, Advance, EndReader, CancelRead, CancelFlush, bytes_of, writer_end, reader_end}
use Rattle.pipe_core.specs.Progress.{total}
use Rattle.pipe_core.specs.Lends.{lend}

abbrev pub MayFollow : Call → List Call → Type 0
MayFollow (Commit runs) h = IsNone (writer_end h) × (IsSome (reader_end h) ⊎ length (total h) + length (bytes_of runs) ≤ 2 ^ 62)
MayFollow (EndWriter code) h = IsNone (writer_end h)
MayFollow (Read n) h = IsNone (reader_end h) × IsNone (lend h) × (n ≤ 2 ^ 62)
MayFollow (Advance c e) h = IsNone (reader_end h) × IsSomeAnd (lend h) (λ bytes. (c ≤ e) × (e ≤ length bytes))
MayFollow (EndReader code) h = IsNone (reader_end h)
MayFollow CancelRead h = Unit {0}
MayFollow CancelFlush h = Unit {0}

abbrev pub IsLegal : List Call → Type 0
IsLegal [] = Unit {0}
IsLegal (call ∷ h) = IsLegal h × MayFollow call h
