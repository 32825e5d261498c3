-- What a filler makes of its pipe.
use Rattle.std.specs.Prelude.{ℕ, List, [], ◌∷◌, ◌++◌}
use Rattle.relay_model.specs.declared.ending.FillEnd.{FillEnd}
use Rattle.relay_model.specs.declared.ending.FillEnd.TheVariants as taking
use Rattle.pipe_core.specs.History.{Call, Commit, bytes_of}

-- the bytes of all commits, also of those that were dropped since the reader had completed
abbrev pub written : List Call → List ℕ
written [] = []
written (Commit runs ∷ h) = written h ++ bytes_of runs
written (call ∷ h) = written h

-- the code with which the writer completes
abbrev pub fill_code : FillEnd → ℕ
fill_code taking.End = 0
fill_code taking.Fault = 4
fill_code taking.Long = 7
fill_code (taking.Gone code) = code
