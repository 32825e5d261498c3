-- The parts of a drainer's step.
use Rattle.std.specs.Prelude.{ℕ, ◌≡◌, ◌≤◌, ◌+◌, List, length, take, Option, Some, None, position, IsNone}
use Rattle.frame_model.specs.declared.framing.Framing.TheVariants.{Line}
use Rattle.frame_model.specs.Spelling.{is_line_feed}
use Rattle.pipe_core.specs.History.{Call}
use Rattle.pipe_core.specs.Lends.{lend}
use Rattle.relay_engine.specs.Frames.{capped}
use Rattle.relay_engine.specs.declared.frames.Stop.{Stop}
use Rattle.relay_engine.specs.declared.frames.Stop.TheVariants as stops
use Rattle.relay_engine.specs.declared.drain_end.DrainEnd.{DrainEnd}
use Rattle.relay_engine.specs.declared.drain_end.DrainEnd.TheVariants as ends
use Rattle.relay_engine.specs.Drainer.{DrainState}

-- So many bytes more were passed over, in so many frames, and written, and so many are known behind them.
abbrev pub added : DrainState → ℕ → ℕ → ℕ → ℕ → DrainState
added d passed frames written known =
    record d { place = capped (d.place + passed); frames = capped (d.frames + frames); written = capped (d.written + written); known = known }

-- What is lent begins with the bytes that are known to have no line feed.
abbrev pub IsKnown : DrainState → List Call → Type 0
IsKnown d h = (lent : List ℕ) → lend h ≡ Some lent → (d.known ≤ length lent) × (d.job.input ≡ Line → IsNone (position is_line_feed (take d.known lent)))

-- why nothing more is written where the frames of a lend end so, if so
abbrev pub end_at : Stop → Option ℕ → ℕ → Option DrainEnd
end_at (stops.Bad kind) ended place = Some (ends.Bad place kind)
end_at stops.Rest ended place = Some (ends.Rest place)
end_at stops.End ended place = Some ends.Clean
end_at stops.More (Some code) place = Some ends.Stopped
end_at stops.More None place = None
