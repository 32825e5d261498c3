use Rattle.std.proofs.Common.{◌≤◌, []}
use Rattle.std.specs.Prelude.{vec_capacity}
use Rattle.edge_core.specs.Doors.{DoorsState, Listens}
use Rattle.seg_pool.specs.Words.{Adds, IsOf}
use Rattle.relay_threads.proofs.ServeLemmas.{IsServing}
use Rattle.relay_threads.proofs.serving.serve_all.Given as goal

abbrev pub invariant-loop-index : goal.invariant-loop-index
invariant-loop-index g l = record {
  serving : (first : DoorsState) → Listens first (g.D.Doors.state l.fn.doors) → IsServing l.job l.target first (g.D.Doors.state l.doors) (g.K.Sink.state l.fn.sink) (g.K.Sink.state l.sink) l.index l.failed l.written;
  room : 281 ≤ vec_capacity l.line;
  pool : IsOf l.pool l.pass;
  books : Adds l.fn.pass.books [] l.pass.books;
}
