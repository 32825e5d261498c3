use Rattle.std.proofs.Common.{◌≡◌, ◌≤◌, ◌+◌, ◌++◌, [], length}
use Rattle.crossbeam_queue.specs.Passes.{view, IsPassOf, ruled_capacity}
use Rattle.shared_work.specs.Tasks.{view_with, whole}
use Rattle.shared_work.proofs.workers.queue_up.Given as goal

abbrev pub invariant-loop-it : goal.invariant-loop-it
invariant-loop-it g l =
    IsPassOf l.queue l.pass × (view l.pass ≡ view_with whole l.yielded []) × (l.place ≡ length l.yielded) × (l.yielded ++ l.it-iterator.rest.items ≡ l.fn.tasks.items)
    × (length l.fn.tasks.items ≤ ruled_capacity l.queue)
