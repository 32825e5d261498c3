use Rattle.std.proofs.Common.{rules, true, refl, arith, ℕ, ◌≡◌, ◌+◌, subst}
use Rattle.relay_threads.proofs.ServeLemmas.{IsServing, adds_none, adds_none_twice, begins, breaks_off, goes_on, is_all, is_refused, is_unflushed, still_listens}
use Rattle.relay_threads.proofs.serving.serve_all.Goals as goal

pub loop-index-init : goal.loop-index-init
loop-index-init g c = record {
  serving = λ first listens. begins c.args.job.now c.args.target.now first _ _ listens;
  room = c.requires.room;
  pool = c.requires.pool;
  books = adds_none _;
}

pub serve_one-requires-clause-listening : goal.serve_one-requires-clause-listening
serve_one-requires-clause-listening g c =
    let listens : (g.D.Doors.state c.loop-index.doors).is_listening ≡ true = still_listens c.args.job.now c.args.target.now _ _ _ _ _ _ _ (c.loop-index.invariant.serving c.requires.listening.0 c.requires.listening.1) in
    search (rules, listens)

pub returns-in-Err-clause-served : goal.returns-in-Err-clause-served
returns-in-Err-clause-served g c = λ first listens.
    is_refused c.args.job.now c.args.target.now first _ _ _ _ _ _ _ (c.loop-index.invariant.serving first listens) c.args.count c.in-Err.refusal.error c.in-Err.refusal.word _ c.loop-index-test.true c.in-Err.ensures.refused refl

pub returns-in-Err-clause-books : goal.returns-in-Err-clause-books
returns-in-Err-clause-books g c = adds_none_twice _ _ _ c.loop-index.invariant.books c.serve_one.ensures.books

pub overflow_add-result : goal.overflow_add-result
overflow_add-result g c =
    let so = c.loop-index.invariant.serving c.requires.listening.0 c.requires.listening.1 in
    omega (arith, so.few, c.in-Err-write_line.ensures.short)

pub overflow_add-written : goal.overflow_add-written
overflow_add-written g c =
    let so = c.loop-index.invariant.serving c.requires.listening.0 c.requires.listening.1 in
    omega (arith, so.few, c.in-Ok-write_line.ensures.few)

pub returns-in-Err-write_line-clause-served : goal.returns-in-Err-write_line-clause-served
returns-in-Err-write_line-clause-served g c = λ first listens.
    breaks_off c.args.job.now c.args.target.now first _ _ _ _ _ _ _ (c.loop-index.invariant.serving first listens) c.args.count (record { number = c.loop-index.index + 1; answer = c.in-Ok.answer }) _ _ _ (omega arith) refl c.in-Ok.ensures.served c.in-Err-write_line.ensures.front refl

pub returns-in-Err-write_line-clause-books : goal.returns-in-Err-write_line-clause-books
returns-in-Err-write_line-clause-books g c = adds_none_twice _ _ _ c.loop-index.invariant.books c.serve_one.ensures.books

pub loop-index-preserved : goal.loop-index-preserved
loop-index-preserved g c = record {
  serving = λ first listens.
      rw c.first_of-failed.ensures (goes_on c.args.job.now c.args.target.now first _ _ _ _ _ _ _ (c.loop-index.invariant.serving first listens) (record { number = c.loop-index.index + 1; answer = c.in-Ok.answer }) _ _ refl c.in-Ok.ensures.served c.in-Ok-write_line.ensures.whole c.in-Ok-write_line.ensures.len c.in-Ok-write_line.ensures.few);
  room = c.write_line.ensures.room;
  pool = c.serve_one.ensures.pool;
  books = adds_none_twice _ _ _ c.loop-index.invariant.books c.serve_one.ensures.books;
}

pub returns-in-Ok-flush-clause-served : goal.returns-in-Ok-flush-clause-served
returns-in-Ok-flush-clause-served g c = λ first listens.
    let same : c.loop-index.index ≡ c.args.count = omega arith in
    is_all c.args.job.now c.args.target.now first _ _ _ _ c.args.count _ _ _ (subst (λ (n : ℕ). IsServing c.args.job.now c.args.target.now first (g.D.Doors.state c.loop-index.doors) (g.K.Sink.state c.args.sink.now) (g.K.Sink.state c.loop-index.sink) n c.loop-index.failed c.loop-index.written) same (c.loop-index.invariant.serving first listens)) c.in-Ok-flush.ensures.taken refl

pub returns-clause-served : goal.returns-clause-served
returns-clause-served g c = λ first listens.
    let same : c.loop-index.index ≡ c.args.count = omega arith in
    is_unflushed c.args.job.now c.args.target.now first _ _ _ _ c.args.count _ _ _ (subst (λ (n : ℕ). IsServing c.args.job.now c.args.target.now first (g.D.Doors.state c.loop-index.doors) (g.K.Sink.state c.args.sink.now) (g.K.Sink.state c.loop-index.sink) n c.loop-index.failed c.loop-index.written) same (c.loop-index.invariant.serving first listens)) c.in-Err-flush.ensures.failed refl
