-- All frames of a span, the one frame behind them, and what is gathered at the end.
use Rattle.std.proofs.Common.{◌+◌, [], refl, ◌∙◌, arith}
use Rattle.span_seq.specs.Sequence.{bytes}
use Rattle.relay_engine.proofs.FrameLemmas.{passes_nothing}
use Rattle.relay_engine.proofs.FrontLemmas.{behind_rest, front_failed, front_more, known_is, rest_is}
use Rattle.relay_engine.proofs.GatherLemmas.{on_err, puts_nothing}
use Rattle.relay_engine.proofs.BoundLemmas.{passes_few}
use Rattle.relay_engine.proofs.WriteLemmas.{drained, interrupted_behind, interrupted_within, one_more}
use Rattle.relay_engine.proofs.frames.write_frames.Goals as goal

pub loop-front-init : goal.loop-front-init
loop-front-init g c = record {
  text = [];
  rest = refl;
  within = c.requires.within;
  searched = c.requires.searched;
  passes = passes_nothing c.args.job.now (bytes c.args.lent.now) c.args.at_end;
  puts = puts_nothing _ _;
  counted = refl;
}

pub returns-in_err-front-clause-failed : goal.returns-in_err-front-clause-failed
returns-in_err-front-clause-failed g c =
    let so_far = c.loop-front.invariant in
    let first = rw so_far.rest at c.unsearched.ensures in
    let puts = rw c.requires.begun at so_far.puts in
    on_err c.from_residual.result (front_failed c.args.job.now (bytes c.args.lent.now) c.unsearched.result.now c.args.at_end _ _ _ _ _ c.loop-front.passed c.loop-front.frames so_far.text c.requires.small so_far.passes puts first c.in_err-front.ensures.failed)

pub without_front-rest_behind-requires : goal.without_front-rest_behind-requires
without_front-rest_behind-requires g c =
    let so_far = c.loop-front.invariant in
    behind_rest (bytes c.loop-front.rest) c.unsearched.result.now c.in_ok-front.front.len c.unsearched.ensures (c.in_ok-front.ensures.put.passes c.args.at_end).within

pub first_frame-requires-clause-within : goal.first_frame-requires-clause-within
first_frame-requires-clause-within g c =
    let put = c.in_ok-front.ensures.put in
    let front = c.in_ok-front.front in
    let known = known_is (bytes c.loop-front.rest) c.unsearched.result.now c.args.job.now.input c.loop-front.known front.len front.searched c.known_behind-known_behind.result c.unsearched.ensures (put.passes c.args.at_end).within c.loop-front.invariant.within c.loop-front.invariant.searched put.within put.searched c.known_behind-known_behind.ensures.same c.known_behind-known_behind.ensures.behind in
    rw c.without_front-rest_behind.ensures.bytes known.0

pub first_frame-requires-clause-searched : goal.first_frame-requires-clause-searched
first_frame-requires-clause-searched g c =
    let put = c.in_ok-front.ensures.put in
    let front = c.in_ok-front.front in
    let known = known_is (bytes c.loop-front.rest) c.unsearched.result.now c.args.job.now.input c.loop-front.known front.len front.searched c.known_behind-known_behind.result c.unsearched.ensures (put.passes c.args.at_end).within c.loop-front.invariant.within c.loop-front.invariant.searched put.within put.searched c.known_behind-known_behind.ensures.same c.known_behind-known_behind.ensures.behind in
    rw c.without_front-rest_behind.ensures.bytes known.1

pub overflow_add-frames : goal.overflow_add-frames
overflow_add-frames g c =
    let so_far = c.loop-front.invariant in
    let first = rw so_far.rest at c.unsearched.ensures in
    let puts = front_more c.args.job.now (bytes c.args.lent.now) c.unsearched.result.now c.args.at_end _ _ _ _ _ _ c.loop-front.passed c.loop-front.frames c.loop-front.written so_far.text c.in_ok-front.front so_far.passes so_far.puts so_far.counted first c.in_ok-front.ensures.put in
    omega (arith, passes_few c.args.job.now (bytes c.args.lent.now) puts.text c.args.at_end (c.loop-front.passed + c.in_ok-front.front.len) (c.loop-front.frames + c.in_ok-front.front.frames) puts.passes, c.requires.small)

pub overflow_add-frames-in-Ok : goal.overflow_add-frames-in-Ok
overflow_add-frames-in-Ok g c =
    let so_far = c.loop-front.invariant in
    let first = rw so_far.rest at c.unsearched.ensures in
    let puts = front_more c.args.job.now (bytes c.args.lent.now) c.unsearched.result.now c.args.at_end _ _ _ _ _ _ c.loop-front.passed c.loop-front.frames c.loop-front.written so_far.text c.in_ok-front.front so_far.passes so_far.puts so_far.counted first c.in_ok-front.ensures.put in
    omega (arith, passes_few c.args.job.now (bytes c.args.lent.now) puts.text c.args.at_end (c.loop-front.passed + c.in_ok-front.front.len) (c.loop-front.frames + c.in_ok-front.front.frames) puts.passes, c.requires.small)

pub returns-in_err-more-in-Ok-clause-failed : goal.returns-in_err-more-in-Ok-clause-failed
returns-in_err-more-in-Ok-clause-failed g c =
    let x = bytes c.args.lent.now in
    let so_far = c.loop-front.invariant in
    let front = c.in_ok-front.front in
    let first = rw so_far.rest at c.unsearched.ensures in
    let start = rw c.requires.begun at so_far.puts in
    let puts = front_more c.args.job.now x c.unsearched.result.now c.args.at_end _ _ _ _ _ _ c.loop-front.passed c.loop-front.frames c.loop-front.written so_far.text front so_far.passes start so_far.counted first c.in_ok-front.ensures.put in
    let behind = rest_is x (bytes c.loop-front.rest) (bytes c.without_front-rest_behind.result) c.loop-front.passed front.len so_far.rest c.without_front-rest_behind.ensures.bytes in
    let one = rw behind at c.in-Ok.ensures.first in
    on_err c.from_residual-in_err-more-in-Ok.result (interrupted_within c.args.job.now x c.args.at_end _ _ _ _ _ (c.loop-front.passed + front.len) (c.loop-front.frames + front.frames) c.in-Ok.len puts.text (bytes c.in-Ok.payload) c.requires.small puts.passes puts.puts one c.in_err-more-in-Ok.ensures.failed)

pub loop-front-preserved : goal.loop-front-preserved
loop-front-preserved g c =
    let x = bytes c.args.lent.now in
    let so_far = c.loop-front.invariant in
    let front = c.in_ok-front.front in
    let first = rw so_far.rest at c.unsearched.ensures in
    let puts = front_more c.args.job.now x c.unsearched.result.now c.args.at_end _ _ _ _ _ _ c.loop-front.passed c.loop-front.frames c.loop-front.written so_far.text front so_far.passes so_far.puts so_far.counted first c.in_ok-front.ensures.put in
    let behind = rest_is x (bytes c.loop-front.rest) (bytes c.without_front-rest_behind.result) c.loop-front.passed front.len so_far.rest c.without_front-rest_behind.ensures.bytes in
    let one = rw behind at c.in-Ok.ensures.first in
    let put = c.in_ok-more-in-Ok.ensures in
    let counted = c.saturating_add-written.ensures ∙ puts.counted in
    let more = one_more c.args.job.now x c.args.at_end _ _ _ _ _ _ (c.loop-front.passed + front.len) (c.loop-front.frames + front.frames) c.saturating_add-written.result c.in-Ok.len c.in_ok-more-in-Ok.more puts.text (bytes c.in-Ok.payload) puts.passes puts.puts counted one put.len put.put in
    rw c.saturating_add-written-in-Ok.ensures (record {
      text = more.text;
      rest = rest_is x (bytes c.without_front-rest_behind.result) (bytes c.without_front-rest.result) (c.loop-front.passed + front.len) c.in-Ok.len behind c.without_front-rest.ensures.bytes;
      within = omega arith;
      searched = λ line. refl;
      passes = more.passes;
      puts = more.puts;
      counted = more.counted;
    })

pub returns-in_err-write_out-in-Err-clause-failed :
    goal.returns-in_err-write_out-in-Err-clause-failed
returns-in_err-write_out-in-Err-clause-failed g c =
    let x = bytes c.args.lent.now in
    let so_far = c.loop-front.invariant in
    let front = c.in_ok-front.front in
    let first = rw so_far.rest at c.unsearched.ensures in
    let start = rw c.requires.begun at so_far.puts in
    let puts = front_more c.args.job.now x c.unsearched.result.now c.args.at_end _ _ _ _ _ _ c.loop-front.passed c.loop-front.frames c.loop-front.written so_far.text front so_far.passes start so_far.counted first c.in_ok-front.ensures.put in
    let behind = rest_is x (bytes c.loop-front.rest) (bytes c.without_front-rest_behind.result) c.loop-front.passed front.len so_far.rest c.without_front-rest_behind.ensures.bytes in
    on_err c.from_residual-in_err-write_out-in-Err.result (interrupted_behind c.args.job.now x c.args.at_end _ _ _ _ _ (c.loop-front.passed + front.len) (c.loop-front.frames + front.frames) puts.text c.requires.small puts.passes puts.puts c.in_err-write_out-in-Err.ensures.failed)

pub returns-in-Err-clause-drained : goal.returns-in-Err-clause-drained
returns-in-Err-clause-drained g c =
    let x = bytes c.args.lent.now in
    let so_far = c.loop-front.invariant in
    let front = c.in_ok-front.front in
    let first = rw so_far.rest at c.unsearched.ensures in
    let start = rw c.requires.begun at so_far.puts in
    let puts = front_more c.args.job.now x c.unsearched.result.now c.args.at_end _ _ _ _ _ _ c.loop-front.passed c.loop-front.frames c.loop-front.written so_far.text front so_far.passes start so_far.counted first c.in_ok-front.ensures.put in
    let behind = rest_is x (bytes c.loop-front.rest) (bytes c.without_front-rest_behind.result) c.loop-front.passed front.len so_far.rest c.without_front-rest_behind.ensures.bytes in
    let stopped = rw behind at c.in-Err.ensures.stopped in
    let out = c.in_ok-write_out-in-Err.ensures in
    drained c.args.job.now x c.args.at_end _ _ _ _ _ (c.loop-front.passed + front.len) (c.loop-front.frames + front.frames) c.saturating_add-written.result c.in-Err.stop puts.text puts.passes puts.puts (c.saturating_add-written.ensures ∙ puts.counted) out.put out.none stopped
