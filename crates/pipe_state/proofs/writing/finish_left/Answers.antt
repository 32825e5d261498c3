use Rattle.std.proofs.Common.{◌≡◌, ◌∷◌, ◌++◌, true, length, map, drop, refl, ap, sym, subst, ◌∙◌, arith}
use Rattle.pipe_core.specs.Lends.{joined}
use Rattle.pipe_state.specs.Lying.{HaveOwnIds, runs_of}
use Rattle.pipe_state.specs.Sides.{unfinished_of}
use Rattle.pipe_state.specs.Segments.{AreFilled, sent_in, without_first}
use Rattle.pipe_state.specs.Sending.{committed_in}
use Rattle.pipe_core.specs.History.{run_in}
use Rattle.pipe_state.proofs.RunLemmas.{live_apart, still_apart}
use Rattle.pipe_state.proofs.WritingLemmas.{commits_run, left_filled, next, next_runs, sends_later, sends_only, sent_filled}
use Rattle.pipe_state.proofs.writing.finish_left.Goals as goal

pub loop-init : goal.loop-init
loop-init c =
    let s = c.args.segments.now in
    record {
      pair = c.requires.pair;
      first = c.requires.first;
      half = refl;
      name = refl;
      left_full = c.requires.left;
      filled = λ all. all;
      own = c.requires.own;
      runs = refl;
      apart = live_apart s.home s.live s.writer.segments s.blocks c.requires.own c.order.ensures;
      kept = refl;
      capacity = refl;
      left = (let n = c.len-end.ensures.len in omega arith);
    }

pub loop-preserved : goal.loop-preserved
loop-preserved c =
    let v = c.loop.invariant in let s = c.loop.segments in let f = c.in-Some.filling in
    let items = ap (λ b. b.items) c.pop_front.ensures.items in
    let n = next c.args.half.now.value.hint c.loop.left.items c.pop_front.new.self.items f (sym c.pop_front.ensures.value ∙ c.in-Some.is) items v.left_full in
    let first : c.loop.half.value.segments ≡ unfinished_of f ∷ (map unfinished_of c.pop_front.new.self.items ++ drop (length c.args.left.now.items) c.args.half.now.value.segments) =
    v.first ∙ ap (λ l. map unfinished_of l ++ drop (length c.args.left.now.items) c.args.half.now.value.segments) n.apart in
    let has : c.finish.new.half.value ≡ without_first c.loop.half.value = c.finish.ensures.half ∙ ap (λ v. v.writer) c.finish.ensures.state ∙ ap without_first (sym c.finish.ensures.same) in
    let run = commits_run s.home s.live c.finish.new.self.live s.writer.segments (map unfinished_of c.pop_front.new.self.items ++ drop (length c.args.left.now.items) c.args.half.now.value.segments) s.blocks f true
    (ap (λ w. w.segments) (sym c.finish.ensures.same) ∙ first) v.own c.order-in-Some.ensures n.first.0 (ap (λ v. v.live) c.finish.ensures.state) in
    let name : c.finish.new.half.name ≡ c.loop.half.name = c.finish.ensures.pair ∙ ap (λ v. v.writer_name) c.finish.ensures.state ∙ sym v.pair in
    record {
      pair = c.finish.ensures.pair;
      first = ap (λ w. w.segments) has ∙ ap (drop 1) first;
      half = (λ i. record { segments = c.finish.new.half.value.segments; hint = (ap (λ w. w.hint) has ∙ ap (λ w. w.hint) v.half) i });
      name = name ∙ v.name;
      left_full = n.rest;
      filled = λ all. subst (AreFilled c.args.half.now.value.hint) (sym (ap (λ v. v.live) c.finish.ensures.state))
          (sent_filled c.args.half.now.value.hint f.sent (committed_in f true) s.live (left_filled c.args.half.now.value.hint f n.first) (v.filled all));
      own = subst HaveOwnIds (sym (ap (λ v. v.blocks) c.finish.ensures.state)) v.own;
      runs = next_runs (runs_of s.live) (runs_of c.finish.new.self.live) c.loop.left.items c.pop_front.new.self.items f n.apart run ∙ v.runs;
      apart = ap joined run ∙ still_apart (runs_of s.live ++ run_in f.label.id f.draft) ∙ sym run;
      kept = sends_later c.args.segments.now s c.finish.new.self v.kept (sends_only s c.finish.new.self (sent_in f.sent (committed_in f true) s.live) (without_first s.writer) c.finish.ensures.state);
      capacity = ap (λ b. b.capacity) c.pop_front.ensures.items ∙ v.capacity;
      left = (let left = v.left in let one = ap length n.apart in omega arith);
    }
