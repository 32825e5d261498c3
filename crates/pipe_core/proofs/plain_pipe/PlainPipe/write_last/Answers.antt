-- The bytes, where there are any, are committed before.
use Rattle.std.proofs.Common.{refl, sym, ap, subst, arith}
use Rattle.std.specs.Prelude.{IsNone}
use Rattle.pipe_core.specs.History.{run_in}
use Rattle.pipe_core.specs.Pipe.{Pipe}
use Rattle.pipe_core.proofs.RunLemmas.{run_in_bytes}
use Rattle.pipe_core.proofs.PipeLemmas.{closes_alone, closes_behind, total_within}
use Rattle.pipe_core.proofs.plain_pipe.PlainPipe.write_last.Goals as goal

pub returns-then-bytes-eq0-clause-too_much : goal.returns-then-bytes-eq0-clause-too_much
returns-then-bytes-eq0-clause-too_much c =
    let p = c.self.inside in
    let fits = total_within (record { control = p.control; bytes = p.buffer }) c.self.invariant.0 c.self.invariant.1 in
    rw (← c.self.view_is) (λ e. absurd cc, λ more. absurd (omega (arith, fits, more.1, c.if-bytes-eq0.true)))

pub returns-then-bytes-eq0-clause-answers : goal.returns-then-bytes-eq0-clause-answers
returns-then-bytes-eq0-clause-answers c runs are =
    let p = c.self.inside in
    rw (← c.self.view_is) (closes_alone (record { control = p.control; bytes = p.buffer }) _ runs c.args.bytes.now c.args.code _ are c.if-bytes-eq0.true c.end_writer.ensures refl)

pub returns-clause-answers : goal.returns-clause-answers
returns-clause-answers c runs are =
    let p = c.self.inside in
    let m = c.self-2.inside in
    let first = rw (← c.self-2.view_is, ← c.self.view_is) at (c.in_ok-first.ensures.answers runs are.all) in
    rw (← c.self.view_is, c.or.ensures)
    (closes_behind (record { control = p.control; bytes = p.buffer }) (record { control = m.control; bytes = m.buffer }) _ runs c.args.bytes.now c.args.code _ c.in_ok-first.first c.end_writer-second.result
    are c.if-bytes-eq0.false first c.end_writer-second.ensures refl)

pub end_writer-second-requires : goal.end_writer-second-requires
end_writer-second-requires c = rw (ap (λ (x : Pipe). x.control) c.self-2.view_is) (subst IsNone (sym (c.in_ok-first.ensures.answers (run_in 0 c.args.bytes.now) (run_in_bytes 0 c.args.bytes.now)).ended) c.requires.open)
