use Rattle.std.proofs.Common.{◌≤◌, ◌++◌, length, take, drop, ap, sym, subst, ◌∙◌, arith}
use Rattle.pipe_core.specs.History.{bytes_of}
use Rattle.pipe_state.proofs.WritingLemmas.{advances_writing}
use Rattle.pipe_state.proofs.writing.Writing.advance.Goals as goal

pub overflow_add-self : goal.overflow_add-self
overflow_add-self c =
    let w = c.self.inside in
    let a = advances_writing w.left w.current c.advance.new.self w.drafted w.count w.size c.args.n w.half.value c.advance.ensures (subst (λ v. c.args.n ≤ length v.free) (sym c.self.view_is) c.requires) c.self.invariant in
    let small = a.small in omega arith

pub invariant_of-self : goal.invariant_of-self
invariant_of-self c =
    let w = c.self.inside in
    (advances_writing w.left w.current c.advance.new.self w.drafted w.count w.size c.args.n w.half.value c.advance.ensures (subst (λ v. c.args.n ≤ length v.free) (sym c.self.view_is) c.requires) c.self.invariant).writing

pub returns-clause-draft : goal.returns-clause-draft
returns-clause-draft c =
    let w = c.self.inside in
    (advances_writing w.left w.current c.advance.new.self w.drafted w.count w.size c.args.n w.half.value c.advance.ensures (subst (λ v. c.args.n ≤ length v.free) (sym c.self.view_is) c.requires) c.self.invariant).draft
    ∙ ap (λ v. bytes_of v.draft ++ take c.args.n v.free) c.self.view_is

pub returns-clause-free : goal.returns-clause-free
returns-clause-free c =
    let w = c.self.inside in
    (advances_writing w.left w.current c.advance.new.self w.drafted w.count w.size c.args.n w.half.value c.advance.ensures (subst (λ v. c.args.n ≤ length v.free) (sym c.self.view_is) c.requires) c.self.invariant).free
    ∙ ap (λ v. drop c.args.n v.free) c.self.view_is
