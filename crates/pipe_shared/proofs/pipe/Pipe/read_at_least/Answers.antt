-- A read that is tried again has lent nothing, and the last one lends.
use Rattle.std.proofs.Common.{refl, sym, subst, Ok, Err}
use Rattle.std.specs.Prelude.{IsNone}
use Rattle.pipe_core.specs.declared.reply.ReadReply.TheVariants.{Ready, Pending}
use Rattle.pipe_shared.specs.Waiting.{untried, tried}
use Rattle.pipe_shared.proofs.WaitingLemmas.{read_lends, nothing_lent, reads_on}
use Rattle.pipe_shared.proofs.pipe.Pipe.read_at_least.Goals as goal

pub loop-init : goal.loop-init
loop-init g c = record { pipe = c.requires.pipe; no_lend = c.requires.no_lend; tried = untried }

pub loop-preserved-in-Ok-Pending-default : goal.loop-preserved-in-Ok-Pending-default
loop-preserved-in-Ok-Pending-default g c =
    let h = c.in-Ok-Pending-default in
    let made = rw h.field-0-0-is at h.ensures.made in
    let len = read_lends c.args.self.now.name.options c.args.n c.loop.r.seat c.try_read_at_least.new.r.seat (Pending h.field-0-0-0 h.field-0-0-1) h.field-0-1 made c.try_read_at_least.new.r.lent h.ensures.lent in
    record {
      pipe = h.ensures.pipe.0;
      no_lend = nothing_lent c.try_read_at_least.new.r.lent (Pending h.field-0-0-0 h.field-0-0-1) len refl;
      tried = tried c.loop.r c.try_read_at_least.new.r (Ok (Pending h.field-0-0-0 h.field-0-0-1, h.field-0-1)) c.loop.invariant.tried (made, h.ensures.lent) refl;
    }

pub loop-preserved : goal.loop-preserved
loop-preserved g c =
    let h = c.in-Err in
    record {
      pipe = h.ensures.pipe.0;
      no_lend = subst IsNone (sym h.ensures.kept) c.loop.invariant.no_lend;
      tried = tried c.loop.r c.try_read_at_least.new.r (Err h.field-0) c.loop.invariant.tried (h.ensures.refused, h.ensures.kept) refl;
    }

pub returns-in-Ok-Ready-default-clause-reads : goal.returns-in-Ok-Ready-default-clause-reads
returns-in-Ok-Ready-default-clause-reads g c =
    let h = c.in-Ok-Ready-default in
    let made = rw h.field-0-0-is at h.ensures.made in
    reads_on c.args.self.now.name.options c.args.n c.args.r.now c.try_read_at_least.new.r (Ready h.canceled h.ended h.len) h.field-0-1
    (record { before = c.loop.r; tried = c.loop.invariant.tried; last = (made, h.ensures.lent); settled = refl })
