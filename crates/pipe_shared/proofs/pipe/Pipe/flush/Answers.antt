-- A flush that is tried again has committed the draft, or left it, and where it is too much none was made.
use Rattle.std.proofs.Common.{refl, ap, ◌∙◌, length, Ok, Err}
use Rattle.pipe_core.specs.declared.reply.FlushReply.TheVariants.{Ready, Pending}
use Rattle.pipe_turns.specs.declared.faults.FlushFault.TheVariants.{Busy, Worn, TooMuch}
use Rattle.pipe_shared.specs.Waiting.{untried, tried}
use Rattle.pipe_shared.proofs.WaitingLemmas.{flushes_on, same_free, refused_flush, not_yet, as_before}
use Rattle.pipe_shared.proofs.pipe.Pipe.flush.Goals as goal

pub loop-init : goal.loop-init
loop-init g c = record { pipe = c.requires; tried = untried }

pub loop-preserved-in-Ok-Pending-default : goal.loop-preserved-in-Ok-Pending-default
loop-preserved-in-Ok-Pending-default g c =
    let h = c.in-Ok-Pending-default in
    let made = rw h.field-0-0-is at h.ensures.made in
    record {
      pipe = c.try_flush.ensures.pipe.0;
      tried = tried c.loop.w c.try_flush.new.w (Ok (Pending h.field-0-0-0, h.field-0-1)) c.loop.invariant.tried (made, h.ensures.draft, h.ensures.free, h.ensures.hint) refl;
    }

pub loop-preserved-in-Err-Busy : goal.loop-preserved-in-Err-Busy
loop-preserved-in-Err-Busy g c =
    let h = c.in-Err-Busy in
    let kept = h.ensures.kept in
    record {
      pipe = c.try_flush.ensures.pipe.0;
      tried = tried c.loop.w c.try_flush.new.w (Err (Busy h.field-0-0)) c.loop.invariant.tried (rw h.field-0-is at h.ensures.refused, record { draft = kept.0; free = kept.1; hint = h.ensures.hint }) refl;
    }

pub loop-preserved : goal.loop-preserved
loop-preserved g c =
    let h = c.in-Err-Worn in
    let kept = h.ensures.kept in
    record {
      pipe = c.try_flush.ensures.pipe.0;
      tried = tried c.loop.w c.try_flush.new.w (Err (Worn h.field-0-0)) c.loop.invariant.tried (rw h.field-0-is at h.ensures.refused, record { draft = kept.0; free = kept.1; hint = h.ensures.hint }) refl;
    }

pub returns-in-Ok-Ready-default-clause-flushes : goal.returns-in-Ok-Ready-default-clause-flushes
returns-in-Ok-Ready-default-clause-flushes g c =
    let h = c.in-Ok-Ready-default in
    let made = rw h.field-0-0-is at h.ensures.made in
    flushes_on c.args.self.now.name.options c.args.w.now c.loop.w c.try_flush.new.w (Ready h.canceled h.gone) h.field-0-1 c.loop.invariant.tried made h.ensures.draft h.ensures.free

pub returns-in-Ok-Ready-default-clause-free : goal.returns-in-Ok-Ready-default-clause-free
returns-in-Ok-Ready-default-clause-free g c =
    let h = c.in-Ok-Ready-default in
    let made = rw h.field-0-0-is at h.ensures.made in
    same_free c.args.self.now.name.options c.args.w.now c.loop.w c.try_flush.new.w (Ready h.canceled h.gone) h.field-0-1 c.loop.invariant.tried made h.ensures.draft h.ensures.free

pub returns-in-Err-TooMuch-clause-free : goal.returns-in-Err-TooMuch-clause-free
returns-in-Err-TooMuch-clause-free g c =
    let h = c.in-Err-TooMuch in
    let refused = rw h.field-0-is at h.ensures.refused in
    let before = not_yet c.args.self.now.name.options h.total c.args.w.now c.loop.w c.try_flush.new.w c.loop.invariant.tried refused in
    ap length h.ensures.kept.1 ∙ ap length before.free

pub returns-in-Err-TooMuch-clause-kept : goal.returns-in-Err-TooMuch-clause-kept
returns-in-Err-TooMuch-clause-kept g c =
    let h = c.in-Err-TooMuch in
    let refused = rw h.field-0-is at h.ensures.refused in
    let before = not_yet c.args.self.now.name.options h.total c.args.w.now c.loop.w c.try_flush.new.w c.loop.invariant.tried refused in
    let last = refused_flush (TooMuch h.total) c.loop.w c.try_flush.new.w refused (record { draft = h.ensures.kept.0; free = h.ensures.kept.1; hint = h.ensures.hint }) in
    let all = as_before c.args.w.now c.loop.w c.try_flush.new.w before last in
    (all.draft, all.free, all.own)

pub returns-in-Ok-Ready-default-clause-at_last : goal.returns-in-Ok-Ready-default-clause-at_last
returns-in-Ok-Ready-default-clause-at_last g c =
    let h = c.in-Ok-Ready-default in
    let made = rw h.field-0-0-is at h.ensures.made in
    (h.field-0-1, record { before = c.loop.w; tried = c.loop.invariant.tried; last = (made, h.ensures.draft, h.ensures.free, h.ensures.hint); settled = refl })

pub returns-in-Err-TooMuch-clause-at_last : goal.returns-in-Err-TooMuch-clause-at_last
returns-in-Err-TooMuch-clause-at_last g c =
    let h = c.in-Err-TooMuch in
    let refused = rw h.field-0-is at h.ensures.refused in
    record { before = c.loop.w; tried = c.loop.invariant.tried; last = (refused, record { draft = h.ensures.kept.0; free = h.ensures.kept.1; hint = h.ensures.hint }); settled = refl }
