-- One read, and the commit of what it gave.
use Rattle.std.proofs.Common.{◌++◌, ◌∙◌, refl, inl, ap}
use Rattle.pipe_turns.specs.Name.{Name}
use Rattle.relay_engine.proofs.FillingLemmas.{behind_read, ended_on, kept, read_in}
use Rattle.relay_engine.proofs.filling.Filling.take.Goals as goal

pub settle-requires-clause-holds : goal.settle-requires-clause-holds
settle-requires-clause-holds g c =
    let t = c.requires.holds in
    let k = kept g.P.FillPipe.at g.P.FillPipe.others g.P.FillPipe.writer g.met.P.FillPipe.others_write_nothing _ _ _ c.in-Ok.ensures.draft c.in-Ok.ensures.at t.0 t.1 t.2 in (
      k.found,
      t.1 ++ c.in-Ok-draft_from.ensures.drafts.bytes,
      read_in g.P.FillPipe.at g.P.FillPipe.others g.P.FillPipe.writer g.P.FillPipe.refuses (g.P.FillPipe.made c.args.pipe.now c.args.end.now).options (g.P.FillPipe.is_full c.args.pipe.now)
          _ _ _ _ _ _ _ _ c.self.view_is c.requires.settled c.in-Ok-draft_from.ensures.at k.found t.1 k.holds c.in-Ok-draft_from.ensures.drafts,
    )

pub returns-in-Err-Refused-clause-takes : goal.returns-in-Err-Refused-clause-takes
returns-in-Err-Refused-clause-takes g c h bytes t =
    inl (rw c.in-Err-Refused.field-0-is at c.in-Err-Refused.ensures.refused, refl, kept g.P.FillPipe.at g.P.FillPipe.others g.P.FillPipe.writer g.met.P.FillPipe.others_write_nothing _ _ _ c.in-Err-Refused.ensures.draft c.in-Err-Refused.ensures.at h bytes t)

pub returns-in-Err-Full-clause-takes : goal.returns-in-Err-Full-clause-takes
returns-in-Err-Full-clause-takes g c h bytes t =
    (rw c.in-Err-Full.field-0-is at c.in-Err-Full.ensures.refused, refl, kept g.P.FillPipe.at g.P.FillPipe.others g.P.FillPipe.writer g.met.P.FillPipe.others_write_nothing _ _ _ c.in-Err-Full.ensures.draft c.in-Err-Full.ensures.at h bytes t)

pub returns-in-Err-clause-takes : goal.returns-in-Err-clause-takes
returns-in-Err-clause-takes g c h bytes t =
    ended_on _ _ _ _ _ (g.P.FillPipe.is_full c.args.pipe.now) _ _ _ _ _ _ _ _ c.self.view_is c.self.invariant.0 c.in-Ok.ensures.granted c.in-Err.ensures.tally c.in-Err.ensures.at c.in-Err.ensures.drafts h bytes
    (kept g.P.FillPipe.at g.P.FillPipe.others g.P.FillPipe.writer g.met.P.FillPipe.others_write_nothing _ _ _ c.in-Ok.ensures.draft c.in-Ok.ensures.at h bytes t)

pub returns-in-Ok-draft_from-clause-takes : goal.returns-in-Ok-draft_from-clause-takes
returns-in-Ok-draft_from-clause-takes g c h bytes t =
    let k = kept g.P.FillPipe.at g.P.FillPipe.others g.P.FillPipe.writer g.met.P.FillPipe.others_write_nothing _ _ _ c.in-Ok.ensures.draft c.in-Ok.ensures.at h bytes t in
    behind_read _ _ _ _ _ _ _ _ _ _ _ _ _ _ _ _ _ _ c.self.view_is (ap (λ (m : Name). m.options) (c.in-Ok-draft_from.ensures.made c.args.pipe.now ∙ c.in-Ok.ensures.made)) c.in-Ok.ensures.draft c.in-Ok.ensures.granted c.in-Ok-draft_from.ensures.tally c.in-Ok-draft_from.ensures.drafts h bytes k.found k.later
    (c.settle.ensures.settles k.found (bytes ++ c.in-Ok-draft_from.ensures.drafts.bytes)
    (read_in g.P.FillPipe.at g.P.FillPipe.others g.P.FillPipe.writer g.P.FillPipe.refuses (g.P.FillPipe.made c.args.pipe.now c.args.end.now).options (g.P.FillPipe.is_full c.args.pipe.now)
    _ _ _ _ _ _ _ _ c.self.view_is c.requires.settled c.in-Ok-draft_from.ensures.at k.found bytes k.holds c.in-Ok-draft_from.ensures.drafts))
