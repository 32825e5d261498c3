-- What was copied is small enough for the job.
use Rattle.std.proofs.Common.{◌∙◌, ◌+◌, ◌++◌, ap, arith, drop, List, ℕ, refl}
use Rattle.std.proofs.lemmas.List.{get_or-drop, length-take}
use Rattle.frame_model.specs.Spelling.{text}
use Rattle.frame_model.specs.Cut.{IsBytes}
use Rattle.frame_fronts.proofs.FrontLemmas.{front_limit, front_wider, whole_narrower}
use Rattle.relay_engine.specs.Gathering.{Gathered}
use Rattle.relay_engine.proofs.gathering.Gathering.spell.Goals as goal

pub returns : goal.returns
returns c =
    let is = c.spell_front-spelt.ensures.spelt in
    let job = c.args.job.now in
    let len = c.spell_front-spelt.result.len in
    let small = c.copied_at_most-max.result in
    let new = c.spell_front-spelt.new.room in
    let rest = drop len c.args.bytes.now in
    record {
      payloads = is.payloads;
      front = front_wider job.input job.output small job.max c.args.bytes.now len c.spell_front-spelt.result.frames is.payloads (omega (arith, c.copied_at_most-max.ensures)) is.front;
      gathered =
          ap (λ (xs : List ℕ). record { bytes = xs; passed = c.self.inside.passed }) is.put
          ∙ ap (λ (g : Gathered). record { bytes = g.bytes ++ text job.output is.payloads; passed = g.passed }) c.self.view_is;
      counted = omega (arith, is.end_is);
      left = λ p more e spelt few lane.
          let fits : IsBytes rest = λ k. rw (get_or-drop len c.args.bytes.now k 0) (omega (arith, c.type_inv.bytes (len + k))) in
          let limit = front_limit job.input job.max rest p more fits e in
          let same = whole_narrower job.input small job.max rest p more fits e (omega (arith, c.copied_at_most-max.ensures, few, limit)) in
          let short = c.spell_front-spelt.ensures.left p more same spelt lane in
          omega (arith, short, c.self.told, c.spell_front-spelt.ensures.kept, c.spell_front-spelt.ensures.within, length-take c.spell_front-spelt.result.end new);
      unsearched = refl;
    }
