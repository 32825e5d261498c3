-- The first frame can be spelt, or it is said why not.
use Rattle.std.proofs.Common.{List, ℕ, refl, sym, ap, ◌∙◌}
use Rattle.frame_model.specs.Spelling.{obstacle}
use Rattle.frame_model.specs.declared.framing.BadKind.TheVariants.{Unspellable}
use Rattle.span_seq.specs.Sequence.{bytes}
use Rattle.relay_engine.proofs.CleanLemmas.{line_first}
use Rattle.relay_engine.proofs.FrameLemmas.{is_first, none_of, some_of, unspellable_stops}
use Rattle.relay_engine.proofs.frames.first_frame.Goals as goal

pub returns-in-Ok-clause-first : goal.returns-in-Ok-clause-first
returns-in-Ok-clause-first g c =
    let spelt = none_of _ _ _ (λ at. Unspellable at) c.in-Ok.ensures in
    is_first c.args.job.now (bytes c.args.rest.now) c.args.at_end c.in-Frame.from c.in-Frame.to c.in-Frame.end (bytes c.part-payload.result) c.part-payload.ensures c.in-Frame.ensures.told spelt

pub returns-in-Err-clause-stopped : goal.returns-in-Err-clause-stopped
returns-in-Err-clause-stopped g c =
    let x = bytes c.args.rest.now in
    let why = some_of _ _ _ (λ at. Unspellable at) c.in-Err.ensures in
    record {
      told = rw why.2 (unspellable_stops c.args.job.now x c.args.at_end c.in-Frame.from c.in-Frame.to c.in-Frame.end why.0 c.in-Frame.ensures.told (ap (λ (p : List ℕ). obstacle c.args.job.now.output p) (sym c.part-payload.ensures) ∙ why.1));
      short = λ more. absurd cc;
      unended = λ more. absurd cc;
    }

pub returns-then-lines_stay_lines-clause-first : goal.returns-then-lines_stay_lines-clause-first
returns-then-lines_stay_lines-clause-first g c =
    line_first c.args.job.now (bytes c.args.rest.now) c.args.at_end c.in-Frame.from c.in-Frame.to c.in-Frame.end (bytes c.part-payload.result) c.part-payload.ensures c.in-Frame.ensures.told (c.if-lines_stay_lines.ensures refl)
