-- A fill step of a relay on one thread, whose pipe rests, and how such a relay ends.
use Rattle.std.specs.List.{AllByRecursion}
use Rattle.std.proofs.Common.{◌≡◌, ◌≢◌, ◌<◌, ◌≤◌, ◌+◌, ◌-◌, ◌*◌, ◌^◌, ◌==◌, ℕ, Bool, true, false, cond, if◌then◌else◌, nat_lt, List, [], ◌∷◌, ◌++◌, length, drop, max, Option, Some, None, Result, Ok, inl, inr, refl, sym, ap, ◌∙◌, subst, append-nil, arith, ◌⊎◌}
use Rattle.std.specs.Prelude.{is_none, option_map, unwrap_or}
use Rattle.std.proofs.KnownBytes.{Consumes-trans}
use Rattle.std.proofs.lemmas.List.{length-append, take_all}
use Rattle.edge_core.specs.Device.{SourceState, SinkState, Gives}
use Rattle.frame_grammar.specs.declared.job.Job.{Job}
use Rattle.relay_model.specs.declared.ending.FillEnd.{FillEnd}
use Rattle.relay_model.specs.declared.ending.FillEnd.TheVariants as taking
use Rattle.frame_model.specs.Spelling.{longest_frame}
use Rattle.pipe_core.specs.declared.reply.FlushReply.TheVariants as flush
use Rattle.pipe_core.specs.declared.reply.ReadReply.TheVariants as read
use Rattle.pipe_core.specs.declared.reply.Wake.{Wake}
use Rattle.pipe_core.specs.History.{Call, Run, Commit, EndWriter, Read, Advance, EndReader, CancelRead, CancelFlush, bytes_of, writer_end, reader_end}
use Rattle.pipe_core.specs.Progress.{total, examined, held}
use Rattle.pipe_core.specs.Reads.{reply_to_read}
use Rattle.pipe_core.specs.Flushes.{reply_to_commit}
use Rattle.pipe_core.specs.Legal.{IsLegal}
use Rattle.pipe_core.specs.Pipe.{kept}
use Rattle.pipe_core.specs.Standing.{AreThresholds}
use Rattle.pipe_core.proofs.OrderLemmas.{ordered, total_commit}
use Rattle.pipe_state.specs.declared.options.Options.{Options}
use Rattle.pipe_state.specs.declared.full.Full as room
use Rattle.pipe_turns.specs.declared.faults.TryFault.{TryFault}
use Rattle.pipe_core.specs.Answers.{Woke}
use Rattle.pipe_state.specs.Held.{AreAll, HoldsRuns}
use Rattle.pipe_state.specs.Released.{BlockName}
use Rattle.pipe_turns.specs.Name.{Name}
use Rattle.pipe_shared.specs.Local.{Local, LocalAnswers, LocalFindsFull}
use Rattle.relay_engine.specs.Filler.{written, fill_code}
use Rattle.relay_engine.specs.Filling.{FillingState, HasTaken}
use Rattle.relay_engine.specs.SoFar.{TakenSoFar}
use Rattle.relay_engine.specs.WriterEnds.{IsLocalFull, local_drafting}
use Rattle.relay_engine.specs.LocalEnds.{HoldsLocal, NoOthers, RefusesNone, made_of}
use Rattle.relay_engine.specs.Drainer.{DrainState, looked_at, end_code}
use Rattle.relay_engine.specs.Draining.{DrainingState}
use Rattle.relay_engine.specs.Pump.{EndsBy, FillsLocal, sure_room_of}
use Rattle.relay_engine.specs.declared.filling.Filled.{Filled}
use Rattle.relay_engine.specs.declared.filling.Filled.TheVariants.{Moved, Paused, Full, Ended}
use Rattle.relay_engine.proofs.FillingLemmas.{EndsFor, OrCommits, Took, took}
use Rattle.relay_engine.proofs.FillSideLemmas.{taken_on}
use Rattle.relay_engine.proofs.InTimeLemmas.{IsInTime, none_bad, one_read, stops}
use Rattle.relay_engine.proofs.LendLemmas.{behind_commit}
use Rattle.relay_engine.proofs.PumpLemmas.{AtRest, Goes, Pumps, fuel, gone_says, later_same, none_left, DrainsLocal, behind_reader, gained}
use Rattle.relay_model.specs.Ending.{outcome_of}
use Rattle.relay_model.specs.Run.{IsReported, IsTaken, StopsInTime}
use Rattle.relay_engine.specs.Ending.{is_sink_fault, verdict_for}
use Rattle.relay_engine.specs.Sides.{Concludes}
use Rattle.relay_engine.specs.declared.drain_end.DrainEnd.{DrainEnd}
use Rattle.relay_engine.specs.declared.draining.Progress.TheVariants.{Ended}
use Rattle.relay_engine.proofs.PipeDrainerLemmas.{adds, as_gains}
use Rattle.relay_engine.proofs.ReadOnLemmas.{passed_of}
use Rattle.relay_engine.proofs.ReportLemmas.{HoldsOfAll, at_end_is, by_end, of_all, of_front, reported}

-- ---- what the writer's calls leave to the reader

-- a commit, while the reader is there
pub goes_commit : (d : DrainState) (h : List Call) (text : List ℕ) (runs : List Run) → IsLegal h → Goes d h text → Goes d (Commit runs ∷ h) text × (total (Commit runs ∷ h) ≡ total h ++ bytes_of runs)
goes_commit d h text runs legal goes =
    let all : total (Commit runs ∷ h) ≡ total h ++ bytes_of runs = total_commit runs h ∙ ap (λ (o : Option ℕ). total h ++ cond (is_none o) (bytes_of runs) []) goes.attended in (
      record {
        drained = behind_commit d h text runs legal goes.drained;
        kept = ap (λ (x : List ℕ). x ++ bytes_of runs) goes.kept ∙ sym all;
        attended = goes.attended;
        no_lend = goes.no_lend;
        uncanceled = goes.uncanceled;
      },
      all,
    )

pub goes_end : (d : DrainState) (h : List Call) (text : List ℕ) (code : ℕ) → Goes d h text → Goes d (EndWriter code ∷ h) text
goes_end d h text code goes =
    let drained = goes.drained in
    record {
      drained = record { place = drained.place; passes = drained.passes; rest = drained.rest; short = drained.short; counted = drained.counted; known = drained.known; unended = drained.unended };
      kept = goes.kept;
      attended = goes.attended;
      no_lend = goes.no_lend;
      uncanceled = goes.uncanceled;
    }

-- what is true behind commits
record Asked (d : DrainState) (h h' : List Call) (text : List ℕ) : Type 0 where
  goes : Goes d h' text
  examined_is : examined h' ≡ examined h
  ended_is : writer_end h' ≡ writer_end h

behind_commits : (d : DrainState) (h : List Call) (text : List ℕ) (calls : List Call) → AllByRecursion (OrCommits NoOthers) calls → IsLegal (calls ++ h) → Goes d h text → Asked d h (calls ++ h) text
behind_commits d h text [] all legal goes = record { goes = goes; examined_is = refl; ended_is = refl }
behind_commits d h text (Commit runs ∷ calls) all legal goes =
    let so = behind_commits d h text calls all.1 legal.0 goes in record { goes = (goes_commit d (calls ++ h) text runs legal.0 so.goes).0; examined_is = so.examined_is; ended_is = so.ended_is }
behind_commits d h text (EndWriter code ∷ calls) all legal goes = absurd all.0
behind_commits d h text (Read n ∷ calls) all legal goes = absurd all.0
behind_commits d h text (Advance c e ∷ calls) all legal goes = absurd all.0
behind_commits d h text (EndReader code ∷ calls) all legal goes = absurd all.0
behind_commits d h text (CancelRead ∷ calls) all legal goes = absurd all.0
behind_commits d h text (CancelFlush ∷ calls) all legal goes = absurd all.0

-- all that was taken is committed, and the drainer goes on behind it
record Committed (d : DrainState) (h now : List Call) (text bytes : List ℕ) (middle : Local) : Type 0 where
  holds : HoldsLocal middle now
  asked : Asked d h now text
  all : total now ≡ bytes

-- What a fill step has taken.
abbrev pub Once : FillingState → Local → SourceState → Filled room.Full → FillingState → Local → SourceState → List Call → List ℕ → Type 0
Once f p before filled f' middle after h bytes = Took HoldsLocal NoOthers local_drafting RefusesNone p.options (IsLocalFull tt) (Ok filled) f p before f' middle after h bytes

pub rest_taken : (job : Job) (sb s : SourceState) (kb k : SinkState) (f : FillingState) (d : DrainingState) (p : Local) (ending : Option FillEnd) → (rest : AtRest job sb s kb k f d p ending) → HasTaken HoldsLocal local_drafting f p rest.on.h (total rest.on.h)
rest_taken job sb s kb k f d p ending rest = let on = rest.on in record {
  stands = on.holds;
  all = ap (λ (x : List Run). written on.h ++ bytes_of x) on.draft ∙ append-nil (written on.h) ∙ on.goes.kept;
  counted = on.counted;
  drafted = on.drafted ∙ sym (ap (λ (x : List Run). length (bytes_of x)) on.draft);
  settled = λ none. on.draft;
}

committed : (job : Job) (sb s s' : SourceState) (kb k : SinkState) (f f' : FillingState) (d : DrainingState) (p middle : Local) (ending : Option FillEnd) (filled : Filled room.Full) → (rest : AtRest job sb s kb k f d p ending) → (once : Once f p s filled f' middle s' rest.on.h (total rest.on.h)) → middle.draft ≡ []
    → Committed d.drained rest.on.h once.now rest.on.text (total rest.on.h ++ once.taken) middle
committed job sb s s' kb k f f' d p middle ending filled rest once settled =
    let on = rest.on in
    let holds = once.holds.stands in
    let legal = holds.runs.marks.legal in
    let a = subst (λ (x : List Call). Asked d.drained on.h x on.text) (sym once.later.is) (behind_commits d.drained on.h on.text once.later.between once.later.all (subst IsLegal once.later.is legal) on.goes) in
    record {
      holds = holds;
      asked = a;
      all = sym a.goes.kept ∙ sym (append-nil (written once.now)) ∙ sym (ap (λ (x : List Run). written once.now ++ bytes_of x) settled) ∙ once.holds.all;
    }

-- ---- the steps

pub record StepFilled (job : Job) (sb s' : SourceState) (kb k : SinkState) (f f' : FillingState) (d : DrainingState) (p' : Local) (result : Option FillEnd) : Type 0 where
  pub on : Pumps job sb s' kb k f' d p' result
  pub less : fuel f' p' result + 1 ≤ 2 * (f.limit - f.taken) + 1

-- what a fill step keeps
pub record Keeps (f : FillingState) (p : Local) (f' : FillingState) (p' : Local) : Type 0 where
  pub options : p'.options ≡ p.options
  pub draft : p'.draft ≡ []
  pub limit : f'.limit ≡ f.limit
  pub within : f'.taken ≤ f'.limit
  pub one_read : f'.taken ≤ f.taken + p.options.segment

-- bytes were taken
took_bytes : (job : Job) (sb s s' : SourceState) (kb k : SinkState) (f f' : FillingState) (d : DrainingState) (p middle : Local) (ending : Option FillEnd) (filled : Filled room.Full) → (rest : AtRest job sb s kb k f d p ending) → (once : Once f p s filled f' middle s' rest.on.h (total rest.on.h)) → Keeps f p f' middle
    → Gives s once.taken s' → 0 < length once.taken → StepFilled job sb s' kb k f f' d middle None
took_bytes job sb s s' kb k f f' d p middle ending filled rest once keeps given some =
    let on = rest.on in
    let h = on.h in
    let c = committed job sb s s' kb k f f' d p middle ending filled rest once keeps.draft in
    let counted : f'.taken ≡ length (total once.now) = once.holds.counted ∙ sym (ap length c.all) in
    let size : f'.taken ≡ f.taken + length once.taken = once.holds.counted ∙ length-append (total h) once.taken ∙ ap (λ (n : ℕ). n + length once.taken) (sym on.counted) in
    let taken = subst (λ (o : Option FillEnd). TakenSoFar job.limit (total h) o sb s) rest.none_yet on.taken in
    record {
      on = record {
        h = once.now;
        text = on.text;
        holds = c.holds;
        goes = c.asked.goes;
        fresh = on.fresh;
        taken = (
          subst (λ (x : List ℕ). Gives sb x s') (sym c.all) (record { given = Consumes-trans _ _ _ _ _ taken.0.given given.given; unfailed = given.unfailed ∙ taken.0.unfailed }),
          omega (arith, counted, keeps.within, keeps.limit, on.limit),
        );
        counted = counted;
        drafted = once.holds.drafted ∙ ap (λ (x : List Run). length (bytes_of x)) keeps.draft;
        limit = keeps.limit ∙ on.limit;
        job_is = on.job_is;
        wrote = on.wrote;
        ended = c.asked.ended_is ∙ on.ended ∙ ap (λ (o : Option FillEnd). option_map fill_code o) rest.none_yet;
        not_gone = λ code is. absurd cc;
        draft = keeps.draft;
        room = subst (λ (o : Options). longest_frame job.input job.max ≤ sure_room_of o) (sym keeps.options) on.room;
        thresholds = subst (λ (o : Options). AreThresholds o.pause o.resume) (sym keeps.options) on.thresholds;
        segment = ap (λ (o : Options). o.segment) keeps.options ∙ on.segment;
        in_time = subst (λ (x : List ℕ). IsInTime job x) (sym c.all) (one_read job (total h) once.taken (none_bad job d.drained h on.text on.job_is on.goes.drained rest.all_seen) (omega (arith, size, keeps.one_read, on.segment)));
      };
      less = less (nat_lt 0 (middle.pipe.control.committed - middle.pipe.control.examined)) size;
    }
  where
    less : (b : Bool) → f'.taken ≡ f.taken + length once.taken → (2 * (f'.limit - f'.taken) + 1 + cond b 1 0) + 1 ≤ 2 * (f.limit - f.taken) + 1
    less true size = omega (arith, keeps.limit, size, keeps.within, some)
    less false size = omega (arith, keeps.limit, size, keeps.within, some)

-- no byte was taken, and the writer has completed
took_end : (job : Job) (sb s s' : SourceState) (kb k : SinkState) (f f' : FillingState) (d : DrainingState) (p middle p' : Local) (ending : Option FillEnd) (filled : Filled room.Full) (end : FillEnd) (wake : Wake) → (rest : AtRest job sb s kb k f d p ending) → (once : Once f p s filled f' middle s' rest.on.h (total rest.on.h)) → middle.draft ≡ []
    → Keeps f p f' p' → LocalAnswers middle (EndWriter (fill_code end) ∷ []) (Woke wake) p' → p'.hint ≡ 0 → once.taken ≡ [] → ((code : ℕ) → end ≢ taking.Gone code) → TakenSoFar job.limit (total rest.on.h ++ once.taken) (Some end) sb s'
    → StepFilled job sb s' kb k f f' d p' (Some end)
took_end job sb s s' kb k f f' d p middle p' ending filled end wake rest once settled keeps completes hint none not_gone taken =
    let on = rest.on in
    let h = on.h in
    let c = committed job sb s s' kb k f f' d p middle ending filled rest once settled in
    let all : total once.now ≡ total h = c.all ∙ ap (λ (x : List ℕ). total h ++ x) none ∙ append-nil (total h) in
    let runs : HoldsRuns p'.pipe (EndWriter (fill_code end) ∷ once.now) = completes.stands once.now c.holds.runs in
    let counted : f'.taken ≡ length (total once.now) = once.holds.counted ∙ sym (ap length c.all) in
    let same : f'.taken ≡ f.taken = counted ∙ ap length all ∙ sym on.counted in
    record {
      on = record {
        h = EndWriter (fill_code end) ∷ once.now;
        text = on.text;
        holds = record { runs = runs; hint = omega (arith, hint) };
        goes = goes_end d.drained once.now on.text (fill_code end) c.asked.goes;
        fresh = on.fresh;
        taken = subst (λ (x : List ℕ). TakenSoFar job.limit x (Some end) sb s') (sym c.all) taken;
        counted = counted;
        drafted = once.holds.drafted ∙ ap (λ (x : List Run). length (bytes_of x)) settled;
        limit = keeps.limit ∙ on.limit;
        job_is = on.job_is;
        wrote = on.wrote;
        ended = refl;
        not_gone = λ code is. not_gone code (ap (λ (o : Option FillEnd). unwrap_or o end) is);
        draft = keeps.draft;
        room = subst (λ (o : Options). longest_frame job.input job.max ≤ sure_room_of o) (sym keeps.options) on.room;
        thresholds = subst (λ (o : Options). AreThresholds o.pause o.resume) (sym keeps.options) on.thresholds;
        segment = ap (λ (o : Options). o.segment) keeps.options ∙ on.segment;
        in_time = subst (λ (x : List ℕ). IsInTime job x) (sym all) on.in_time;
      };
      less = less (nat_lt 0 (p'.pipe.control.committed - p'.pipe.control.examined)) (none_left _ _ (omega (arith, runs.marks.committed, runs.marks.examined, c.asked.examined_is, rest.all_seen, ap length all))) same;
    }
  where
    less : (b : Bool) → b ≡ false → f'.taken ≡ f.taken → (2 * (f'.limit - f'.taken) + 0 + cond b 1 0) + 1 ≤ 2 * (f.limit - f.taken) + 1
    less b off counted = rw off (omega (arith, keeps.limit, counted))

-- ---- what doesn't come

abbrev pub NeverBoth : Type 0
NeverBoth = (pause resume : ℕ) (h : List Call) (examined held unexamined : ℕ) → (pause ≡ 0) ⊎ (1 ≤ resume) × (resume ≤ pause) → IsLegal h →
    reply_to_read 0 h ≡ read.Pending examined held → reply_to_commit pause resume h [] ≡ flush.Pending unexamined → ⊥

-- a pipe that rests has no bytes drafted, and doesn't hold the writer, so bytes were taken
moved_some : (job : Job) (sb s s' : SourceState) (kb k : SinkState) (f f' : FillingState) (d : DrainingState) (p p' : Local) (ending : Option FillEnd) (n : ℕ) → (rest : AtRest job sb s kb k f d p ending) → (once : Once f p s (Moved n) f' p' s' rest.on.h (total rest.on.h)) → 0 < length once.taken
moved_some job sb s s' kb k f f' d p p' ending n rest once = elim once.read [
  | inl owed ↦
      let none : n ≡ 0 = omega (arith, owed.settles.0, ap (λ (x : List Run). length (bytes_of x)) rest.on.draft) in
      let told : (0 == 0) ≡ false = subst (λ (m : ℕ). (m == 0) ≡ false) none owed.told in
      absurd cc
  | inr some ↦ some refl
]

paused_some : (job : Job) (sb s s' : SourceState) (kb k : SinkState) (f f' : FillingState) (d : DrainingState) (p p' : Local) (ending : Option FillEnd) (n : ℕ) → NeverBoth → (rest : AtRest job sb s kb k f d p ending) → (once : Once f p s (Paused n) f' p' s' rest.on.h (total rest.on.h)) → 0 < length once.taken
paused_some job sb s s' kb k f f' d p p' ending n law rest once = elim once.read [
  | inl owed ↦
      let c = owed.settles in
      let found = later_same rest.on.h c.found c.later in
      absurd (law p.options.pause p.options.resume rest.on.h (examined rest.on.h) (length (held rest.on.h)) n rest.on.thresholds.1 rest.on.holds.runs.marks.legal rest.waits
      (sym (ap (λ (x : List Call). reply_to_commit p.options.pause p.options.resume x []) found) ∙ sym (ap (λ (x : List Run). reply_to_commit p.options.pause p.options.resume c.found x) rest.on.draft) ∙ sym c.replied))
  | inr some ↦ some refl
]

-- nor is it full
never_full : (job : Job) (sb s s' : SourceState) (kb k : SinkState) (f f' : FillingState) (d : DrainingState) (p middle : Local) (ending : Option FillEnd) (filled : Filled room.Full) (told : room.Full) → (rest : AtRest job sb s kb k f d p ending) → (once : Once f p s filled f' middle s' rest.on.h (total rest.on.h)) → Keeps f p f' middle → once.taken ≡ []
    → LocalFindsFull 1 told middle → ⊥
never_full job sb s s' kb k f f' d p middle ending filled told rest once keeps none full =
    let on = rest.on in
    let c = committed job sb s s' kb k f f' d p middle ending filled rest once keeps.draft in
    let now = once.now in
    let all : total now ≡ total on.h = c.all ∙ ap (λ (x : List ℕ). total on.h ++ x) none ∙ append-nil (total on.h) in
    let drained = c.asked.goes.drained in
    let seen : looked_at now ≡ total now = take_all (examined now) (total now) (omega (arith, c.asked.examined_is, rest.all_seen, ap length all)) in
    let kept_is : kept now ≡ drop d.drained.place (total now) =
    ap (λ (o : Option ℕ). if is_none o then held now else []) c.asked.goes.attended ∙ ap (λ (n : ℕ). drop n (total now)) (sym drained.place) in
    let room : longest_frame job.input job.max ≤ sure_room_of middle.options = subst (λ (o : Options). longest_frame job.input job.max ≤ sure_room_of o) (sym keeps.options) on.room in
    let least : full.part.size - max middle.hint 1 + 1 ≡ middle.options.segment = (let hint = c.holds.hint in let size = full.size in let some = full.small in omega arith) in
    let filled : sure_room_of middle.options ≤ length (kept now) + length (bytes_of full.part.draft) =
    subst (λ (n : ℕ). (n - 1) * middle.options.segment ≤ length (kept now) + length (bytes_of full.part.draft)) full.count
    (subst (λ (n : ℕ). (full.part.count - 1) * n ≤ length (kept now) + length (bytes_of full.part.draft)) least (full.full.bound now c.holds.runs)) in
    let none_drafted : length (bytes_of full.part.draft) ≡ 0 = ap (λ (x : List Run). length (bytes_of x)) (full.draft ∙ keeps.draft) in
    omega (arith, ap length kept_is, ap (λ (x : List ℕ). length (drop d.drained.place x)) seen, drained.short, filled, none_drafted, room, longest_same d.drained job on.job_is)
  where
    longest_same : (d : DrainState) (job : Job) → d.job ≡ job → longest_frame d.job.input d.job.max ≡ longest_frame job.input job.max
    longest_same d job is = ap (λ (j : Job). longest_frame j.input j.max) is

-- nor is the reader gone
never_gone : (d : DrainState) (text : List ℕ) (options : Options) (f : FillingState) (now : List Call) (code : ℕ) → Goes d now text → EndsFor {F = room.Full} options (Ok (Ended (taking.Gone code))) f now → ⊥
never_gone d text options f now code goes (canceled, runs, found, last, replied) =
    let said = gone_says options.pause options.resume found runs canceled (Some code) (sym replied) in
    let attended : reader_end found ≡ None = sym (ap (λ (x : List Call). reader_end x) last) ∙ goes.attended in
    let same = said ∙ attended in absurd cc

-- ---- all of them

pub filled : (job : Job) (sb s s' : SourceState) (kb k : SinkState) (f f' : FillingState) (d : DrainingState) (p p' : Local) (ending result : Option FillEnd) → NeverBoth → (rest : AtRest job sb s kb k f d p ending) → FillsLocal f p s result f' p' s' rest.on.h (total rest.on.h) → Keeps f p f' p'
    → StepFilled job sb s' kb k f f' d p' result
filled job sb s s' kb k f f' d p p' ending result law rest fills keeps =
    by_step fills.filled fills.middle (took HoldsLocal NoOthers local_drafting RefusesNone p.options (IsLocalFull tt) f f' p fills.middle s s' (Ok fills.filled) rest.on.h (total rest.on.h) fills.once) fills.settled fills.ends
  where
    stays : (middle : Local) → p' ≡ middle → Keeps f p f' middle
    stays middle same = subst (λ (x : Local). Keeps f p f' x) same keeps

    more : (middle : Local) → result ≡ None → p' ≡ middle → StepFilled job sb s' kb k f f' d middle None → StepFilled job sb s' kb k f f' d p' result
    more middle none same so = subst (λ (o : Option FillEnd). StepFilled job sb s' kb k f f' d p' o) (sym none) (subst (λ (x : Local). StepFilled job sb s' kb k f f' d x None) (sym same) so)

    at_end : (end : FillEnd) → result ≡ Some end → StepFilled job sb s' kb k f f' d p' (Some end) → StepFilled job sb s' kb k f f' d p' result
    at_end end some so = subst (λ (o : Option FillEnd). StepFilled job sb s' kb k f f' d p' o) (sym some) so

    taken : TakenSoFar job.limit (total rest.on.h) None sb s
    taken = subst (λ (o : Option FillEnd). TakenSoFar job.limit (total rest.on.h) o sb s) rest.none_yet rest.on.taken

    -- the taking has ended, for this reason
    ended : (end : FillEnd) (middle : Local) → (once : Once f p s (Ended end) f' middle s' rest.on.h (total rest.on.h)) → middle.draft ≡ [] → EndsBy (Ended end) middle result p' → once.taken ≡ [] → ((code : ℕ) → end ≢ taking.Gone code) → StepFilled job sb s' kb k f f' d p' result
    ended end middle once settled ends none not_gone =
        let len : f'.taken ≡ length (total rest.on.h ++ once.taken) = once.holds.counted in
        at_end end ends.0 (took_end job sb s s' kb k f f' d p middle p' ending (Ended end) end ends.1.0 rest once settled keeps ends.1.1 ends.2 none not_gone
        (taken_on job.limit (total rest.on.h) once.taken (Ok (Ended end)) sb s s' (omega (arith, len, keeps.within, keeps.limit, rest.on.limit))
        (λ is. let at_limit : f'.taken ≡ f'.limit = subst (λ (a : Result (Filled room.Full) TryFault). EndsFor p.options a f' once.now) is once.ends in omega (arith, len, at_limit, keeps.limit, rest.on.limit)) taken once.loses))

    by_step : (filled : Filled room.Full) (middle : Local) → (once : Once f p s filled f' middle s' rest.on.h (total rest.on.h)) → middle.draft ≡ [] → EndsBy filled middle result p' → StepFilled job sb s' kb k f f' d p' result
    by_step (Moved n) middle once settled ends =
        more middle ends.0 ends.1 (took_bytes job sb s s' kb k f f' d p middle ending (Moved n) rest once (stays middle ends.1) once.loses (moved_some job sb s s' kb k f f' d p middle ending n rest once))
    by_step (Paused n) middle once settled ends =
        more middle ends.0 ends.1 (took_bytes job sb s s' kb k f f' d p middle ending (Paused n) rest once (stays middle ends.1) once.loses (paused_some job sb s s' kb k f f' d p middle ending n law rest once))
    by_step (Full told) middle once settled ends = absurd (never_full job sb s s' kb k f f' d p middle ending (Full told) told rest once (stays middle ends.1) once.loses.0 (subst (λ (x : Local). LocalFindsFull 1 told x) (sym once.met.1.1) once.met.1.0))
    by_step (Ended taking.End) middle once settled ends = ended taking.End middle once settled ends once.loses.0 (λ code is. absurd cc)
    by_step (Ended taking.Fault) middle once settled ends = ended taking.Fault middle once settled ends once.loses.0 (λ code is. absurd cc)
    by_step (Ended taking.Long) middle once settled ends = ended taking.Long middle once settled ends once.loses.0 (λ code is. absurd cc)
    by_step (Ended (taking.Gone code)) middle once settled ends =
        let c = committed job sb s s' kb k f f' d p middle ending (Ended (taking.Gone code)) rest once settled in
        absurd (never_gone d.drained rest.on.text p.options f' once.now code c.asked.goes once.ends)

-- a writer that has drafted nothing may complete
pub never_too_much : (p : Local) (h : List Call) → HoldsRuns p.pipe h → p.draft ≡ [] → 2 ^ 62 < p.pipe.control.committed + length (bytes_of p.draft) → ⊥
never_too_much p h holds settled over =
    omega (arith, over, holds.marks.committed, (ordered h holds.marks.legal).total_in, ap (λ (runs : List Run). length (bytes_of runs)) settled)

-- What a pipe gives back is what it was made of.
pub came_back : (back first : List BlockName) (p q : Local) → AreAll back p.pipe.segments.blocks → made_of p ≡ made_of q → q.pipe.segments.blocks ≡ first → AreAll back first
came_back back first p q all same made = subst (λ (blocks : List BlockName). AreAll back blocks) (ap (λ (m : Name). m.blocks) same ∙ made) all

-- the writer has completed where the taking has ended, also behind the drainer's last step
pub ended_alike : (job : Job) (sb s : SourceState) (kb k k' : SinkState) (f : FillingState) (d d' : DrainingState) (p p' : Local) (ending : Option FillEnd) (end : DrainEnd) → Pumps job sb s kb k f d p ending → DrainsLocal d p k (Ended end) d' p' k' → p'.pipe.control.ended ≡ option_map fill_code ending
ended_alike job sb s kb k k' f d d' p p' ending end on once =
    let a = once.cause on.h on.text on.holds (passed_of d on.h on.text on.fresh on.goes.drained) in
    a.stands.runs.marks.ended ∙ (behind_reader on.h a.now a.on).ended_is ∙ on.ended

-- how the taking ended, where it didn't since the reader went
abbrev pub taken_as : Option FillEnd → DrainEnd → FillEnd
taken_as ending end = unwrap_or ending (taking.Gone (end_code end))

run_taken : (job : Job) (x : List ℕ) (ending : Option FillEnd) (code : ℕ) (sb s : SourceState) → TakenSoFar job.limit x ending sb s → IsTaken job.limit x (unwrap_or ending (taking.Gone code)) sb s
run_taken job x None code sb s taken =
    record { dropped = []; dropping = refl; given = rw (append-nil x) taken.0.given; within = taken.1; end = λ is. absurd cc; long = λ is. absurd cc; fault = λ is. absurd cc; unfailed = λ is. taken.0.unfailed }
run_taken job x (Some end) code sb s taken = taken

-- what the reader had seen is all that was taken, whether or not more might be
stands : (job : Job) (frames told : ℕ) (x : List ℕ) (ending : Option FillEnd) (k : List Call) (text : List ℕ) (end : DrainEnd) → ((code : ℕ) → ending ≢ Some (taking.Gone code)) → writer_end k ≡ option_map fill_code ending → total k ≡ x → Concludes job frames told k text end → HoldsOfAll job x (taken_as ending end) k text end
stands job frames told x None k text end not_gone ended all concludes =
    of_front job frames told x (taken_as None end) k text end concludes (record { more = []; parts = append-nil (total k) ∙ all; going = ended })
stands job frames told x (Some fill) k text end not_gone ended all concludes =
    let never : (code : ℕ) → fill ≢ taking.Gone code = λ code is. not_gone code (ap (λ (e : FillEnd). Some e) is) in
    of_all job frames told x fill k text end concludes (record { all = all; whole = at_end_is fill k never ended; not_gone = never })

pub finished : (job : Job) (sb s : SourceState) (kb k k' : SinkState) (f : FillingState) (d d' : DrainingState) (p p' : Local) (ending : Option FillEnd) (end : DrainEnd) → job.limit ≤ 2 ^ 40 → Pumps job sb s kb k f d p ending → DrainsLocal d p k (Ended end) d' p' k'
    → IsReported job (record { outcome = outcome_of (is_sink_fault end) (taken_as ending end) (verdict_for end); frames = d'.drained.frames; taken = f.taken; written = d'.drained.written }) sb s kb k'
finished job sb s kb k k' f d d' p p' ending end limit on once =
    let a = once.cause on.h on.text on.holds (passed_of d on.h on.text on.fresh on.goes.drained) in
    let same = behind_reader on.h a.now a.on in
    let all = on.text ++ once.gain in
    let concludes = subst (λ (j : Job). Concludes j d'.drained.frames d'.drained.written a.now all end) (once.job ∙ on.job_is) a.how in
    let gains = adds (is_sink_fault end) kb k k' on.text once.gain on.wrote (gained d (is_sink_fault end) k k' once.gain on.fresh once.gained) in
    reported job _ (total on.h) (taken_as ending end) a.now all end sb s kb k' limit refl on.counted (run_taken job (total on.h) ending (end_code end) sb s on.taken) (by_end end kb all k' (as_gains end kb k' all gains)) concludes
    (stands job d'.drained.frames d'.drained.written (total on.h) ending a.now all end on.not_gone (same.ended_is ∙ on.ended) same.total_is concludes)

pub stopped : (job : Job) (sb s : SourceState) (kb k : SinkState) (f : FillingState) (d : DrainingState) (p : Local) (ending : Option FillEnd) (end : DrainEnd) → Pumps job sb s kb k f d p ending → StopsInTime job sb s
stopped job sb s kb k f d p ending end on = stops job (total on.h) (taken_as ending end) sb s on.in_time (run_taken job (total on.h) ending (end_code end) sb s on.taken)
