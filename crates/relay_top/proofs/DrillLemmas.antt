-- How a relay of a generated input into memory ends.
use Rattle.std.proofs.Common.{◌≡◌, ◌≢◌, ◌<◌, ◌≤◌, ◌+◌, ◌*◌, ◌^◌, ℕ, Bool, true, false, List, [], ◌++◌, length, Some, Result, Ok, Err, refl, sym, ap, ◌∙◌, subst, arith, inl, inr}
use Rattle.std.specs.Prelude.{IfOk}
use Rattle.std.specs.Io.KnownBytes.{Consumes}
use Rattle.std.proofs.lemmas.List.{append-nil, length-append}
use Rattle.edge_core.specs.Doors.{DoorsState}
use Rattle.edge_core.specs.Device.{HasRisen, SinkState, SourceState, Takes, TakesFront}
use Rattle.frame_model.specs.declared.framing.BadKind.{BadKind}
use Rattle.frame_model.specs.declared.framing.Framing.{Framing}
use Rattle.frame_grammar.specs.declared.job.Job.{Job}
use Rattle.relay_model.specs.declared.ending.FillEnd.{FillEnd}
use Rattle.relay_model.specs.declared.ending.FillEnd.TheVariants as taking
use Rattle.relay_model.specs.declared.ending.Outcome.{Outcome}
use Rattle.relay_model.specs.declared.ending.Outcome.TheVariants.{Clean, BadFrame, WriteFault}
use Rattle.relay_model.specs.declared.ending.Report.{Report}
use Rattle.frame_model.specs.Cut.{Bad, End, Open, Rest, Verdict}
use Rattle.relay_model.specs.declared.status.Status.{Status}
use Rattle.relay_model.specs.declared.status.Status.TheVariants as exit
use Rattle.relay_model.specs.Ending.{EndsEarly, is_at_end, outcome_of}
use Rattle.frame_model.specs.Spelling.{text}
use Rattle.frame_model.specs.Translation.{translation_between}
use Rattle.frame_grammar.specs.Job.{translation}
use Rattle.gen_core.specs.Generator.{input, payloads}
use Rattle.relay_model.specs.Run.{IsDropped, IsReported, outcome, translated}
use Rattle.relay_model.proofs.RunLemmas.{BadStays, all_taken, bad_where_gone, left_of, not_risen}
use Rattle.relay_top.specs.Drill.{Drills, EndsAs, HasDrillCause, HasGained, HasNoMemory, IsBad, IsBrokenOff, IsSummed, IsSummedUp, SumsUp, drilled, summary, summary_line}
use Rattle.relay_model.specs.Lines.{IsWritten, line_of, memory_line}
use Rattle.relay_model.specs.World.{KeepsInputs, TellsOnly, World, world}

abbrev pub IsSmall : Type 0
IsSmall = (framing : Framing) (seed number count : ℕ) → length (text framing (payloads seed number count)) ≤ 99 * count

abbrev pub HasNoRest : Type 0
HasNoRest = (job : Job) (seed count place : ℕ) → (translation job (input seed count job.input) true).verdict ≢ Rest place

abbrev pub IsNeverOpen : Type 0
IsNeverOpen = (input output : Framing) (max : ℕ) (x : List ℕ) → (translation_between input output max x true).verdict ≢ Open

-- what its verdict says of the end of a relay that read all
ends_at_end : (seed count : ℕ) (job : Job) (taken written : ℕ) (v : Verdict) → (drilled seed count job).verdict ≡ v → v ≢ Open → ((place : ℕ) → v ≢ Rest place)
    → taken ≡ length (input seed count job.input) → written ≡ length (drilled seed count job).text → EndsAs seed count job taken written (outcome_of false taking.End v)
ends_at_end seed count job taken written Open e never rest t w = absurd (never refl)
ends_at_end seed count job taken written End e never rest t w = (e, t, w)
ends_at_end seed count job taken written (Rest place) e never rest t w = absurd (rest place refl)
ends_at_end seed count job taken written (Bad place kind) e never rest t w = e

record Passed (seed count : ℕ) (job : Job) (taken dropped left written : List ℕ) (ending : FillEnd) : Type 0 where
  pub parts : input seed count job.input ≡ (taken ++ dropped) ++ left
  pub fits : length (input seed count job.input) < job.limit
  pub drop : IsDropped ending dropped
  pub end : ending ≡ taking.End → left ≡ []
  pub fault : ending ≡ taking.Fault → ⊥
  pub long : ending ≡ taking.Long → length taken ≡ job.limit
  pub gone : (n : ℕ) → ending ≡ taking.Gone n → EndsEarly (outcome_of false ending (translation job taken (is_at_end ending)).verdict)
  pub whole : written ≡ (translation job taken (is_at_end ending)).text

ends : (seed count : ℕ) (job : Job) (taken dropped left written : List ℕ) (ending : FillEnd) → BadStays → HasNoRest → IsNeverOpen → Passed seed count job taken dropped left written ending
    → EndsAs seed count job (length taken) (length written) (outcome_of false ending (translation job taken (is_at_end ending)).verdict)
ends seed count job taken dropped left written taking.End law no_rest no_open p =
    let same : input seed count job.input ≡ taken = all_taken (input seed count job.input) taken dropped left p.parts p.drop (p.end refl) in
    subst (λ (t : List ℕ). EndsAs seed count job (length t) (length written) (outcome_of false taking.End (translation job t true).verdict)) same
    (ends_at_end seed count job (length (input seed count job.input)) (length written) (drilled seed count job).verdict refl
    (no_open job.input job.output job.max (input seed count job.input)) (no_rest job seed count) refl
    (ap (λ (t : List ℕ). length t) (p.whole ∙ ap (λ (t : List ℕ). (translation job t true).text) (sym same))))
ends seed count job taken dropped left written taking.Fault law no_rest no_open p = absurd (p.fault refl)
ends seed count job taken dropped left written taking.Long law no_rest no_open p =
    let size : length (input seed count job.input) ≡ (length taken + length dropped) + length left = ap length p.parts ∙ length-append (taken ++ dropped) left ∙ ap (λ (k : ℕ). k + length left) (length-append taken dropped) in
    absurd (omega (arith, p.fits, size, p.long refl))
ends seed count job taken dropped left written (taking.Gone n) law no_rest no_open p =
    let bad = bad_where_gone n (translation job taken false).verdict (p.gone n refl) in
    let all : input seed count job.input ≡ taken ++ left = p.parts ∙ ap (λ (t : List ℕ). (taken ++ t) ++ left) p.drop ∙ ap (λ (t : List ℕ). t ++ left) (append-nil taken) in
    let stays : (drilled seed count job).verdict ≡ Bad bad.0 bad.1 = ap (λ (x : List ℕ). (translation job x true).verdict) all ∙ ap (λ t. t.verdict) (law job.input job.output job.max taken left true bad.0 bad.1 bad.2) ∙ bad.2 in
    subst (λ (v : Verdict). EndsAs seed count job (length taken) (length written) (outcome_of false (taking.Gone n) v)) (sym bad.2) stays

no_fault : (before after : ℕ) → before ≡ 0 → after ≡ 0 → HasRisen before after → ⊥
no_fault before after b a (inl rose) = omega (arith, b, a, rose)
no_fault before after b a (inr stands) = omega (arith, b, stands.0)

pub ended : BadStays → HasNoRest → IsNeverOpen → IsSmall → (seed count : ℕ) (job : Job) (report : Report) (sb sa : SourceState) (kb ka : SinkState)
    → sb.left ≡ Some (input seed count job.input) → sb.faults ≡ 0 → sa.faults ≡ 0 → job.limit ≡ 2 ^ 40 → count ≤ 1000000 → IsReported job report sb sa kb ka
    → EndsAs seed count job report.taken report.written report.outcome
ended law no_rest no_open small seed count job report sb sa kb ka given before after limit few r =
    subst (λ (o : Outcome). EndsAs seed count job report.taken report.written o) (sym r.ended)
    (subst (λ (n : ℕ). EndsAs seed count job n report.written (outcome job r.run)) (sym r.taken)
    (subst (λ (n : ℕ). EndsAs seed count job (length r.run.taken) n (outcome job r.run)) (sym r.written)
    (by r.run.write_failed refl)))
  where
    by : (failed : Bool) → r.run.write_failed ≡ failed → EndsAs seed count job (length r.run.taken) (length r.run.written) (outcome_of r.run.write_failed r.run.ending (translated job r.run).verdict)
    by true failed = subst (λ (b : Bool). EndsAs seed count job (length r.run.taken) (length r.run.written) (outcome_of b r.run.ending (translated job r.run).verdict)) (sym failed) tt
    by false passed =
        let all : Consumes (Some (input seed count job.input)) sa.left (r.run.taken ++ r.is_run.taken.dropped) = rw (← given) r.is_run.taken.given in
        let left = left_of (input seed count job.input) (r.run.taken ++ r.is_run.taken.dropped) sa.left all in
        subst (λ (b : Bool). EndsAs seed count job (length r.run.taken) (length r.run.written) (outcome_of b r.run.ending (translated job r.run).verdict)) (sym passed)
        (ends seed count job r.run.taken r.is_run.taken.dropped left.0 r.run.written r.run.ending law no_rest no_open (record {
          parts = left.2;
          fits = omega (arith, small job.input seed 0 count, limit, few);
          drop = r.is_run.taken.dropping;
          end = λ is. rw left.1 at (r.is_run.taken.end is);
          fault = λ is. no_fault sb.faults sa.faults before after (r.is_run.taken.fault is);
          long = r.is_run.taken.long;
          gone = rw passed at r.is_run.gone;
          whole = r.is_run.passed_on.whole passed;
        }))

-- ---- what follows for a drill

not_both : (v : Verdict) (place : ℕ) (kind : BadKind) → v ≡ End → v ≡ Bad place kind → ⊥
not_both v place kind e b = absurd cc

pub drill_caused : (seed count : ℕ) (job : Job) (status : Status) (was is : World) → Drills seed count job status was is → HasDrillCause seed count job status was.sink is.sink
drill_caused seed count job status was is (HasNoMemory s untouched) = record {
  few = inr (inr (inr s));
  bad = λ two. absurd cc;
  shows_bad = λ place kind v. inr s;
  write_fault = λ five. absurd cc;
  sink_failed = λ rose. absurd (omega (arith, rose, ap (λ (x : SinkState). x.faults) untouched.tells.sink));
}
drill_caused seed count job status was is (IsBad place kind v s untouched) = record {
  few = inr (inl s);
  bad = λ two. (place, kind, v);
  shows_bad = λ other how w. inl s;
  write_fault = λ five. absurd cc;
  sink_failed = λ rose. absurd (omega (arith, rose, ap (λ (x : SinkState). x.faults) untouched.tells.sink));
}
drill_caused seed count job status was is (IsSummed v s keeps takes told) = record {
  few = inl s;
  bad = λ two. absurd cc;
  shows_bad = λ place kind w. absurd (not_both (drilled seed count job).verdict place kind v w);
  write_fault = λ five. absurd cc;
  sink_failed = λ rose. absurd (omega (arith, rose, takes.unfailed));
}
drill_caused seed count job status was is (IsBrokenOff written v s keeps front line) = record {
  few = inr (inr (inl s));
  bad = λ two. absurd cc;
  shows_bad = λ place kind w. absurd (not_both (drilled seed count job).verdict place kind v w);
  write_fault = λ five. front.risen;
  sink_failed = λ rose. s;
}

pub drill_gained : (seed count : ℕ) (job : Job) (status : Status) (was is : World) → Drills seed count job status was is → HasGained seed count job status was.sink is.sink
drill_gained seed count job status was is (HasNoMemory s untouched) = record {
  summed = λ zero. absurd cc;
  broken_off = λ five. absurd cc;
  nothing = λ which. untouched.tells.sink;
}
drill_gained seed count job status was is (IsBad place kind v s untouched) = record {
  summed = λ zero. absurd cc;
  broken_off = λ five. absurd cc;
  nothing = λ which. untouched.tells.sink;
}
drill_gained seed count job status was is (IsSummed v s keeps takes told) = record {
  summed = λ zero. takes;
  broken_off = λ five. absurd cc;
  nothing = λ which. elim which [ inl two ↦ absurd cc | inr six ↦ absurd cc ];
}
drill_gained seed count job status was is (IsBrokenOff written v s keeps front line) = record {
  summed = λ zero. absurd cc;
  broken_off = λ five. (written, front);
  nothing = λ which. elim which [ inl two ↦ absurd cc | inr six ↦ absurd cc ];
}

pub drill_completed : (seed count : ℕ) (job : Job) (status : Status) (was is : World) → Drills seed count job status was is → SumsUp seed count job status was.sink is.sink
drill_completed seed count job status was is (HasNoMemory s untouched) sound lawful = inr s
drill_completed seed count job status was is (IsBad place kind v s untouched) sound lawful = absurd (not_both (drilled seed count job).verdict place kind lawful v)
drill_completed seed count job status was is (IsSummed v s keeps takes told) sound lawful = inl (s, takes)
drill_completed seed count job status was is (IsBrokenOff written v s keeps front line) sound lawful = absurd (not_risen was.sink.faults is.sink.faults sound front.risen)

pub drill_whole : (seed count : ℕ) (job : Job) (status : Status) (was is : World) → Drills seed count job status was is → status ≡ exit.Clean → IsSummedUp seed count job was.sink is.sink
drill_whole seed count job status was is (HasNoMemory s untouched) clean = absurd cc
drill_whole seed count job status was is (IsBad place kind v s untouched) clean = absurd cc
drill_whole seed count job status was is (IsSummed v s keeps takes told) clean = record { lawful = v; summed = takes }
drill_whole seed count job status was is (IsBrokenOff written v s keeps front line) clean = absurd cc

pub drill_keeps : (seed count : ℕ) (job : Job) (status : Status) (was is : World) → Drills seed count job status was is → KeepsInputs was is
drill_keeps seed count job status was is (HasNoMemory s untouched) = record { source = untouched.tells.source; doors = untouched.doors }
drill_keeps seed count job status was is (IsBad place kind v s untouched) = record { source = untouched.tells.source; doors = untouched.doors }
drill_keeps seed count job status was is (IsSummed v s keeps takes told) = keeps
drill_keeps seed count job status was is (IsBrokenOff written v s keeps front line) = keeps

pub drill_untouched : (seed count : ℕ) (job : Job) (status : Status) (was is : World) → Drills seed count job status was is → status ≡ exit.OutOfMemory → TellsOnly memory_line was is
drill_untouched seed count job status was is (HasNoMemory s untouched) memory = untouched
drill_untouched seed count job status was is (IsBad place kind v s untouched) memory = absurd cc
drill_untouched seed count job status was is (IsSummed v s keeps takes told) memory = absurd cc
drill_untouched seed count job status was is (IsBrokenOff written v s keeps front line) memory = absurd cc

-- ---- what a drill did

pub all_ended : {E : Type 0} → BadStays → HasNoRest → IsNeverOpen → IsSmall → (seed count : ℕ) (job : Job) (r : Result Report E) (sb sa : SourceState) (kb ka : SinkState)
    → sb.left ≡ Some (input seed count job.input) → sb.faults ≡ 0 → sa.faults ≡ 0 → job.limit ≡ 2 ^ 40 → count ≤ 1000000 → IfOk r (λ report. IsReported job report sb sa kb ka)
    → IfOk r (λ report. EndsAs seed count job report.taken report.written report.outcome)
all_ended law no_rest no_open small seed count job (Ok report) sb sa kb ka given before after limit few reported = ended law no_rest no_open small seed count job report sb sa kb ka given before after limit few reported
all_ended law no_rest no_open small seed count job (Err e) sb sa kb ka given before after limit few reported = tt

same_summary : (seed count taken written : ℕ) (job : Job) → EndsAs seed count job taken written Clean → summary_line count taken written ≡ summary seed count job
same_summary seed count taken written job ends = ap (λ (n : ℕ). summary_line count n written) ends.1 ∙ ap (λ (n : ℕ). summary_line count (length (input seed count job.input)) n) ends.2

module _ (seed count : ℕ) (job : Job) (source : SourceState) (doors : DoorsState) (kb ka fb fa : SinkState) where
  abbrev Drilled : Status → Type 0
  Drilled status = Drills seed count job status (world source doors kb fb) (world source doors ka fa)

  pub summed : (taken written : ℕ) (line : List ℕ) → line ≡ summary_line count taken written → Takes kb line ka → fa ≡ fb → EndsAs seed count job taken written Clean → Drilled exit.Clean
  summed taken written line same takes untold ends =
      IsSummed ends.0 refl (record { source = refl; doors = refl }) (subst (λ (t : List ℕ). Takes kb t ka) (same ∙ same_summary seed count taken written job ends) takes) untold

  pub broken_off : (taken written : ℕ) (line : List ℕ) (n : ℕ) (status : Status) → line ≡ summary_line count taken written → TakesFront kb line n ka → status ≡ exit.WriteFault → IsWritten (line_of WriteFault 0 n) fb fa
      → EndsAs seed count job taken written Clean → Drilled status
  broken_off taken written line n status same front failed told ends =
      IsBrokenOff n ends.0 failed (record { source = refl; doors = refl }) (subst (λ (t : List ℕ). TakesFront kb t n ka) (same ∙ same_summary seed count taken written job ends) front) told

  pub no_room : (status : Status) → status ≡ exit.OutOfMemory → ka ≡ kb → IsWritten memory_line fb fa → Drilled status
  no_room status memory kept told = HasNoMemory memory (record { tells = record { source = refl; sink = kept; told = told }; doors = refl })

  -- the line of a bad frame doesn't tell what was moved
  pub is_bad : (taken written place : ℕ) (status : Status) (kind : BadKind) (told : List ℕ) → EndsAs seed count job taken written (BadFrame place kind) → status ≡ exit.BadFrame → ka ≡ kb → IsWritten told fb fa
      → told ≡ line_of (BadFrame place kind) taken written → Drilled status
  is_bad taken written place status kind told ends bad kept is_told says =
      IsBad place kind ends bad (record { tells = record { source = refl; sink = kept; told = subst (λ (t : List ℕ). IsWritten t fb fa) says is_told }; doors = refl })
