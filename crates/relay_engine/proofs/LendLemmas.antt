-- What a lend is, and what the frames of it come to in all that is committed.
use Rattle.std.specs.List.{AllByRecursion, position_or_len}
use Rattle.std.proofs.Common.{not, ◌≡◌, ◌≢◌, ◌<◌, ◌≤◌, ◌+◌, ◌-◌, ◌^◌, IsNone, position, ℕ, Bool, true, false, cond, List, [], ◌∷◌, ◌++◌, length, take, drop, Option, Some, None, refl, sym, ap, ◌∙◌, subst, append-nil, append_assoc, arith, add-zero, inl, inr}
use Rattle.std.specs.Prelude.{is_none, max, unwrap_or}
use Rattle.std.proofs.lemmas.Grind.{flat_map-append}
use mathlib.Core.List.{IsPrefix}
use Rattle.std.proofs.lemmas.Bool.Decides.{Decides-eqb}
use Rattle.std.proofs.lemmas.Bool.{cases_Bool, cases_lt}
use Rattle.std.proofs.lemmas.List.{length-append, length-drop, length-take, take-append-drop, drop-append-le, drop-drop, take-append-le, take_all}
use Rattle.frame_model.specs.declared.framing.Framing.{Framing}
use Rattle.frame_grammar.specs.declared.job.Job.{Job}
use Rattle.frame_model.specs.Spelling.{is_line_feed, spelling, text as text_of}
use Rattle.frame_model.specs.Cut.{Verdict, Open, Rest, Bad, moved}
use Rattle.frame_model.specs.Translation.{behind}
use Rattle.frame_grammar.specs.Job.{translation}
use Rattle.relay_model.specs.Ending.{frames_written}
use Rattle.frame_model.proofs.EndLemmas.{not_open}
use Rattle.frame_model.proofs.FrameLemmas.{spelling_some}
use Rattle.relay_model.specs.Run.{frames_in, payloads_of}
use Rattle.pipe_core.specs.declared.reply.ReadReply.TheVariants as read
use Rattle.pipe_core.specs.History.{Call, Run, Commit, EndWriter, Read, Advance, EndReader, CancelRead, CancelFlush, bytes_of, reader_end, writer_end, seat_of}
use Rattle.pipe_core.specs.Progress.{total, consumed, examined, held, canceled_read}
use Rattle.pipe_core.specs.Reads.{read_is_ready, reply_to_read}
use Rattle.pipe_core.specs.Lends.{lend}
use Rattle.pipe_core.specs.Legal.{IsLegal}
use Rattle.span_seq.proofs.ScanLemmas.{at_none, position_past, stopped}
use Rattle.std.proofs.lemmas.List.Sums.{prefix_len-le-length}
use Rattle.pipe_core.proofs.OrderLemmas.{ordered, pending_tells, plain_seen_all, read_lends, total_commit}
use Rattle.edge_core.specs.Device.{SinkState}
use Rattle.relay_engine.specs.Frames.{Breaks, Drains, Passes, StopsAt, capped, verdict_of}
use Rattle.relay_engine.specs.declared.frames.LendPassed.{LendPassed}
use Rattle.relay_engine.specs.declared.frames.Broken.{Broken}
use Rattle.relay_engine.specs.Drainer.{DrainState, IsDrained, is_success, is_whole, looked_at, translated}
use Rattle.relay_engine.specs.Passing.{IsKnown, added, end_at}
use Rattle.relay_engine.specs.Sides.{Concludes}
use Rattle.relay_engine.specs.declared.drain_end.DrainEnd.TheVariants as ends
use Rattle.relay_engine.specs.declared.frames.Stop.{Stop}
use Rattle.relay_engine.specs.declared.frames.Stop.TheVariants as stops
use Rattle.relay_engine.proofs.FrameLemmas.{passed_text, passes_more, passes_within}
use Rattle.relay_engine.proofs.BoundLemmas.{listed_all, passes_few}
use Rattle.relay_engine.proofs.CountLemmas.{frames_all, frames_before}
use Rattle.relay_engine.proofs.LaterLemmas.{none_is}

-- ---- what is said by a reply

pub lent_is_held : (h : List Call) (lent : List ℕ) → lend (Read 0 ∷ h) ≡ Some lent → lent ≡ held h
lent_is_held h lent e = read_lends (read_is_ready 0 h) (held h) lent e

ready_if : (b canceled canceled' : Bool) (ended ended' : Option ℕ) (len len' n : ℕ) → cond b (read.Ready canceled ended len) (read.Pending n len) ≡ read.Ready canceled' ended' len' → (ended' ≡ ended) × (len' ≡ len)
ready_if true canceled canceled' ended ended' len len' n e = (cc, cc)
ready_if false canceled canceled' ended ended' len len' n e = absurd cc

pub ready_says : (h : List Call) (canceled : Bool) (ended : Option ℕ) (len : ℕ) → reply_to_read 0 h ≡ read.Ready canceled ended len → (ended ≡ writer_end h) × (len ≡ length (held h))
ready_says h canceled ended len e = ready_if (read_is_ready 0 h) (canceled_read h) canceled (writer_end h) ended (length (held h)) len (examined h) e

pub pending_says : (h : List Call) (n count : ℕ) → IsLegal h → reply_to_read 0 h ≡ read.Pending n count → examined h ≡ length (total h)
pending_says h n count legal e = sym (pending_tells 0 h n count e).1 ∙ plain_seen_all h n count legal e

-- ---- all that is committed, behind what was passed over

pub so_far : (d : DrainState) (h : List Call) (text : List ℕ) (at_end : Bool) → IsDrained d h text → Passes d.job (total h) at_end d.place d.frames text
so_far d h text at_end drained =
    subst (λ (x : List ℕ). Passes d.job x at_end d.place d.frames text) (take-append-drop (examined h) (total h)) (passes_within d.job (looked_at h) (drop (examined h) (total h)) at_end d.place d.frames text drained.passes)

rest_of : (d : DrainState) (h : List Call) (text : List ℕ) → IsDrained d h text → held h ≡ drop d.place (total h)
rest_of d h text drained = ap (λ (n : ℕ). drop n (total h)) (sym drained.place)

-- the frames of a lend behind them
pub passed_all : (d : DrainState) (h : List Call) (text gain : List ℕ) (at_end : Bool) (n i : ℕ) → IsDrained d h text → Passes d.job (held h) at_end n i gain → Passes d.job (total h) at_end (d.place + n) (d.frames + i) (text ++ gain)
passed_all d h text gain at_end n i drained more =
    passes_more d.job (total h) at_end d.place n d.frames i text gain (so_far d h text at_end drained) (subst (λ (x : List ℕ). Passes d.job x at_end n i gain) (rest_of d h text drained) more)

pub held_is : (h : List Call) → IsLegal h → consumed h + length (held h) ≡ length (total h)
held_is h legal = omega (arith, length-drop (consumed h) (total h), (ordered h legal).consumed_in)

-- ---- the verdict

verdict_moves : (stop : Stop) (n : ℕ) → moved n (verdict_of stop 0) ≡ verdict_of stop n
verdict_moves stops.More n = refl
verdict_moves stops.End n = refl
verdict_moves stops.Rest n = ap (λ (k : ℕ). Rest k) (add-zero n)
verdict_moves (stops.Bad kind) n = ap (λ (k : ℕ). Bad k kind) (add-zero n)

-- what was written is all that is to be written, and the verdict is that for which it stopped
pub said_all : (job : Job) (x text : List ℕ) (at_end : Bool) (n i : ℕ) (stop : Stop) → Passes job x at_end n i text → translation job (drop n x) at_end ≡ record { text = []; verdict = verdict_of stop 0 }
    → translation job x at_end ≡ record { text = text; verdict = verdict_of stop n }
said_all job x text at_end n i stop passes told =
    passed_text job x at_end n i text passes ∙ ap (λ t. behind text n t) told
    ∙ ap (λ (v : Verdict). record { text = text ++ []; verdict = v }) (verdict_moves stop n)
    ∙ ap (λ (t : List ℕ). record { text = t; verdict = verdict_of stop n }) (append-nil text)

pub told_behind : (d : DrainState) (h : List Call) (text : List ℕ) (at_end : Bool) (n : ℕ) (stop : Stop) → IsDrained d h text → StopsAt d.job (drop n (held h)) at_end stop
    → translation d.job (drop (d.place + n) (total h)) at_end ≡ record { text = []; verdict = verdict_of stop 0 }
told_behind d h text at_end n stop drained stopped =
    ap (λ (x : List ℕ). translation d.job x at_end) (sym (ap (λ (x : List ℕ). drop n x) (rest_of d h text drained) ∙ drop-drop n d.place (total h))) ∙ stopped.told

-- ---- the numbers

pub capped_small : (n : ℕ) → n ≤ 2 ^ 62 → capped n ≡ n
capped_small n small = omega (arith, small)

pub capped_sum : (xs ys : List ℕ) (a b : ℕ) → a ≡ capped (length xs) → b ≡ capped (length ys) → capped (a + b) ≡ capped (length (xs ++ ys))
capped_sum xs ys a b first second = omega (arith, first, second, length-append xs ys)

nothing_spelt : (f : Framing) (ps : List (List ℕ)) → length (text_of f ps) ≡ 0 → ps ≡ []
nothing_spelt f [] none = refl
nothing_spelt f (p ∷ ps) none = absurd (omega (arith, none, length-append (spelling f p) (text_of f ps), spelling_some f p))

-- every frame that is to be written is whole
pub frames_whole : (job : Job) (x text : List ℕ) (at_end : Bool) (n i : ℕ) (v : Verdict) → Passes job x at_end n i text → translation job x at_end ≡ record { text = text; verdict = v } → frames_in job x at_end text ≡ i
frames_whole job x text at_end n i v passes told =
    let ps = passes.payloads in
    let qs = payloads_of job (drop n x) at_end in
    let all = listed_all job x text at_end n i passes in
    let texts : text ≡ text_of job.output ps ++ text_of job.output qs =
    sym (ap (λ t. t.text) told) ∙ ap (λ (rs : List (List ℕ)). text_of job.output rs) all ∙ flat_map-append (spelling job.output) ps qs in
    let none = nothing_spelt job.output qs (omega (arith, ap length texts, ap length passes.spelt, length-append (text_of job.output ps) (text_of job.output qs))) in
    let same : payloads_of job x at_end ≡ ps = all ∙ ap (λ (rs : List (List ℕ)). ps ++ rs) none ∙ append-nil ps in
    ap (λ (rs : List (List ℕ)). frames_written job.output rs text (length rs)) same
    ∙ ap (λ (t : List ℕ). frames_written job.output ps t (length ps)) passes.spelt
    ∙ frames_all job.output ps ∙ sym passes.counted

-- one was broken off, and is the first that isn't
pub frames_partial : (job : Job) (x text : List ℕ) (at_end : Bool) (n i : ℕ) (next part : List ℕ) (others : List (List ℕ)) → Passes job x at_end n i text → payloads_of job (drop n x) at_end ≡ next ∷ others
    → length part < length (spelling job.output next) → frames_in job x at_end (text ++ part) ≡ i
frames_partial job x text at_end n i next part others passes stands short =
    let ps = passes.payloads in
    let all = listed_all job x text at_end n i passes ∙ ap (λ (rs : List (List ℕ)). ps ++ rs) stands in
    ap (λ (rs : List (List ℕ)). frames_written job.output rs (text ++ part) (length rs)) all
    ∙ ap (λ (t : List ℕ). frames_written job.output (ps ++ next ∷ others) (t ++ part) (length (ps ++ next ∷ others))) passes.spelt
    ∙ frames_before job.output ps others next part short ∙ sym passes.counted

-- what was written of it is a front of what is to be written
pub front_partial : (job : Job) (x text : List ℕ) (at_end : Bool) (n i : ℕ) (next part : List ℕ) (others : List (List ℕ)) → Passes job x at_end n i text → payloads_of job (drop n x) at_end ≡ next ∷ others
    → IsPrefix part (spelling job.output next) → IsPrefix (text ++ part) (translation job x at_end).text
front_partial job x text at_end n i next part others passes stands front =
    let ps = passes.payloads in
    let out = job.output in
    let all : (translation job x at_end).text ≡ text ++ (spelling out next ++ text_of out others) =
    ap (λ (rs : List (List ℕ)). text_of out rs) (listed_all job x text at_end n i passes ∙ ap (λ (rs : List (List ℕ)). ps ++ rs) stands)
    ∙ flat_map-append (spelling out) ps (next ∷ others) ∙ ap (λ (t : List ℕ). t ++ (spelling out next ++ text_of out others)) (sym passes.spelt) in (
      front.0 ++ text_of out others,
      append_assoc text part (front.0 ++ text_of out others)
          ∙ ap (λ (t : List ℕ). text ++ t) (sym (append_assoc part front.0 (text_of out others)) ∙ ap (λ (t : List ℕ). t ++ text_of out others) front.1)
          ∙ sym all,
    )

-- ---- the state behind a step

legal_total : (h : List Call) → IsLegal h → length (total h) ≤ 2 ^ 62
legal_total h legal = (ordered h legal).total_in

place_is : (d : DrainState) (h : List Call) (text gain : List ℕ) (at_end : Bool) (n i w r : ℕ) → IsLegal h → Passes d.job (total h) at_end (d.place + n) (d.frames + i) (text ++ gain) → (added d n i w r).place ≡ d.place + n
place_is d h text gain at_end n i w r legal passes = capped_small (d.place + n) (omega (arith, passes.within, legal_total h legal))

pub frames_are : (d : DrainState) (h : List Call) (text gain : List ℕ) (at_end : Bool) (n i w r : ℕ) → IsLegal h → Passes d.job (total h) at_end (d.place + n) (d.frames + i) (text ++ gain) → (added d n i w r).frames ≡ d.frames + i
frames_are d h text gain at_end n i w r legal passes = capped_small (d.frames + i) (omega (arith, passes_few d.job (total h) (text ++ gain) at_end (d.place + n) (d.frames + i) passes, legal_total h legal))

passes_at : (job : Job) (x text : List ℕ) (at_end : Bool) (n n' i i' : ℕ) → n' ≡ n → i' ≡ i → Passes job x at_end n i text → Passes job x at_end n' i' text
passes_at job x text at_end n n' i i' same_n same_i passes =
    subst (λ (k : ℕ). Passes job x at_end k i' text) (sym same_n) (subst (λ (k : ℕ). Passes job x at_end n k text) (sym same_i) passes)

-- what was written of a lend, and why no more was
pub record Wrote (job : Job) (x : List ℕ) (at_end : Bool) (n i w : ℕ) (stop : Stop) (text : List ℕ) : Type 0 where
  pub passes : Passes job x at_end n i text
  pub counted : w ≡ capped (length text)
  pub stopped : StopsAt job (drop n x) at_end stop

-- the frames of a lend behind which more is wanted
pub passed_on : (d : DrainState) (h : List Call) (text gain : List ℕ) (n i w r : ℕ) → r ≡ length (held h) - n → IsLegal h → IsDrained d h text → Wrote d.job (held h) false n i w stops.More gain
    → IsDrained (added d n i w r) (Advance n (length (held h)) ∷ Read 0 ∷ h) (text ++ gain)
passed_on d h text gain n i w r left legal drained drains =
    let len = length (held h) in
    let all = text ++ gain in
    let passes = passed_all d h text gain false n i drained drains.passes in
    let place = place_is d h text gain false n i w r legal passes in
    let frames = frames_are d h text gain false n i w r legal passes in
    let whole = held_is h legal in
    let seen : take (max (examined h) (consumed h + len)) (total h) ≡ total h = take_all (max (examined h) (consumed h + len)) (total h) (omega (arith, whole)) in
    let told = told_behind d h text false n stops.More drained drains.stopped in
    let rest : drop (added d n i w r).place (take (max (examined h) (consumed h + len)) (total h)) ≡ drop (d.place + n) (total h) = ap (λ (k : ℕ). drop k (take (max (examined h) (consumed h + len)) (total h))) place ∙ ap (λ (x : List ℕ). drop (d.place + n) x) seen in
    let behind_it : drop (d.place + n) (total h) ≡ drop n (held h) = sym (ap (λ (x : List ℕ). drop n x) (rest_of d h text drained) ∙ drop-drop n d.place (total h)) in
    record {
      place = place ∙ ap (λ (k : ℕ). k + n) drained.place;
      passes = subst (λ (x : List ℕ). Passes d.job x false (added d n i w r).place (added d n i w r).frames all) (sym seen) (passes_at d.job (total h) all false (d.place + n) (added d n i w r).place (d.frames + i) (added d n i w r).frames place frames passes);
      rest = ap (λ (x : List ℕ). translation d.job x false) rest ∙ told;
      short = omega (arith, ap length (rest ∙ behind_it), drains.stopped.short refl);
      counted = capped_sum text gain d.written w drained.counted drains.counted;
      known = omega (arith, left, ap length (rest ∙ behind_it), length-drop n (held h));
      unended = λ line. subst (λ (x : List ℕ). IsNone (position is_line_feed x)) (sym (rest ∙ behind_it)) (drains.stopped.unended refl line);
    }

-- ---- an end

success_is : (ended : Option ℕ) → is_success ended ≡ true → ended ≡ Some 0
success_is None yes_so = absurd cc
success_is (Some code) yes_so = ap (λ (k : ℕ). Some k) ((Decides-eqb code 0).0 yes_so)

failure_is : (code : ℕ) → is_success (Some code) ≡ false → code ≢ 0
failure_is code not_so zero_code = let same = (Decides-eqb code 0).1 zero_code in let both = rw same at not_so in absurd cc

pub some_is : {A : Type 0} (a b : A) → Some a ≡ Some b → a ≡ b
some_is a b e = ap (λ o. unwrap_or o a) e

pub at_end_so : (job : Job) (ended : Option ℕ) (rest : List ℕ) (v : Verdict) → translation job rest (is_success ended) ≡ record { text = []; verdict = v } → ((translation job rest false).verdict ≢ v) → ended ≡ Some 0
at_end_so job ended rest v told never = elim (cases_Bool (is_success ended)) [
  | inl whole ↦ success_is ended whole
  | inr part ↦ absurd (never (ap (λ t. t.verdict) (sym (ap (λ (b : Bool). translation job rest b) part) ∙ told)))
]

pub open_so : (job : Job) (code : ℕ) (rest : List ℕ) → translation job rest (is_success (Some code)) ≡ record { text = []; verdict = Open } → code ≢ 0
open_so job code rest told = elim (cases_Bool (is_success (Some code))) [
  | inl whole ↦ absurd (not_open job.input job.output job.max rest (ap (λ t. t.verdict) (sym (ap (λ (b : Bool). translation job rest b) whole) ∙ told)))
  | inr part ↦ failure_is code part
]

-- where nothing ends, more is wanted, and the writer goes on
pub goes_on_so : (stop : Stop) (ended : Option ℕ) (place : ℕ) → end_at stop ended place ≡ None → (stop ≡ stops.More) × (ended ≡ None)
goes_on_so (stops.Bad kind) ended place at = absurd cc
goes_on_so stops.Rest ended place at = absurd cc
goes_on_so stops.End ended place at = absurd cc
goes_on_so stops.More (Some code) place at = absurd cc
goes_on_so stops.More None place at = (refl, refl)

pub record EndFacts (d : DrainState) (h : List Call) (text gain : List ℕ) (n i w r : ℕ) (stop : Stop) : Type 0 where
  pub place : (added d n i w r).place ≡ d.place + n
  pub passes : Passes d.job (total h) (is_whole h) (added d n i w r).place (added d n i w r).frames (text ++ gain)
  pub said : translated d.job h ≡ record { text = text ++ gain; verdict = verdict_of stop (added d n i w r).place }
  pub frames : (added d n i w r).frames ≡ frames_in d.job (total h) (is_whole h) (text ++ gain)
  pub written : (added d n i w r).written ≡ capped (length (text ++ gain))

pub end_facts : (d : DrainState) (h : List Call) (text gain : List ℕ) (n i w r : ℕ) (stop : Stop) → IsLegal h → IsDrained d h text → Wrote d.job (held h) (is_whole h) n i w stop gain → EndFacts d h text gain n i w r stop
end_facts d h text gain n i w r stop legal drained wrote =
    let at_end = is_whole h in
    let all = text ++ gain in
    let passes = passed_all d h text gain at_end n i drained wrote.passes in
    let place = place_is d h text gain at_end n i w r legal passes in
    let frames = frames_are d h text gain at_end n i w r legal passes in
    let said = said_all d.job (total h) all at_end (d.place + n) (d.frames + i) stop passes (told_behind d h text at_end n stop drained wrote.stopped) in
    record {
      place = place;
      passes = passes_at d.job (total h) all at_end (d.place + n) (added d n i w r).place (d.frames + i) (added d n i w r).frames place frames passes;
      said = said ∙ ap (λ (k : ℕ). record { text = all; verdict = verdict_of stop k }) (sym place);
      frames = frames ∙ sym (frames_whole d.job (total h) all at_end (d.place + n) (d.frames + i) (verdict_of stop (d.place + n)) passes said);
      written = capped_sum text gain d.written w drained.counted wrote.counted;
    }

-- a frame of the lend was broken off
pub write_failed : (d : DrainState) (h : List Call) (text lent : List ℕ) (ended : Option ℕ) (a b : SinkState) (broken : Broken) → IsLegal h → IsDrained d h text → lent ≡ held h → ended ≡ writer_end h → (breaks : Breaks d.job lent (is_success ended) a broken b)
    → Concludes d.job (added d 0 broken.frames broken.written d.known).frames (added d 0 broken.frames broken.written d.known).written (Read 0 ∷ h) (text ++ (breaks.text ++ breaks.part)) ends.SinkFault
write_failed d h text lent ended a b broken legal drained same code breaks =
    let at_end = is_whole h in
    let over = subst (λ (x : List ℕ). Passes d.job x at_end breaks.len broken.frames breaks.text) same (subst (λ (o : Option ℕ). Passes d.job lent (is_success o) breaks.len broken.frames breaks.text) code breaks.passes) in
    let passes = passed_all d h text breaks.text at_end breaks.len broken.frames drained over in
    let all : (text ++ breaks.text) ++ breaks.part ≡ text ++ (breaks.text ++ breaks.part) = append_assoc text breaks.text breaks.part in
    let behind_it : drop breaks.len lent ≡ drop (d.place + breaks.len) (total h) = ap (λ (x : List ℕ). drop breaks.len x) (same ∙ rest_of d h text drained) ∙ drop-drop breaks.len d.place (total h) in
    let stands : payloads_of d.job (drop (d.place + breaks.len) (total h)) at_end ≡ breaks.next ∷ breaks.others =
    ap (λ (x : List ℕ). payloads_of d.job x at_end) (sym behind_it) ∙ ap (λ (o : Option ℕ). payloads_of d.job (drop breaks.len lent) (is_success o)) (sym code) ∙ breaks.stands_next in
    record {
      front = subst (λ (t : List ℕ). IsPrefix t (translated d.job h).text) all (front_partial d.job (total h) (text ++ breaks.text) at_end (d.place + breaks.len) (d.frames + broken.frames) breaks.next breaks.part breaks.others passes stands breaks.is_part);
      whole = λ passed. absurd cc;
      verdict = λ passed. absurd cc;
      ended = tt;
      passed = λ passed. absurd cc;
      frames_told =
          frames_are d h text breaks.text at_end breaks.len broken.frames broken.written d.known legal passes
          ∙ sym (frames_partial d.job (total h) (text ++ breaks.text) at_end (d.place + breaks.len) (d.frames + broken.frames) breaks.next breaks.part breaks.others passes stands breaks.short)
          ∙ ap (λ (t : List ℕ). frames_in d.job (total h) at_end t) all;
      written_told = capped_sum text (breaks.text ++ breaks.part) d.written broken.written drained.counted breaks.counted;
    }

pub wrote_all : (job : Job) (lent x : List ℕ) (ended ended' : Option ℕ) (a b : SinkState) (drained : LendPassed) → lent ≡ x → ended ≡ ended' → (drains : Drains job lent (is_success ended) a drained b)
    → Wrote job x (is_success ended') drained.passed drained.frames drained.written drained.stop drains.text
wrote_all job lent x ended ended' a b drained same code drains =
    subst (λ (y : List ℕ). Wrote job y (is_success ended') drained.passed drained.frames drained.written drained.stop drains.text) same
    (subst (λ (o : Option ℕ). Wrote job lent (is_success o) drained.passed drained.frames drained.written drained.stop drains.text) code
    (record { passes = drains.passes; counted = drains.counted; stopped = drains.stopped }))

-- ---- between the steps

pub behind_commit : (d : DrainState) (h : List Call) (text : List ℕ) (runs : List Run) → IsLegal h → IsDrained d h text → IsDrained d (Commit runs ∷ h) text
behind_commit d h text runs legal drained =
    let same : looked_at (Commit runs ∷ h) ≡ looked_at h =
    ap (λ (x : List ℕ). take (examined h) x) (total_commit runs h) ∙ take-append-le (examined h) (total h) (cond (is_none (reader_end h)) (bytes_of runs) []) (ordered h legal).examined_in in
    record {
      place = drained.place;
      passes = subst (λ (x : List ℕ). Passes d.job x false d.place d.frames text) (sym same) drained.passes;
      rest = ap (λ (x : List ℕ). translation d.job (drop d.place x) false) same ∙ drained.rest;
      short = omega (arith, drained.short, ap (λ (x : List ℕ). length (drop d.place x)) same);
      counted = drained.counted;
      known = omega (arith, drained.known, ap (λ (x : List ℕ). length (drop d.place x)) same);
      unended = λ line. subst (λ (x : List ℕ). IsNone (position is_line_feed (drop d.place x))) (sym same) (drained.unended line);
    }

pub behind_call : (d : DrainState) (h : List Call) (text : List ℕ) (call : Call) → seat_of call ≢ 1 → IsLegal h → IsDrained d h text → IsDrained d (call ∷ h) text
behind_call d h text (Commit runs) other legal drained = behind_commit d h text runs legal drained
behind_call d h text (EndWriter code) other legal drained = record { place = drained.place; passes = drained.passes; rest = drained.rest; short = drained.short; counted = drained.counted; known = drained.known; unended = drained.unended }
behind_call d h text (Read n) other legal drained = absurd (other refl)
behind_call d h text (Advance c e) other legal drained = absurd (other refl)
behind_call d h text (EndReader code) other legal drained = absurd (other refl)
behind_call d h text CancelRead other legal drained = record { place = drained.place; passes = drained.passes; rest = drained.rest; short = drained.short; counted = drained.counted; known = drained.known; unended = drained.unended }
behind_call d h text CancelFlush other legal drained = record { place = drained.place; passes = drained.passes; rest = drained.rest; short = drained.short; counted = drained.counted; known = drained.known; unended = drained.unended }

pub behind_others : (d : DrainState) (h : List Call) (text : List ℕ) (calls : List Call) → AllByRecursion (λ call. seat_of call ≢ 1) calls → IsLegal (calls ++ h) → IsDrained d h text → IsDrained d (calls ++ h) text
behind_others d h text [] others legal drained = drained
behind_others d h text (call ∷ calls) others legal drained =
    behind_call d (calls ++ h) text call others.0 legal.0 (behind_others d h text calls others.1 legal.0 drained)

-- ---- what is known of a lend

none_in_front : (x y : List ℕ) (k : ℕ) → k ≤ length x → IsNone (position is_line_feed x) → IsNone (position is_line_feed (take k (x ++ y)))
none_in_front x y k within none =
    let all = at_none is_line_feed x (none_is (position is_line_feed x) none) in
    let front : take k (x ++ y) ≡ take k x = take-append-le k x y within in
    subst (λ (z : List ℕ). IsNone (position is_line_feed z)) (sym front)
    (subst (λ (o : Option ℕ). IsNone o) (sym (position_past is_line_feed (take k x) (front_len x k within all))) refl)
  where
    front_len : (x : List ℕ) (k : ℕ) → k ≤ length x → position_or_len is_line_feed x ≡ length x → position_or_len is_line_feed (take k x) ≡ length (take k x)
    front_len x k within all = elim (cases_lt (position_or_len is_line_feed (take k x)) (length (take k x))) [
      | inl lt ↦
          let same : position_or_len is_line_feed x ≡ position_or_len is_line_feed (take k x) =
          ap (λ (z : List ℕ). position_or_len is_line_feed z) (sym (take-append-drop k x)) ∙ stopped is_line_feed (take k x) (drop k x) lt in
          absurd (omega (arith, lt, same, all, length-take k x, within))
      | inr ge ↦ omega (arith, ge, prefix_len-le-length (λ b. not (is_line_feed b)) (take k x))
    ]

pub lent_small : (h : List Call) (lent : List ℕ) → IsLegal h → lend h ≡ Some lent → length lent ≤ 2 ^ 62
lent_small h lent legal is =
    let order = ordered h legal in
    omega (arith, order.lent_in lent is, order.total_in)

pub known_lend : (d : DrainState) (h : List Call) (text : List ℕ) → IsLegal h → IsDrained d h text → IsKnown d (Read 0 ∷ h)
known_lend d h text legal drained lent is =
    let same : lent ≡ drop d.place (looked_at h) ++ drop (examined h) (total h) = lent_is_held h lent is ∙ rest_and_more d h text drained in (
      omega (arith, drained.known, ap length same, length-append (drop d.place (looked_at h)) (drop (examined h) (total h))),
      λ line. subst (λ (x : List ℕ). IsNone (position is_line_feed (take d.known x))) (sym same) (none_in_front (drop d.place (looked_at h)) (drop (examined h) (total h)) d.known drained.known (drained.unended line)),
    )
  where
    rest_and_more : (d : DrainState) (h : List Call) (text : List ℕ) → IsDrained d h text → held h ≡ drop d.place (looked_at h) ++ drop (examined h) (total h)
    rest_and_more d h text drained =
        rest_of d h text drained
        ∙ ap (λ (x : List ℕ). drop d.place x) (sym (take-append-drop (examined h) (total h)))
        ∙ drop-append-le d.place (looked_at h) (drop (examined h) (total h)) drained.passes.within

pub front_so_far : (d : DrainState) (h : List Call) (text : List ℕ) → IsDrained d h text → IsPrefix text (translated d.job h).text
front_so_far d h text drained = (
  (translation d.job (drop d.place (total h)) (is_whole h)).text,
  sym (ap (λ t. t.text) (passed_text d.job (total h) (is_whole h) d.place d.frames text (so_far d h text (is_whole h) drained))),
)
