-- How a relay on one thread goes on.
use Rattle.std.specs.List.{AllByRecursion}
use Rattle.std.proofs.Common.{◌≡◌, ◌≢◌, ◌<◌, ◌≤◌, ◌+◌, ◌-◌, ◌*◌, ◌⊎◌, inl, inr, ℕ, Bool, true, false, cond, if◌then◌else◌, nat_lt, nat_le, List, [], ◌∷◌, ◌++◌, length, Option, Some, None, IsNone, Ok, Err, refl, sym, ap, ◌∙◌, subst, append-nil, arith}
use Rattle.std.specs.Prelude.{is_none, is_some, option_map, unwrap_or, ◌&&◌, ◌||◌}
use Rattle.std.proofs.KnownBytes.{Consumes-nil}
use Rattle.std.proofs.lemmas.Bool.{and_parts}
use Rattle.edge_core.specs.Device.{SourceState, SinkState, Takes}
use Rattle.edge_core.proofs.DeviceLemmas.{Takes-trans}
use Rattle.frame_grammar.specs.declared.job.Job.{Job}
use Rattle.relay_model.specs.declared.ending.FillEnd.{FillEnd}
use Rattle.relay_model.specs.declared.ending.FillEnd.TheVariants as taking
use Rattle.frame_model.specs.Spelling.{longest_frame}
use Rattle.frame_model.specs.Translation.{translation_of}
use Rattle.frame_model.proofs.CutLemmas.{empty_open}
use Rattle.frame_model.proofs.FrameLemmas.{some_longest}
use Rattle.pipe_core.specs.History.{Call, Run, Commit, EndWriter, Read, Advance, EndReader, CancelRead, CancelFlush, writer_end, reader_end}
use Rattle.pipe_core.specs.Progress.{total, examined, unexamined, held, canceled_read, canceled_flush}
use Rattle.pipe_core.specs.Reads.{read_is_ready, reply_to_read}
use Rattle.pipe_core.specs.declared.reply.ReadReply.TheVariants as read
use Rattle.pipe_core.specs.Lends.{lend}
use Rattle.pipe_core.specs.Flushes.{flush_is_ready, reply_to_commit}
use Rattle.pipe_core.specs.declared.reply.FlushReply.TheVariants as flush
use Rattle.pipe_core.specs.Standing.{AreThresholds}
use Rattle.pipe_core.proofs.OrderLemmas.{pending_tells}
use Rattle.pipe_state.specs.declared.options.Options.{Options}
use Rattle.pipe_turns.specs.declared.faults.TryFault.{TryFault}
use Rattle.pipe_shared.specs.Local.{Local}
use Rattle.relay_engine.specs.Filler.{written, fill_code}
use Rattle.relay_engine.specs.Filling.{FillingState}
use Rattle.relay_engine.specs.Later.{Later}
use Rattle.relay_engine.specs.Drainer.{DrainState, IsDrained}
use Rattle.relay_engine.specs.ReaderEnds.{Aside, aside_local, lent_local, local_tally}
use Rattle.relay_engine.specs.LocalEnds.{HoldsLocal, NoOthers, RefusesNone, made_of}
use Rattle.relay_engine.specs.Pump.{sure_room_of}
use Rattle.relay_engine.specs.Draining.{DrainingState, DrainsOnce, GainsBy, GainsIf, MovesBy, OrReaders, lent_for}
use Rattle.relay_engine.specs.SoFar.{TakenSoFar}
use Rattle.relay_engine.specs.declared.draining.Owed.{Owed}
use Rattle.relay_engine.specs.declared.draining.Progress.{Progress}
use Rattle.relay_engine.specs.declared.draining.Progress.TheVariants.{Moved, Idle}
use Rattle.relay_engine.proofs.DeviceLemmas.{takes_nothing}
use Rattle.relay_engine.proofs.LendLemmas.{pending_says, ready_says}
use Rattle.relay_engine.proofs.FrameLemmas.{passes_nothing}
use Rattle.relay_engine.proofs.InTimeLemmas.{IsInTime, nothing_in_time}
use Rattle.relay_engine.proofs.LaterLemmas.{none_is, none_mapped}
use Rattle.relay_engine.proofs.ReadOnLemmas.{passed_of}

-- A history in which nothing was dropped, and in which the reader goes on and has nothing lent.
pub record Goes (d : DrainState) (h : List Call) (text : List ℕ) : Type 0 where
  pub drained : IsDrained d h text
  pub kept : written h ≡ total h
  pub attended : reader_end h ≡ None
  pub no_lend : lend h ≡ None
  pub uncanceled : canceled_read h ≡ false

pub record Pumps (job : Job) (source_before source_now : SourceState) (sink_before sink_now : SinkState) (f : FillingState) (d : DrainingState) (p : Local) (ending : Option FillEnd) : Type 0 where
  pub h : List Call
  pub text : List ℕ
  pub holds : HoldsLocal p h
  pub goes : Goes d.drained h text
  pub fresh : d.owed ≡ None
  pub taken : TakenSoFar job.limit (total h) ending source_before source_now
  pub counted : f.taken ≡ length (total h)
  pub drafted : f.drafted ≡ 0
  pub limit : f.limit ≡ job.limit
  pub job_is : d.drained.job ≡ job
  pub wrote : Takes sink_before text sink_now
  pub ended : writer_end h ≡ option_map fill_code ending
  pub not_gone : (code : ℕ) → ending ≢ Some (taking.Gone code)
  pub draft : p.draft ≡ []
  pub room : longest_frame job.input job.max ≤ sure_room_of p.options
  pub thresholds : AreThresholds p.options.pause p.options.resume
  pub segment : p.options.segment ≡ job.seg
  pub in_time : IsInTime job (total h)

-- how many steps there can be yet
abbrev pub fuel : FillingState → Local → Option FillEnd → ℕ
fuel f p ending = 2 * (f.limit - f.taken) + (if is_none ending then 1 else 0) + (if nat_lt 0 (p.pipe.control.committed - p.pipe.control.examined) then 1 else 0)

-- A step of the drainer.
abbrev pub DrainsLocal : DrainingState → Local → SinkState → Progress → DrainingState → Local → SinkState → Type 0
DrainsLocal d p before progress d' p' after = DrainsOnce HoldsLocal NoOthers RefusesNone local_tally lent_local aside_local d p before (Ok progress) d' p' after

-- ---- the start

pub new_drained : (job : Job) → IsDrained (record { job = job; place = 0; frames = 0; written = 0; known = 0 }) [] []
new_drained job = record {
  place = refl;
  passes = passes_nothing job [] false;
  rest = ap (λ c. translation_of job.input job.output c.payloads c.verdict) (empty_open job.input job.max);
  short = some_longest job.input job.max;
  counted = refl;
  known = omega arith;
  unended = λ line. refl;
}

pub starts : (job : Job) (s : SourceState) (k : SinkState) (f : FillingState) (d : DrainingState) (p : Local) → f ≡ record { limit = job.limit; taken = 0; owed = false; drafted = 0 } → d ≡ record { drained = record { job = job; place = 0; frames = 0; written = 0; known = 0 }; owed = None }
    → HoldsLocal p [] → p.draft ≡ [] → longest_frame job.input job.max ≤ sure_room_of p.options → AreThresholds p.options.pause p.options.resume → p.options.segment ≡ job.seg → Pumps job s s k k f d p None
starts job s k f d p filling draining holds draft room thresholds segment = record {
  h = [];
  text = [];
  holds = holds;
  goes = record { drained = rw draining (new_drained job); kept = refl; attended = refl; no_lend = refl; uncanceled = refl };
  fresh = ap (λ d. d.owed) draining;
  taken = (record { given = Consumes-nil s.left; unfailed = refl }, omega arith);
  counted = ap (λ f. f.taken) filling;
  drafted = ap (λ f. f.drafted) filling;
  limit = ap (λ f. f.limit) filling;
  job_is = ap (λ d. d.drained.job) draining;
  wrote = takes_nothing k k refl;
  ended = refl;
  not_gone = λ code is. absurd cc;
  draft = draft;
  room = room;
  thresholds = thresholds;
  segment = segment;
  in_time = nothing_in_time job (ap (λ t. t.verdict) (new_drained job).rest);
}

-- ---- what replies say

or_false : (a b : Bool) → (a || b) ≡ false → (a ≡ false) × (b ≡ false)
or_false false b is = (refl, is)
or_false true b is = absurd cc

is_ready : (b canceled canceled' : Bool) (ended ended' : Option ℕ) (len len' n : ℕ) → cond b (read.Ready canceled ended len) (read.Pending n len) ≡ read.Ready canceled' ended' len' → b ≡ true
is_ready true canceled canceled' ended ended' len len' n e = refl
is_ready false canceled canceled' ended ended' len len' n e = absurd cc

no_code : (o : Option ℕ) → is_some o ≡ false → o ≡ None
no_code None is = refl
no_code (Some code) is = absurd cc

pub goes_yet : (h : List Call) → read_is_ready 0 h ≡ false → writer_end h ≡ None
goes_yet h is = no_code (writer_end h) (or_false (canceled_read h) (is_some (writer_end h)) (or_false (canceled_read h || is_some (writer_end h)) (nat_lt 0 (unexamined h) && nat_le 0 (length (held h))) is).0).1

-- once the reader has examined all, its next read waits too
waits_again : (h : List Call) → read_is_ready 0 h ≡ false → reply_to_read 0 (Read 0 ∷ h) ≡ read.Pending (examined h) (length (held h))
waits_again h is =
    let enough = nat_lt 0 (unexamined h) && nat_le 0 (length (held h)) in
    let parts = or_false (canceled_read h || is_some (writer_end h)) enough is in
    let never : read_is_ready 0 (Read 0 ∷ h) ≡ false =
    ap (λ (b : Bool). b || enough) (or_false (canceled_read h) (is_some (writer_end h)) parts.0).1 ∙ parts.1 in
    ap (λ (b : Bool). if b then read.Ready false (writer_end h) (length (held h)) else read.Pending (examined h) (length (held h))) never

none_lent : (h : List Call) → read_is_ready 0 h ≡ false → lend (Read 0 ∷ h) ≡ None
none_lent h is = ap (λ (b : Bool). if b then Some (held h) else None) is

-- a read that lends while the writer goes on finds bytes that weren't examined
pub some_unexamined : (h : List Call) (canceled : Bool) (len : ℕ) → canceled_read h ≡ false → reply_to_read 0 h ≡ read.Ready canceled None len → nat_lt 0 (unexamined h) ≡ true
some_unexamined h canceled len uncanceled e =
    let ready = is_ready (read_is_ready 0 h) (canceled_read h) canceled (writer_end h) None (length (held h)) len (examined h) e in
    let open_yet : writer_end h ≡ None = sym (ready_says h canceled None len e).0 in
    let enough = nat_lt 0 (unexamined h) && nat_le 0 (length (held h)) in
    (and_parts (nat_lt 0 (unexamined h)) (nat_le 0 (length (held h))) (sym (ap (λ (b : Bool). b || enough) (ap (λ (b : Bool). b || is_some (writer_end h)) uncanceled ∙ ap is_some open_yet)) ∙ ready)).0

flush_if : (b canceled canceled' : Bool) (code code' : Option ℕ) (n : ℕ) → cond b (flush.Ready canceled code) (flush.Pending n) ≡ flush.Ready canceled' code' → code' ≡ code
flush_if true canceled canceled' code code' n e = cc
flush_if false canceled canceled' code code' n e = absurd cc

-- a flush that tells of the reader tells what the history has
pub gone_says : (pause resume : ℕ) (h : List Call) (runs : List Run) (canceled : Bool) (code : Option ℕ) → reply_to_commit pause resume h runs ≡ flush.Ready canceled code → code ≡ reader_end h
gone_says pause resume h runs canceled code e = flush_if (flush_is_ready pause resume h runs) (canceled_flush h) canceled (reader_end h) code (unexamined (Commit runs ∷ h)) e

-- ---- behind a drain step

no_others : (calls : List Call) → AllByRecursion NoOthers calls → calls ≡ []
no_others [] all = refl
no_others (call ∷ calls) all = absurd all.0

-- where nobody else makes a call, no history goes on by itself
pub later_same : (h k : List Call) → Later NoOthers h k → k ≡ h
later_same h k later = later.is ∙ ap (λ (x : List Call). x ++ h) (no_others later.between later.all)

-- what the reader's calls leave as it is
pub record Same (h k : List Call) : Type 0 where
  pub total_is : total k ≡ total h
  pub written_is : written k ≡ written h
  pub ended_is : writer_end k ≡ writer_end h
  pub uncanceled : canceled_read h ≡ false → canceled_read k ≡ false

not_one : (P : Type 0) (n : ℕ) → n ≢ 1 → (n ≡ 1) ⊎ ⊥ → P
not_one P n other (inl is) = absurd (other is)
not_one P n other (inr is) = absurd is

by_reader : (h calls : List Call) → AllByRecursion (OrReaders NoOthers) calls → Same h (calls ++ h)
by_reader h [] all = record { total_is = refl; written_is = refl; ended_is = refl; uncanceled = λ none. none }
by_reader h (Read n ∷ calls) all = let so = by_reader h calls all.1 in record { total_is = so.total_is; written_is = so.written_is; ended_is = so.ended_is; uncanceled = λ none. refl }
by_reader h (Advance c e ∷ calls) all = let so = by_reader h calls all.1 in record { total_is = so.total_is; written_is = so.written_is; ended_is = so.ended_is; uncanceled = so.uncanceled }
by_reader h (EndReader code ∷ calls) all = let so = by_reader h calls all.1 in record { total_is = so.total_is; written_is = so.written_is; ended_is = so.ended_is; uncanceled = so.uncanceled }
by_reader h (Commit runs ∷ calls) all = not_one (Same h (Commit runs ∷ calls ++ h)) 0 (λ is. absurd (omega (arith, is))) all.0
by_reader h (EndWriter code ∷ calls) all = not_one (Same h (EndWriter code ∷ calls ++ h)) 0 (λ is. absurd (omega (arith, is))) all.0
by_reader h (CancelRead ∷ calls) all = not_one (Same h (CancelRead ∷ calls ++ h)) 2 (λ is. absurd (omega (arith, is))) all.0
by_reader h (CancelFlush ∷ calls) all = not_one (Same h (CancelFlush ∷ calls ++ h)) 2 (λ is. absurd (omega (arith, is))) all.0

pub behind_reader : (h k : List Call) → Later (OrReaders NoOthers) h k → Same h k
behind_reader h k on = subst (λ (x : List Call). Same h x) (sym on.is) (by_reader h on.between on.all)

-- the history behind a step of the drainer
record Behind (h k : List Call) (p' : Local) : Type 0 where
  same : Same h k
  attended : reader_end k ≡ None

behind : (h k : List Call) (p' : Local) → Later (OrReaders NoOthers) h k → HoldsLocal p' k → IsNone p'.pipe.control.gone → Behind h k p'
behind h k p' on holds gone = record {
  same = behind_reader h k on;
  attended = sym holds.runs.marks.gone ∙ none_is p'.pipe.control.gone gone;
}

no_lend : (k : List Call) (p' : Local) → HoldsLocal p' k → p'.pipe.control.lent ≡ None → lend k ≡ None
no_lend k p' holds none = none_mapped length (lend k) (sym holds.runs.marks.lent ∙ none)

-- the options and the draft are as they were
abbrev aside : Local → Aside
aside p = record { made = made_of p; draft = p.draft }

same_aside : (p p' : Local) → aside_local p' ≡ aside_local p → aside p' ≡ aside p
same_aside p p' is = ap (λ (o : Option Aside). unwrap_or o (aside p)) is

pub made_same : (p p' : Local) → aside_local p' ≡ aside_local p → made_of p' ≡ made_of p
made_same p p' is = ap (λ (a : Aside). a.made) (same_aside p p' is)

pub draft_same : (p p' : Local) → aside_local p' ≡ aside_local p → p'.draft ≡ p.draft
draft_same p p' is = ap (λ (a : Aside). a.draft) (same_aside p p' is)

pub gained : (d : DrainingState) (failed : Bool) (a b : SinkState) (gain : List ℕ) → d.owed ≡ None → GainsBy d.owed failed a gain b → GainsIf failed a gain b
gained d failed a b gain fresh gains = subst (λ (o : Option Owed). GainsBy o failed a gain b) fresh gains

pub moved_on : (job : Job) (sb s : SourceState) (kb k k' : SinkState) (f : FillingState) (d d' : DrainingState) (p p' : Local) (ending : Option FillEnd) (frames : ℕ) → IsNone p'.pipe.control.gone → Pumps job sb s kb k f d p ending → DrainsLocal d p k (Moved frames) d' p' k' → Pumps job sb s kb k' f d' p' ending
moved_on job sb s kb k k' f d d' p p' ending frames gone on once =
    let a = once.cause on.h on.text on.holds (passed_of d on.h on.text on.fresh on.goes.drained) in
    let so = behind on.h a.now p' a.on a.stands gone in
    let kept = same_aside p p' once.kept in
    record {
      h = a.now;
      text = on.text ++ once.gain;
      holds = a.stands;
      goes = record {
        drained = a.how.2;
        kept = so.same.written_is ∙ on.goes.kept ∙ sym so.same.total_is;
        attended = so.attended;
        no_lend = no_lend a.now p' a.stands (once.lends ∙ ap (λ (o : Option Owed). lent_for o) a.how.1);
        uncanceled = so.same.uncanceled on.goes.uncanceled;
      };
      fresh = a.how.1;
      taken = subst (λ (x : List ℕ). TakenSoFar job.limit x ending sb s) (sym so.same.total_is) on.taken;
      counted = on.counted ∙ sym (ap length so.same.total_is);
      drafted = on.drafted;
      limit = on.limit;
      job_is = once.job ∙ on.job_is;
      wrote = Takes-trans kb k k' on.text once.gain on.wrote (gained d false k k' once.gain on.fresh once.gained);
      ended = so.same.ended_is ∙ on.ended;
      not_gone = on.not_gone;
      draft = ap (λ a. a.draft) kept ∙ on.draft;
      room = subst (λ (o : Options). longest_frame job.input job.max ≤ sure_room_of o) (sym (ap (λ a. a.made.options) kept)) on.room;
      thresholds = subst (λ (o : Options). AreThresholds o.pause o.resume) (sym (ap (λ a. a.made.options) kept)) on.thresholds;
      segment = ap (λ a. a.made.options.segment) kept ∙ on.segment;
      in_time = subst (λ (x : List ℕ). IsInTime job x) (sym so.same.total_is) on.in_time;
    }

fuel_less : (a e : ℕ) (now before : Bool) → now ≡ false → before ≡ true → a + e + cond now 1 0 < a + e + cond before 1 0
fuel_less a e now before none some = rw (none, some) (omega arith)

pub none_left : (a b : ℕ) → a ≤ b → nat_lt 0 (a - b) ≡ false
none_left a b within = let none : a - b ≡ 0 = omega (arith, within) in ap (λ (n : ℕ). nat_lt 0 n) none

pub moved_less : (job : Job) (sb s : SourceState) (kb k k' : SinkState) (f : FillingState) (d d' : DrainingState) (p p' : Local) (ending : Option FillEnd) (frames : ℕ) → IsNone p'.pipe.control.gone → Pumps job sb s kb k f d p ending → DrainsLocal d p k (Moved frames) d' p' k' → fuel f p' ending < fuel f p ending
moved_less job sb s kb k k' f d d' p p' ending frames gone on once =
    let h = on.h in
    let a = once.cause h on.text on.holds (passed_of d h on.text on.fresh on.goes.drained) in
    let so = behind h a.now p' a.on a.stands gone in
    let moves = subst (λ (o : Option Owed). MovesBy NoOthers o d h frames d' a.now) on.fresh a.how.0 in
    let found = later_same h moves.found moves.later in
    let before : nat_lt 0 (p.pipe.control.committed - p.pipe.control.examined) ≡ true =
    rw (on.holds.runs.marks.committed, on.holds.runs.marks.examined) (some_unexamined h moves.canceled moves.len on.goes.uncanceled (subst (λ (x : List Call). reply_to_read 0 x ≡ read.Ready moves.canceled None moves.len) found moves.told)) in
    let now : nat_lt 0 (p'.pipe.control.committed - p'.pipe.control.examined) ≡ false =
    none_left _ _ (omega (arith, a.stands.runs.marks.committed, a.stands.runs.marks.examined, moves.all_seen, ap length so.same.total_is, ap (λ (x : List Call). length (total x)) found)) in
    fuel_less (2 * (f.limit - f.taken)) (if is_none ending then 1 else 0) (nat_lt 0 (p'.pipe.control.committed - p'.pipe.control.examined)) (nat_lt 0 (p.pipe.control.committed - p.pipe.control.examined)) now before

-- the pipe rests: all that is committed was examined, and the writer goes on
pub record AtRest (job : Job) (sb s : SourceState) (kb k : SinkState) (f : FillingState) (d : DrainingState) (p : Local) (ending : Option FillEnd) : Type 0 where
  pub on : Pumps job sb s kb k f d p ending
  pub none_yet : ending ≡ None
  pub all_seen : examined on.h ≡ length (total on.h)
  pub waits : reply_to_read 0 on.h ≡ read.Pending (examined on.h) (length (held on.h))

pub idle : (job : Job) (sb s : SourceState) (kb k : SinkState) (f : FillingState) (d d' : DrainingState) (p p' : Local) (ending : Option FillEnd) (n : ℕ) (k' : SinkState) → IsNone p'.pipe.control.gone → Pumps job sb s kb k f d p ending → DrainsLocal d p k (Idle n) d' p' k' → AtRest job sb s kb k' f d' p' ending
idle job sb s kb k f d d' p p' ending n k' gone on once =
    let h = on.h in
    let a = once.cause h on.text on.holds (passed_of d h on.text on.fresh on.goes.drained) in
    let idles = a.how.0 in
    let found = later_same h idles.found idles.later in
    let told = subst (λ (x : List Call). reply_to_read 0 x ≡ read.Pending n (length (held x))) found idles.told in
    let waiting = (pending_tells 0 h n (length (held h)) told).0 in
    let now : a.now ≡ Read 0 ∷ h = idles.is ∙ ap (λ (x : List Call). Read 0 ∷ x) found in
    let kept = same_aside p p' once.kept in
    let drained = on.goes.drained in
    record {
      on = record {
        h = Read 0 ∷ h;
        text = on.text;
        holds = subst (λ (x : List Call). HoldsLocal p' x) now a.stands;
        goes = record {
          drained = subst (λ (e : DrainingState). IsDrained e.drained (Read 0 ∷ h) on.text) (sym idles.unchanged) (record { place = drained.place; passes = drained.passes; rest = drained.rest; short = drained.short; counted = drained.counted; known = drained.known; unended = drained.unended });
          kept = on.goes.kept;
          attended = on.goes.attended;
          no_lend = none_lent h waiting;
          uncanceled = refl;
        };
        fresh = ap (λ e. e.owed) idles.unchanged ∙ on.fresh;
        taken = on.taken;
        counted = on.counted;
        drafted = on.drafted;
        limit = on.limit;
        job_is = once.job ∙ on.job_is;
        wrote = subst (λ (t : List ℕ). Takes kb t k') (append-nil on.text) (Takes-trans kb k k' on.text [] on.wrote (subst (λ (t : List ℕ). Takes k t k') idles.none (gained d false k k' once.gain on.fresh once.gained)));
        ended = on.ended;
        not_gone = on.not_gone;
        draft = ap (λ a. a.draft) kept ∙ on.draft;
        room = subst (λ (o : Options). longest_frame job.input job.max ≤ sure_room_of o) (sym (ap (λ a. a.made.options) kept)) on.room;
        thresholds = subst (λ (o : Options). AreThresholds o.pause o.resume) (sym (ap (λ a. a.made.options) kept)) on.thresholds;
        segment = ap (λ a. a.made.options.segment) kept ∙ on.segment;
        in_time = on.in_time;
      };
      none_yet = none_mapped fill_code ending (sym on.ended ∙ goes_yet h waiting);
      all_seen = pending_says h n (length (held h)) on.holds.runs.marks.legal told;
      waits = waits_again h waiting;
    }

pub rest_open : (job : Job) (sb s : SourceState) (kb k : SinkState) (f : FillingState) (d : DrainingState) (p : Local) (ending : Option FillEnd) → AtRest job sb s kb k f d p ending → p.pipe.control.ended ≡ None
rest_open job sb s kb k f d p ending rest = rest.on.holds.runs.marks.ended ∙ rest.on.ended ∙ ap (λ (o : Option FillEnd). option_map fill_code o) rest.none_yet

-- a relay whose pipe rests has one step more than what a fill step leaves
pub rest_less : (f : FillingState) (p : Local) (ending : Option FillEnd) (left : ℕ) → ending ≡ None → left + 1 ≤ 2 * (f.limit - f.taken) + 1 → left < fuel f p ending
rest_less f p None left none less = omega (arith, less)
rest_less f p (Some end) left none less = absurd cc

-- a read was not refused
pub never_refused : (job : Job) (sb s : SourceState) (kb k k' : SinkState) (f : FillingState) (d d' : DrainingState) (p p' : Local) (ending : Option FillEnd) (fault : TryFault) → Pumps job sb s kb k f d p ending → DrainsOnce HoldsLocal NoOthers RefusesNone local_tally lent_local aside_local d p k (Err fault) d' p' k' → ⊥
never_refused job sb s kb k k' f d d' p p' ending fault on once = (once.cause on.h on.text on.holds (passed_of d on.h on.text on.fresh on.goes.drained)).how.1.refused

-- where the next step of the drainer may come
pub lends_none : (d' : DrainingState) (p' : Local) → d'.owed ≡ None → lent_local p' ≡ lent_for d'.owed → lent_local p' ≡ None
lends_none d' p' fresh lends = lends ∙ ap (λ (o : Option Owed). lent_for o) fresh
