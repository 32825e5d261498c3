-- A filler of a pipe that two threads use: what the step of its part that knows no pipe is to it.
use Rattle.std.proofs.Common.{◌≡◌, ◌≤◌, ◌^◌, ℕ, false, List, [], ◌∷◌, ◌++◌, length, Option, Some, None, Result, Ok, Err, refl, sym, ap, ◌∙◌, subst, append-nil, arith}
use Rattle.std.specs.Prelude.{IfSome, IsNone, unwrap_or}
use Rattle.std.specs.List.{AllByRecursion}
use Rattle.std.proofs.lemmas.List.{length-append}
use Rattle.edge_core.specs.Device.{SourceState}
use Rattle.relay_model.specs.declared.ending.FillEnd.{FillEnd}
use Rattle.relay_model.specs.declared.ending.FillEnd.TheVariants as taking
use Rattle.turn_cell.specs.Seat.{CellState}
use Rattle.pipe_core.specs.History.{Run, Call, Commit, bytes_of, EndWriter, Read, Advance, EndReader, CancelRead, CancelFlush, reader_end}
use Rattle.pipe_core.specs.Legal.{IsLegal}
use Rattle.pipe_state.specs.declared.options.Options.{Options}
use Rattle.pipe_state.specs.declared.full.Full as room
use Rattle.pipe_turns.specs.declared.faults.TryFault.{TryFault}
use Rattle.pipe_turns.specs.declared.faults.TryFault.TheVariants as try
use Rattle.pipe_turns.specs.Name.{Name}
use Rattle.pipe_turns.specs.Log.{calls_of}
use Rattle.pipe_turns.specs.Turns.{Refuses}
use Rattle.pipe_turns.specs.Ends.{IsEnd}
use Rattle.pipe_shared.specs.Ends.{Writer}
use Rattle.pipe_turns.proofs.HeardLemmas.{heard_all}
use Rattle.relay_engine.specs.Filler.{written, fill_code}
use Rattle.relay_engine.specs.Later.{Later}
use Rattle.relay_engine.proofs.FillingLemmas.{EndsFor, took, written_later, written_under}
use Rattle.relay_engine.proofs.PumpLemmas.{gone_says}
use Rattle.relay_engine.specs.Filling.{FillingState, HasTaken, FillsOn}
use Rattle.relay_engine.specs.WriterEnds.{FindsNoRoom, HasWritten, IsOthers, RefusesWriter, drafting}
use Rattle.relay_engine.specs.PipeFiller.{FillerState, IsFiller, MayClose, Closes, CompletesBy, EndsFrom, StepsFrom, all_of, closed_as, filler_of, filling_of, is_closed, is_done, seen_by, writer_in}
use Rattle.relay_engine.specs.declared.filling.Filled.{Filled}
use Rattle.relay_engine.specs.declared.filling.Filled.TheVariants as filled
use Rattle.relay_engine.specs.declared.pipe_filler.FillerEnd.{FillerEnd}
use Rattle.relay_engine.specs.declared.pipe_filler.FillerEnd.TheVariants.{Open, Closed}
use Rattle.relay_engine.specs.declared.pipe_filler.FillStep.{FillStep}

-- an end that has made no entry and drafted nothing has taken nothing
pub none_taken : (w : Writer) → IsEnd 0 w.seat → w.seat.own ≡ [] → w.draft ≡ [] → all_of w ≡ []
none_taken w end none undrafted =
    ap (λ (x : List Run). written (seen_by w) ++ bytes_of x) undrafted ∙ append-nil (written (seen_by w))
    ∙ (let heard = heard_all 0 w.seat end none in ap written heard.seen ∙ written_under IsOthers (λ call is. is) heard.heard [] heard.others)

pub new_filler : (f : FillingState) (w : Writer) → f.taken ≡ 0 → f.drafted ≡ 0 → f.limit ≤ 2 ^ 40 → IsEnd 0 w.seat → w.seat.own ≡ [] → w.draft ≡ [] → IsFiller f (Open w) None
new_filler f w taken drafted small end none undrafted = record {
  taken = record {
    stands = (refl, end.lawful.legal);
    all = refl;
    counted = taken ∙ sym (ap length (none_taken w end none undrafted));
    drafted = drafted ∙ sym (ap (λ (x : List Run). length (bytes_of x)) undrafted);
    settled = λ unowed. undrafted;
  };
  within = omega (arith, taken);
  small = small;
  settled = tt;
  gone = λ code is. absurd cc;
}

pub all_is : (f : FillingState) (w : Writer) (now : List Call) (bytes : List ℕ) → HasTaken HasWritten drafting f w now bytes → bytes ≡ all_of w
all_is f w now bytes t = sym t.all ∙ ap (λ (l : List Call). written l ++ bytes_of w.draft) t.stands.0

-- what was taken is told by what the end has seen and drafts
pub as_seen : (f : FillingState) (w : Writer) (now : List Call) (bytes : List ℕ) → HasTaken HasWritten drafting f w now bytes → HasTaken HasWritten drafting f w (seen_by w) (all_of w)
as_seen f w now bytes t = record {
  stands = (refl, subst (λ (l : List Call). IsLegal l) t.stands.0 t.stands.1);
  all = refl;
  counted = t.counted ∙ ap length (all_is f w now bytes t);
  drafted = t.drafted;
  settled = t.settled;
}

pub still_filler : (f : FillingState) (w : Writer) (ending : Option FillEnd) (now : List Call) (bytes : List ℕ) → ending ≡ None → f.taken ≤ f.limit → f.limit ≤ 2 ^ 40 → HasTaken HasWritten drafting f w now bytes → IsFiller f (Open w) ending
still_filler f w ending now bytes none within small t = record {
  within = within;
  small = small;
  taken = as_seen f w now bytes t;
  settled = subst (λ (o : Option FillEnd). IfSome o (λ _. w.draft ≡ [])) (sym none) tt;
  gone = λ code is. let both = sym none ∙ is in absurd cc;
}

pub fills_as : (options : Options) (is_full : room.Full → Writer → Writer → Type 0) (f f' : FillingState) (end : FillerEnd) (w w' : Writer) (ending : Option FillEnd) (s : FillerState) (before after : SourceState) (answer : Result (Filled room.Full) TryFault)
    → filler_of f end ending ≡ s → end ≡ Open w → IsFiller f end ending
    → ((h : List Call) (bytes : List ℕ) → HasTaken HasWritten drafting f w h bytes → FillsOn HasWritten IsOthers drafting RefusesWriter options is_full f w before answer f' w' after h bytes)
    → FillsOn HasWritten IsOthers drafting RefusesWriter options is_full (filling_of s) s.end before answer f' w' after (seen_by s.end) (all_of s.end)
fills_as options is_full f f' end w w' ending s before after answer same is filler fills =
    subst (λ (x : FillerState). FillsOn HasWritten IsOthers drafting RefusesWriter options is_full (filling_of x) x.end before answer f' w' after (seen_by x.end) (all_of x.end)) same
    (subst (λ (e : FillerEnd). IsFiller f e ending → FillsOn HasWritten IsOthers drafting RefusesWriter options is_full f (writer_in e) before answer f' w' after (seen_by (writer_in e)) (all_of (writer_in e))) (sym is)
    (λ (i : IsFiller f (Open w) ending). fills (seen_by w) (all_of w) i.taken) filler)

-- ---- the completion

-- once the reader has completed, it has
reader_stays : (more h : List Call) (code : ℕ) → AllByRecursion IsOthers more → IsLegal (more ++ h) → reader_end h ≡ Some code → reader_end (more ++ h) ≡ Some code
reader_stays [] h code all legal is = is
reader_stays (Commit runs ∷ more) h code all legal is = reader_stays more h code all.1 legal.0 is
reader_stays (EndWriter other ∷ more) h code all legal is = reader_stays more h code all.1 legal.0 is
reader_stays (Read n ∷ more) h code all legal is = reader_stays more h code all.1 legal.0 is
reader_stays (Advance c e ∷ more) h code all legal is = reader_stays more h code all.1 legal.0 is
reader_stays (EndReader other ∷ more) h code all legal is = let gone = subst IsNone (reader_stays more h code all.1 legal.0 is) legal.1 in absurd cc
reader_stays (CancelRead ∷ more) h code all legal is = reader_stays more h code all.1 legal.0 is
reader_stays (CancelFlush ∷ more) h code all legal is = reader_stays more h code all.1 legal.0 is

pub gone_later : (h k : List Call) (code : ℕ) → Later IsOthers h k → IsLegal k → reader_end h ≡ Some code → reader_end k ≡ Some code
gone_later h k code later legal is =
    subst (λ (l : List Call). reader_end l ≡ Some code) (sym later.is) (reader_stays later.between h code later.all (subst IsLegal later.is legal) is)

pub may_close : (f : FillingState) (end : FillerEnd) (ending : Option FillEnd) (reason : FillEnd) → ending ≡ Some reason → IsFiller f end ending → MayClose (writer_in end)
may_close f end ending reason is i =
    let settled = subst (λ (o : Option FillEnd). IfSome o (λ _. (writer_in end).draft ≡ [])) is i.settled in
    record {
      settled = settled;
      legal = i.taken.stands.1;
      small = omega (arith, i.taken.counted, i.within, i.small, length-append (written (seen_by (writer_in end))) (bytes_of (writer_in end).draft));
    }

-- What is so of a filler behind an attempt at its completion.
pub record ClosedOn (f : FillingState) (end end' : FillerEnd) (ending : Option FillEnd) (reason : FillEnd) (step : FillStep) : Type 0 where
  pub filler : IsFiller f end' ending
  pub completes : CompletesBy step reason (writer_in end) (writer_in end')
  pub settled : (writer_in end').draft ≡ []
  pub done : is_closed end' ≡ is_done step

pub closed_on : (f : FillingState) (end end' : FillerEnd) (ending : Option FillEnd) (reason : FillEnd) (result : Result (Unit {0}) TryFault) → ending ≡ Some reason → IsFiller f end ending → Closes (fill_code reason) end result end'
    → ClosedOn f end end' ending reason (closed_as reason result)
closed_on f (Open w) (Closed seat) ending reason (Ok done) is i c =
    let settled = subst (λ (o : Option FillEnd). IfSome o (λ _. w.draft ≡ [])) is i.settled in
    let same : written c.found ≡ written (seen_by w) = written_later IsOthers (λ call apart. apart) (seen_by w) c.found c.later in
    let all : written (calls_of seat.seen) ++ [] ≡ all_of w =
    append-nil (written (calls_of seat.seen)) ∙ ap written c.seen ∙ same ∙ sym (append-nil (written (seen_by w))) ∙ ap (λ (x : List Run). written (seen_by w) ++ bytes_of x) (sym settled) in
    let legal : IsLegal (EndWriter (fill_code reason) ∷ c.found) = subst IsLegal c.seen c.legal in
    let gone : (code : ℕ) → reason ≡ taking.Gone code → reader_end c.found ≡ Some code = λ code gone. gone_later (seen_by w) c.found code c.later legal.0 (i.gone code (is ∙ ap (λ (e : FillEnd). Some e) gone)) in
    record {
      filler = record {
        taken = record {
          stands = (refl, c.legal);
          all = refl;
          counted = i.taken.counted ∙ ap length (sym all);
          drafted = i.taken.drafted ∙ ap (λ (x : List Run). length (bytes_of x)) settled;
          settled = λ unowed. refl;
        };
        within = i.within;
        small = i.small;
        settled = subst (λ (o : Option FillEnd). IfSome o (λ _. (writer_in (Closed seat)).draft ≡ [])) (sym is) refl;
        gone = λ code then. ap reader_end c.seen ∙ gone code (ap (λ (o : Option FillEnd). unwrap_or o reason) (sym is ∙ then));
      };
      completes = (refl, record { found = c.found; seen = c.seen; gone = gone; commits = c.commits; own = c.own; bytes = c.bytes ∙ sym (ap written c.seen) ∙ sym (append-nil (written (calls_of seat.seen))) }, all, c.spent);
      settled = refl;
      done = refl;
    }
closed_on f (Open w) (Open w') ending reason (Err fault) is i (refuses, draft, hears) =
    let settled = subst (λ (o : Option FillEnd). IfSome o (λ _. w.draft ≡ [])) is i.settled in
    let found : hears.found ≡ seen_by w' = hears.stands.0 in
    let later : Later IsOthers (seen_by w) (seen_by w') = subst (λ (l : List Call). Later IsOthers (seen_by w) l) found hears.later in
    let legal : IsLegal (seen_by w') = subst IsLegal found hears.legal in
    let same : all_of w' ≡ all_of w =
    ap (λ (x : List ℕ). x ++ bytes_of w'.draft) (written_later IsOthers (λ call apart. apart) (seen_by w) (seen_by w') later) ∙ ap (λ (x : List Run). written (seen_by w) ++ bytes_of x) draft in
    record {
      filler = record {
        taken = record {
          stands = (refl, legal);
          all = refl;
          counted = i.taken.counted ∙ ap length (sym same);
          drafted = i.taken.drafted ∙ ap (λ (x : List Run). length (bytes_of x)) (sym draft);
          settled = λ unowed. draft ∙ i.taken.settled unowed;
        };
        within = i.within;
        small = i.small;
        settled = subst (λ (o : Option FillEnd). IfSome o (λ _. w'.draft ≡ [])) (sym is) (draft ∙ settled);
        gone = λ code then. gone_later (seen_by w) (seen_by w') code later legal (i.gone code then);
      };
      completes = each fault refuses same;
      settled = draft ∙ settled;
      done = done fault;
    }
  where
    each : (e : TryFault) → Refuses e w.seat w'.seat → all_of w' ≡ all_of w → CompletesBy (closed_as reason (Err e)) reason w w'
    each (try.Busy word) finds same = (finds, same)
    each (try.Worn entries) finds same = (finds, same)

    done : (e : TryFault) → false ≡ is_done (closed_as reason (Err e))
    done (try.Busy word) = refl
    done (try.Worn entries) = refl
closed_on f (Open w) (Open w') ending reason (Ok done) is i never = absurd never
closed_on f (Open w) (Closed seat) ending reason (Err fault) is i never = absurd never
closed_on f (Closed seat) end' ending reason result is i never = absurd (none result end' never)
  where
    none : (r : Result (Unit {0}) TryFault) (e : FillerEnd) → Closes (fill_code reason) (Closed seat) r e → ⊥
    none (Ok done) (Open w) never = never
    none (Ok done) (Closed other) never = never
    none (Err fault) (Open w) never = never
    none (Err fault) (Closed other) never = never

pub closed_with : (f : FillingState) (end end' : FillerEnd) (ending : Option FillEnd) (reason : FillEnd) (result : Result (Unit {0}) TryFault) (code : ℕ) → code ≡ fill_code reason → ending ≡ Some reason → IsFiller f end ending → Closes code end result end'
    → ClosedOn f end end' ending reason (closed_as reason result)
closed_with f end end' ending reason result code coded is i c = closed_on f end end' ending reason result is i (subst (λ (k : ℕ). Closes k end result end') coded c)

-- ---- a step

-- the taking may end by the part that knows no pipe
pub ended_filler : (pipe : CellState Name) (old s : FillerState) (before after : SourceState) (f : FillingState) (end : FillerEnd) (ending : Option FillEnd) (reason : FillEnd) → filler_of f end ending ≡ s → IsFiller f end ending → s.end.draft ≡ []
    → FillsOn HasWritten IsOthers drafting RefusesWriter pipe.name.options (FindsNoRoom pipe) (filling_of old) old.end before (Ok (filled.Ended reason)) (filling_of s) s.end after (seen_by old.end) (all_of old.end) → IsFiller f end (Some reason)
ended_filler pipe old s before after f end ending reason same i settled fills = record {
  taken = i.taken;
  within = i.within;
  small = i.small;
  settled = ap (λ (x : FillerState). x.end.draft) same ∙ settled;
  gone = λ code is.
      let t = took HasWritten IsOthers drafting RefusesWriter pipe.name.options (FindsNoRoom pipe) (filling_of old) (filling_of s) old.end s.end before after (Ok (filled.Ended reason)) (seen_by old.end) (all_of old.end) fills in
      let gone = subst (λ (e : FillEnd). EndsFor {F = room.Full} pipe.name.options (Ok (filled.Ended e)) (filling_of s) t.now) (ap (λ (o : Option FillEnd). unwrap_or o reason) is) t.ends in
      ap (λ (x : FillerState). reader_end (seen_by x.end)) same ∙ ap (λ (h : List Call). reader_end h) (sym t.holds.stands.0 ∙ gone.3) ∙ sym (gone_says pipe.name.options.pause pipe.name.options.resume gone.2 gone.1 gone.0 (Some code) (sym gone.4));
}

-- where it has ended, the completion stands behind that
pub steps_on : (pipe : CellState Name) (old middle new : FillerState) (before after : SourceState) (reason : FillEnd) (step : FillStep) (ending : Option FillEnd) → EndsFrom ending pipe reason old before middle after → CompletesBy step reason middle.end new.end → new.ending ≡ Some reason
    → filling_of new ≡ filling_of middle → StepsFrom ending pipe old before step new after
steps_on pipe old middle new before after reason step None fills completes ended same = record {
  answer = Ok (filled.Ended reason);
  writer = middle.end;
  fills =
      subst (λ (f : FillingState). FillsOn HasWritten IsOthers drafting RefusesWriter pipe.name.options (FindsNoRoom pipe) (filling_of old) old.end before (Ok (filled.Ended reason)) f middle.end after (seen_by old.end) (all_of old.end)) (sym same)
      fills;
  follows = (ended, completes);
}
steps_on pipe old middle new before after reason step (Some was) (is, as_before, unread) completes ended same = (
  unread,
  same ∙ ap (λ (f : FillerState). filling_of f) as_before,
  ended ∙ ap (λ (e : FillEnd). Some e) is,
  subst (λ (e : FillEnd). CompletesBy step e old.end new.end) is (subst (λ (f : FillerState). CompletesBy step reason f.end new.end) as_before completes),
)
