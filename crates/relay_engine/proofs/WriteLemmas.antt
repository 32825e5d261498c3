-- Frames that are written, one behind the other, and how many of them are whole where a call failed.
use Rattle.std.proofs.Common.{◌≡◌, ◌<◌, ◌≤◌, ◌+◌, ◌-◌, ◌^◌, ℕ, Bool, List, [], ◌++◌, length, take, drop, refl, sym, ap, ◌∙◌, subst, arith, append_assoc, append-nil}
use Rattle.std.specs.Prelude.{min}
use Rattle.std.proofs.lemmas.List.{drop-drop, length-append, length-take, take-append-drop, take-append-le}
use Rattle.std.proofs.Math.Seq.{take-append-add, take-append_seam}
use mathlib.Core.List.{IsPrefix}
use Rattle.edge_core.specs.Device.{SinkState, Takes}
use Rattle.frame_grammar.specs.declared.job.Job.{Job}
use Rattle.frame_model.specs.Spelling.{spelling}
use Rattle.frame_grammar.specs.Job.{translation}
use Rattle.relay_engine.specs.Frames.{Breaks, CountsWhole, Drains, Interrupts, IsFirst, Passes, StopsAt, capped}
use Rattle.relay_engine.specs.Gathering.{Gathered, Puts, PutsFront, begun, counted}
use Rattle.relay_engine.specs.declared.frames.Stop.{Stop}
use Rattle.relay_engine.proofs.BoundLemmas.{front_bounded}
use Rattle.relay_engine.proofs.FrameLemmas.{capped_more, passed_text, passes_more}
use Rattle.relay_engine.proofs.GatherLemmas.{front_last, puts_more}

-- one more frame was put
pub one_more : (job : Job) (x : List ℕ) (at_end : Bool) (g h i : Gathered) (s t u : SinkState) (n frames written len more : ℕ) (text payload : List ℕ) → Passes job x at_end n frames text → Puts g s text h t → written ≡ capped (length text)
    → IsFirst job (drop n x) at_end payload len → more ≡ length (spelling job.output payload) → Puts h t (spelling job.output payload) i u
    → record { text : List ℕ; passes : Passes job x at_end (n + len) (frames + 1) text; puts : Puts g s text i u; counted : min (written + more) (2 ^ 64 - 1) ≡ capped (length text) }
one_more job x at_end g h i s t u n frames written len more text payload passes puts counted first size put =
    let one = spelling job.output payload in
    record {
      text = text ++ one;
      passes = passes_more job x at_end n len frames 1 text one passes first.passes;
      puts = puts_more g h i s t u text one puts put;
      counted =
          ap (λ (n : ℕ). min (n + more) (2 ^ 64 - 1)) counted ∙ capped_more (length text) more
          ∙ ap (λ (n : ℕ). capped n) (ap (λ (n : ℕ). length text + n) size ∙ sym (length-append text one));
    }

-- all that was put has come to the sink
pub all_out : (h : Gathered) (s t : SinkState) (text : List ℕ) → Puts begun s text h t → h.bytes ≡ [] → Takes s text t
all_out h s t text puts none =
    let whole : text ≡ puts.out = puts.parts ∙ ap (λ (b : List ℕ). puts.out ++ b) none ∙ append-nil puts.out in
    rw whole puts.taken

pub drained : (job : Job) (x : List ℕ) (at_end : Bool) (h i : Gathered) (s t u : SinkState) (n frames written : ℕ) (stop : Stop) (text : List ℕ) → Passes job x at_end n frames text → Puts begun s text h t → written ≡ capped (length text)
    → Puts h t [] i u → i.bytes ≡ [] → StopsAt job (drop n x) at_end stop → Drains job x at_end s (record { passed = n; frames = frames; written = written; stop = stop }) u
drained job x at_end h i s t u n frames written stop text passes puts counted last none stopped =
    record {
      text = text;
      passes = passes;
      taken = all_out i s u text (subst (λ (b : List ℕ). Puts begun s b i u) (append-nil text) (puts_more begun h i s t u text [] puts last)) none;
      counted = counted;
      stopped = stopped;
    }

-- the text of a translation, behind the frames that were passed over
pub text_behind : (job : Job) (x : List ℕ) (at_end : Bool) (n frames : ℕ) (text : List ℕ) → Passes job x at_end n frames text → (translation job x at_end).text ≡ text ++ (translation job (drop n x) at_end).text
text_behind job x at_end n frames text passes = ap (λ t. t.text) (passed_text job x at_end n frames text passes)

front_take : (out all : List ℕ) → IsPrefix out all → out ≡ take (length out) all
front_take out all front = sym (ap (λ (b : List ℕ). take (length out) b) (sym front.1) ∙ take-append_seam out front.0)

-- a call failed behind these frames, within a piece of what comes next
pub interrupted : (job : Job) (x : List ℕ) (at_end : Bool) (h i : Gathered) (s t u : SinkState) (n frames : ℕ) (text piece behind_it : List ℕ) → length x ≤ 2 ^ 62 → Passes job x at_end n frames text → Puts begun s text h t
    → (translation job (drop n x) at_end).text ≡ piece ++ behind_it → PutsFront h t piece i u → Interrupts job x at_end s i.passed u
interrupted job x at_end h i s t u n frames text piece behind_it small passes puts next failed =
    let f = front_last begun h i s t u text piece puts failed in
    let all : (translation job x at_end).text ≡ (text ++ piece) ++ behind_it = text_behind job x at_end n frames text passes ∙ ap (λ (b : List ℕ). text ++ b) next ∙ sym (append_assoc text piece behind_it) in
    let front : IsPrefix f.out (translation job x at_end).text = (f.front.0 ++ behind_it, sym (append_assoc f.out f.front.0 behind_it) ∙ ap (λ (b : List ℕ). b ++ behind_it) f.front.1 ∙ sym all) in
    let told : i.passed ≡ length f.out = omega (arith, f.passed, front_bounded job x at_end f.out front, small) in
    record {
      short = omega (arith, told, f.short, ap length all, length-append (text ++ piece) behind_it);
      written = rw (told, ← front_take f.out (translation job x at_end).text front) f.taken;
      risen = f.risen;
      same = f.same;
    }

pub interrupted_within : (job : Job) (x : List ℕ) (at_end : Bool) (h i : Gathered) (s t u : SinkState) (n frames len : ℕ) (text payload : List ℕ) → length x ≤ 2 ^ 62 → Passes job x at_end n frames text → Puts begun s text h t
    → IsFirst job (drop n x) at_end payload len → PutsFront h t (spelling job.output payload) i u → Interrupts job x at_end s i.passed u
interrupted_within job x at_end h i s t u n frames len text payload small passes puts first failed =
    interrupted job x at_end h i s t u n frames text (spelling job.output payload) (translation job (drop len (drop n x)) at_end).text small passes puts
    (text_behind job (drop n x) at_end len 1 (spelling job.output payload) first.passes) failed

pub interrupted_behind : (job : Job) (x : List ℕ) (at_end : Bool) (h i : Gathered) (s t u : SinkState) (n frames : ℕ) (text : List ℕ) → length x ≤ 2 ^ 62 → Passes job x at_end n frames text → Puts begun s text h t
    → PutsFront h t [] i u → Interrupts job x at_end s i.passed u
interrupted_behind job x at_end h i s t u n frames text small passes puts failed =
    interrupted job x at_end h i s t u n frames text [] (translation job (drop n x) at_end).text small passes puts refl failed

-- the first frame that isn't whole
pub counts_whole : (job : Job) (x : List ℕ) (at_end : Bool) (written n frames left len : ℕ) (text payload : List ℕ) → Passes job x at_end n frames text → written ≡ length text + left → IsFirst job (drop n x) at_end payload len
    → left < length (spelling job.output payload) → CountsWhole job x at_end written frames
counts_whole job x at_end written n frames left len text payload passes is first short =
    let one = spelling job.output payload in
    let behind_it = (translation job (drop len (drop n x)) at_end).text in
    let next : (translation job (drop n x) at_end).text ≡ one ++ behind_it = text_behind job (drop n x) at_end len 1 one first.passes in
    let all : (translation job x at_end).text ≡ text ++ (one ++ behind_it) = text_behind job x at_end n frames text passes ∙ ap (λ (b : List ℕ). text ++ b) next in
    record {
      len = n;
      text = text;
      passes = passes;
      next = payload;
      others = first.others;
      stands_next = first.first;
      part = take left one;
      is_part = (drop left one, take-append-drop left one);
      short = omega (arith, short, length-take left one);
      whole =
          ap (λ (b : List ℕ). take written b) all ∙ ap (λ (k : ℕ). take k (text ++ (one ++ behind_it))) is ∙ take-append-add text (one ++ behind_it) left
          ∙ ap (λ (b : List ℕ). text ++ b) (take-append-le left one behind_it (omega (arith, short)));
    }

-- what is told of a lend within which a call failed
pub broken : (job : Job) (x : List ℕ) (at_end : Bool) (s u : SinkState) (passed frames told : ℕ) → Interrupts job x at_end s passed u → CountsWhole job x at_end passed frames → told ≡ capped passed → Breaks job x at_end s (record { frames = frames; written = told }) u
broken job x at_end s u passed frames told stops counts is =
    let all = (translation job x at_end).text in
    let size : passed ≡ length (counts.text ++ counts.part) = omega (arith, ap length counts.whole, length-take passed all, stops.short) in
    record {
      len = counts.len;
      text = counts.text;
      passes = counts.passes;
      next = counts.next;
      others = counts.others;
      stands_next = counts.stands_next;
      part = counts.part;
      is_part = counts.is_part;
      short = counts.short;
      written = rw (← counts.whole) stops.written;
      risen = stops.risen;
      same = stops.same;
      counted = is ∙ ap (λ (n : ℕ). capped n) size;
    }

-- one more frame is whole
pub counts_one : (job : Job) (x : List ℕ) (at_end : Bool) (written n frames k len more : ℕ) (text payload : List ℕ) → Passes job x at_end n frames text → written ≡ length text + k → k < length (translation job (drop n x) at_end).text
    → IsFirst job (drop n x) at_end payload len → more ≡ length (spelling job.output payload) → more ≤ k
    → record { text : List ℕ; passes : Passes job x at_end (n + len) (frames + 1) text; left : written ≡ length text + (k - more); short : k - more < length (translation job (drop (n + len) x) at_end).text }
counts_one job x at_end written n frames k len more text payload passes is short first size within =
    let one = spelling job.output payload in
    let next : (translation job (drop n x) at_end).text ≡ one ++ (translation job (drop (n + len) x) at_end).text =
    text_behind job (drop n x) at_end len 1 one first.passes ∙ ap (λ (y : List ℕ). one ++ (translation job y at_end).text) (drop-drop len n x) in
    record {
      text = text ++ one;
      passes = passes_more job x at_end n len frames 1 text one passes first.passes;
      left = omega (arith, is, size, within, length-append text one);
      short = omega (arith, short, size, within, ap length next, length-append one (translation job (drop (n + len) x) at_end).text);
    }

-- one span is all of its bytes
