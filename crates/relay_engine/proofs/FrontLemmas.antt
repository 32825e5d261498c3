-- Frames at the front, all at once, are passed over.
use Rattle.std.proofs.Common.{◌≡◌, ◌<◌, ◌≤◌, ◌+◌, ◌-◌, ◌^◌, ℕ, Bool, false, inl, inr, max, List, [], ◌∷◌, ◌++◌, length, take, drop, refl, sym, ap, subst, ◌∙◌, arith, append_assoc}
use Rattle.std.specs.Prelude.{IsNone, min, position}
use Rattle.std.specs.List.{AllByRecursion}
use Rattle.std.proofs.lemmas.List.{length-append, length-take, drop-append-le, drop-drop, take_at, take-append-drop, take-append-le}
use Rattle.std.proofs.lemmas.Bool.{cases_lt}
use Rattle.edge_core.specs.Device.{SinkState}
use Rattle.frame_model.specs.declared.framing.Framing.{Framing}
use Rattle.frame_model.specs.declared.framing.Framing.TheVariants.{Line}
use Rattle.frame_grammar.specs.declared.job.Job.{Job}
use Rattle.frame_model.specs.Spelling.{head_of, is_line_feed, obstacle, spelling, tail_of, text}
use Rattle.frame_model.specs.Cut.{Whole, front}
use Rattle.frame_model.specs.Translation.{behind}
use Rattle.frame_grammar.specs.Job.{translation}
use Rattle.frame_model.proofs.FrameLemmas.{frame_at, spelling_len}
use Rattle.frame_model.proofs.FrontLemmas.{line_from, line_len}
use Rattle.frame_model.proofs.LongestLemmas.{front_again}
use Rattle.frame_grammar.specs.Answers.{BeginsWithFrame, Tells, frame_of}
use Rattle.frame_grammar.proofs.AnswerLemmas.{told}
use Rattle.frame_fronts.specs.Fronts.{HasNoFrame, IsFront}
use Rattle.relay_engine.specs.declared.gathering.Passed.{Passed}
use Rattle.relay_engine.specs.Frames.{Interrupts, Passes, capped}
use Rattle.relay_engine.specs.Gathering.{Gathered, Puts, PutsFront, begun}
use Rattle.relay_engine.specs.Spelling.{BreaksFrames, PutsFrames, SpellsFront}
use Rattle.relay_engine.proofs.CleanLemmas.{before_line_feed}
use Rattle.relay_engine.proofs.FrameLemmas.{capped_more, is_first, passes_more, passes_nothing, passes_within}
use Rattle.relay_engine.proofs.DeviceLemmas.{takes_nothing}
use Rattle.relay_engine.proofs.GatherLemmas.{puts_more}
use Rattle.relay_engine.proofs.WriteLemmas.{interrupted, text_behind}

-- ---- one frame, and then all

record OneFrame (job : Job) (x p more : List ℕ) (at_end : Bool) : Type 0 where
  passes : Passes job x at_end (length (spelling job.input p)) 1 (spelling job.output p)
  rest : drop (length (spelling job.input p)) x ≡ more

one_whole : (job : Job) (x p more : List ℕ) (at_end : Bool) → front job.input job.max x ≡ Whole p more → IsNone (obstacle job.output p) → OneFrame job x p more at_end
one_whole job x p more at_end e spelt =
    let f = job.input in
    let l = frame_at f job.max x p more e in
    let from = length (head_of f (length p)) in
    let to = from + length p in
    let last = to + length (tail_of f) in
    let least : min last (length x) ≡ last = omega (arith, l.fits) in
    let size : last ≡ length (spelling f p) = sym (spelling_len f p) in
    let said : Tells f job.max x at_end (frame_of f x p) = rw e at (told f job.max x at_end) in
    let frame : BeginsWithFrame f job.max x at_end from to last = subst (λ (n : ℕ). BeginsWithFrame f job.max x at_end from to n) least said in
    let first = is_first job x at_end from to last p (sym l.payload) frame spelt in
    record {
      passes = subst (λ (n : ℕ). Passes job x at_end n 1 (spelling job.output p)) size first.passes;
      rest = subst (λ (n : ℕ). drop n x ≡ more) size l.rest;
    }

passes_same : (job : Job) (x : List ℕ) (at_end : Bool) (m n i j : ℕ) (xs : List ℕ) → m ≡ n → i ≡ j → Passes job x at_end m i xs → Passes job x at_end n j xs
passes_same job x at_end m n i j xs size count passes =
    subst (λ (k : ℕ). Passes job x at_end k j xs) size (subst (λ (k : ℕ). Passes job x at_end m k xs) count passes)

pub front_passes : (job : Job) (x : List ℕ) (at_end : Bool) (payloads : List (List ℕ)) (rest : List ℕ)
    → AllByRecursion (λ p. (length p ≤ job.max) × IsNone (obstacle job.input p) × IsNone (obstacle job.output p)) payloads → x ≡ text job.input payloads ++ rest
    → Passes job x at_end (length (text job.input payloads)) (length payloads) (text job.output payloads)
front_passes job x at_end [] rest each parts = passes_nothing job x at_end
front_passes job x at_end (p ∷ ps) rest each parts =
    let one = spelling job.input p in
    let more = text job.input ps ++ rest in
    let at_front : x ≡ one ++ more = parts ∙ append_assoc one (text job.input ps) rest in
    let e : front job.input job.max x ≡ Whole p more = rw at_front (front_again job.input job.max p more each.0.0 each.0.1) in
    let first = one_whole job x p more at_end e each.0.2 in
    let then = front_passes job (drop (length one) x) at_end ps rest each.1 first.rest in
    let both = passes_more job x at_end (length one) (length (text job.input ps)) 1 (length ps) (spelling job.output p) (text job.output ps) first.passes then in
    passes_same job x at_end _ _ _ _ _ (sym (length-append one (text job.input ps))) (omega arith) both

pub front_is_passed : (job : Job) (x : List ℕ) (at_end : Bool) (len frames : ℕ) (payloads : List (List ℕ)) → IsFront job.input job.output job.max x len frames payloads
    → Passes job x at_end len frames (text job.output payloads)
front_is_passed job x at_end len frames payloads is =
    passes_same job x at_end _ _ _ _ _ (sym is.size) (sym is.counted) (front_passes job x at_end payloads (drop len x) is.each is.parts)

-- ---- frames that are spelt anew

pub spelt_front : (job : Job) (x : List ℕ) (old new : Gathered) (s t : SinkState) (passed : Passed) → t ≡ s → SpellsFront job x old passed new → PutsFrames job x old s passed new t
spelt_front job x old new s t passed same is = record {
  text = text job.output is.payloads;
  passes = λ at_end. front_is_passed job x at_end passed.len passed.frames is.payloads is.front;
  puts = record {
    out = [];
    parts = ap (λ (g : Gathered). g.bytes) (sym is.gathered);
    taken = takes_nothing s t same;
    passed = rw is.gathered (omega arith);
  };
  counted = is.counted;
  left = is.left;
  within = omega (arith, is.unsearched);
  searched = λ line. rw is.unsearched refl;
}

-- ---- frames that stay

-- so many bytes have no line feed, where no line is whole
none_before : (max : ℕ) (x : List ℕ) (n : ℕ) → HasNoFrame Line max x → n ≤ length x → n ≤ max → IsNone (position is_line_feed (take n x))
none_before max x n none within few = elim (cases_lt (line_len x) n) [
  | inl lt ↦ absurd (none _ _ (line_from max x _ _ (record { ends = omega (arith, lt, within); within = omega (arith, lt, few); payload = refl; rest = refl })))
  | inr ge ↦ before_line_feed x n within ge
]

-- their text is they themselves
pub stays : (job : Job) (x : List ℕ) (len frames : ℕ) (payloads : List (List ℕ)) → job.input ≡ job.output → IsFront job.input job.input job.max x len frames payloads → (at_end : Bool) → Passes job x at_end len frames (take len x)
stays job x len frames payloads same is at_end =
    let as_output : IsFront job.input job.output job.max x len frames payloads = subst (λ (f : Framing). IsFront job.input f job.max x len frames payloads) same is in
    let passes = front_is_passed job x at_end len frames payloads as_output in
    let itself : take len x ≡ text job.input payloads = ap (λ (t : List ℕ). take len t) is.parts ∙ take_at (text job.input payloads) (drop len x) len (sym is.size) in
    let whole : text job.output payloads ≡ take len x = ap (λ (f : Framing). text f payloads) (sym same) ∙ sym itself in
    subst (λ (t : List ℕ). Passes job x at_end len frames t) whole passes

pub passed_front : (job : Job) (x piece : List ℕ) (old new : Gathered) (s t : SinkState) (len frames searched : ℕ) (payloads : List (List ℕ)) → job.input ≡ job.output → IsFront job.input job.input job.max x len frames payloads
    → HasNoFrame job.input job.max (drop len x) → searched ≤ length (drop len x) → searched ≤ job.max → piece ≡ take len x → Puts old s piece new t
    → PutsFrames job x old s (record { len = len; frames = frames; written = len; searched = searched }) new t
passed_front job x piece old new s t len frames searched payloads same is none within few piece_is puts =
    let size : length (take len x) ≡ len = omega (arith, length-take len x, is.size, ap length is.parts, length-append (text job.input payloads) (drop len x)) in
    record {
      text = take len x;
      passes = stays job x len frames payloads same is;
      puts = rw piece_is at puts;
      counted = sym size;
      left = λ p more e spelt small lane. absurd (none p more e);
      within = within;
      searched = λ line. none_before job.max (drop len x) searched (subst (λ (f : Framing). HasNoFrame f job.max (drop len x)) line none) within few;
    }

pub broken_front : (job : Job) (x piece : List ℕ) (old new : Gathered) (s t : SinkState) (len frames : ℕ) (payloads : List (List ℕ)) → job.input ≡ job.output → IsFront job.input job.input job.max x len frames payloads
    → piece ≡ take len x → PutsFront old s piece new t → BreaksFrames job x old s new t
broken_front job x piece old new s t len frames payloads same is piece_is failed = record {
  len = len;
  frames = frames;
  text = take len x;
  passes = stays job x len frames payloads same is;
  failed = rw piece_is at failed;
}

-- ---- behind what was put before

-- bytes of which a front is known
front_then : (x first : List ℕ) → take (length first) x ≡ first → x ≡ first ++ drop (length first) x
front_then x first is = sym (take-append-drop (length first) x) ∙ ap (λ (t : List ℕ). t ++ drop (length first) x) is

pub within_rest : (job : Job) (rest first : List ℕ) (at_end : Bool) (len frames : ℕ) (xs : List ℕ) → take (length first) rest ≡ first → ((at_end : Bool) → Passes job first at_end len frames xs) → Passes job rest at_end len frames xs
within_rest job rest first at_end len frames xs is passes =
    subst (λ (t : List ℕ). Passes job t at_end len frames xs) (sym (front_then rest first is)) (passes_within job first (drop (length first) rest) at_end len frames xs (passes false))

-- the frames at the front were put
pub record MorePut (job : Job) (x : List ℕ) (at_end : Bool) (g : Gathered) (s : SinkState) (len frames written : ℕ) (h : Gathered) (t : SinkState) : Type 0 where
  pub text : List ℕ
  pub passes : Passes job x at_end len frames text
  pub puts : Puts g s text h t
  pub counted : written ≡ capped (length text)

pub front_more : (job : Job) (x first : List ℕ) (at_end : Bool) (g h i : Gathered) (s t u : SinkState) (n frames written : ℕ) (text : List ℕ) (passed : Passed) → Passes job x at_end n frames text → Puts g s text h t → written ≡ capped (length text)
    → take (length first) (drop n x) ≡ first → PutsFrames job first h t passed i u
    → MorePut job x at_end g s (n + passed.len) (frames + passed.frames) (min (written + passed.written) (2 ^ 64 - 1)) i u
front_more job x first at_end g h i s t u n frames written text passed passes puts counted is put = record {
  text = text ++ put.text;
  passes = passes_more job x at_end n passed.len frames passed.frames text put.text passes (within_rest job (drop n x) first at_end passed.len passed.frames put.text is put.passes);
  puts = puts_more g h i s t u text put.text puts put.puts;
  counted =
      ap (λ (n : ℕ). min (n + passed.written) (2 ^ 64 - 1)) counted ∙ capped_more (length text) passed.written
      ∙ ap (λ (n : ℕ). capped n) (ap (λ (n : ℕ). length text + n) put.counted ∙ sym (length-append text put.text));
}

-- a call failed within them
pub front_failed : (job : Job) (x first : List ℕ) (at_end : Bool) (h i : Gathered) (s t u : SinkState) (n frames : ℕ) (text : List ℕ) → length x ≤ 2 ^ 62 → Passes job x at_end n frames text → Puts begun s text h t
    → take (length first) (drop n x) ≡ first → BreaksFrames job first h t i u → Interrupts job x at_end s i.passed u
front_failed job x first at_end h i s t u n frames text small passes puts is broken =
    let there = within_rest job (drop n x) first at_end broken.len broken.frames broken.text is broken.passes in
    interrupted job x at_end h i s t u n frames text broken.text (translation job (drop broken.len (drop n x)) at_end).text small passes puts
    (text_behind job (drop n x) at_end broken.len broken.frames broken.text there) broken.failed

-- what is known of line feeds behind them
first_within : (x first : List ℕ) (len m : ℕ) → take (length first) x ≡ first → len ≤ length first → m ≤ length (drop len first) → (m ≤ length (drop len x)) × (take m (drop len x) ≡ take m (drop len first))
first_within x first len m is within few =
    let z = drop (length first) x in
    let behind : drop len x ≡ drop len first ++ z = ap (λ (t : List ℕ). drop len t) (front_then x first is) ∙ drop-append-le len first z within in
    (omega (arith, few, ap length behind, length-append (drop len first) z), ap (λ (t : List ℕ). take m t) behind ∙ take-append-le m (drop len first) z few)

known_same : (x : List ℕ) (f : Framing) (m n : ℕ) → m ≡ n → (n ≤ length x) × (f ≡ Line → IsNone (position is_line_feed (take n x))) → (m ≤ length x) × (f ≡ Line → IsNone (position is_line_feed (take m x)))
known_same x f m n same known = rw same known

pub known_is : (x first : List ℕ) (f : Framing) (known len searched new : ℕ) → take (length first) x ≡ first → len ≤ length first → known ≤ length x → (f ≡ Line → IsNone (position is_line_feed (take known x)))
    → searched ≤ length (drop len first) → (f ≡ Line → IsNone (position is_line_feed (take searched (drop len first)))) → (len ≡ 0 → new ≡ max known searched) → (0 < len → new ≡ searched)
    → (new ≤ length (drop len x)) × (f ≡ Line → IsNone (position is_line_feed (take new (drop len x))))
known_is x first f known len searched new is in_first within none few clear same behind =
    let there = first_within x first len searched is in_first few in
    let more : (searched ≤ length (drop len x)) × (f ≡ Line → IsNone (position is_line_feed (take searched (drop len x)))) = (there.0, λ line. rw there.1 (clear line)) in
    elim (cases_lt 0 len) [
      | inl some ↦ known_same (drop len x) f new searched (behind some) more
      | inr nothing ↦
          let empty : len ≡ 0 = omega (arith, nothing) in
          elim (cases_lt known searched) [
            | inl lt ↦ known_same (drop len x) f new searched (omega (arith, same empty, lt)) more
            | inr ge ↦ known_same (drop len x) f new known (omega (arith, same empty, ge)) (rw empty (within, none))
          ]
    ]

-- a front of a front lies within the rest
pub behind_rest : (rest first : List ℕ) (len : ℕ) → take (length first) rest ≡ first → len ≤ length first → len ≤ length rest
behind_rest rest first len is within = omega (arith, within, ap length is, length-take (length first) rest)

-- what lies behind them
pub rest_is : (x rest left : List ℕ) (n len : ℕ) → rest ≡ drop n x → left ≡ drop len rest → left ≡ drop (n + len) x
rest_is x rest left n len is left_is = left_is ∙ ap (λ (t : List ℕ). drop len t) is ∙ drop-drop len n x
