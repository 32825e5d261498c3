-- The spans of a chain.
use Rattle.std.proofs.Common.{◌≡◌, ◌≤◌, ◌-◌, ℕ, zero, suc, List, [], ◌∷◌, ◌++◌, length, take, drop, refl, arith, ap, sym, ◌∙◌, subst, Some}
use Rattle.std.specs.Prelude.{slice_index_or, map}
use Rattle.std.specs.List.{concat}
use Rattle.std.proofs.lemmas.List.{drop-append-le, length-drop, length-map, take_all}
use Rattle.std.proofs.Math.Seq.{take-length}
use Rattle.span_seq.specs.Spans.{whole_of}
use Rattle.span_seq.specs.Spans as spans
use Rattle.pipe_core.specs.History.{bytes_of}
use Rattle.pipe_core.specs.Lends.{drop_bytes}
use Rattle.pipe_core.proofs.RunLemmas.{dropped_bytes}
use Rattle.seg_block.specs.Words.{seen}
use Rattle.pipe_state.specs.Lying.{runs_of}
use Rattle.seg_block.specs.declared.front.SegFront.{SegFront}
use Rattle.pipe_state.specs.Fetched.{Fetched, all_fetched}
use Rattle.pipe_state.specs.Chains.{first_len, front_at, spans_of}
use Rattle.pipe_state.specs.declared.arrival.Link.{Link}

pub first_span : (links : List Link) (f : SegFront) (skip : ℕ) → front_at links 0 ≡ Some f → slice_index_or (spans_of skip (all_fetched links)) 0 [] ≡ drop skip (seen f)
first_span [] f skip e = cc (e)
first_span (link ∷ links) f skip e = let same : link.front ≡ f = search (e) in ap (λ g. drop skip (seen g)) same

later_span : (links : List Link) (f : SegFront) (i : ℕ) → front_at links i ≡ Some f → slice_index_or (map (λ s. s.bytes) (all_fetched links)) i [] ≡ seen f
later_span [] f i e = cc (e)
later_span (link ∷ links) f zero e = let same : link.front ≡ f = search (e) in ap seen same
later_span (link ∷ links) f (suc i) e = later_span links f i e

pub next_span : (links : List Link) (f : SegFront) (skip i : ℕ) → (i ≡ 0 → ⊥) → front_at links i ≡ Some f → slice_index_or (spans_of skip (all_fetched links)) i [] ≡ seen f
next_span [] f skip i some e = cc (e)
next_span (link ∷ links) f skip zero some e = absurd (some refl)
next_span (link ∷ links) f skip (suc i) some e = later_span links f i e

pub within_first : (links : List Link) (f : SegFront) (skip : ℕ) → front_at links 0 ≡ Some f → skip ≤ first_len (all_fetched links) → skip ≤ length (seen f)
within_first [] f skip e within = cc (e)
within_first (link ∷ links) f skip e within = let same : link.front ≡ f = search (e) in subst (λ g. skip ≤ length (seen g)) same within

pub rest_of_span : (xs ys : List ℕ) (skip : ℕ) → xs ≡ ys → take (length xs - skip) (drop skip xs) ≡ drop skip ys
rest_of_span xs ys skip e = let n : length (drop skip xs) ≡ length xs - skip = length-drop skip xs in
    ap (λ k. take k (drop skip xs)) (sym n) ∙ take-length (drop skip xs) ∙ ap (drop skip) e

pub spans_len : (skip : ℕ) (fetched : List Fetched) → length (spans_of skip fetched) ≡ length fetched
spans_len skip [] = refl
spans_len skip (s ∷ fetched) = ap suc (length-map fetched (λ t. t.bytes))

-- ---- what lies in the spans
later_bytes : (fetched : List Fetched) → concat (map (λ s. s.bytes) fetched) ≡ bytes_of (runs_of fetched)
later_bytes [] = refl
later_bytes (s ∷ fetched) = ap (λ b. s.bytes ++ b) (later_bytes fetched)

pub spans_bytes : (skip : ℕ) (fetched : List Fetched) → skip ≤ first_len fetched → concat (spans_of skip fetched) ≡ bytes_of (drop_bytes skip (runs_of fetched))
spans_bytes skip [] within = refl
spans_bytes skip (s ∷ fetched) within =
    ap (λ b. drop skip s.bytes ++ b) (later_bytes fetched) ∙ sym (drop-append-le skip s.bytes (bytes_of (runs_of fetched)) within) ∙ sym (dropped_bytes skip (runs_of (s ∷ fetched)))

all_bytes : (xss : List (List ℕ)) → spans.bytes_of (whole_of xss) ≡ concat xss
all_bytes xss = take_all (length (concat xss) - 0) (concat xss) (omega arith)

pub lent_bytes : (skip : ℕ) (fetched : List Fetched) (part : spans.Part) → skip ≤ first_len fetched → part ≡ whole_of (spans_of skip fetched) → spans.bytes_of part ≡ bytes_of (drop_bytes skip (runs_of fetched))
lent_bytes skip fetched part within all = ap (λ p. spans.bytes_of p) all ∙ all_bytes (spans_of skip fetched) ∙ spans_bytes skip fetched within
