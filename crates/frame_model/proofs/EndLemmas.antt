-- Which verdicts an input can have at its end, and which before it.
use Rattle.std.proofs.Common.{◌≢◌, ℕ, true, false, List, [], ◌∷◌, length}
use Rattle.frame_model.specs.declared.framing.Framing.{Framing}
use Rattle.frame_model.specs.Heads.{Layout, Counted, Lines, layout}
use Rattle.frame_model.specs.declared.framing.BadKind.{BadKind}
use Rattle.frame_model.specs.Spelling.{text}
use Rattle.frame_model.specs.Cut.{Front, Whole, Refused, Partial, front, frames, Verdict, Open, End, Rest, Bad, verdict_in, verdict_on, cut}
use Rattle.frame_model.specs.Translation.{spellable, from_unspellable, verdict_at, translation_between}

-- ---- at the end

not_open_in : (l : Layout) (before : Front) (place : ℕ) (rest : List ℕ) → verdict_in l before true place rest ≢ Open
not_open_in l (Refused kind) place rest e = cc
not_open_in (Counted heads) (Whole p more) place [] e = cc
not_open_in (Counted heads) (Whole p more) place (b ∷ rest) e = cc
not_open_in (Counted heads) Partial place [] e = cc
not_open_in (Counted heads) Partial place (b ∷ rest) e = cc
not_open_in Lines (Whole p more) place [] e = cc
not_open_in Lines (Whole p more) place (b ∷ rest) e = cc
not_open_in Lines Partial place [] e = cc
not_open_in Lines Partial place (b ∷ rest) e = cc

cut_not_open : (f : Framing) (before : Front) (place : ℕ) (rest : List ℕ) → verdict_on f before true place rest ≢ Open
cut_not_open f = not_open_in (layout f)

-- what can't be spelt is bad, so it is none of these
no_other_at : (output : Framing) (place : ℕ) (left : List (List ℕ)) (v w : Verdict) → ((at : ℕ) (kind : BadKind) → Bad at kind ≢ w) → v ≢ w → verdict_at output place left v ≢ w
no_other_at output place [] v w other differs = differs
no_other_at output place (p ∷ left) v w other differs = other _ _

abbrev place_of : Framing → Framing → List (List ℕ) → ℕ
place_of input output payloads = length (text input (spellable output payloads))

pub not_open : (input output : Framing) (max : ℕ) (x : List ℕ) → (translation_between input output max x true).verdict ≢ Open
not_open input output max x =
    let c = cut input max x true in
    let rest = (frames input max x).1 in
    no_other_at output (place_of input output c.payloads) (from_unspellable output c.payloads) c.verdict Open (λ at kind e. cc) (cut_not_open input (front input max rest) _ rest)

-- ---- before the end

record IsOpenOrBad (v : Verdict) : Type 0 where
  pub no_end : v ≢ End
  pub no_rest : (place : ℕ) → v ≢ Rest place

open_is : IsOpenOrBad Open
open_is = record { no_end = λ e. cc; no_rest = λ place e. cc }

open_or_bad_in : (l : Layout) (before : Front) (place : ℕ) (rest : List ℕ) → IsOpenOrBad (verdict_in l before false place rest)
open_or_bad_in l (Refused kind) place rest = record { no_end = λ e. cc; no_rest = λ at e. cc }
open_or_bad_in (Counted heads) (Whole p more) place rest = open_is
open_or_bad_in (Counted heads) Partial place rest = open_is
open_or_bad_in Lines (Whole p more) place rest = open_is
open_or_bad_in Lines Partial place rest = open_is

cut_open_or_bad : (f : Framing) (before : Front) (place : ℕ) (rest : List ℕ) → IsOpenOrBad (verdict_on f before false place rest)
cut_open_or_bad f = open_or_bad_in (layout f)

before_end : (input : Framing) (max : ℕ) (x : List ℕ) → IsOpenOrBad (cut input max x false).verdict
before_end input max x = let rest = (frames input max x).1 in cut_open_or_bad input (front input max rest) _ rest

pub no_end : (input output : Framing) (max : ℕ) (x : List ℕ) → (translation_between input output max x false).verdict ≢ End
no_end input output max x =
    let c = cut input max x false in
    no_other_at output (place_of input output c.payloads) (from_unspellable output c.payloads) c.verdict End (λ at kind e. cc) (before_end input max x).no_end

pub no_rest : (input output : Framing) (max : ℕ) (x : List ℕ) (place : ℕ) → (translation_between input output max x false).verdict ≢ Rest place
no_rest input output max x place =
    let c = cut input max x false in
    no_other_at output (place_of input output c.payloads) (from_unspellable output c.payloads) c.verdict (Rest place) (λ at kind e. cc) ((before_end input max x).no_rest place)
