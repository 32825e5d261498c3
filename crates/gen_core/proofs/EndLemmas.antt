-- A generated input doesn't end within a frame.
use Rattle.std.proofs.Common.{◌≡◌, ◌≢◌, ◌+◌, ℕ, true, ◌&&◌, nat_lt, nat_le, List, [], ◌∷◌, ◌++◌, length, drop, refl, sym, ap, ◌∙◌, subst, arith, inl, inr}
use Rattle.std.specs.Prelude.{IsNone}
use Rattle.std.specs.List.{AllByRecursion, position_or_len}
use Rattle.std.proofs.lemmas.Bool.{ltb-false, leb-false, and_cases}
use Rattle.frame_model.specs.declared.framing.Framing.{Framing}
use Rattle.frame_model.specs.declared.framing.BadKind.{BadKind}
use Rattle.frame_grammar.specs.declared.job.Job.{Job}
use Rattle.frame_model.specs.declared.head.Head.{Head}
use Rattle.frame_model.specs.Heads.{Layout, Counted, Lines, layout}
use Rattle.frame_model.specs.Spelling.{is_line_feed, obstacle, spelling, text}
use Rattle.frame_model.specs.Cut.{Cutting, Verdict, Open, End, Rest, Bad, Whole, Refused, Partial, cut, front, front_in, headed_front, line_front, moved}
use Rattle.frame_model.specs.Translation.{from_unspellable, spellable, verdict_at}
use Rattle.frame_grammar.specs.Job.{translation}
use Rattle.frame_model.proofs.FrontLemmas.{IsLine, chosen, headed_is, line_is}
use Rattle.frame_model.proofs.FrameLemmas.{headed_partial}
use Rattle.frame_model.proofs.HeadLemmas.{head_len, head_number}
use Rattle.frame_model.proofs.LongestLemmas.{front_again}
use Rattle.frame_model.proofs.CutLemmas.{cut_refused, cut_whole, empty_ended}
use Rattle.gen_core.specs.Generator.{input, payloads}
use Rattle.gen_core.proofs.GenLemmas.{all_spellable}

-- what is a whole frame with some greatest payload is no part of one with another
headed_not_partial : (v : Head) (great max : ℕ) (x p more : List ℕ) → headed_front v great x ≡ Whole p more → headed_front v max x ≢ Partial
headed_not_partial v great max x p more whole = λ e.
    let c = headed_is v great x p more whole in
    elim (headed_partial v max x e) [
      | inl short ↦ let none = c.told in absurd cc
      | inr part ↦
          let same = sym c.told ∙ part.told in
          absurd (omega (arith, part.short, c.whole, ap head_len same, ap head_number same))
    ]

line_not_partial : (great max : ℕ) (x p more : List ℕ) → line_front great x ≡ Whole p more → line_front max x ≢ Partial
line_not_partial great max x p more whole = λ e.
    let l : IsLine great x p more = line_is great x p more whole in
    let n = position_or_len is_line_feed x in
    elim (chosen (nat_lt n (length x) && nat_le n max) _ _ _ e) [
      | inl a ↦ absurd cc
      | inr a ↦ elim (chosen (nat_lt max (length x)) _ _ _ a.1) [
        | inl b ↦ absurd cc
        | inr b ↦ elim (and_cases (nat_lt n (length x)) (nat_le n max) a.0) [
          | inl d ↦ absurd (omega (arith, l.ends, ltb-false n (length x) d))
          | inr d ↦ absurd (omega (arith, l.ends, leb-false n max d, ltb-false max (length x) b.0))
        ]
      ]
    ]

not_partial_in : (l : Layout) (great max : ℕ) (x p more : List ℕ) → front_in l great x ≡ Whole p more → front_in l max x ≢ Partial
not_partial_in (Counted heads) great max x p more whole = headed_not_partial (heads.tells x) great max x p more whole
not_partial_in Lines great max x p more whole = line_not_partial great max x p more whole

not_partial : (f : Framing) (great max : ℕ) (x p more : List ℕ) → front f great x ≡ Whole p more → front f max x ≢ Partial
not_partial f = not_partial_in (layout f)

-- what stands behind it is the same with both
headed_rest : (v : Head) (great max : ℕ) (x p more q behind : List ℕ) → headed_front v great x ≡ Whole p more → headed_front v max x ≡ Whole q behind → behind ≡ more
headed_rest v great max x p more q behind whole e =
    let c = headed_is v great x p more whole in
    let d = headed_is v max x q behind e in
    let same = sym d.told ∙ c.told in
    let size : d.h + d.n ≡ c.h + c.n = omega (arith, ap head_len same, ap head_number same) in
    sym d.rest ∙ ap (λ (k : ℕ). drop k x) size ∙ c.rest

same_rest_in : (l : Layout) (great max : ℕ) (x p more q behind : List ℕ) → front_in l great x ≡ Whole p more → front_in l max x ≡ Whole q behind → behind ≡ more
same_rest_in (Counted heads) great max x p more q behind whole e = headed_rest (heads.tells x) great max x p more q behind whole e
same_rest_in Lines great max x p more q behind whole e = sym (line_is max x q behind e).rest ∙ (line_is great x p more whole).rest

same_rest : (f : Framing) (great max : ℕ) (x p more q behind : List ℕ) → front f great x ≡ Whole p more → front f max x ≡ Whole q behind → behind ≡ more
same_rest f = same_rest_in (layout f)

moved_rest : (n place : ℕ) (v : Verdict) → ((at : ℕ) → v ≢ Rest at) → moved n v ≢ Rest place
moved_rest n place Open none = λ e. cc
moved_rest n place End none = λ e. cc
moved_rest n place (Rest at) none = absurd (none at refl)
moved_rest n place (Bad at kind) none = λ e. cc

bad_no_rest : (at : ℕ) (kind : BadKind) (place : ℕ) → Bad at kind ≢ Rest place
bad_no_rest at kind place e = cc

end_no_rest : (place : ℕ) → End ≢ Rest place
end_no_rest place e = cc

-- frames have no rest behind them
cut_no_rest : (f : Framing) (max : ℕ) (ps : List (List ℕ)) → AllByRecursion (λ p. IsNone (obstacle f p)) ps → (place : ℕ) → (cut f max (text f ps) true).verdict ≢ Rest place
cut_no_rest f max [] all place = subst (λ (c : Cutting). c.verdict ≢ Rest place) (sym (empty_ended f max)) (end_no_rest place)
cut_no_rest f max (p ∷ ps) all place =
    let x = spelling f p ++ text f ps in
    let whole : front f (length p) x ≡ Whole p (text f ps) = front_again f (length p) p (text f ps) (omega arith) all.0 in
    (elim (front f max x) as (λ v. front f max x ≡ v → (cut f max x true).verdict ≢ Rest place) [
      | Whole q behind ↦ λ e.
          let same : behind ≡ text f ps = same_rest f (length p) max x p (text f ps) q behind whole e in
          let others : (at : ℕ) → (cut f max behind true).verdict ≢ Rest at = subst (λ (t : List ℕ). (at : ℕ) → (cut f max t true).verdict ≢ Rest at) (sym same) (cut_no_rest f max ps all.1) in
          subst (λ (c : Cutting). c.verdict ≢ Rest place) (sym (cut_whole f max x q behind true e)) (moved_rest (length (spelling f q)) place (cut f max behind true).verdict others)
      | Refused kind ↦ λ e. subst (λ (c : Cutting). c.verdict ≢ Rest place) (sym (cut_refused f max x kind true e)) (bad_no_rest 0 kind place)
      | Partial ↦ λ e. absurd (not_partial f (length p) max x p (text f ps) whole e)
    ]) refl

verdict_no_rest : (output : Framing) (place at : ℕ) (left : List (List ℕ)) (v : Verdict) → v ≢ Rest at → verdict_at output place left v ≢ Rest at
verdict_no_rest output place at [] v none = none
verdict_no_rest output place at (p ∷ left) v none = λ e. cc

pub no_rest : (job : Job) (seed count place : ℕ) → (translation job (input seed count job.input) true).verdict ≢ Rest place
no_rest job seed count place =
    let c = cut job.input job.max (input seed count job.input) true in
    verdict_no_rest job.output (length (text job.input (spellable job.output c.payloads))) place (from_unspellable job.output c.payloads) c.verdict
    (cut_no_rest job.input job.max (payloads seed 0 count) (all_spellable job.input seed 0 count) place)
