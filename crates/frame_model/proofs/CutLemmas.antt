-- How an input is cut, by what stands at its front.
use Rattle.std.proofs.Common.{◌≡◌, ◌+◌, ℕ, Bool, true, false, List, [], ◌∷◌, length, refl, ◌∙◌}
use Rattle.std.proofs.lemmas.List.{length-append}
use Rattle.frame_model.specs.declared.framing.Framing.{Framing}
use Rattle.frame_model.specs.declared.framing.BadKind.{BadKind}
use Rattle.frame_model.specs.Heads.{Layout, Counted, Lines, layout}
use Rattle.frame_model.specs.Spelling.{spelling, text}
use Rattle.frame_model.specs.Cut.{Front, Whole, Refused, Partial, front, frames, Open, End, Bad, last_line, last_line_in, verdict_in, verdict_on, cut, moved, behind_frame}
use Rattle.frame_model.proofs.FrontLemmas.{front_empty}
use Rattle.frame_model.proofs.FramesLemmas.{frames_whole, frames_refused, frames_partial}
use Rattle.frame_model.proofs.TranslationLemmas.{no_last_refused}

-- a verdict moves with its place
verdict_moved_in : (l : Layout) (v : Front) (at_end : Bool) (n place : ℕ) (rest : List ℕ) → verdict_in l v at_end (n + place) rest ≡ moved n (verdict_in l v at_end place rest)
verdict_moved_in l (Refused kind) at_end n place rest = refl
verdict_moved_in (Counted heads) (Whole p more) false n place rest = refl
verdict_moved_in (Counted heads) (Whole p more) true n place [] = refl
verdict_moved_in (Counted heads) (Whole p more) true n place (b ∷ rest) = refl
verdict_moved_in (Counted heads) Partial false n place rest = refl
verdict_moved_in (Counted heads) Partial true n place [] = refl
verdict_moved_in (Counted heads) Partial true n place (b ∷ rest) = refl
verdict_moved_in Lines (Whole p more) false n place rest = refl
verdict_moved_in Lines (Whole p more) true n place [] = refl
verdict_moved_in Lines (Whole p more) true n place (b ∷ rest) = refl
verdict_moved_in Lines Partial false n place rest = refl
verdict_moved_in Lines Partial true n place [] = refl
verdict_moved_in Lines Partial true n place (b ∷ rest) = refl

verdict_moved : (f : Framing) (v : Front) (at_end : Bool) (n place : ℕ) (rest : List ℕ) → verdict_on f v at_end (n + place) rest ≡ moved n (verdict_on f v at_end place rest)
verdict_moved f = verdict_moved_in (layout f)

-- behind a whole frame the cut goes on
pub cut_whole : (f : Framing) (max : ℕ) (x p more : List ℕ) (at_end : Bool) → front f max x ≡ Whole p more → cut f max x at_end ≡ behind_frame p (length (spelling f p)) (cut f max more at_end)
cut_whole f max x p more at_end e =
    let rest = (frames f max more).1 in
    let before = front f max rest in
    rw (frames_whole f max x p more e, length-append (spelling f p) (text f (frames f max more).0), verdict_moved f before at_end (length (spelling f p)) (length (text f (frames f max more).0)) rest) refl

pub cut_refused : (f : Framing) (max : ℕ) (x : List ℕ) (kind : BadKind) (at_end : Bool) → front f max x ≡ Refused kind → cut f max x at_end ≡ record { payloads = []; verdict = Bad 0 kind }
cut_refused f max x kind at_end e = rw (frames_refused f max x kind e, e, no_last_refused f kind at_end x) refl

pub cut_partial : (f : Framing) (max : ℕ) (x : List ℕ) (at_end : Bool) → front f max x ≡ Partial → cut f max x at_end ≡ record { payloads = last_line f Partial at_end x; verdict = verdict_on f Partial at_end 0 x }
cut_partial f max x at_end e = rw (frames_partial f max x e, e) refl

-- ---- an input of nothing

nothing_in : (l : Layout) (at_end : Bool) → last_line_in l Partial at_end [] ≡ []
nothing_in (Counted heads) at_end = refl
nothing_in Lines true = refl
nothing_in Lines false = refl

open_in : (l : Layout) (place : ℕ) (rest : List ℕ) → verdict_in l Partial false place rest ≡ Open
open_in (Counted heads) place rest = refl
open_in Lines place rest = refl

end_in : (l : Layout) (place : ℕ) → verdict_in l Partial true place [] ≡ End
end_in (Counted heads) place = refl
end_in Lines place = refl

pub empty_open : (f : Framing) (max : ℕ) → cut f max [] false ≡ record { payloads = []; verdict = Open }
empty_open f max = cut_partial f max [] false (front_empty f max) ∙ rw (nothing_in (layout f) false, open_in (layout f) 0 []) refl

pub empty_ended : (f : Framing) (max : ℕ) → cut f max [] true ≡ record { payloads = []; verdict = End }
empty_ended f max = cut_partial f max [] true (front_empty f max) ∙ rw (nothing_in (layout f) true, end_in (layout f) 0) refl
