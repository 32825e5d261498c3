-- What an arrival tells of a segment.
use Rattle.std.proofs.Common.{◌≡◌, false, List, [], ◌∷◌, ◌++◌, length, refl, ap, sym, ◌∙◌, subst, arith, Option, Some, None}
use Rattle.std.specs.Prelude.{is_some, IfSome}
use Rattle.std.proofs.lemmas.List.{length-append, append-nil}
use Rattle.seg_block.specs.Words.{mark_part, marked, published, draft, tail_part, SameTail, Ends}
use Rattle.seg_block.specs.declared.front.SegFront.{SegFront}
use Rattle.seg_block.specs.declared.tail.SegTail.{SegTail}
use Rattle.seg_block.specs.declared.tail.Mark.{Mark}
use Rattle.seg_block.specs.declared.tail.TailEnd.{TailEnd}
use Rattle.seg_block.specs.declared.tail.TailEnd.TheVariants.{Last, Note}
use Rattle.pipe_state.specs.Fetched.{Fetched, Continues, FitsLast, IsEnd, continued, fetched_front}
use Rattle.pipe_state.specs.Sides.{IsFilling, filling_of, tail_label}
use Rattle.pipe_state.specs.Sending.{Tells}
use Rattle.pipe_state.proofs.FetchedLemmas.{last_goes_on}

last_fits : (before : List Fetched) (s : Fetched) (mark : Mark) (end : Option TailEnd) → Continues s mark end → FitsLast (before ++ s ∷ []) mark end
last_fits [] s mark end continues = continues
last_fits (t ∷ []) s mark end continues = continues
last_fits (t ∷ u ∷ before) s mark end continues = last_fits (u ∷ before) s mark end continues

pub tells : (tail : SegTail) (front : Option SegFront) (mark : Mark) (end : Option TailEnd) → IsFilling tail front → mark_part mark ≡ tail_part tail
    → marked mark ≡ published tail ++ draft tail → IfSome end (IsEnd (tail_label tail))
    → Tells (filling_of tail front) (record { label = tail_label tail; bytes = published tail ++ draft tail; finished = is_some end }) (record { front = front; mark = mark; end = end })
tells tail None mark end is part all ends =
    let s : Fetched = record { label = tail_label tail; bytes = published tail; finished = false } in
    let n = length-append (published tail) (draft tail) in let m = ap length all in
    record {
      fits = λ before. last_fits before s mark end (record { part = part; longer = omega arith; going = refl; ends = ends });
      then = λ before. last_goes_on before s mark end ∙ ap (λ b. before ++ record { label = tail_label tail; bytes = b; finished = is_some end } ∷ []) all;
      fronted = refl;
    }
tells tail (Some front) mark end is part all ends =
    let label = is.0 in
    let none = ap length is.1 in
    record {
      fits = λ before. record { part = part ∙ sym (ap (λ l. l.part) label); longer = omega arith; going = refl; ends = subst (λ l. IfSome end (IsEnd l)) (sym label) ends };
      then = λ before. ap (λ b. b ++ continued (fetched_front front) mark end ∷ []) (append-nil before)
          ∙ (λ i. before ++ record { label = label i; bytes = all i; finished = is_some end } ∷ []);
      fronted = refl;
    }

pub end_is : (tail tail' : SegTail) (end : TailEnd) → SameTail tail tail' → Ends tail' end → IsEnd (tail_label tail) end
end_is tail tail' (Last block) same ends = (ends.0 ∙ same.1, ends.1 ∙ same.2, ends.2 ∙ ap (λ p. p.0) same.0)
end_is tail tail' (Note note) same ends = ends.0 ∙ same.0
