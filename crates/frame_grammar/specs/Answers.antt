-- What stands first in an input.
use Rattle.std.specs.Prelude.{ℕ, ◌≡◌, ◌+◌, ◌≤◌, ◌<◌, ◌⊎◌, min, nat_lt, if◌then◌else◌, Bool, true, false, List, [], ◌∷◌, ◌++◌, length, drop, slice_range}
use Rattle.frame_model.specs.declared.framing.Framing.{Framing}
use Rattle.frame_model.specs.Heads.{Layout, Lines, layout}
use Rattle.frame_model.specs.declared.framing.BadKind.TheVariants.{TooBig}
use Rattle.frame_grammar.specs.declared.cutter.Cut.{Cut}
use Rattle.frame_grammar.specs.declared.cutter.Cut.TheVariants as cuts
use Rattle.frame_model.specs.Spelling.{head_in, spelling, tail_in}
use Rattle.frame_model.specs.Cut.{Front, Whole, Refused, Partial, Verdict, Open, End, Rest, Bad, cut, behind_frame, MayCome}

-- The answer where this is the first payload. Its frame ends behind its tail, or as a last line with the input.
abbrev pub frame_in : Layout → List ℕ → List ℕ → Cut
frame_in l x p =
    let from = length (head_in l (length p)) in
    let to = from + length p in
    cuts.Frame from to (min (to + length (tail_in l)) (length x))

abbrev pub frame_of : Framing → List ℕ → List ℕ → Cut
frame_of f x p = frame_in (layout f) x p

-- The answer where there is no payload.
abbrev pub answer_of : Verdict → Cut
answer_of Open = cuts.More
answer_of End = cuts.End
answer_of (Rest place) = cuts.Rest
answer_of (Bad place kind) = cuts.Bad kind

-- The answer of an input of which these are the payloads and this is the verdict.
abbrev pub first_of : Layout → List ℕ → List (List ℕ) → Verdict → Cut
first_of l x [] verdict = answer_of verdict
first_of l x (p ∷ payloads) verdict = frame_in l x p

-- The first payload of the cut, with its bounds, or where there is none its verdict.
abbrev pub first_in : Framing → ℕ → List ℕ → Bool → Cut
first_in f max x at_end = let c = cut f max x at_end in first_of (layout f) x c.payloads c.verdict

-- An input begins with a frame that ends at `end`, and the frame's payload lies from `from` up to `to`.
pub record BeginsWithFrame (f : Framing) (max : ℕ) (x : List ℕ) (at_end : Bool) (from to end : ℕ) : Type 0 where
  -- The payload lies in the frame, and the frame in the input.
  pub ordered : (from ≤ to) × (to ≤ end) × (end ≤ length x)
  -- The frame has a byte.
  pub some : 0 < end
  -- The frame is as long as the payload is when it is spelt, or it is a last line, without a line feed.
  pub sized : (end ≡ length (spelling f (slice_range x from to))) ⊎ ((at_end ≡ true) × (end ≡ length x))
  -- Whatever may come, `z`, this payload is cut first, and then all that stands behind its frame, with places moved by the frame's length.
  pub goes_on : (z : List ℕ) (b : Bool) → MayCome at_end z b →
      cut f max (x ++ z) b ≡ behind_frame (slice_range x from to) end (cut f max (drop end x ++ z) b)

-- What an answer says of an input: that it begins with this frame, or that it has no payload and which verdict there is on it.
abbrev pub Tells : Framing → ℕ → List ℕ → Bool → Cut → Type 0
Tells f max x at_end (cuts.Frame from to end) = BeginsWithFrame f max x at_end from to end
Tells f max x at_end cuts.More = cut f max x at_end ≡ record { payloads = []; verdict = Open }
Tells f max x at_end (cuts.Bad kind) = cut f max x at_end ≡ record { payloads = []; verdict = Bad 0 kind }
Tells f max x at_end cuts.Rest = cut f max x at_end ≡ record { payloads = []; verdict = Rest 0 }
Tells f max x at_end cuts.End = cut f max x at_end ≡ record { payloads = []; verdict = End }

-- The answer from what stands at the front.
abbrev pub answer_in : Layout → List ℕ → Bool → Front → Cut
answer_in l x at_end (Whole p more) = frame_in l x p
answer_in l x at_end (Refused kind) = cuts.Bad kind
answer_in l x false Partial = cuts.More
answer_in l [] true Partial = cuts.End
answer_in Lines (b ∷ x) true Partial = frame_in Lines (b ∷ x) (b ∷ x)
answer_in l (b ∷ x) true Partial = cuts.Rest

abbrev pub answer_on : Framing → List ℕ → Bool → Front → Cut
answer_on f x at_end before = answer_in (layout f) x at_end before

-- Less than a frame, behind a head or within it.
abbrev pub answer_within : List ℕ → Bool → Cut
answer_within x false = cuts.More
answer_within [] true = cuts.End
answer_within (b ∷ x) true = cuts.Rest

-- The answer behind a head of `from` bytes that tells `len`.
abbrev pub HeadAnswers : ℕ → List ℕ → Bool → ℕ → ℕ → Cut → Type 0
HeadAnswers max x at_end from len answer =
    answer ≡ (if nat_lt max len then cuts.Bad (TooBig len)
    else if nat_lt (length x) (from + len) then answer_within x at_end
    else cuts.Frame from (from + len) (from + len))
