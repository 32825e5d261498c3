-- What contracts see of a chain.
use Rattle.std.specs.Prelude.{◌≡◌, ◌≤◌, ℕ, List, [], ◌∷◌, length, drop, map, slice_get, Option, IfSome, option_map}
use Rattle.std.specs.List.{AllByRecursion}
use Rattle.seg_block.specs.declared.front.SegFront.{SegFront}
use Rattle.pipe_state.specs.declared.arrival.Link.{Link}
use Rattle.pipe_state.specs.Fetched.{Fetched, IsEnd, all_fetched, label_of}
use Rattle.pipe_state.specs.Released.{bytes_in}

-- Its segments, how many bytes of the first are consumed, and how many segments it has room for.
pub record ChainState : Type 0 where
  pub links : List Link
  pub skip : ℕ
  pub capacity : ℕ

-- how many bytes the reader has of the first segment, none where there is none
abbrev pub first_len : List Fetched → ℕ
first_len [] = 0
first_len (segment ∷ fetched) = length segment.bytes

-- The end that a link has is that of its segment.
abbrev pub IsLink : Link → Type 0
IsLink link = IfSome link.end (IsEnd (label_of link.front))

-- It is so many, where it is told.
abbrev pub Counts : Option ℕ → ℕ → Type 0
Counts told n = IfSome told (λ it. it ≡ n)

-- What the reader has consumed of the first, and how many bytes all have.
pub record IsChain (links : List Link) (skip : ℕ) (held : Option ℕ) : Type 0 where
  pub within : skip ≤ first_len (all_fetched links)
  pub ends : AllByRecursion IsLink links
  pub counted : Counts held (length (bytes_in (all_fetched links)))

-- what is lent: the bytes of each segment, of the first without what is consumed
abbrev pub spans_of : ℕ → List Fetched → List (List ℕ)
spans_of skip [] = []
spans_of skip (segment ∷ fetched) = drop skip segment.bytes ∷ map (λ s. s.bytes) fetched

-- the front of the segment of a span
abbrev pub front_at : List Link → ℕ → Option SegFront
front_at links index = option_map (λ link. link.front) (slice_get links index)
