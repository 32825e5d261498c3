-- How frames are laid out, by their framing.
use Rattle.std.specs.Prelude.{ℕ, ⊤, ◌≤◌, ◌<◌, zero, suc, ◌+◌, ◌*◌, ◌%◌, ◌/◌, ◌^◌, nat_lt, ◌||◌, Bool, true, false, List, [], ◌∷◌, length, take, Option, Some, None, if◌then◌else◌}
use Rattle.std.specs.Int.{Width, w16, w32, byte_len, from_be_bytes, to_be_bytes}
use Rattle.frame_model.specs.declared.framing.Framing.{Framing}
use Rattle.frame_model.specs.declared.framing.Framing.TheVariants.{Len4, Len2, Line, VLen}
use Rattle.frame_model.specs.declared.head.Head.{Head}
use Rattle.frame_model.specs.declared.head.Head.TheVariants.{Short, Broken, Told}

-- How a payload's length stands before it.
pub record Heads : Type 0 where
  -- What the front of an input tells.
  pub tells : List ℕ → Head
  -- How a length is written.
  pub writes : ℕ → List ℕ
  -- Each length below it can be told.
  pub limit : ℕ
  -- No head has more bytes.
  pub longest : ℕ

-- Each payload stands behind a head that tells its length, or it ends at a line feed.
pub data Layout : Type 0 where
  Counted : Heads → Layout
  Lines : Layout

-- The length as a number of this width, most significant byte first.
abbrev pub number_head : Width → List ℕ → Head
number_head w x = if nat_lt (length x) (byte_len w) then Short else Told (byte_len w) (from_be_bytes w (take (byte_len w) x))

abbrev pub numbers : Width → ℕ → Heads
numbers w limit = record { tells = number_head w; writes = to_be_bytes w; limit = limit; longest = byte_len w }

-- A length in groups of 7 bits, least significant first, in at most so many bytes. Each byte but the last has its high bit set.
abbrev pub groups : ℕ → ℕ → List ℕ
groups zero n = []
groups (suc most) n = if nat_lt n 128 then n ∷ [] else (128 + n % 128) ∷ groups most (n / 128)

-- A head behind a group.
abbrev pub behind_group : ℕ → Head → Head
behind_group low Short = Short
behind_group low (Broken k) = Broken (suc k)
behind_group low (Told h n) = Told (suc h) (low + 128 * n)

-- Its bytes and what they tell are few.
abbrev pub IsSmallHead : Head → Type 0
IsSmallHead Short = ⊤
IsSmallHead (Broken k) = k ≤ 3
IsSmallHead (Told h n) = (h ≤ 3) × (n < 2 ^ 21)

-- Such a length in at most so many bytes. Behind a first group the last must not be 0, since a shorter head tells the same.
abbrev pub group_head : ℕ → Bool → List ℕ → Head
group_head zero alone x = Broken 0
group_head (suc most) alone [] = Short
group_head (suc most) alone (b ∷ x) =
    if nat_lt b 128 then (if alone || nat_lt 0 b then Told 1 b else Broken 1)
    else behind_group (b % 128) (group_head most false x)

abbrev pub grouped : Heads
grouped = record { tells = group_head 4 true; writes = groups 4; limit = 2 ^ 28; longest = 4 }

-- What each framing is. All else is told of layouts.
abbrev pub layout : Framing → Layout
layout Len4 = Counted (numbers w32 (2 ^ 32))
layout Len2 = Counted (numbers w16 (2 ^ 16))
layout VLen = Counted grouped
layout Line = Lines

-- What the front of an input tells, where the framing has heads.
abbrev pub told_in : Layout → List ℕ → Option Head
told_in (Counted heads) x = Some (heads.tells x)
told_in Lines x = None

abbrev pub told_by : Framing → List ℕ → Option Head
told_by f x = told_in (layout f) x
