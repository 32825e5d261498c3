-- What lies in the buffer of a pipe.
use Rattle.std.specs.Prelude.{ℕ, ◌≡◌, ◌+◌, ◌≤◌, Bool, List, [], ◌++◌, length, take, drop, slice_range, if◌then◌else◌}

-- What is committed and not consumed, what was written behind it and is not committed, and the free part behind that.
pub record Bytes : Type 0 where
  pub held : List ℕ
  pub draft : List ℕ
  pub free : List ℕ

abbrev pub capacity_of : Bytes → ℕ
capacity_of b = length b.held + length b.draft + length b.free

-- bytes with w written over their front
abbrev pub overwritten : List ℕ → List ℕ → List ℕ
overwritten bytes w = take (length bytes) (w ++ drop (length w) bytes)

-- the first n bytes of the free part join the draft at its end
abbrev pub with_draft : Bytes → ℕ → Bytes
with_draft b n = record b { draft = b.draft ++ take n b.free; free = drop n b.free }

-- the draft is committed, or dropped
abbrev pub settled : Bool → Bytes → Bytes
settled dropped b = if dropped then record { held = b.held; draft = []; free = b.draft ++ b.free }
    else record { held = b.held ++ b.draft; draft = []; free = b.free }

-- these bytes are committed at once, or dropped, where there is no draft
abbrev pub with_committed : Bool → List ℕ → Bytes → Bytes
with_committed dropped bytes b = if dropped then b else record b { held = b.held ++ bytes; free = drop (length bytes) b.free }

-- the parts of a room, by where they begin
abbrev pub parts : List ℕ → ℕ → ℕ → ℕ → ℕ → Bytes
parts room capacity start committed end = record {
  held = slice_range room start committed;
  draft = slice_range room committed end;
  free = slice_range room end (start + capacity);
}

-- The room is twice the capacity, and a window of the capacity, which begins in its first half, has all three parts.
pub record IsLaidOut (room : List ℕ) (capacity start committed end : ℕ) : Type 0 where
  pub room_is : length room ≡ capacity + capacity
  pub held_in : start ≤ committed
  pub draft_in : committed ≤ end
  pub free_in : end ≤ start + capacity
  pub window_in : start ≤ capacity
