-- Whole frames at the front of some bytes.
use Rattle.std.specs.Prelude.{ℕ, ◌≡◌, ◌≢◌, ◌+◌, ◌≤◌, ◌<◌, List, ◌++◌, length, take, drop, slice_index, IsNone}
use Rattle.std.specs.List.{AllByRecursion}
use Rattle.frame_model.specs.declared.framing.Framing.{Framing}
use Rattle.frame_model.specs.Spelling.{obstacle, text}
use Rattle.frame_model.specs.Cut.{Whole, front}

-- A frame of `end` bytes stands at the front, and its payload of `len` bytes lies there behind `from` bytes.
pub record IsWhole (f : Framing) (max : ℕ) (x : List ℕ) (from len end : ℕ) : Type 0 where
  pub whole : front f max x ≡ Whole (take len (drop from x)) (drop end x)
  pub within : (from + len ≤ end) × (end ≤ length x)

-- No whole frame stands at the front.
abbrev pub HasNoFrame : Framing → ℕ → List ℕ → Type 0
HasNoFrame f max x = (p more : List ℕ) → front f max x ≢ Whole p more

-- Why frames are left where the room has so many bytes more: none stands whole at the front, or it has no frame in the
-- output, or the room is too small for it, or less than a lane is behind it. A lane may be written behind a payload, a head
-- before it and a byte behind that.
abbrev pub IsLeft : Framing → Framing → ℕ → List ℕ → ℕ → Type 0
IsLeft input output max x room = (p more : List ℕ) → front input max x ≡ Whole p more → IsNone (obstacle output p) → 16 ≤ length more → room < length p + 21

-- A frame at the front that can be spelt anew in a room of so many bytes.
pub record IsNext (input output : Framing) (max : ℕ) (x : List ℕ) (room from len end : ℕ) : Type 0 where
  pub whole : IsWhole input max x from len end
  pub lane : from + len + 16 ≤ length x
  pub fits : len + 21 ≤ room
  pub possible : IsNone (obstacle output (take len (drop from x)))

-- The first `len` bytes are so many frames with these payloads, each of which has a frame in the output too.
pub record IsFront (input output : Framing) (max : ℕ) (x : List ℕ) (len frames : ℕ) (payloads : List (List ℕ)) : Type 0 where
  pub counted : frames ≡ length payloads
  pub size : len ≡ length (text input payloads)
  pub parts : x ≡ text input payloads ++ drop len x
  pub each : AllByRecursion (λ p. (length p ≤ max) × IsNone (obstacle input p) × IsNone (obstacle output p)) payloads

-- The same, and the output's text of these payloads was put into a room behind its first `at` bytes.
pub record IsSpelt (input output : Framing) (max : ℕ) (x : List ℕ) (len frames : ℕ) (old : List ℕ) (at : ℕ) (new : List ℕ) (end : ℕ) : Type 0 where
  pub payloads : List (List ℕ)
  pub front : IsFront input output max x len frames payloads
  pub end_is : end ≡ at + length (text output payloads)
  pub put : take end new ≡ take at old ++ text output payloads

-- None of the bytes from one place up to another is a line feed.
abbrev pub IsClear : List ℕ → ℕ → ℕ → Type 0
IsClear x from to = (k : ℕ) → from ≤ k → k < to → slice_index x k ≢ 10

-- One of them is.
pub record HasFeed (x : List ℕ) (from to : ℕ) : Type 0 where
  pub place : ℕ
  pub low : from ≤ place
  pub high : place < to
  pub feed : slice_index x place ≡ 10
