-- How an input is cut into frames.
use Rattle.std.specs.Prelude.{ℕ, zero, suc, ◌≡◌, ◌≢◌, ◌+◌, ◌≤◌, ◌<◌, ◌^◌, ◌⊎◌, nat_lt, nat_le, ◌&&◌, Bool, true, false, List, [], ◌∷◌, ◌++◌, length, take, drop, slice_index, IsNone, if◌then◌else◌}
use Rattle.std.specs.List.{position_or_len, AllByRecursion}
use Rattle.std.specs.Int.{Width, byte_len, from_be_bytes}
use Rattle.frame_model.specs.declared.framing.Framing.{Framing}
use Rattle.frame_model.specs.declared.framing.BadKind.{BadKind}
use Rattle.frame_model.specs.declared.framing.BadKind.TheVariants.{TooBig, BadHead}
use Rattle.frame_model.specs.declared.head.Head.{Head}
use Rattle.frame_model.specs.declared.head.Head.TheVariants.{Short, Broken, Told}
use Rattle.frame_model.specs.Heads.{Heads, groups, Layout, Counted, Lines, layout}
use Rattle.frame_model.specs.Spelling.{is_line_feed, obstacle, text}

-- What stands at the front of an input: a whole frame, with its payload and what follows it,
-- something that is no lawful frame however it goes on, or less than a frame.
pub data Front : Type 0 where
  Whole : List ℕ → List ℕ → Front
  Refused : BadKind → Front
  Partial : Front

-- A head, and as many bytes as it tells.
abbrev pub headed_front : Head → ℕ → List ℕ → Front
headed_front Short max x = Partial
headed_front (Broken k) max x = Refused (BadHead k)
headed_front (Told h n) max x =
    if nat_lt max n then Refused (TooBig n)
    else if nat_lt (length x) (h + n) then Partial
    else Whole (take n (drop h x)) (drop (h + n) x)

-- The bytes up to a line feed.
abbrev pub line_front : ℕ → List ℕ → Front
line_front max x =
    let n = position_or_len is_line_feed x in
    if nat_lt n (length x) && nat_le n max then Whole (take n x) (drop (n + 1) x)
    else if nat_lt max (length x) then Refused (TooBig (max + 1))
    else Partial

-- What stands at the front, by the framing.
abbrev pub front_in : Layout → ℕ → List ℕ → Front
front_in (Counted heads) max x = headed_front (heads.tells x) max x
front_in Lines max x = line_front max x

abbrev pub front : Framing → ℕ → List ℕ → Front
front f max x = front_in (layout f) max x

-- The payloads of the whole frames, and the rest behind them. Each frame has a byte, so there are at most `length x`.
abbrev pub frames_within : ℕ → Framing → ℕ → List ℕ → List (List ℕ) × List ℕ
frames_within zero f max x = ([], x)
frames_within (suc most) f max x = elim (front f max x) [
  | Whole p more ↦ let others = frames_within most f max more in (p ∷ others.0, others.1)
  | Refused kind ↦ ([], x)
  | Partial ↦ ([], x)
]

-- The same without a bound on how many there are.
abbrev pub frames : Framing → ℕ → List ℕ → List (List ℕ) × List ℕ
frames f max x = frames_within (length x) f max x

-- What is said of an input beyond its payloads. More may come (Open), it ends behind its last frame (End),
-- it ends within a frame that begins at a place (Rest), or a bad frame begins at a place (Bad).
pub data Verdict : Type 0 where
  Open : Verdict
  End : Verdict
  Rest : ℕ → Verdict
  Bad : ℕ → BadKind → Verdict

-- The payloads of an input, and the verdict on it.
pub record Cutting : Type 0 where
  pub payloads : List (List ℕ)
  pub verdict : Verdict

-- At the end of the input, a line need not be ended: the rest is a payload then.
abbrev pub last_line_in : Layout → Front → Bool → List ℕ → List (List ℕ)
last_line_in Lines Partial true (b ∷ rest) = (b ∷ rest) ∷ []
last_line_in l before at_end rest = []

abbrev pub last_line : Framing → Front → Bool → List ℕ → List (List ℕ)
last_line f before at_end rest = last_line_in (layout f) before at_end rest

-- The verdict, from what stands at the front of a rest that begins at a place.
abbrev pub verdict_in : Layout → Front → Bool → ℕ → List ℕ → Verdict
verdict_in l (Refused kind) at_end place rest = Bad place kind
verdict_in l before false place rest = Open
verdict_in l before true place [] = End
verdict_in Lines before true place (b ∷ rest) = End
verdict_in l before true place (b ∷ rest) = Rest place

abbrev pub verdict_on : Framing → Front → Bool → ℕ → List ℕ → Verdict
verdict_on f before at_end place rest = verdict_in (layout f) before at_end place rest

-- An input as a framing cuts it, with payloads of at most `max` bytes. `at_end` says that nothing more comes.
abbrev pub cut : Framing → ℕ → List ℕ → Bool → Cutting
cut f max x at_end =
    let whole = frames f max x in
    let before = front f max whole.1 in
    record {
      payloads = whole.0 ++ last_line f before at_end whole.1;
      verdict = verdict_on f before at_end (length (text f whole.0)) whole.1;
    }

-- ---- the same in words

-- An input begins with the frames of these payloads, each of at most `max` bytes, and this is behind them.
pub record BeginsWith (f : Framing) (max : ℕ) (x : List ℕ) (payloads : List (List ℕ)) (rest : List ℕ) : Type 0 where
  pub each : AllByRecursion (λ p. (length p ≤ max) × IsNone (obstacle f p)) payloads
  pub parts : x ≡ text f payloads ++ rest

-- Each number is a byte.
abbrev pub IsBytes : List ℕ → Type 0
IsBytes x = (k : ℕ) → slice_index x k < 256

-- An input begins with a whole head, which tells more than `max` bytes.
pub record HasTooGreatHead (heads : Heads) (max : ℕ) (x : List ℕ) (kind : BadKind) : Type 0 where
  pub bytes : ℕ
  pub number : ℕ
  pub whole : heads.tells x ≡ Told bytes number
  pub too_great : max < number
  pub told : kind ≡ TooBig number

-- An input begins with so many bytes that are no head.
pub record HasBrokenHead (heads : Heads) (x : List ℕ) (kind : BadKind) : Type 0 where
  pub bytes : ℕ
  pub broken : heads.tells x ≡ Broken bytes
  pub told : kind ≡ BadHead bytes

-- An input begins with more than `max` bytes of a line, wherever the line ends.
pub record HasTooLongLine (max : ℕ) (x : List ℕ) (kind : BadKind) : Type 0 where
  pub longer : max < length x
  pub unended : (k : ℕ) → k ≤ max → slice_index x k ≢ 10
  pub told : kind ≡ TooBig (max + 1)

-- No frame with a payload of at most `max` bytes stands at the front, however the input goes on.
abbrev pub IsRefusedIn : Layout → ℕ → List ℕ → BadKind → Type 0
IsRefusedIn (Counted heads) max x kind = HasTooGreatHead heads max x kind ⊎ HasBrokenHead heads x kind
IsRefusedIn Lines max x kind = HasTooLongLine max x kind

abbrev pub IsRefused : Framing → ℕ → List ℕ → BadKind → Type 0
IsRefused f max x kind = IsRefusedIn (layout f) max x kind

-- A head of h bytes that tells n, where heads are numbers of a width.
pub record IsNumberHead (w : Width) (x : List ℕ) (h n : ℕ) : Type 0 where
  pub whole : byte_len w ≤ length x
  pub size : h ≡ byte_len w
  pub number : n ≡ from_be_bytes w (take (byte_len w) x)

-- A head of h bytes that tells n, where heads are groups of 7 bits: the input begins with n's only spelling.
pub record IsGroupHead (x : List ℕ) (h n : ℕ) : Type 0 where
  pub below : n < 2 ^ 28
  pub size : h ≡ length (groups 4 n)
  pub begins : take h x ≡ groups 4 n

-- The first k bytes are no such head: 2 to 4 bytes of which all but the last are at least 128 and the last is 0, or 4 bytes
-- that are all at least 128.
pub record IsBadHead (x : List ℕ) (k : ℕ) : Type 0 where
  pub some : 2 ≤ k
  pub most : k ≤ 4
  pub long : k ≤ length x
  pub high : (i : ℕ) → suc i < k → 128 ≤ slice_index x i
  pub last : (i : ℕ) → suc i ≡ k → (slice_index x i ≡ 0) ⊎ ((k ≡ 4) × (128 ≤ slice_index x i))

-- ---- an input behind a frame

-- The verdict on an input behind n bytes.
abbrev pub moved : ℕ → Verdict → Verdict
moved n Open = Open
moved n End = End
moved n (Rest place) = Rest (n + place)
moved n (Bad place kind) = Bad (n + place) kind

-- A payload whose frame has n bytes, and then this cutting.
abbrev pub behind_frame : List ℕ → ℕ → Cutting → Cutting
behind_frame p n c = record { payloads = p ∷ c.payloads; verdict = moved n c.verdict }

-- What may still come behind an input: nothing, where it is at its end.
abbrev pub MayCome : Bool → List ℕ → Bool → Type 0
MayCome false z at_end = Unit {0}
MayCome true z at_end = (z ≡ []) × (at_end ≡ true)
