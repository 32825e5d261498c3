-- The input that is made from a number.
use Rattle.std.specs.Prelude.{ℕ, zero, suc, ◌+◌, ◌*◌, ◌%◌, List, [], ◌∷◌, map}
use Rattle.std.specs.List.{range_with_len}
use Rattle.frame_model.specs.declared.framing.Framing.{Framing}
use Rattle.frame_model.specs.Spelling.{text}

-- the printable characters in their order, without end, so many from there on
abbrev pub run : ℕ → ℕ → List ℕ
run start len = map (λ index. 32 + (start + index) % 95) (range_with_len 0 len)

-- how many bytes the payload of this number has: 0 to 95
abbrev pub payload_len : ℕ → ℕ → ℕ
payload_len seed number = (seed + 13 * number) % 96

-- its bytes
abbrev pub payload : ℕ → ℕ → List ℕ
payload seed number = run (seed + number) (payload_len seed number)

-- so many payloads, from this number on
abbrev pub payloads : ℕ → ℕ → ℕ → List (List ℕ)
payloads seed number zero = []
payloads seed number (suc count) = payload seed number ∷ payloads seed (suc number) count

-- the generated input: so many payloads, each spelt as a frame
abbrev pub input : ℕ → ℕ → Framing → List ℕ
input seed count framing = text framing (payloads seed 0 count)
