-- The lines that tell how a command ended.
use Rattle.std.specs.Prelude.{ℕ, ◌⊎◌, List, [], ◌∷◌, ◌++◌, codes, decimal}
use Rattle.edge_core.specs.Device.{SinkState, Takes, TakesFront}
use Rattle.frame_model.specs.declared.framing.BadKind.{BadKind}
use Rattle.frame_model.specs.declared.framing.BadKind.TheVariants.{TooBig, Unspellable, BadHead}
use Rattle.relay_model.specs.declared.ending.Outcome.{Outcome}
use Rattle.relay_model.specs.declared.ending.Outcome.TheVariants.{Clean, BadFrame, Truncated, ReadFault, WriteFault, TooLong}

-- How a bad frame is told: its payload's length, the index of the byte that can't be spelt, or how many bytes begin no head.
abbrev pub kind_text : BadKind → List ℕ
kind_text (TooBig len) = codes ": length " ++ decimal len ++ 10 ∷ []
kind_text (Unspellable at) = codes ": byte " ++ decimal at ++ 10 ∷ []
kind_text (BadHead bytes) = codes ": head " ++ decimal bytes ++ 10 ∷ []

-- The line for a relay, from how it ended and the bytes that it took and wrote. A clean end has none.
abbrev pub line_of : Outcome → ℕ → ℕ → List ℕ
line_of Clean taken written = []
line_of (BadFrame place kind) taken written = codes "bad frame at " ++ decimal place ++ kind_text kind
line_of (Truncated place) taken written = codes "truncated at " ++ decimal place ++ 10 ∷ []
line_of ReadFault taken written = codes "read fault after " ++ decimal taken ++ 10 ∷ []
line_of WriteFault taken written = codes "write fault after " ++ decimal written ++ 10 ∷ []
line_of TooLong taken written = codes "too long\n"

-- The line for words of which this one can't be read.
abbrev pub usage_line : ℕ → List ℕ
usage_line word = codes "usage: word " ++ decimal word ++ 10 ∷ []

-- The line for want of memory.
abbrev pub memory_line : List ℕ
memory_line = codes "out of memory\n"

-- The line for a device that couldn't be opened, which this word names.
abbrev pub door_line : ℕ → List ℕ
door_line word = codes "door fault at word " ++ decimal word ++ 10 ∷ []

-- A line was written, or a front of it where a write failed.
abbrev pub IsWritten : List ℕ → SinkState → SinkState → Type 0
IsWritten line before after = Takes before line after ⊎ ((count : ℕ) × TakesFront before line count after)
