-- What a set of bytes has.
use Rattle.std.specs.Prelude.{ℕ, Bool, ◌==◌, ◌||◌, ◌+◌, ◌*◌, ◌/◌, ◌%◌, slice_index}
use Rattle.std.specs.Int.{bit_at}
use Rattle.byte_kernels.specs.declared.byte_set.ByteSet.{ByteSet}
use Rattle.byte_kernels.specs.declared.byte_set.Form.{Form}
use Rattle.byte_kernels.specs.declared.byte_set.Form.TheVariants.{One, Two, Four, Many}
use Rattle.byte_kernels.specs.declared.table.Table.{Table}

-- The row of a byte is told by its low half and its highest bit, and its bit in that row by the rest.
abbrev pub row_of : ℕ → ℕ
row_of byte = byte % 16 + 16 * (byte / 128)

abbrev pub has : Table → ℕ → Bool
has table byte = bit_at (slice_index table.rows (row_of byte)) (byte / 16 % 8) == 1

abbrev pub in_form : Form → ℕ → Bool
in_form (One just) byte = byte == just.0
in_form (Two two) byte = byte == two.0.0 || byte == two.1.0
in_form (Four four) byte = (byte == four.0.0.0 || byte == four.0.1.0) || (byte == four.1.0.0 || byte == four.1.1.0)
in_form (Many table) byte = has table byte

abbrev pub contains : ByteSet → ℕ → Bool
contains set byte = in_form set.form byte
