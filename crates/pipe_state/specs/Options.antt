-- Which options a pipe may have.
use Rattle.std.specs.Prelude.{ℕ, ◌*◌, ◌^◌, Bool, ◌&&◌, ◌||◌, not, nat_le, ◌==◌, Option, Some, None, if◌then◌else◌}
use Rattle.pipe_state.specs.declared.options.Options.{Options}
use Rattle.pipe_state.specs.declared.options.Field.{Field}
use Rattle.pipe_state.specs.declared.options.Field.TheVariants.{Segment, Segments, Pause, Resume}

abbrev pub is_within : ℕ → ℕ → ℕ → Bool
is_within least most n = nat_le least n && nat_le n most

-- the first field that is out of its range, in the order of the fields, with its number
abbrev pub first_bad : Options → Option (Field × ℕ)
first_bad o =
    if not (is_within 64 65536 o.segment) then Some (Segment, o.segment)
    else if not (is_within 2 8388608 o.segments) then Some (Segments, o.segments)
    else if not (is_within 0 (2 ^ 40) o.pause) then Some (Pause, o.pause)
    else if not (o.pause == 0 || is_within 1 o.pause o.resume) then Some (Resume, o.resume)
    else None

-- how many bytes a pipe's segments have
abbrev pub room_of : Options → ℕ
room_of o = o.segments * o.segment
