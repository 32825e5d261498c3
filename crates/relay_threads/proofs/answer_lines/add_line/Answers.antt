use Rattle.std.proofs.Common.{arith}
use Rattle.relay_threads.proofs.answer_lines.add_line.Goals as goal

pub add-requires-5 : goal.add-requires-5
add-requires-5 c = omega (
  arith,
  c.requires.room,
  c.requires.short,
  c.as_bytes.ensures.len,
  c.add.ensures.len,
  c.add-2.ensures.len,
  c.add-3.ensures.len,
  c.add-4.ensures.len,
  c.add.ensures.capacity,
  c.add-2.ensures.capacity,
  c.add-3.ensures.capacity,
  c.add-4.ensures.capacity,
  c.as_bytes-2.ensures.len,
  c.as_bytes-3.ensures.len,
  c.format-status.ensures.fits,
  c.format-frames.ensures.fits,
)

pub add-requires-6 : goal.add-requires-6
add-requires-6 c = omega (
  arith,
  c.requires.room,
  c.requires.short,
  c.as_bytes.ensures.len,
  c.add.ensures.len,
  c.add-2.ensures.len,
  c.add-3.ensures.len,
  c.add-4.ensures.len,
  c.add-5.ensures.len,
  c.add.ensures.capacity,
  c.add-2.ensures.capacity,
  c.add-3.ensures.capacity,
  c.add-4.ensures.capacity,
  c.add-5.ensures.capacity,
  c.as_bytes-2.ensures.len,
  c.as_bytes-3.ensures.len,
  c.format-status.ensures.fits,
  c.format-frames.ensures.fits,
)

pub returns-clause-len : goal.returns-clause-len
returns-clause-len c = omega (
  arith,
  c.requires.short,
  c.as_bytes.ensures.len,
  c.add.ensures.len,
  c.add-2.ensures.len,
  c.add-3.ensures.len,
  c.add-4.ensures.len,
  c.add-5.ensures.len,
  c.add-6.ensures.len,
  c.as_bytes-2.ensures.len,
  c.as_bytes-3.ensures.len,
  c.format-status.ensures.fits,
  c.format-frames.ensures.fits,
)
