-- The pieces are the line.
use Rattle.relay_engine.proofs.lines.tell_bad_frame.Goals as goal

pub returns-in-TooBig : goal.returns-in-TooBig
returns-in-TooBig g c =
    rw c.in-TooBig.is (rw (c.as_bytes-place.ensures.value, c.format.ensures.text, c.as_bytes-len.ensures.value, c.format-in-TooBig.ensures.text) at c.write_pieces.ensures)

pub returns-in-Unspellable : goal.returns-in-Unspellable
returns-in-Unspellable g c =
    rw c.in-Unspellable.is (rw (c.as_bytes-place.ensures.value, c.format.ensures.text, c.as_bytes-at.ensures.value, c.format-in-Unspellable.ensures.text) at c.write_pieces-in-Unspellable.ensures)

pub returns-in-BadHead : goal.returns-in-BadHead
returns-in-BadHead g c =
    rw c.in-BadHead.is (rw (c.as_bytes-place.ensures.value, c.format.ensures.text, c.as_bytes-bytes.ensures.value, c.format-in-BadHead.ensures.text) at c.write_pieces-in-BadHead.ensures)
