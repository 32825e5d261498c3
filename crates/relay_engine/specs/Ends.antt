-- What a filler and a drainer see of their ends of a pipe.
use Rattle.std.specs.Prelude.{ℕ, ◌≡◌, ◌<◌, ◌≤◌, List, [], length, take, Result, Ok, Err, Option, Some, None}
use Rattle.std.specs.Io.KnownBytes.{IsAtEnd}
use Rattle.edge_core.specs.Device.{SourceState, Gives, Fails}
use Rattle.relay_model.specs.declared.ending.FillEnd.{FillEnd}
use Rattle.relay_model.specs.declared.ending.FillEnd.TheVariants as taking
use Rattle.pipe_core.specs.declared.reply.ReadReply.{ReadReply}
use Rattle.pipe_core.specs.declared.reply.ReadReply.TheVariants as read

-- The length of what is lent, and the code with which the reader has completed.
pub record Reading : Type 0 where
  pub lent : Option ℕ
  pub gone : Option ℕ

-- the length of what an answered read lends
abbrev pub lent_by : ReadReply → Option ℕ
lent_by (read.Ready canceled ended len) = Some len
lent_by (read.Pending examined held) = None

-- A read past the limit gave a byte.
pub record GivesOneMore (before after : SourceState) : Type 0 where
  pub dropped : List ℕ
  pub one : length dropped ≡ 1
  pub given : Gives before dropped after

-- One read, of at most `most` bytes and at most `left`, or of one where none is left. They stand at the front of the room.
abbrev pub ReadsWithin : ℕ → ℕ → SourceState → List ℕ → Result ℕ FillEnd → SourceState → Type 0
ReadsWithin most left before room (Ok n) after = (0 < n) × (n ≤ left) × (n ≤ most) × Gives before (take n room) after
ReadsWithin most left before room (Err taking.End) after = Gives before [] after × IsAtEnd after.left
ReadsWithin most left before room (Err taking.Fault) after = Fails before after
ReadsWithin most left before room (Err taking.Long) after = (left ≡ 0) × GivesOneMore before after
ReadsWithin most left before room (Err (taking.Gone code)) after = ⊥
