-- What one attempt of each call makes of its end, and by which answers the call is tried again.
use Rattle.std.specs.Prelude.{◌≡◌, ◌==◌, if◌then◌else◌, ℕ, Bool, true, false, List, [], ◌∷◌, ◌++◌, length, replicate, reverse, None, Result, Ok, Err}
use Rattle.pipe_core.specs.declared.reply.Wake.{Wake}
use Rattle.pipe_core.specs.declared.reply.ReadReply.{ReadReply}
use Rattle.pipe_core.specs.declared.reply.ReadReply.TheVariants as read
use Rattle.pipe_core.specs.declared.reply.FlushReply.{FlushReply}
use Rattle.pipe_core.specs.declared.reply.FlushReply.TheVariants as flushed
use Rattle.pipe_core.specs.declared.reply.TooMuch.{TooMuch}
use Rattle.pipe_core.specs.History.{Run, Call, Commit, Read, bytes_of, closing}
use Rattle.pipe_core.specs.Reads.{reply_to_read}
use Rattle.pipe_core.specs.Flushes.{reply_to_commit}
use Rattle.pipe_core.specs.Lends.{lend}
use Rattle.pipe_core.specs.Answers.{Flushed, Gave, Woke}
use Rattle.pipe_state.specs.Chains.{ChainState}
use Rattle.pipe_state.specs.declared.options.Options.{Options}
use Rattle.pipe_turns.specs.declared.faults.TryFault.{TryFault}
use Rattle.pipe_turns.specs.declared.faults.FlushFault.{FlushFault}
use Rattle.pipe_turns.specs.declared.faults.FlushFault.TheVariants as flush_fault
use Rattle.pipe_shared.specs.Waiting.{AtLast}
use Rattle.pipe_shared.specs.declared.faults.RoomFault.{RoomFault}
use Rattle.pipe_shared.specs.declared.faults.RoomFault.TheVariants as room
use Rattle.pipe_turns.specs.Log.{calls_of}
use Rattle.pipe_turns.specs.Faults.{is_tried_again}
use Rattle.pipe_turns.specs.Turns.{Seat, Refuses, RefusesFlush, Makes}
use Rattle.pipe_shared.specs.Ends.{Writer, Reader}
use Rattle.pipe_shared.specs.Granting.{Grants, RefusesRoom, Stays}

-- an attempt at room for a hint
abbrev pub TriesRoom : Options → ℕ → Writer → Result ℕ RoomFault → Writer → Type 0
TriesRoom options hint old (Ok n) new = Grants options hint n old new
TriesRoom options hint old (Err fault) new = RefusesRoom options hint fault old new

-- Room is waited for until it is there, or can't be.
abbrev pub waits_for_room : Result ℕ RoomFault → Bool
waits_for_room (Ok n) = false
waits_for_room (Err (room.Busy word)) = true
waits_for_room (Err (room.TooLarge hint segment)) = false
waits_for_room (Err (room.Full told)) = true

-- an attempt at a flush
abbrev pub TriesFlush : Options → Writer → Result (FlushReply × Wake) FlushFault → Writer → Type 0
TriesFlush options old (Ok answer) new =
    Makes options old.seat (Commit old.draft ∷ []) (Flushed answer.0 answer.1) new.seat × (new.draft ≡ []) × (length new.free ≡ length old.free) × (new.hint ≡ old.hint)
TriesFlush options old (Err fault) new = RefusesFlush (length (bytes_of old.draft)) fault old.seat new.seat × Stays old new

abbrev pub is_held_back : FlushReply → Bool
is_held_back (flushed.Ready canceled code) = false
is_held_back (flushed.Pending unexamined) = true

-- A flush waits for a turn, and then for the end of the pause.
abbrev pub waits_to_flush : Result (FlushReply × Wake) FlushFault → Bool
waits_to_flush (Ok answer) = is_held_back answer.0
waits_to_flush (Err fault) = is_tried_again fault

-- The attempts at a flush ended with this reply, and some wake, or since the total would be too much.
abbrev pub FlushesAtLast : Options → Writer → Result FlushReply TooMuch → Writer → Type 0
FlushesAtLast options old (Ok reply) new = (wake : Wake) × AtLast (TriesFlush options) waits_to_flush old (Ok (reply, wake)) new
FlushesAtLast options old (Err refused) new = AtLast (TriesFlush options) waits_to_flush old (Err (flush_fault.TooMuch refused.total)) new

-- a writer that has completed, of which its seat is left
abbrev pub completed : Seat → Writer
completed seat = record { seat = seat; draft = []; free = []; hint = 0 }

-- an attempt at the writer's completion
abbrev pub TriesCompletion : Options → ℕ → Writer → Result Wake FlushFault → Writer → Type 0
TriesCompletion options code old (Ok wake) new = Makes options old.seat (closing old.draft code) (Woke wake) new.seat × (new ≡ completed new.seat)
TriesCompletion options code old (Err fault) new = RefusesFlush (length (bytes_of old.draft)) fault old.seat new.seat × Stays old new

-- The writer's completion waits for a turn.
abbrev pub waits_to_complete : Result Wake FlushFault → Bool
waits_to_complete (Ok wake) = false
waits_to_complete (Err fault) = is_tried_again fault

-- an attempt at a read for at least n bytes
abbrev pub TriesRead : Options → ℕ → Reader → Result (ReadReply × Wake) TryFault → Reader → Type 0
TriesRead options n old (Ok answer) new = Makes options old.seat (Read n ∷ []) (Gave answer.0 answer.1) new.seat × (new.lent ≡ lend (calls_of new.seat.seen))
TriesRead options n old (Err fault) new = Refuses fault old.seat new.seat × (new.lent ≡ old.lent)

abbrev pub lends_nothing : ReadReply → Bool
lends_nothing (read.Ready canceled ended len) = false
lends_nothing (read.Pending examined held) = true

-- A read waits for a turn, and then for something to lend.
abbrev pub waits_to_read : Result (ReadReply × Wake) TryFault → Bool
waits_to_read (Ok answer) = lends_nothing answer.0
waits_to_read (Err fault) = true

-- a reader without a lend, which had these segments
abbrev pub without_lend : Seat → ChainState → Reader
without_lend seat chain = record { seat = seat; lent = None; chain = chain }

-- an attempt at a call that ends the lend
abbrev pub TriesToEnd : Options → Call → Reader → Result Wake TryFault → Reader → Type 0
TriesToEnd options call old (Ok wake) new = Makes options old.seat (call ∷ []) (Woke wake) new.seat × (new.lent ≡ None)
TriesToEnd options call old (Err fault) new = Refuses fault old.seat new.seat × (new.lent ≡ old.lent)

-- It waits for a turn.
abbrev pub waits_for_turn : Result Wake TryFault → Bool
waits_for_turn (Ok wake) = false
waits_for_turn (Err fault) = true

-- These calls, the latest first, end with all that a seat had seen.
abbrev pub IsSince : Seat → List Call → Type 0
IsSince old found = (since : List Call) × (found ≡ since ++ calls_of old.seen)

-- The seat read for at least n bytes once or more often, and made no other call. The last read was answered so, behind all that was seen before it, which ends with what the seat had seen before the call.
pub record ReadsOn (n : ℕ) (old : Seat) (reply : ReadReply) (new : Seat) : Type 0 where
  pub found : List Call
  pub since : IsSince old found
  pub seen : calls_of new.seen ≡ Read n ∷ found
  pub told : reply ≡ reply_to_read n found
  pub times : ℕ
  pub own : new.own ≡ old.own ++ replicate times (Read n) ++ Read n ∷ []

-- The seat committed a draft, and then nothing as often as it asked again, and made no other call. The last commit was answered so, behind all that was seen before it, which ends with what the seat had seen before the call.
pub record FlushesOn (options : Options) (old : Seat) (draft : List Run) (reply : FlushReply) (new : Seat) : Type 0 where
  pub times : ℕ
  pub runs : List Run
  pub last : runs ≡ (if times == 0 then draft else [])
  pub found : List Call
  pub since : IsSince old found
  pub seen : calls_of new.seen ≡ Commit runs ∷ found
  pub told : reply ≡ reply_to_commit options.pause options.resume found runs
  pub own : new.own ≡ old.own ++ Commit draft ∷ replicate times (Commit [])

-- The seat made these calls, the latest first, at once, and no others, behind all that was seen before them, which ends with what the seat had seen before the call.
pub record CallsOnce (old : Seat) (calls : List Call) (new : Seat) : Type 0 where
  pub found : List Call
  pub since : IsSince old found
  pub seen : calls_of new.seen ≡ calls ++ found
  pub own : new.own ≡ old.own ++ reverse calls
