-- What attempts, made one behind the other, leave of an end.
use Rattle.std.proofs.Common.{◌≡◌, ◌<◌, ◌≤◌, ◌^◌, ◌⊎◌, inl, inr, ℕ, ◌+◌, Bool, true, false, cond, List, [], ◌∷◌, ◌++◌, length, reverse, replicate, refl, sym, ap, subst, ◌∙◌, arith, Option, Some, None, append_assoc, append-nil, suc, ◌==◌}
use Rattle.std.proofs.Math.Dec.{eqb-suc-zero}
use Rattle.std.specs.Prelude.{IsNone, option_map, Ok, Err}
use Rattle.std.proofs.lemmas.List.{replicate_more}
use Rattle.pipe_core.specs.declared.reply.Wake.{Wake}
use Rattle.pipe_core.specs.declared.reply.ReadReply.{ReadReply}
use Rattle.pipe_core.specs.declared.reply.ReadReply.TheVariants as read
use Rattle.pipe_core.specs.declared.reply.FlushReply.{FlushReply}
use Rattle.pipe_core.specs.History.{Run, Call, Commit, Read, bytes_of, closing, writer_end}
use Rattle.pipe_core.specs.Progress.{total, examined, held, canceled_read}
use Rattle.pipe_core.specs.Flushes.{reply_to_commit}
use Rattle.pipe_core.specs.Reads.{read_is_ready, reply_to_read}
use Rattle.pipe_core.specs.Lends.{lend}
use Rattle.pipe_core.specs.Answers.{Answer, Flushed, Gave, Woke}
use Rattle.pipe_core.proofs.OrderLemmas.{ordered}
use Rattle.pipe_state.specs.declared.options.Options.{Options}
use Rattle.pipe_turns.specs.declared.faults.TryFault.{TryFault}
use Rattle.pipe_turns.specs.declared.faults.TryFault.TheVariants as try
use Rattle.pipe_turns.specs.declared.faults.FlushFault.{FlushFault}
use Rattle.pipe_turns.specs.declared.faults.FlushFault.TheVariants as flush
use Rattle.pipe_shared.specs.declared.faults.RoomFault.TheVariants as room
use Rattle.pipe_turns.specs.Log.{calls_of}
use Rattle.pipe_turns.specs.Faults.{is_tried_again}
use Rattle.pipe_turns.specs.Lends.{len_of}
use Rattle.pipe_turns.specs.Turns.{Seat, Wins, Refuses, RefusesFlush, FindsTooMuch, Makes}
use Rattle.pipe_shared.specs.Ends.{Writer, Reader}
use Rattle.pipe_shared.specs.Granting.{Grants, GrantsAnew, Stays}
use Rattle.pipe_shared.specs.Waiting.{Tried, untried, tried, AtLast}
use Rattle.pipe_shared.specs.Attempts.{TriesRoom, TriesFlush, TriesCompletion, TriesRead, TriesToEnd, waits_for_room, waits_to_flush, waits_to_complete, waits_to_read, waits_for_turn, lends_nothing, IsSince, FlushesOn, ReadsOn, CallsOnce}
use Rattle.pipe_turns.proofs.StateLemmas.{calls_made, calls_of-append}

-- what a seat has made itself, after a refusal and after a call
pub refused_own : (fault : TryFault) (old new : Seat) → Refuses fault old new → new.own ≡ old.own
refused_own (try.Busy word) old new r = ap (λ (s : Seat). s.own) r.after
refused_own (try.Worn entries) old new r = ap (λ (s : Seat). s.own) r.wins.after

pub made_own : (options : Options) (calls : List Call) (answer : Answer) (old new : Seat) → Makes options old calls answer new → new.own ≡ old.own ++ reverse calls
made_own options calls answer old new m = ap (λ (s : Seat). s.own) m.after ∙ ap (λ (s : Seat). s.own ++ reverse calls) m.wins.after

-- what a seat has seen ends with what it had seen before
abbrev IsBehind : Seat → Seat → Type 0
IsBehind old new = IsSince old (calls_of new.seen)

behind_trans : (a b : Seat) (found : List Call) → IsBehind a b → IsSince b found → IsSince a found
behind_trans a b found x y = (y.0 ++ x.0, y.1 ∙ ap (λ (l : List Call). y.0 ++ l) x.1 ∙ sym (append_assoc y.0 x.0 (calls_of a.seen)))

won_behind : (old new : Seat) → Wins old new → IsBehind old new
won_behind old new w = (calls_of w.begins.0, ap calls_of (sym w.begins.1) ∙ calls_of-append old.seen w.begins.0)

refused_behind : (fault : TryFault) (old new : Seat) → Refuses fault old new → IsBehind old new
refused_behind (try.Busy word) old new r = ([], ap (λ (s : Seat). calls_of s.seen) r.after)
refused_behind (try.Worn entries) old new r = won_behind old new r.wins

made_behind : (options : Options) (calls : List Call) (answer : Answer) (old new : Seat) → Makes options old calls answer new → IsBehind old new
made_behind options calls answer old new m = behind_trans old m.found (calls_of new.seen) (won_behind old m.found m.wins) (calls, calls_made calls m.found new m.after)

-- a call more behind calls of which all are the same
one_more : (own before new : List Call) (call : Call) (n : ℕ) → before ≡ own ++ replicate n call → new ≡ before ++ call ∷ [] → new ≡ own ++ replicate (n + 1) call
one_more own before new call n was is = is ∙ ap (λ l. l ++ call ∷ []) was ∙ append_assoc own (replicate n call) (call ∷ []) ∙ ap (λ l. own ++ l) (replicate_more n call)

-- a read lends as much as its reply tells
pub lend_by_reply : (n : ℕ) (h : List Call) → option_map length (lend (Read n ∷ h)) ≡ len_of (reply_to_read n h)
lend_by_reply n h = each (read_is_ready n h)
  where
    each : (b : Bool) → option_map length (cond b (Some (held h)) None) ≡ len_of (cond b (read.Ready (canceled_read h) (writer_end h) (length (held h))) (read.Pending (examined h) (length (held h))))
    each true = refl
    each false = refl

same_reply : (a b : ReadReply) (v w : Wake) → Gave a v ≡ Gave b w → a ≡ b
same_reply a b v w e = cc

module _ (options : Options) (n : ℕ) (old new : Seat) (reply : ReadReply) (wake : Wake) (made : Makes options old (Read n ∷ []) (Gave reply wake) new) where
  pub read_told : reply ≡ reply_to_read n (calls_of made.found.seen)
  read_told = same_reply reply (reply_to_read n (calls_of made.found.seen)) wake _ made.told

  pub read_seen : calls_of new.seen ≡ Read n ∷ calls_of made.found.seen
  read_seen = calls_made (Read n ∷ []) made.found new made.after

  pub read_lends : (lent : Option (List ℕ)) → lent ≡ lend (calls_of new.seen) → option_map length lent ≡ len_of reply
  read_lends lent is = ap (option_map length) (is ∙ ap lend read_seen) ∙ lend_by_reply n (calls_of made.found.seen) ∙ ap len_of (sym read_told)

-- where nothing is lent, nothing stands, and else as many bytes as the reply tells
pub nothing_lent : (lent : Option (List ℕ)) (reply : ReadReply) → option_map length lent ≡ len_of reply → lends_nothing reply ≡ true → IsNone lent
nothing_lent None reply len waits = refl
nothing_lent (Some bytes) (read.Ready canceled ended n) len waits = absurd cc
nothing_lent (Some bytes) (read.Pending examined count) len waits = absurd cc

-- attempts at a read make reads alone
pub reads_tried : (options : Options) (n : ℕ) (old new : Reader) → Tried (TriesRead options n) waits_to_read old new → (times : ℕ) × (new.seat.own ≡ old.seat.own ++ replicate times (Read n)) × IsBehind old.seat new.seat
reads_tried options n old new untried = (0, sym (append-nil old.seat.own), ([], refl))
reads_tried options n old new (tried before _ (Ok answer) t attempt waits) =
    let more = reads_tried options n old before t in
    let made = attempt.0 in (
      more.0 + 1,
      one_more old.seat.own before.seat.own new.seat.own (Read n) more.0 more.1 (made_own options (Read n ∷ []) (Gave answer.0 answer.1) before.seat new.seat made),
      behind_trans old.seat before.seat _ more.2 (made_behind options (Read n ∷ []) (Gave answer.0 answer.1) before.seat new.seat made),
    )
reads_tried options n old new (tried before _ (Err fault) t attempt waits) =
    let more = reads_tried options n old before t in
    (more.0, refused_own fault before.seat new.seat attempt.0 ∙ more.1, behind_trans old.seat before.seat _ more.2 (refused_behind fault before.seat new.seat attempt.0))

pub reads_on : (options : Options) (n : ℕ) (old new : Reader) (reply : ReadReply) (wake : Wake) → AtLast (TriesRead options n) waits_to_read old (Ok (reply, wake)) new → ReadsOn n old.seat reply new.seat
reads_on options n old new reply wake a =
    let before = reads_tried options n old a.before a.tried in
    let made = a.last.0 in
    record {
      found = calls_of made.found.seen;
      since = behind_trans old.seat a.before.seat _ before.2 (won_behind a.before.seat made.found made.wins);
      seen = read_seen options n a.before.seat new.seat reply wake made;
      told = read_told options n a.before.seat new.seat reply wake made;
      times = before.0;
      own = made_own options (Read n ∷ []) (Gave reply wake) a.before.seat new.seat made ∙ ap (λ l. l ++ Read n ∷ []) before.1;
    }

-- attempts at a call that waits for turns alone make no entry, and leave the lend
pub turns_tried : (options : Options) (call : Call) (old new : Reader) → Tried (TriesToEnd options call) waits_for_turn old new → (new.seat.own ≡ old.seat.own) × (new.lent ≡ old.lent) × IsBehind old.seat new.seat
turns_tried options call old new untried = (refl, refl, ([], refl))
turns_tried options call old new (tried before _ (Ok wake) t attempt waits) = absurd cc
turns_tried options call old new (tried before _ (Err fault) t attempt waits) =
    let kept = turns_tried options call old before t in
    (refused_own fault before.seat new.seat attempt.0 ∙ kept.0, attempt.1 ∙ kept.1, behind_trans old.seat before.seat _ kept.2 (refused_behind fault before.seat new.seat attempt.0))

pub called_once : (options : Options) (call : Call) (old before : Reader) (wake : Wake) (new : Seat) → Tried (TriesToEnd options call) waits_for_turn old before → Makes options before.seat (call ∷ []) (Woke wake) new → CallsOnce old.seat (call ∷ []) new
called_once options call old before wake new t made = record {
  found = calls_of made.found.seen;
  since = behind_trans old.seat before.seat _ (turns_tried options call old before t).2 (won_behind before.seat made.found made.wins);
  seen = calls_made (call ∷ []) made.found new made.after;
  own = made_own options (call ∷ []) (Woke wake) before.seat new made ∙ ap (λ l. l ++ call ∷ []) (turns_tried options call old before t).0;
}

-- what a writer had drafted, was granted and has made is as it was, and what it had seen isn't forgotten
pub record IsAsBefore (old new : Writer) : Type 0 where
  pub draft : new.draft ≡ old.draft
  pub free : new.free ≡ old.free
  pub hint : new.hint ≡ old.hint
  pub own : new.seat.own ≡ old.seat.own
  pub behind : IsBehind old.seat new.seat

pub as_before : (a b c : Writer) → IsAsBefore a b → IsAsBefore b c → IsAsBefore a c
as_before a b c f g = record { draft = g.draft ∙ f.draft; free = g.free ∙ f.free; hint = g.hint ∙ f.hint; own = g.own ∙ f.own; behind = behind_trans a.seat b.seat _ f.behind g.behind }

pub refused_flush : (fault : FlushFault) (old new : Writer) → RefusesFlush (length (bytes_of old.draft)) fault old.seat new.seat → Stays old new → IsAsBefore old new
refused_flush (flush.Busy word) old new r s = record { draft = s.draft; free = s.free; hint = s.hint; own = ap (λ (x : Seat). x.own) r.after; behind = ([], ap (λ (x : Seat). calls_of x.seen) r.after) }
refused_flush (flush.Worn entries) old new r s = record { draft = s.draft; free = s.free; hint = s.hint; own = ap (λ (x : Seat). x.own) r.wins.after; behind = won_behind old.seat new.seat r.wins }
refused_flush (flush.TooMuch total) old new r s = record { draft = s.draft; free = s.free; hint = s.hint; own = ap (λ (x : Seat). x.own) r.wins.after; behind = won_behind old.seat new.seat r.wins }

-- attempts at the writer's completion leave all as it was
pub completion_tried : (options : Options) (code : ℕ) (old new : Writer) → Tried (TriesCompletion options code) waits_to_complete old new → IsAsBefore old new
completion_tried options code old new untried = record { draft = refl; free = refl; hint = refl; own = refl; behind = ([], refl) }
completion_tried options code old new (tried before _ (Ok wake) t attempt waits) = absurd cc
completion_tried options code old new (tried before _ (Err fault) t attempt waits) =
    as_before old before new (completion_tried options code old before t) (refused_flush fault before new attempt.0 attempt.1)

pub completes_once : (options : Options) (code : ℕ) (old before : Writer) (wake : Wake) (new : Seat) → Tried (TriesCompletion options code) waits_to_complete old before → Makes options before.seat (closing before.draft code) (Woke wake) new
    → CallsOnce old.seat (closing old.draft code) new
completes_once options code old before wake new t made =
    let kept = completion_tried options code old before t in
    let m : Makes options before.seat (closing old.draft code) (Woke wake) new = subst (λ d. Makes options before.seat (closing d code) (Woke wake) new) kept.draft made in
    record {
      found = calls_of m.found.seen;
      since = behind_trans old.seat before.seat _ kept.behind (won_behind before.seat m.found m.wins);
      seen = calls_made (closing old.draft code) m.found new m.after;
      own = made_own options (closing old.draft code) (Woke wake) before.seat new m ∙ ap (λ l. l ++ reverse (closing old.draft code)) kept.own;
    }

-- the one refusal that isn't tried again
pub refused_for_good : (fault : FlushFault) (old new : Writer) (draft : List Run) → RefusesFlush (length (bytes_of old.draft)) fault old.seat new.seat → is_tried_again fault ≡ false → old.draft ≡ draft
    → (fault ≡ flush.TooMuch (length (total (calls_of new.seat.seen)))) × (2 ^ 62 < length (total (calls_of new.seat.seen)) + length (bytes_of draft))
refused_for_good (flush.Busy word) old new draft r good same = absurd cc
refused_for_good (flush.Worn entries) old new draft r good same = absurd cc
refused_for_good (flush.TooMuch told) old new draft r good same = (ap (λ (n : ℕ). flush.TooMuch n) r.told, omega (arith, r.told, r.passes, ap (λ (rs : List Run). length (bytes_of rs)) same))

-- a commit more of nothing
asked_again : (own before new : List Call) (first again : Call) (n : ℕ) → before ≡ own ++ first ∷ replicate n again → new ≡ before ++ again ∷ [] → new ≡ own ++ first ∷ replicate (n + 1) again
asked_again own before new first again n was is = is ∙ ap (λ l. l ++ again ∷ []) was ∙ append_assoc own (first ∷ replicate n again) (again ∷ []) ∙ ap (λ l. own ++ first ∷ l) (replicate_more n again)

-- the draft was committed, and then nothing so often
pub record HasFlushed (old new : Writer) : Type 0 where
  pub draft : new.draft ≡ []
  pub free : length new.free ≡ length old.free
  pub times : ℕ
  pub own : new.seat.own ≡ old.seat.own ++ Commit old.draft ∷ replicate times (Commit [])
  pub behind : IsBehind old.seat new.seat

flushed_first : (options : Options) (answer : Answer) (old before new : Writer) → IsAsBefore old before → Makes options before.seat (Commit before.draft ∷ []) answer new.seat → new.draft ≡ [] → length new.free ≡ length before.free → HasFlushed old new
flushed_first options answer old before new kept made none free = record {
  draft = none;
  free = free ∙ ap length kept.free;
  times = 0;
  own = made_own options (Commit before.draft ∷ []) answer before.seat new.seat made ∙ ap (λ (d : List Run). before.seat.own ++ Commit d ∷ []) kept.draft ∙ ap (λ l. l ++ Commit old.draft ∷ []) kept.own;
  behind = behind_trans old.seat before.seat _ kept.behind (made_behind options (Commit before.draft ∷ []) answer before.seat new.seat made);
}

flushed_again : (options : Options) (answer : Answer) (old before new : Writer) → HasFlushed old before → Makes options before.seat (Commit before.draft ∷ []) answer new.seat → new.draft ≡ [] → length new.free ≡ length before.free → HasFlushed old new
flushed_again options answer old before new h made none free = record {
  draft = none;
  free = free ∙ h.free;
  times = h.times + 1;
  own = asked_again old.seat.own before.seat.own new.seat.own (Commit old.draft) (Commit []) h.times h.own
      (made_own options (Commit before.draft ∷ []) answer before.seat new.seat made ∙ ap (λ (d : List Run). before.seat.own ++ Commit d ∷ []) h.draft);
  behind = behind_trans old.seat before.seat _ h.behind (made_behind options (Commit before.draft ∷ []) answer before.seat new.seat made);
}

flushed_not : (old before new : Writer) → HasFlushed old before → IsAsBefore before new → HasFlushed old new
flushed_not old before new h kept = record { draft = kept.draft ∙ h.draft; free = ap length kept.free ∙ h.free; times = h.times; own = kept.own ∙ h.own; behind = behind_trans old.seat before.seat _ h.behind kept.behind }

flushed : (options : Options) (answer : Answer) (old before new : Writer) → IsAsBefore old before ⊎ HasFlushed old before → Makes options before.seat (Commit before.draft ∷ []) answer new.seat → new.draft ≡ [] → length new.free ≡ length before.free → HasFlushed old new
flushed options answer old before new (inl kept) made none free = flushed_first options answer old before new kept made none free
flushed options answer old before new (inr h) made none free = flushed_again options answer old before new h made none free

not_none : (n : ℕ) → (n + 1 == 0) ≡ false
not_none n = let e : n + 1 ≡ suc n = omega arith in rw e (eqb-suc-zero n)

-- the last flush committed the draft where it was the first, and nothing else
last_runs : (options : Options) (answer : Answer) (old before new : Writer) (x : IsAsBefore old before ⊎ HasFlushed old before) (made : Makes options before.seat (Commit before.draft ∷ []) answer new.seat) (none : new.draft ≡ []) (free : length new.free ≡ length before.free)
    → before.draft ≡ cond ((flushed options answer old before new x made none free).times == 0) old.draft []
unfolding flushed flushed_first flushed_again
last_runs options answer old before new (inl kept) made none free = kept.draft
last_runs options answer old before new (inr h) made none free = rw (not_none h.times) h.draft

not_flushed : (old before new : Writer) → IsAsBefore old before ⊎ HasFlushed old before → IsAsBefore before new → IsAsBefore old new ⊎ HasFlushed old new
not_flushed old before new (inl kept) same = inl (as_before old before new kept same)
not_flushed old before new (inr h) same = inr (flushed_not old before new h same)

-- attempts at a flush commit the draft once, if at all
pub flush_tried : (options : Options) (old new : Writer) → Tried (TriesFlush options) waits_to_flush old new → IsAsBefore old new ⊎ HasFlushed old new
flush_tried options old new untried = inl (record { draft = refl; free = refl; hint = refl; own = refl; behind = ([], refl) })
flush_tried options old new (tried before _ (Ok answer) t attempt waits) =
    inr (flushed options (Flushed answer.0 answer.1) old before new (flush_tried options old before t) attempt.0 attempt.1 attempt.2)
flush_tried options old new (tried before _ (Err fault) t attempt waits) = not_flushed old before new (flush_tried options old before t) (refused_flush fault before new attempt.0 attempt.1)

tried_behind : (old before : Writer) → IsAsBefore old before ⊎ HasFlushed old before → IsBehind old.seat before.seat
tried_behind old before (inl kept) = kept.behind
tried_behind old before (inr h) = h.behind

same_flush_reply : (a b : FlushReply) (v w : Wake) → Flushed a v ≡ Flushed b w → a ≡ b
same_flush_reply a b v w e = cc

module _ (options : Options) (old before new : Writer) (reply : FlushReply) (wake : Wake) (t : Tried (TriesFlush options) waits_to_flush old before) (made : Makes options before.seat (Commit before.draft ∷ []) (Flushed reply wake) new.seat)
    (none : new.draft ≡ []) (free : length new.free ≡ length before.free) where
  has_flushed : HasFlushed old new
  has_flushed = flushed options (Flushed reply wake) old before new (flush_tried options old before t) made none free

  pub same_free : length new.free ≡ length old.free
  same_free = has_flushed.free

  pub flushes_on : FlushesOn options old.seat old.draft reply new.seat
  unfolding has_flushed
  flushes_on = record {
    runs = before.draft;
    last = last_runs options (Flushed reply wake) old before new (flush_tried options old before t) made none free;
    found = calls_of made.found.seen;
    since = behind_trans old.seat before.seat _ (tried_behind old before (flush_tried options old before t)) (won_behind before.seat made.found made.wins);
    seen = calls_made (Commit before.draft ∷ []) made.found new.seat made.after;
    told = same_flush_reply reply (reply_to_commit options.pause options.resume (calls_of made.found.seen) before.draft) wake _ made.told;
    times = has_flushed.times;
    own = has_flushed.own;
  }

-- a flush of nothing isn't too much
nothing_is_too_much : (size told : ℕ) (old new : Seat) → FindsTooMuch size told old new → size ≡ 0 → ⊥
nothing_is_too_much size told old new r none =
    let most = (ordered (calls_of new.seen) r.wins.lawful.legal).total_in in
    omega (arith, most, r.told, r.passes, none)

-- so where it is too much, no flush was made before
pub not_yet : (options : Options) (told : ℕ) (old before new : Writer) → Tried (TriesFlush options) waits_to_flush old before → FindsTooMuch (length (bytes_of before.draft)) told before.seat new.seat → IsAsBefore old before
not_yet options told old before new t r = each (flush_tried options old before t)
  where
    each : IsAsBefore old before ⊎ HasFlushed old before → IsAsBefore old before
    each (inl kept) = kept
    each (inr h) = absurd (nothing_is_too_much (length (bytes_of before.draft)) told before.seat new.seat r (ap (λ (rs : List Run). length (bytes_of rs)) h.draft))

-- attempts at room leave the draft, and make no entry
pub room_tried : (options : Options) (hint : ℕ) (old new : Writer) → Tried (TriesRoom options hint) waits_for_room old new → (new.draft ≡ old.draft) × (new.seat.own ≡ old.seat.own)
room_tried options hint old new untried = (refl, refl)
room_tried options hint old new (tried before _ (Ok n) t attempt waits) = absurd cc
room_tried options hint old new (tried before _ (Err (room.Busy word)) t attempt waits) =
    let kept = room_tried options hint old before t in
    (attempt.1.draft ∙ kept.0, ap (λ (s : Seat). s.own) attempt.0.finds.after ∙ kept.1)
room_tried options hint old new (tried before _ (Err (room.TooLarge asked segment)) t attempt waits) = absurd cc
room_tried options hint old new (tried before _ (Err (room.Full full)) t attempt waits) =
    let kept = room_tried options hint old before t in
    (attempt.1.draft ∙ kept.0, ap (λ (s : Seat). s.own) attempt.0.wins.after ∙ kept.1)

pub granted_own : (options : Options) (hint n : ℕ) (old new : Writer) → Grants options hint n old new → new.seat.own ≡ old.seat.own
granted_own options hint n old new g = each g.how
  where
    each : (hint ≤ length old.free) × (new ≡ old) ⊎ GrantsAnew options hint n old new → new.seat.own ≡ old.seat.own
    each (inl same) = ap (λ (w : Writer). w.seat.own) same.1
    each (inr anew) = ap (λ (s : Seat). s.own) anew.wins.after
