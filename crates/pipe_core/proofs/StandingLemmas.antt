-- Marks that stand for a history stand for it with one more call, and tell the answers that it has.
use Rattle.std.proofs.Common.{◌≡◌, ◌≤◌, ◌+◌, ◌-◌, ◌^◌, ◌⊎◌, inl, inr, ℕ, Bool, true, false, not, cond, ◌&&◌, ◌||◌, nat_lt, nat_le, max, List, [], ◌∷◌, ◌++◌, length, refl, sym, ap, subst, ◌∙◌, arith, Option, Some, None, append-nil}
use Rattle.std.specs.Prelude.{is_some, is_none, IsSome, IsNone, IsSomeAnd, option_map, unwrap_or, replicate}
use Rattle.std.proofs.lemmas.Bool.{and_parts, cases_lt, lt-ltb, le-ltb}
use Rattle.std.proofs.lemmas.List.{length-append, length-drop, length-replicate}
use Rattle.pipe_core.specs.declared.marks.Marks.{Marks}
use Rattle.pipe_core.specs.declared.reply.Wake.{Wake}
use Rattle.pipe_core.specs.declared.reply.FlushReply.{FlushReply}
use Rattle.pipe_core.specs.declared.reply.ReadReply.{ReadReply}
use Rattle.pipe_core.specs.declared.reply.FlushReply.TheVariants as flush
use Rattle.pipe_core.specs.declared.reply.ReadReply.TheVariants as read
use Rattle.pipe_core.specs.History.{Run, Call, Commit, EndWriter, Read, Advance, EndReader, CancelRead, CancelFlush, bytes_of, writer_end, reader_end}
use Rattle.pipe_core.specs.Progress.{total, consumed, examined, unexamined, held, canceled_read}
use Rattle.pipe_core.specs.Pauses.{begins_pause, lasts, pause_stands, is_paused}
use Rattle.pipe_core.specs.Reads.{read_is_ready, reply_to_read, awaited, lacks}
use Rattle.pipe_core.specs.Flushes.{flush_is_ready, reply_to_commit}
use Rattle.pipe_core.specs.Wakes.{becomes_ready, wake_of}
use Rattle.pipe_core.specs.Lends.{lend}
use Rattle.pipe_core.specs.Answers.{Answer, Flushed, Gave, Woke, answer_to, ended_after, gone_after, lent_after}
use Rattle.pipe_core.specs.Standing.{StandsFor, AreThresholds, MayAdvance, IsSound, ControlAnswers, Thresholds, thresholds_of}
use Rattle.pipe_core.specs.Control.{reads_now, lacks_now, readies, lasts_now, pauses_now, flush_goes, flushes_now, woken, total_with}
use Rattle.pipe_core.proofs.OrderLemmas.{ordered, total_commit, total_nothing}
use Rattle.pipe_core.proofs.PauseLemmas.{lasts_over}

-- Marks that tell how far a history has come, and for how many bytes its reader waits.
pub record Counts (m : Marks) (h : List Call) : Type 0 where
  pub committed : m.committed ≡ length (total h)
  pub consumed : m.consumed ≡ consumed h
  pub examined : m.examined ≡ examined h
  pub ended : m.ended ≡ writer_end h
  pub read_canceled : m.read_canceled ≡ canceled_read h
  pub awaited : m.awaited ≡ awaited h

counts : (m : Marks) (h : List Call) → StandsFor m h → Counts m h
counts m h s = record { committed = s.committed; consumed = s.consumed; examined = s.examined; ended = s.ended; read_canceled = s.read_canceled; awaited = s.awaited }

held_len : (m : Marks) (h : List Call) → Counts m h → m.committed - m.consumed ≡ length (held h)
held_len m h s = rw (s.committed, s.consumed) (sym (length-drop (consumed h) (total h)))

reads_is : (n : ℕ) (m : Marks) (h : List Call) → Counts m h → reads_now n m ≡ read_is_ready n h
reads_is n m h s = rw (s.read_canceled, s.ended, held_len m h s, s.committed, s.examined) refl

-- the same of marks that stand for a history
pub read_ready : (n : ℕ) (m : Marks) (h : List Call) → StandsFor m h → reads_now n m ≡ read_is_ready n h
read_ready n m h s = reads_is n m h (counts m h s)

-- who has completed leaves no read waiting
pub unended : (n : ℕ) (m : Marks) → reads_now n m ≡ false → IsNone m.ended
unended n m unready = each m.read_canceled m.ended (nat_lt 0 (m.committed - m.examined) && nat_le n (m.committed - m.consumed)) unready
  where
    each : (a : Bool) (o : Option ℕ) (b : Bool) → a || is_some o || b ≡ false → IsNone o
    each a None b e = refl
    each true (Some code) b e = absurd cc
    each false (Some code) b e = absurd cc

lacks_is : (o : Option ℕ) (m : Marks) (h : List Call) → Counts m h → lacks_now o m ≡ lacks o h
lacks_is None m h s = refl
lacks_is (Some n) m h s = ap (λ (b : Bool). nat_lt 0 n && not b) (reads_is n m h s)

lasts_is : (m : Marks) (h : List Call) → Counts m h → lasts_now m ≡ lasts m.resume h
lasts_is m h s =
    let starved = ap (λ (o : Option ℕ). lacks_now o m) s.awaited ∙ lacks_is (awaited h) m h s in
    rw (starved, s.committed, s.examined) refl

-- while a pause stands it lasts
stands_over : (pause resume : ℕ) (h : List Call) → pause_stands pause resume h ≡ true → lasts resume h ≡ true
stands_over pause resume [] t = absurd cc
stands_over pause resume (call ∷ h) t = (and_parts (lasts resume (call ∷ h)) (begins_pause pause call h || pause_stands pause resume h) t).0

keeps : (enough stood : Bool) → (stood ≡ true → enough ≡ true) → enough && stood ≡ stood
keeps enough true imp = rw (imp refl) refl
keeps true false imp = refl
keeps false false imp = refl

-- a call that begins no pause, and behind which one that stood lasts, leaves the pause
paused_on : (pause resume : ℕ) (h : List Call) (enough : Bool) → (pause_stands pause resume h ≡ true → enough ≡ true)
    → is_paused pause resume h ≡ nat_lt 0 pause && is_none (reader_end h) && (enough && pause_stands pause resume h)
paused_on pause resume h enough imp = ap (λ (b : Bool). nat_lt 0 pause && is_none (reader_end h) && b) (sym (keeps enough (pause_stands pause resume h) imp))

pub and_false : (b : Bool) → b && false ≡ false
and_false true = refl
and_false false = refl

-- behind a call that makes every read ready nobody lacks anything, and behind one that no read asks for, who did before
pub canceled_lacks : (o : Option ℕ) (h : List Call) → lacks o (CancelRead ∷ h) ≡ false
canceled_lacks None h = refl
canceled_lacks (Some n) h = and_false _

pub ended_lacks : (o : Option ℕ) (code : ℕ) (h : List Call) → lacks o (EndWriter code ∷ h) ≡ false
ended_lacks None code h = refl
ended_lacks (Some n) code h = ready (canceled_read h) (nat_lt 0 n) (nat_lt 0 (unexamined h) && nat_le n (length (held h)))
  where
    ready : (canceled some more : Bool) → some && not (canceled || true || more) ≡ false
    ready true some more = and_false some
    ready false some more = and_false some

still_lacks : (o : Option ℕ) (h : List Call) → lacks o (CancelFlush ∷ h) ≡ lacks o h
still_lacks None h = refl
still_lacks (Some n) h = refl

rejoined : (on attended lasts begins stood : Bool) → on && attended && (lasts && (begins || (on && attended && stood))) ≡ on && attended && (lasts && (begins || stood))
rejoined true true lasts begins stood = refl
rejoined true false lasts begins stood = refl
rejoined false attended lasts begins stood = refl

-- marks that count a commit, with the pause before it, tell the pause behind it
paused_is : (m : Marks) (runs : List Run) (h : List Call) → Counts m (Commit runs ∷ h) → m.gone ≡ reader_end h → m.paused ≡ is_paused m.pause m.resume h
    → pauses_now m ≡ is_paused m.pause m.resume (Commit runs ∷ h)
paused_is m runs h s gone paused =
    rw (lasts_is m (Commit runs ∷ h) s, gone, paused, s.committed, s.examined)
    (rejoined (nat_lt 0 m.pause) (is_none (reader_end h)) (lasts m.resume (Commit runs ∷ h)) (nat_le m.pause (unexamined (Commit runs ∷ h))) (pause_stands m.pause m.resume h))

-- a commit of nothing changes no count
counts_nothing : (m : Marks) (h : List Call) → Counts m h → Counts m (Commit [] ∷ h)
counts_nothing m h s = record {
  committed = s.committed ∙ ap length (sym (total_nothing h));
  consumed = s.consumed;
  examined = s.examined;
  ended = s.ended;
  read_canceled = s.read_canceled;
  awaited = s.awaited;
}

flushes_is : (m : Marks) (h : List Call) → StandsFor m h → flushes_now m ≡ flush_is_ready m.pause m.resume h []
flushes_is m h s =
    ap (λ (b : Bool). flush_goes m.flush_canceled m.gone b) (paused_is m [] h (counts_nothing m h (counts m h s)) s.gone s.paused) ∙ (rw (s.flush_canceled, s.gone) refl)

pub same_thresholds : (m n : Marks) → n.pause ≡ m.pause → n.resume ≡ m.resume → thresholds_of n ≡ thresholds_of m
same_thresholds m n pause resume = rw (pause, resume) refl

abbrev wake_by : Bool → Bool → Wake
wake_by reader writer = record { reader = reader; writer = writer }

both : (r r' w w' : Bool) → r ≡ r' → w ≡ w' → wake_by r w ≡ wake_by r' w'
both r r' w w' e f = rw (e, f) refl

readies_is : (o : Option ℕ) (m n : Marks) (call : Call) (h : List Call) → Counts m h → Counts n (call ∷ h) → readies o m n ≡ becomes_ready o call h
readies_is None m n call h s t = refl
readies_is (Some k) m n call h s t = rw (reads_is k m h s, reads_is k n (call ∷ h) t) refl

goes_by : (w w' f f' g g' : Bool) → w ≡ w' → f ≡ f' → g ≡ g' → w && not f && g ≡ w' && not f' && g'
goes_by w w' f f' g g' a b c = rw (a, b, c) refl

-- the wake of a call is read off the marks before and after it
pub wake_is : (m n : Marks) (call : Call) (h : List Call) → n.pause ≡ m.pause → n.resume ≡ m.resume → StandsFor m h → StandsFor n (call ∷ h) → woken m n ≡ wake_of m.pause m.resume call h
wake_is m n call h pause resume s t =
    let after = subst (λ (s : Thresholds). flushes_now n ≡ flush_is_ready s.pause s.resume (call ∷ h) []) (same_thresholds m n pause resume) (flushes_is n (call ∷ h) t) in
    both _ _ _ _
    (ap (λ (o : Option ℕ). readies o m n) s.awaited ∙ readies_is (awaited h) m n call h (counts m h s) (counts n (call ∷ h) t))
    (goes_by _ _ _ _ _ _ s.writer_waits (flushes_is m h s) after)

-- marks that stand for a history are sound
sound_of : (m : Marks) (h : List Call) → AreThresholds m.pause m.resume → StandsFor m h → IsSound m
sound_of m h thresholds s =
    let o = ordered h s.legal in
    record {
      thresholds = thresholds;
      history = (h, s);
      consumed_in = omega (arith, s.consumed, s.committed, o.consumed_in);
      examined_in = omega (arith, s.examined, s.committed, o.examined_in);
      committed_in = omega (arith, s.committed, o.total_in);
      lent_in = omega (arith, s.consumed, s.committed, ap (λ (l : Option ℕ). unwrap_or l 0) s.lent, within (lend h) (o.lent_in), o.consumed_in);
    }
  where
    within : (l : Option (List ℕ)) → ((bytes : List ℕ) → l ≡ Some bytes → consumed h + length bytes ≤ length (total h)) → consumed h + unwrap_or (option_map length l) 0 ≤ length (total h)
    within (Some bytes) o = o bytes refl
    within None o = omega (arith, (ordered h s.legal).consumed_in)

pub sound_after : (m n : Marks) (call : Call) → n.pause ≡ m.pause → n.resume ≡ m.resume → IsSound m → ((h : List Call) → StandsFor m h → StandsFor n (call ∷ h)) → IsSound n
sound_after m n call pause resume sound stands =
    sound_of n (call ∷ sound.history.0) (rw (pause, resume) sound.thresholds) (stands sound.history.0 sound.history.1)

-- what a call leaves, and its answer
leaves : (m n : Marks) (call : Call) (answer : Answer) → n.pause ≡ m.pause → n.resume ≡ m.resume → ((h : List Call) → StandsFor m h → StandsFor n (call ∷ h)) → ((h : List Call) → StandsFor m h → answer ≡ answer_to m.pause m.resume call h)
    → n.ended ≡ ended_after call m.ended → n.gone ≡ gone_after call m.gone → n.lent ≡ lent_after call answer m.lent → (IsSound m → IsSound n) × ControlAnswers m call answer n
leaves m n call answer pause resume stands told ended gone lent = (
  λ sound. sound_after m n call pause resume sound stands,
  record { kept = same_thresholds m n pause resume; ended = ended; gone = gone; lent = lent; told = told; stands = stands },
)

-- a call whose only answer is its wake
pub woke : (m n : Marks) (call : Call) (wake : Wake) → n.pause ≡ m.pause → n.resume ≡ m.resume → wake ≡ woken m n
    → ((h : List Call) → StandsFor m h → StandsFor n (call ∷ h))
    → ((h : List Call) → answer_to m.pause m.resume call h ≡ Woke (wake_of m.pause m.resume call h))
    → n.ended ≡ ended_after call m.ended → n.gone ≡ gone_after call m.gone → n.lent ≡ lent_after call (Woke wake) m.lent → ControlAnswers m call (Woke wake) n
woke m n call wake pause resume e stands only ended gone lent =
    (leaves m n call (Woke wake) pause resume stands (λ h s. ap Woke (e ∙ wake_is m n call h pause resume s (stands h s)) ∙ sym (only h)) ended gone lent).1

pub after_cancel_read : (m : Marks) (h : List Call) → StandsFor m h → StandsFor (record m { read_canceled = true }) (CancelRead ∷ h)
after_cancel_read m h s = record {
  legal = (s.legal, tt);
  committed = s.committed;
  consumed = s.consumed;
  examined = s.examined;
  ended = s.ended;
  gone = s.gone;
  read_canceled = refl;
  flush_canceled = s.flush_canceled;
  paused = s.paused ∙ paused_on m.pause m.resume h (lasts m.resume (CancelRead ∷ h)) (λ stood. lasts_over m.resume h (CancelRead ∷ h) (omega arith) (λ fed. canceled_lacks (awaited h) h) (stands_over m.pause m.resume h stood));
  lent = s.lent;
  awaited = s.awaited;
  writer_waits = s.writer_waits;
}

pub after_cancel_flush : (m : Marks) (h : List Call) → StandsFor m h → StandsFor (record m { flush_canceled = true }) (CancelFlush ∷ h)
after_cancel_flush m h s = record {
  legal = (s.legal, tt);
  committed = s.committed;
  consumed = s.consumed;
  examined = s.examined;
  ended = s.ended;
  gone = s.gone;
  read_canceled = s.read_canceled;
  flush_canceled = refl;
  paused = s.paused ∙ paused_on m.pause m.resume h (lasts m.resume (CancelFlush ∷ h)) (λ stood. lasts_over m.resume h (CancelFlush ∷ h) (omega arith) (λ fed. still_lacks (awaited h) h ∙ fed) (stands_over m.pause m.resume h stood));
  lent = s.lent;
  awaited = s.awaited;
  writer_waits = s.writer_waits;
}

pub after_end_writer : (m : Marks) (code : ℕ) (h : List Call) → IsNone m.ended → StandsFor m h → StandsFor (record m { ended = Some code; writer_waits = false }) (EndWriter code ∷ h)
after_end_writer m code h unended s = record {
  legal = (s.legal, rw (← s.ended) unended);
  committed = s.committed;
  consumed = s.consumed;
  examined = s.examined;
  ended = refl;
  gone = s.gone;
  read_canceled = s.read_canceled;
  flush_canceled = s.flush_canceled;
  paused = s.paused ∙ paused_on m.pause m.resume h (lasts m.resume (EndWriter code ∷ h)) (λ stood. lasts_over m.resume h (EndWriter code ∷ h) (omega arith) (λ fed. ended_lacks (awaited h) code h) (stands_over m.pause m.resume h stood));
  lent = s.lent;
  awaited = s.awaited;
  writer_waits = refl;
}

never : (a b : Bool) → false ≡ a && false && b
never true b = refl
never false b = refl

pub after_end_reader : (m : Marks) (code : ℕ) (h : List Call) → IsNone m.gone → StandsFor m h
    → StandsFor (record m { gone = Some code; paused = false; lent = None; awaited = None }) (EndReader code ∷ h)
after_end_reader m code h attended s = record {
  legal = (s.legal, rw (← s.gone) attended);
  committed = s.committed;
  consumed = s.consumed;
  examined = s.examined;
  ended = s.ended;
  gone = refl;
  read_canceled = s.read_canceled;
  flush_canceled = s.flush_canceled;
  paused = never (nat_lt 0 m.pause) (lasts m.resume (EndReader code ∷ h) && pause_stands m.pause m.resume h);
  lent = refl;
  awaited = refl;
  writer_waits = s.writer_waits;
}

none_lent : (o : Option (List ℕ)) → IsNone (option_map length o) → IsNone o
none_lent (Some bytes) e = absurd cc
none_lent None e = refl

lent_len : (b c : Bool) (bytes : List ℕ) (n : ℕ) → b ≡ c → n ≡ length bytes → cond b (Some n) None ≡ option_map length (cond c (Some bytes) None)
lent_len true true bytes n e f = ap Some f
lent_len true false bytes n e f = absurd cc
lent_len false true bytes n e f = absurd cc
lent_len false false bytes n e f = refl

awaits : (b c : Bool) (n : ℕ) → b ≡ c → cond b None (Some n) ≡ cond c None (Some n)
awaits b c n e = rw e refl

-- a pause that lasts, as the marks have it
regrouped : (on attended stood lasts : Bool) → (on && attended && stood) && lasts ≡ on && attended && (lasts && stood)
regrouped true true true true = refl
regrouped true true true false = refl
regrouped true true false true = refl
regrouped true true false false = refl
regrouped true false stood lasts = refl
regrouped false attended stood lasts = refl

-- the marks behind a read, but for the pause
abbrev read_marks : Marks → ℕ → Marks
read_marks m n = record m { read_canceled = false; lent = cond (reads_now n m) (Some (m.committed - m.consumed)) None; awaited = cond (reads_now n m) None (Some n) }

read_counts : (m : Marks) (n : ℕ) (h : List Call) → StandsFor m h → Counts (read_marks m n) (Read n ∷ h)
read_counts m n h s = record {
  committed = s.committed;
  consumed = s.consumed;
  examined = s.examined;
  ended = s.ended;
  read_canceled = refl;
  awaited = awaits _ _ n (reads_is n m h (counts m h s));
}

pub after_read : (m : Marks) (n : ℕ) (h : List Call) → n ≤ 2 ^ 62 → IsNone m.gone → IsNone m.lent → StandsFor m h
    → StandsFor (record (read_marks m n) { paused = m.paused && lasts_now (read_marks m n) }) (Read n ∷ h)
after_read m n h most attended no_lend s =
    let c = read_counts m n h s in
    record {
      legal = (s.legal, (rw (← s.gone) attended, none_lent (lend h) (rw (← s.lent) no_lend), most));
      committed = s.committed;
      consumed = s.consumed;
      examined = s.examined;
      ended = s.ended;
      gone = s.gone;
      read_canceled = refl;
      flush_canceled = s.flush_canceled;
      paused = rw (lasts_is (read_marks m n) (Read n ∷ h) c, s.paused) (regrouped (nat_lt 0 m.pause) (is_none (reader_end h)) (pause_stands m.pause m.resume h) (lasts m.resume (Read n ∷ h)));
      lent = lent_len (reads_now n m) (read_is_ready n h) (held h) (m.committed - m.consumed) (reads_is n m h (counts m h s)) (held_len m h (counts m h s));
      awaited = c.awaited;
      writer_waits = s.writer_waits;
    }

pub told_read : (m : Marks) (n : ℕ) (h : List Call) → StandsFor m h
    → cond (reads_now n m) (read.Ready m.read_canceled m.ended (m.committed - m.consumed)) (read.Pending m.examined (m.committed - m.consumed)) ≡ reply_to_read n h
told_read m n h s = rw (reads_is n m h (counts m h s), held_len m h (counts m h s), s.read_canceled, s.ended, s.examined) refl

may_advance : (o : Option (List ℕ)) (c e : ℕ) → MayAdvance (option_map length o) c e → IsSomeAnd o (λ bytes. (c ≤ e) × (e ≤ length bytes))
may_advance (Some bytes) c e may = may
may_advance None c e may = elim may [ ]

attended_by : (o : Option (List ℕ)) (c e : ℕ) (P : Type 0) → MayAdvance (option_map length o) c e → ((bytes : List ℕ) → o ≡ Some bytes → P) → P
attended_by (Some bytes) c e P may p = p bytes refl
attended_by None c e P may p = elim may [ ]

-- the marks behind an advance, but for the pause
abbrev moved : Marks → ℕ → ℕ → Marks
moved m c x = record m { consumed = m.consumed + c; examined = x; lent = None; awaited = None }

pub after_advance : (m : Marks) (c e x : ℕ) (h : List Call) → MayAdvance m.lent c e → x ≡ max m.examined (m.consumed + e) → StandsFor m h
    → StandsFor (record (moved m c x) { paused = m.paused && lasts_now (moved m c x) }) (Advance c e ∷ h)
after_advance m c e x h may is s =
    let allowed : MayAdvance (option_map length (lend h)) c e = rw (← s.lent) may in
    let mark : x ≡ examined (Advance c e ∷ h) = is ∙ (rw (s.examined, s.consumed) refl) in
    let given : m.consumed + c ≡ consumed (Advance c e ∷ h) = ap (λ (n : ℕ). n + c) s.consumed in
    let k : Counts (moved m c x) (Advance c e ∷ h) = record { committed = s.committed; consumed = given; examined = mark; ended = s.ended; read_canceled = s.read_canceled; awaited = refl } in
    record {
      legal = (s.legal, (attended_by (lend h) c e (IsNone (reader_end h)) allowed (ordered h s.legal).attended, may_advance (lend h) c e allowed));
      committed = s.committed;
      consumed = given;
      examined = mark;
      ended = s.ended;
      gone = s.gone;
      read_canceled = s.read_canceled;
      flush_canceled = s.flush_canceled;
      paused = rw (lasts_is (moved m c x) (Advance c e ∷ h) k, s.paused) (regrouped (nat_lt 0 m.pause) (is_none (reader_end h)) (pause_stands m.pause m.resume h) (lasts m.resume (Advance c e ∷ h)));
      lent = refl;
      awaited = refl;
      writer_waits = s.writer_waits;
    }

-- how a commit may grow the total
grown : (gone : Option ℕ) (committed n t : ℕ) → cond (is_some gone) (Some committed) (cond (nat_lt (2 ^ 62) (committed + n)) None (Some (committed + n))) ≡ Some t
    → (IsSome gone × (t ≡ committed)) ⊎ (IsNone gone × (t ≡ committed + n) × (t ≤ 2 ^ 62))
grown (Some code) committed n t e = inl (refl, cc)
grown None committed n t e = elim (cases_lt (2 ^ 62) (committed + n)) [
  | inl lt ↦ absurd (too_much (rw (lt-ltb (2 ^ 62) (committed + n) lt) at e))
  | inr le ↦ let same = some_is (rw (le-ltb (2 ^ 62) (committed + n) le) at e) in inr (refl, same, omega (arith, same, le))
]
  where
    too_much : None ≡ Some t → ⊥
    too_much f = absurd cc

    some_is : Some (committed + n) ≡ Some t → t ≡ committed + n
    some_is f = cc

none_is : (o : Option ℕ) → IsNone o → is_none o ≡ true
none_is (Some code) e = absurd cc
none_is None e = refl

some_is : (o : Option ℕ) → IsSome o → is_none o ≡ false
some_is (Some code) e = refl
some_is None e = absurd cc

total_is : (m : Marks) (n t : ℕ) (runs : List Run) (h : List Call) → length (bytes_of runs) ≡ n → total_with m n ≡ Some t → StandsFor m h → t ≡ length (total (Commit runs ∷ h))
total_is m n t runs h size fits s =
    let all = total_commit runs h in
    elim (grown m.gone m.committed n t fits) [
      | inl dropped ↦
          let none : is_none (reader_end h) ≡ false = some_is (reader_end h) (rw (← s.gone) dropped.0) in
          dropped.1 ∙ s.committed ∙ ap length (sym (all ∙ rw none (append-nil (total h))))
      | inr kept ↦
          let some : is_none (reader_end h) ≡ true = none_is (reader_end h) (rw (← s.gone) kept.0) in
          let more : total (Commit runs ∷ h) ≡ total h ++ bytes_of runs = all ∙ rw some refl in
          omega (arith, kept.1, s.committed, size, ap length more, length-append (total h) (bytes_of runs))
    ]

may_commit : (m : Marks) (n t : ℕ) (runs : List Run) (h : List Call) → length (bytes_of runs) ≡ n → total_with m n ≡ Some t → StandsFor m h
    → IsSome (reader_end h) ⊎ (length (total h) + length (bytes_of runs) ≤ 2 ^ 62)
may_commit m n t runs h size fits s = elim (grown m.gone m.committed n t fits) [
  | inl dropped ↦ inl (rw (← s.gone) dropped.0)
  | inr kept ↦ inr (omega (arith, kept.1, kept.2, s.committed, size))
]

-- the marks behind a commit, but for the pause and the flags of flushes
abbrev grown_to : Marks → ℕ → Marks
grown_to m t = record m { committed = t }

pause_is : (m : Marks) (t : ℕ) (runs : List Run) (h : List Call) → t ≡ length (total (Commit runs ∷ h)) → StandsFor m h
    → pauses_now (grown_to m t) ≡ is_paused m.pause m.resume (Commit runs ∷ h)
pause_is m t runs h whole s =
    let k : Counts (grown_to m t) (Commit runs ∷ h) = record { committed = whole; consumed = s.consumed; examined = s.examined; ended = s.ended; read_canceled = s.read_canceled; awaited = s.awaited } in
    paused_is (grown_to m t) runs h k s.gone s.paused

flush_is : (m : Marks) (t : ℕ) (runs : List Run) (h : List Call) → t ≡ length (total (Commit runs ∷ h)) → StandsFor m h
    → flush_goes m.flush_canceled m.gone (pauses_now (grown_to m t)) ≡ flush_is_ready m.pause m.resume h runs
flush_is m t runs h whole s = rw (pause_is m t runs h whole s, s.flush_canceled, s.gone) refl

pub after_commit : (m : Marks) (n t : ℕ) (runs : List Run) (h : List Call) → IsNone m.ended → length (bytes_of runs) ≡ n → total_with m n ≡ Some t → StandsFor m h
    → StandsFor (record m { committed = t; flush_canceled = false; paused = pauses_now (grown_to m t); writer_waits = not (flush_goes m.flush_canceled m.gone (pauses_now (grown_to m t))) }) (Commit runs ∷ h)
after_commit m n t runs h unended size fits s =
    let whole = total_is m n t runs h size fits s in
    record {
      legal = (s.legal, (rw (← s.ended) unended, may_commit m n t runs h size fits s));
      committed = whole;
      consumed = s.consumed;
      examined = s.examined;
      ended = s.ended;
      gone = s.gone;
      read_canceled = s.read_canceled;
      flush_canceled = refl;
      paused = pause_is m t runs h whole s;
      lent = s.lent;
      awaited = s.awaited;
      writer_waits = ap not (flush_is m t runs h whole s);
    }

pub told_commit : (m : Marks) (n t : ℕ) (runs : List Run) (h : List Call) → length (bytes_of runs) ≡ n → total_with m n ≡ Some t → StandsFor m h
    → cond (flush_goes m.flush_canceled m.gone (pauses_now (grown_to m t))) (flush.Ready m.flush_canceled m.gone) (flush.Pending (t - m.examined)) ≡ reply_to_commit m.pause m.resume h runs
told_commit m n t runs h size fits s =
    let whole = total_is m n t runs h size fits s in
    rw (flush_is m t runs h whole s, s.flush_canceled, s.gone, s.examined, whole) refl

-- an advance, with the mark that it leaves and the pause
pub advances : (m : Marks) (c e x : ℕ) (paused : Bool) (wake : Wake) → MayAdvance m.lent c e → x ≡ max m.examined (m.consumed + e) → paused ≡ m.paused && lasts_now (moved m c x)
    → (n : Marks) → n ≡ record (moved m c x) { paused = paused } → wake ≡ woken m n
    → (IsSound m → IsSound n) × ControlAnswers m (Advance c e) (Woke wake) n
advances m c e x paused wake may mark is n new wakes =
    let stands : (h : List Call) → StandsFor m h → StandsFor n (Advance c e ∷ h) = λ h s. rw (new, is) (after_advance m c e x h may mark s) in
    let pause : n.pause ≡ m.pause = rw new refl in
    let resume : n.resume ≡ m.resume = rw new refl in
    (λ sound. sound_after m n (Advance c e) pause resume sound stands, woke m n (Advance c e) wake pause resume wakes stands (λ h. refl) (rw new refl) (rw new refl) (rw new refl))

lent_told : (ready : Bool) (k held : ℕ) (canceled : Bool) (ended : Option ℕ) (examined : ℕ) (reply : ReadReply) (wake : Wake) (lent : Option ℕ)
    → reply ≡ cond ready (read.Ready canceled ended held) (read.Pending examined held) → cond ready (Some held) None ≡ lent_after (Read k) (Gave reply wake) lent
lent_told true k held canceled ended examined reply wake lent e = rw e refl
lent_told false k held canceled ended examined reply wake lent e = rw e refl

-- a read, with the flag that says whether it is ready, what it lends, what it waits for and the pause
pub reads : (m : Marks) (k : ℕ) (ready paused : Bool) (lent waits : Option ℕ) (reply : ReadReply) (wake : Wake) → k ≤ 2 ^ 62 → IsNone m.gone → IsNone m.lent → ready ≡ reads_now k m
    → lent ≡ cond ready (Some (m.committed - m.consumed)) None → waits ≡ cond ready None (Some k)
    → paused ≡ m.paused && lasts_now (record m { read_canceled = false; lent = lent; awaited = waits })
    → reply ≡ cond ready (read.Ready m.read_canceled m.ended (m.committed - m.consumed)) (read.Pending m.examined (m.committed - m.consumed))
    → (n : Marks) → n ≡ record m { read_canceled = false; lent = lent; awaited = waits; paused = paused } → wake ≡ woken m n
    → (IsSound m → IsSound n) × ControlAnswers m (Read k) (Gave reply wake) n
reads m k ready paused lent waits reply wake most attended no_lend is lends awaits pauses told n new woke =
    let stands : (h : List Call) → StandsFor m h → StandsFor n (Read k ∷ h) = λ h s. rw (new, pauses, lends, awaits, is) (after_read m k h most attended no_lend s) in
    let pause : n.pause ≡ m.pause = rw new refl in
    let resume : n.resume ≡ m.resume = rw new refl in
    let told_so : (h : List Call) → StandsFor m h → Gave reply wake ≡ answer_to m.pause m.resume (Read k) h = λ h s.
    let reply_is : reply ≡ reply_to_read k h = told ∙ (rw is (told_read m k h s)) in
    let wake_is : wake ≡ wake_of m.pause m.resume (Read k) h = woke ∙ wake_is m n (Read k) h pause resume s (stands h s) in
    rw (reply_is, wake_is) refl in
    leaves m n (Read k) (Gave reply wake) pause resume stands told_so (rw new refl) (rw new refl) (rw new (lends ∙ lent_told ready k (m.committed - m.consumed) m.read_canceled m.ended m.examined reply wake m.lent told))

-- a commit, with the total that it leaves, the pause and the flag that says whether it is ready
pub commits : (m : Marks) (size t : ℕ) (paused ready : Bool) (reply : FlushReply) (wake : Wake) → IsNone m.ended → total_with m size ≡ Some t → paused ≡ pauses_now (grown_to m t)
    → ready ≡ flush_goes m.flush_canceled m.gone paused → reply ≡ cond ready (flush.Ready m.flush_canceled m.gone) (flush.Pending (t - m.examined))
    → (n : Marks) → n ≡ record m { committed = t; flush_canceled = false; paused = paused; writer_waits = not ready } → wake ≡ woken m n
    → (runs : List Run) → length (bytes_of runs) ≡ size → (IsSound m → IsSound n) × ControlAnswers m (Commit runs) (Flushed reply wake) n
commits m size t paused ready reply wake unended fits is goes told n new woke runs len =
    let stands : (h : List Call) → StandsFor m h → StandsFor n (Commit runs ∷ h) = λ h s. rw (new, goes, is) (after_commit m size t runs h unended len fits s) in
    let pause : n.pause ≡ m.pause = rw new refl in
    let resume : n.resume ≡ m.resume = rw new refl in
    let told_so : (h : List Call) → StandsFor m h → Flushed reply wake ≡ answer_to m.pause m.resume (Commit runs) h = λ h s.
    let reply_is : reply ≡ reply_to_commit m.pause m.resume h runs = told ∙ (rw (goes, is) (told_commit m size t runs h len fits s)) in
    let wake_is : wake ≡ wake_of m.pause m.resume (Commit runs) h = woke ∙ wake_is m n (Commit runs) h pause resume s (stands h s) in
    rw (reply_is, wake_is) refl in
    leaves m n (Commit runs) (Flushed reply wake) pause resume stands told_so (rw new refl) (rw new refl) (rw new refl)

-- a run of so many bytes
abbrev pub run_of : ℕ → List Run
run_of n = record { segment = 0; bytes = replicate n 0 } ∷ []

pub run_of_len : (n : ℕ) → length (bytes_of (run_of n)) ≡ n
run_of_len n = simp (length-append, length-replicate) (omega arith)
