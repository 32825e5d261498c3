-- Whom no call wakes.
use Rattle.std.proofs.Common.{◌≡◌, ◌≤◌, ◌+◌, ℕ, Bool, true, false, not, ◌&&◌, ◌||◌, nat_lt, nat_le, List, [], ◌∷◌, length, refl, sym, ap, ◌∙◌, arith, Option, Some, None, inl, inr}
use Rattle.std.specs.Prelude.{is_some, is_none, IsSome}
use Rattle.std.proofs.lemmas.Bool.{and_parts, and_from, or_right, leb-true, le-leb, le-ltb, lt-ltb, lt-leb, ltb-true, ltb-false, leb-false}
use Rattle.std.proofs.lemmas.List.{length-drop}
use Rattle.pipe_core.specs.History.{Run, Call, Commit, EndWriter, Read, Advance, EndReader, CancelRead, CancelFlush, reader_end, writer_end}
use Rattle.pipe_core.specs.Progress.{total, consumed, unexamined, held, canceled_read, canceled_flush}
use Rattle.pipe_core.specs.Pauses.{begins_pause, lasts, pause_stands, is_paused}
use Rattle.pipe_core.specs.Reads.{awaited, lacks, is_starved}
use Rattle.pipe_core.specs.Flushes.{writer_waits}
use Rattle.pipe_core.specs.Wakes.{becomes_ready, wakes_reader, wakes_writer}
use Rattle.pipe_core.specs.Legal.{IsLegal}
use Rattle.pipe_core.proofs.OrderLemmas.{grows, total_nothing, either}
use Rattle.pipe_core.proofs.PauseLemmas.{lasts_over}
use Rattle.pipe_core.proofs.StandingLemmas.{and_false, canceled_lacks, ended_lacks}

-- a reader that has completed does not wait, nor does such a writer
reader_idle : (h : List Call) → IsLegal h → IsSome (reader_end h) → awaited h ≡ None
reader_idle [] legal some = absurd cc
reader_idle (Commit runs ∷ h) legal some = reader_idle h legal.0 some
reader_idle (EndWriter code ∷ h) legal some = reader_idle h legal.0 some
reader_idle (Read n ∷ h) legal some = let none = legal.1.0 in absurd cc
reader_idle (Advance c e ∷ h) legal some = refl
reader_idle (EndReader code ∷ h) legal some = refl
reader_idle (CancelRead ∷ h) legal some = reader_idle h legal.0 some
reader_idle (CancelFlush ∷ h) legal some = reader_idle h legal.0 some

writer_idle : (pause resume : ℕ) (h : List Call) → IsLegal h → IsSome (writer_end h) → writer_waits pause resume h ≡ false
writer_idle pause resume [] legal some = absurd cc
writer_idle pause resume (Commit runs ∷ h) legal some = let none = legal.1.0 in absurd cc
writer_idle pause resume (EndWriter code ∷ h) legal some = refl
writer_idle pause resume (Read n ∷ h) legal some = writer_idle pause resume h legal.0 some
writer_idle pause resume (Advance c e ∷ h) legal some = writer_idle pause resume h legal.0 some
writer_idle pause resume (EndReader code ∷ h) legal some = writer_idle pause resume h legal.0 some
writer_idle pause resume (CancelRead ∷ h) legal some = writer_idle pause resume h legal.0 some
writer_idle pause resume (CancelFlush ∷ h) legal some = writer_idle pause resume h legal.0 some

idle_reader : (o : Option ℕ) (call : Call) (h : List Call) → o ≡ None → becomes_ready o call h ≡ false
idle_reader None call h e = refl
idle_reader (Some n) call h e = absurd cc

idle_writer : (waits ready then : Bool) → waits ≡ false → waits && not ready && then ≡ false
idle_writer waits ready then e = rw e refl

-- whether there are bytes enough for a read for at least n
abbrev enough : ℕ → List Call → Bool
enough n h = nat_lt 0 (unexamined h) && nat_le n (length (held h))

-- A read is not made ready by a call that commits, cancels and completes nothing.
unready : (canceled canceled' ended ended' some some' : Bool) → (canceled ≡ false → canceled' ≡ false) → ended' ≡ ended → (some ≡ false → some' ≡ false)
    → not (canceled || ended || some) && (canceled' || ended' || some') ≡ false
unready true canceled' ended ended' some some' c e s = refl
unready false canceled' true ended' some some' c e s = refl
unready false canceled' false ended' true some' c e s = refl
unready false canceled' false ended' false some' c e s = rw (c refl, e, s refl) refl

not_enough : (n : ℕ) (h g : List Call) → unexamined g ≤ unexamined h → length (held g) ≤ length (held h) → enough n h ≡ false → enough n g ≡ false
not_enough n h g unexamined_in held_in few = elim (either (nat_lt 0 (unexamined h)) (nat_le n (length (held h))) few) [
  | inl none ↦ rw (le-ltb 0 (unexamined g) (omega (arith, ltb-false 0 (unexamined h) none, unexamined_in))) refl
  | inr short ↦ rw (lt-leb n (length (held g)) (omega (arith, leb-false n (length (held h)) short, held_in))) (and_false (nat_lt 0 (unexamined g)))
]

not_readied : (o : Option ℕ) (call : Call) (h : List Call) → writer_end (call ∷ h) ≡ writer_end h → (canceled_read h ≡ false → canceled_read (call ∷ h) ≡ false)
    → unexamined (call ∷ h) ≤ unexamined h → length (held (call ∷ h)) ≤ length (held h) → becomes_ready o call h ≡ false
not_readied None call h ended canceled unexamined_in held_in = refl
not_readied (Some n) call h ended canceled unexamined_in held_in =
    unready (canceled_read h) (canceled_read (call ∷ h)) (is_some (writer_end h)) (is_some (writer_end (call ∷ h))) (enough n h) (enough n (call ∷ h)) canceled (ap is_some ended) (not_enough n h (call ∷ h) unexamined_in held_in)

pub read_wakes : (n : ℕ) (h : List Call) → wakes_reader (Read n) h ≡ false
read_wakes n h = not_readied (awaited h) (Read n) h refl (λ e. refl) (omega arith) (omega arith)

pub advance_wakes : (c e : ℕ) (h : List Call) → wakes_reader (Advance c e) h ≡ false
advance_wakes c e h = not_readied (awaited h) (Advance c e) h refl (λ f. f) (omega arith) (omega (arith, length-drop (consumed h) (total h), length-drop (consumed h + c) (total h)))

pub end_reader_wakes : (code : ℕ) (h : List Call) → wakes_reader (EndReader code) h ≡ false
end_reader_wakes code h = not_readied (awaited h) (EndReader code) h refl (λ e. e) (omega arith) (omega arith)

pub cancel_flush_wakes : (h : List Call) → wakes_reader CancelFlush h ≡ false
cancel_flush_wakes h = not_readied (awaited h) CancelFlush h refl (λ e. e) (omega arith) (omega arith)

pub completed_reader : (call : Call) (h : List Call) → IsLegal (call ∷ h) → IsSome (reader_end (call ∷ h)) → wakes_reader call h ≡ false
completed_reader (Commit runs) h legal some = idle_reader _ _ h (reader_idle h legal.0 some)
completed_reader (EndWriter code) h legal some = idle_reader _ _ h (reader_idle h legal.0 some)
completed_reader (Read n) h legal some = read_wakes n h
completed_reader (Advance c e) h legal some = advance_wakes c e h
completed_reader (EndReader code) h legal some = end_reader_wakes code h
completed_reader CancelRead h legal some = idle_reader _ _ h (reader_idle h legal.0 some)
completed_reader CancelFlush h legal some = cancel_flush_wakes h

-- A flush of nothing is not made ready by a call that leaves the reader, cancels no flush, and behind which no fewer bytes are
-- unexamined and nobody starves who didn't before: where it would have been held it still would be.
held_back : (waits canceled canceled' gone gone' paused paused' : Bool) → (canceled ≡ false → canceled' ≡ false) → gone' ≡ gone → (paused ≡ true → paused' ≡ true)
    → waits && not (canceled || gone || not paused) && (canceled' || gone' || not paused') ≡ false
held_back false canceled canceled' gone gone' paused paused' c g p = refl
held_back true true canceled' gone gone' paused paused' c g p = refl
held_back true false canceled' true gone' paused paused' c g p = refl
held_back true false canceled' false gone' false paused' c g p = refl
held_back true false canceled' false gone' true paused' c g p = rw (c refl, g, p refl) refl

paused_still : (on attended attended' lasts lasts' full full' begins stood : Bool) → attended' ≡ attended → (lasts ≡ true → lasts' ≡ true) → (full ≡ true → full' ≡ true)
    → on && attended && (lasts && (full || stood)) ≡ true → on && attended' && (lasts' && (full' || (lasts' && (begins || stood)))) ≡ true
paused_still true true attended' true lasts' true full' begins stood a l f e = rw (a, l refl, f refl) refl
paused_still true true attended' true lasts' false full' begins true a l f e = rw (a, l refl) (or_right full' (begins || true) (or_right begins true refl))
paused_still true true attended' true lasts' false full' begins false a l f e = absurd cc
paused_still true true attended' false lasts' full full' begins stood a l f e = absurd cc
paused_still true false attended' lasts lasts' full full' begins stood a l f e = absurd cc
paused_still false attended attended' lasts lasts' full full' begins stood a l f e = absurd cc

lacks_nothing : (o : Option ℕ) (h : List Call) → lacks o (Commit [] ∷ h) ≡ lacks o h
lacks_nothing None h = refl
lacks_nothing (Some n) h = rw (total_nothing h) refl

-- the pause behind a commit of nothing
asked_again : (pause resume : ℕ) (h : List Call) → is_paused pause resume (Commit [] ∷ h) ≡ nat_lt 0 pause && is_none (reader_end h) && (lasts resume h && (nat_le pause (unexamined h) || pause_stands pause resume h))
asked_again pause resume h = rw (lacks_nothing (awaited h) h, total_nothing h) refl

not_freed : (pause resume : ℕ) (call : Call) (h : List Call) → reader_end (call ∷ h) ≡ reader_end h → (canceled_flush h ≡ false → canceled_flush (call ∷ h) ≡ false)
    → unexamined h ≤ unexamined (call ∷ h) → (is_starved h ≡ false → is_starved (call ∷ h) ≡ false) → wakes_writer pause resume call h ≡ false
not_freed pause resume call h gone canceled more fed =
    held_back (writer_waits pause resume h) (canceled_flush h) (canceled_flush (call ∷ h)) (is_some (reader_end h)) (is_some (reader_end (call ∷ h)))
    (is_paused pause resume (Commit [] ∷ h)) (is_paused pause resume (Commit [] ∷ call ∷ h)) canceled (ap is_some gone) (λ paused.
    asked_again pause resume (call ∷ h) ∙ paused_still (nat_lt 0 pause) (is_none (reader_end h)) (is_none (reader_end (call ∷ h))) (lasts resume h) (lasts resume (call ∷ h))
    (nat_le pause (unexamined h)) (nat_le pause (unexamined (call ∷ h))) (begins_pause pause call h) (pause_stands pause resume h) (ap is_none gone)
    (lasts_over resume h (call ∷ h) more fed)
    (λ full. le-leb _ _ (omega (arith, leb-true pause (unexamined h) full, more)))
    (sym (asked_again pause resume h) ∙ paused))

pub end_writer_wakes : (pause resume code : ℕ) (h : List Call) → wakes_writer pause resume (EndWriter code) h ≡ false
end_writer_wakes pause resume code h = not_freed pause resume (EndWriter code) h refl (λ e. e) (omega arith) (λ fed. ended_lacks (awaited h) code h)

pub cancel_read_wakes : (pause resume : ℕ) (h : List Call) → wakes_writer pause resume CancelRead h ≡ false
cancel_read_wakes pause resume h = not_freed pause resume CancelRead h refl (λ e. e) (omega arith) (λ fed. canceled_lacks (awaited h) h)

-- a commit leaves no fewer bytes
more_ready : (some canceled ended few more : Bool) → (few ≡ true → more ≡ true) → some && not (canceled || ended || few) ≡ false → some && not (canceled || ended || more) ≡ false
more_ready false canceled ended few more imp e = refl
more_ready true true ended few more imp e = refl
more_ready true false true few more imp e = refl
more_ready true false false true more imp e = rw (imp refl) refl
more_ready true false false false more imp e = absurd cc

still_enough : (n : ℕ) (runs : List Run) (h : List Call) → enough n h ≡ true → enough n (Commit runs ∷ h) ≡ true
still_enough n runs h e =
    let p = and_parts (nat_lt 0 (unexamined h)) (nat_le n (length (held h))) e in
    let more = grows runs h in
    and_from _ _ (lt-ltb 0 (unexamined (Commit runs ∷ h)) (omega (arith, ltb-true 0 (unexamined h) p.0, more)))
    (le-leb n (length (held (Commit runs ∷ h))) (omega (arith, leb-true n (length (held h)) p.1, more, length-drop (consumed h) (total h), length-drop (consumed h) (total (Commit runs ∷ h)))))

lacks_no_more : (o : Option ℕ) (runs : List Run) (h : List Call) → lacks o h ≡ false → lacks o (Commit runs ∷ h) ≡ false
lacks_no_more None runs h e = refl
lacks_no_more (Some n) runs h e = more_ready (nat_lt 0 n) (canceled_read h) (is_some (writer_end h)) (enough n h) (enough n (Commit runs ∷ h)) (still_enough n runs h) e

pub commit_wakes : (pause resume : ℕ) (runs : List Run) (h : List Call) → wakes_writer pause resume (Commit runs) h ≡ false
commit_wakes pause resume runs h = let more = grows runs h in not_freed pause resume (Commit runs) h refl (λ e. refl) (omega (arith, more)) (lacks_no_more (awaited h) runs h)

pub completed_writer : (pause resume : ℕ) (call : Call) (h : List Call) → IsLegal (call ∷ h) → IsSome (writer_end (call ∷ h)) → wakes_writer pause resume call h ≡ false
completed_writer pause resume (Commit runs) h legal some = commit_wakes pause resume runs h
completed_writer pause resume (EndWriter code) h legal some = end_writer_wakes pause resume code h
completed_writer pause resume (Read n) h legal some = idle_writer _ _ _ (writer_idle pause resume h legal.0 some)
completed_writer pause resume (Advance c e) h legal some = idle_writer _ _ _ (writer_idle pause resume h legal.0 some)
completed_writer pause resume (EndReader code) h legal some = idle_writer _ _ _ (writer_idle pause resume h legal.0 some)
completed_writer pause resume CancelRead h legal some = cancel_read_wakes pause resume h
completed_writer pause resume CancelFlush h legal some = idle_writer _ _ _ (writer_idle pause resume h legal.0 some)
