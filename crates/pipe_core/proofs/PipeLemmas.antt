-- What a pipe keeps for its reader, call by call.
use Rattle.std.proofs.Common.{◌≡◌, ◌≢◌, ◌≤◌, ◌+◌, ◌^◌, ℕ, Bool, true, false, cond, List, [], ◌∷◌, ◌++◌, length, take, drop, refl, sym, ap, subst, ◌∙◌, arith, Option, Some, None}
use Rattle.std.specs.Prelude.{is_some, is_none, IsNone, IsSome, option_map, unwrap_or}
use Rattle.std.proofs.Math.Bool.{or-false}
use Rattle.std.proofs.lemmas.List.{length-append, length-drop, length-take, drop-drop, drop_all, drop-append-le, take-append-le, take_all}
use Rattle.pipe_core.specs.History.{Run, Call, Commit, EndWriter, Read, Advance, EndReader, CancelRead, CancelFlush, bytes_of, reader_end, closing, AreRunsOf}
use Rattle.pipe_core.specs.Progress.{total, consumed, held}
use Rattle.pipe_core.specs.Reads.{read_is_ready}
use Rattle.pipe_core.specs.Lends.{lend}
use Rattle.pipe_core.specs.Legal.{IsLegal}
use Rattle.pipe_core.specs.declared.reply.Wake.{Wake}
use Rattle.pipe_core.specs.declared.reply.FlushReply.{FlushReply}
use Rattle.pipe_core.specs.Wakes.{wake_of, either_wake}
use Rattle.pipe_core.specs.Answers.{Answer, Flushed, Woke}
use Rattle.pipe_core.specs.Standing.{MayAdvance, Thresholds, thresholds_of, ControlAnswers}
use Rattle.pipe_core.specs.Bytes.{Bytes, capacity_of, settled, with_committed}
use Rattle.pipe_core.specs.Pipe.{Pipe, kept, HoldsFor, Made, made_of, PipeAnswers}
use Rattle.pipe_core.proofs.OrderLemmas.{ordered, read_lends, total_commit}

given_up : (b : Bool) (c n : ℕ) (xs : List ℕ) → drop c (cond b (drop n xs) []) ≡ cond b (drop (n + c) xs) []
given_up true c n xs = drop-drop c n xs
given_up false c n xs = drop_all c [] (omega arith)

-- an advance gives up the front of what is kept
pub kept_advance : (c e : ℕ) (h : List Call) → drop c (kept h) ≡ kept (Advance c e ∷ h)
kept_advance c e h = given_up (is_none (reader_end h)) c (consumed h) (total h)

-- a commit adds to what is committed and not consumed
held_commit : (runs : List Run) (h : List Call) → IsLegal h → held (Commit runs ∷ h) ≡ held h ++ cond (is_none (reader_end h)) (bytes_of runs) []
held_commit runs h legal =
    ap (λ (xs : List ℕ). drop (consumed h) xs) (total_commit runs h)
    ∙ drop-append-le (consumed h) (total h) (cond (is_none (reader_end h)) (bytes_of runs) []) (ordered h legal).consumed_in

-- what a buffer holds once its draft is settled
pub settled_holds : (b : Bytes) (runs : List Run) (h : List Call) (dropped : Bool) → bytes_of runs ≡ b.draft → dropped ≡ is_some (reader_end h) → IsLegal h → b.held ≡ kept h → (settled dropped b).held ≡ kept (Commit runs ∷ h)
settled_holds b runs h dropped drafted is legal holds = rw is (each (reader_end h) (held_commit runs h legal) holds)
  where
    each : (o : Option ℕ) → held (Commit runs ∷ h) ≡ held h ++ cond (is_none o) (bytes_of runs) [] → b.held ≡ cond (is_none o) (held h) []
        → (settled (is_some o) b).held ≡ cond (is_none o) (held (Commit runs ∷ h)) []
    each (Some code) more same = same
    each None more same = ap (λ (xs : List ℕ). xs ++ b.draft) same ∙ sym (more ∙ ap (λ (xs : List ℕ). held h ++ xs) drafted)

-- what is lent is the front of what is committed and not consumed
lend_front : (h : List Call) (bytes : List ℕ) → IsLegal h → lend h ≡ Some bytes → bytes ≡ take (length bytes) (held h)
lend_front [] bytes legal e = absurd cc
lend_front (Commit runs ∷ h) bytes legal e =
    let o = ordered h legal.0 in
    let within : length bytes ≤ length (held h) = omega (arith, o.lent_in bytes e, o.consumed_in, length-drop (consumed h) (total h)) in
    lend_front h bytes legal.0 e
    ∙ sym (take-append-le (length bytes) (held h) (cond (is_none (reader_end h)) (bytes_of runs) []) within)
    ∙ sym (ap (λ (xs : List ℕ). take (length bytes) xs) (held_commit runs h legal.0))
lend_front (EndWriter code ∷ h) bytes legal e = lend_front h bytes legal.0 e
lend_front (Read n ∷ h) bytes legal e =
    let same : bytes ≡ held h = read_lends (read_is_ready n h) (held h) bytes e in
    same ∙ sym (take_all (length bytes) (held h) (omega (arith, ap length same)))
lend_front (Advance c x ∷ h) bytes legal e = absurd cc
lend_front (EndReader code ∷ h) bytes legal e = absurd cc
lend_front (CancelRead ∷ h) bytes legal e = lend_front h bytes legal.0 e
lend_front (CancelFlush ∷ h) bytes legal e = lend_front h bytes legal.0 e

kept_attended : (h : List Call) → IsNone (reader_end h) → kept h ≡ held h
kept_attended h attended = each (reader_end h) attended
  where
    each : (o : Option ℕ) → IsNone o → cond (is_none o) (held h) [] ≡ held h
    each (Some code) none = absurd cc
    each None none = refl

-- a lend of n bytes, in what a pipe holds
pub record IsLent (p : Pipe) (h : List Call) (n : ℕ) : Type 0 where
  pub within : n ≤ length p.bytes.held
  pub bytes : lend h ≡ Some (take n p.bytes.held)

lent_of : (p : Pipe) (h : List Call) (n : ℕ) (o : Option (List ℕ)) → lend h ≡ o → option_map length o ≡ Some n → HoldsFor p h → IsLent p h n
lent_of p h n None is e s = absurd cc
lent_of p h n (Some bytes) is e s =
    let size : length bytes ≡ n = cc in
    let legal = s.marks.legal in
    let o = ordered h legal in
    let all : p.bytes.held ≡ held h = s.held ∙ kept_attended h (o.attended bytes is) in
    let front : bytes ≡ take n p.bytes.held = lend_front h bytes legal is ∙ ap (λ (k : ℕ). take k (held h)) size ∙ ap (λ (xs : List ℕ). take n xs) (sym all) in
    record {
      within = omega (arith, ap length all, size, o.lent_in bytes is, o.consumed_in, length-drop (consumed h) (total h));
      bytes = is ∙ ap Some front;
    }

pub lent : (p : Pipe) (h : List Call) (n : ℕ) → p.control.lent ≡ Some n → HoldsFor p h → IsLent p h n
lent p h n e s = lent_of p h n (lend h) refl (sym s.marks.lent ∙ e) s

pub lent_within : (p : Pipe) (h : List Call) → HoldsFor p h → unwrap_or p.control.lent 0 ≤ length p.bytes.held
lent_within p h s = each p.control.lent refl
  where
    each : (o : Option ℕ) → p.control.lent ≡ o → unwrap_or o 0 ≤ length p.bytes.held
    each (Some n) is = (lent p h n is s).within
    each None is = omega arith

-- where something is lent, its bytes and how many they are
pub lent_is : (p : Pipe) (h : List Call) → HoldsFor p h → IsSome p.control.lent
    → (lend h ≡ Some (take (unwrap_or p.control.lent 0) p.bytes.held)) × (p.control.lent ≡ Some (length (take (unwrap_or p.control.lent 0) p.bytes.held)))
lent_is p h s some = each p.control.lent refl some
  where
    each : (o : Option ℕ) → p.control.lent ≡ o → IsSome o → (lend h ≡ Some (take (unwrap_or o 0) p.bytes.held)) × (o ≡ Some (length (take (unwrap_or o 0) p.bytes.held)))
    each (Some n) is some = let l = lent p h n is s in (l.bytes, ap Some (omega (arith, l.within, length-take n p.bytes.held)))
    each None is none = absurd cc

pub may_release : (p : Pipe) (h : List Call) (c e : ℕ) → MayAdvance p.control.lent c e → HoldsFor p h → c ≤ length p.bytes.held
may_release p h c e may s = each p.control.lent refl may
  where
    each : (o : Option ℕ) → p.control.lent ≡ o → MayAdvance o c e → c ≤ length p.bytes.held
    each (Some n) is m = omega (arith, m.0, m.1, (lent p h n is s).within)
    each None is m = elim m [ ]

made_is : (p q : Pipe) → thresholds_of q.control ≡ thresholds_of p.control → capacity_of q.bytes ≡ capacity_of p.bytes → made_of q ≡ made_of p
made_is p q e f = rw (e, f) refl

-- a call of the control, with what becomes of the bytes, is one of the pipe
pub pipe_answers : (p q : Pipe) (call : Call) (answer : Answer) → ControlAnswers p.control call answer q.control → capacity_of q.bytes ≡ capacity_of p.bytes
    → ((h : List Call) → HoldsFor p h → q.bytes.held ≡ kept (call ∷ h)) → PipeAnswers p (call ∷ []) answer q
pipe_answers p q call answer a capacity holds = record {
  kept = made_is p q a.kept capacity;
  ended = a.ended;
  gone = a.gone;
  lent = a.lent;
  told = λ h s. a.told h s.marks;
  stands = λ h s. record { marks = a.stands h s.marks; held = holds h s };
}

settled_capacity : (b : Bytes) (dropped : Bool) → capacity_of (settled dropped b) ≡ capacity_of b
settled_capacity b true = omega (arith, length-append b.draft b.free)
settled_capacity b false = omega (arith, length-append b.held b.draft)

-- a commit of the draft, which is settled as the reader is gone or not
pub flushes : (p q : Pipe) (runs : List Run) (dropped : Bool) (answer : Answer) → bytes_of runs ≡ p.bytes.draft → dropped ≡ is_some p.control.gone → q.bytes ≡ settled dropped p.bytes
    → ControlAnswers p.control (Commit runs) answer q.control → PipeAnswers p (Commit runs ∷ []) answer q
flushes p q runs dropped answer drafted is settles a =
    pipe_answers p q (Commit runs) answer a (ap capacity_of settles ∙ settled_capacity p.bytes dropped)
    (λ h s. ap (λ (b : Bytes). b.held) settles ∙ settled_holds p.bytes runs h dropped drafted (is ∙ ap is_some s.marks.gone) s.marks.legal s.held)

-- runs of no byte are none
pub no_runs : (runs : List Run) (draft : List ℕ) → AreRunsOf runs draft → length draft ≡ 0 → runs ≡ []
no_runs [] draft are none = refl
no_runs (r ∷ runs) draft are none = absurd (omega (arith, are.full.0, length-append r.bytes (bytes_of runs), ap length are.all))

-- a completion with no draft is one call
pub closes_alone : (p q : Pipe) (runs : List Run) (draft : List ℕ) (code : ℕ) (wake : Wake) → AreRunsOf runs draft → length draft ≡ 0 → ControlAnswers p.control (EndWriter code) (Woke wake) q.control
    → q.bytes ≡ p.bytes → PipeAnswers p (closing runs code) (Woke wake) q
closes_alone p q runs draft code wake are none a same =
    rw (no_runs runs draft are none) (pipe_answers p q (EndWriter code) (Woke wake) a (ap capacity_of same) (λ h s. ap (λ (b : Bytes). b.held) same ∙ s.held))

unjoined : (w : Wake) → w ≡ either_wake w (record { reader = false; writer = false })
unjoined w = rw (or-false w.reader, or-false w.writer) refl

-- a completion with a draft is a commit and a call
pub closes_behind : (p m q : Pipe) (runs : List Run) (draft : List ℕ) (code : ℕ) (reply : FlushReply) (first second : Wake) → AreRunsOf runs draft → length draft ≢ 0
    → PipeAnswers p (Commit runs ∷ []) (Flushed reply first) m → ControlAnswers m.control (EndWriter code) (Woke second) q.control → q.bytes ≡ m.bytes
    → PipeAnswers p (closing runs code) (Woke (either_wake second first)) q
closes_behind p m q [] draft code reply first second are some a b same = absurd (some (ap length (sym are.all)))
closes_behind p m q (r ∷ rs) draft code reply first second are some a b same = record {
  kept = made_is m q b.kept (ap capacity_of same) ∙ a.kept;
  ended = b.ended;
  gone = b.gone ∙ a.gone;
  lent = b.lent ∙ a.lent;
  told = λ h s.
      let runs : List Run = r ∷ rs in
      let e = a.told h s in
      let f : first ≡ wake_of p.control.pause p.control.resume (Commit runs) h = cc in
      let g = b.told (Commit runs ∷ h) (a.stands h s).marks in
      let i : second ≡ wake_of m.control.pause m.control.resume (EndWriter code) (Commit runs ∷ h) = cc in
      let j : second ≡ wake_of p.control.pause p.control.resume (EndWriter code) (Commit runs ∷ h) =
      subst (λ (t : Thresholds). second ≡ wake_of t.pause t.resume (EndWriter code) (Commit runs ∷ h)) (ap (λ (t : Made). t.thresholds) a.kept) i in
      ap Woke (both_wakes second _ first _ j (f ∙ unjoined (wake_of p.control.pause p.control.resume (Commit runs) h)));
  stands = λ h s. let t = a.stands h s in record { marks = b.stands (Commit (r ∷ rs) ∷ h) t.marks; held = ap (λ (b : Bytes). b.held) same ∙ t.held };
}
  where
    both_wakes : (v v' w w' : Wake) → v ≡ v' → w ≡ w' → either_wake v w ≡ either_wake v' w'
    both_wakes v v' w w' e f = rw (e, f) refl

pub total_within : (p : Pipe) (h : List Call) → HoldsFor p h → p.control.committed ≤ 2 ^ 62
total_within p h s = omega (arith, s.marks.committed, (ordered h s.marks.legal).total_in)

committed_capacity : (b : Bytes) (dropped : Bool) (bytes : List ℕ) → length bytes ≤ length b.free → capacity_of (with_committed dropped bytes b) ≡ capacity_of b
committed_capacity b true bytes fits = refl
committed_capacity b false bytes fits = omega (arith, length-append b.held bytes, length-drop (length bytes) b.free)

-- what a buffer holds once these bytes are committed at once
committed_holds : (b : Bytes) (runs : List Run) (bytes : List ℕ) (h : List Call) (dropped : Bool) → bytes_of runs ≡ bytes → dropped ≡ is_some (reader_end h) → IsLegal h → b.held ≡ kept h
    → (with_committed dropped bytes b).held ≡ kept (Commit runs ∷ h)
committed_holds b runs bytes h dropped are is legal holds = rw is (each (reader_end h) (held_commit runs h legal) holds)
  where
    each : (o : Option ℕ) → held (Commit runs ∷ h) ≡ held h ++ cond (is_none o) (bytes_of runs) [] → b.held ≡ cond (is_none o) (held h) []
        → (with_committed (is_some o) bytes b).held ≡ cond (is_none o) (held (Commit runs ∷ h)) []
    each (Some code) more same = same
    each None more same = ap (λ (xs : List ℕ). xs ++ bytes) same ∙ sym (more ∙ ap (λ (xs : List ℕ). held h ++ xs) are)

-- a commit of bytes that weren't drafted
pub writes : (p q : Pipe) (runs : List Run) (bytes : List ℕ) (dropped : Bool) (answer : Answer) → bytes_of runs ≡ bytes → dropped ≡ is_some p.control.gone → length bytes ≤ length p.bytes.free
    → q.bytes ≡ with_committed dropped bytes p.bytes → ControlAnswers p.control (Commit runs) answer q.control → PipeAnswers p (Commit runs ∷ []) answer q
writes p q runs bytes dropped answer are is fits by a =
    pipe_answers p q (Commit runs) answer a (ap capacity_of by ∙ committed_capacity p.bytes dropped bytes fits)
    (λ h s. ap (λ (b : Bytes). b.held) by ∙ committed_holds p.bytes runs bytes h dropped are (is ∙ ap is_some s.marks.gone) s.marks.legal s.held)

pub no_draft_after : (b : Bytes) (dropped : Bool) (bytes : List ℕ) → b.draft ≡ [] → (with_committed dropped bytes b).draft ≡ []
no_draft_after b true bytes none = none
no_draft_after b false bytes none = none
