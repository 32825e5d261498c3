-- What telling a pipe of a read makes of it.
use Rattle.std.proofs.Common.{◌≡◌, ◌<◌, ◌≤◌, ◌+◌, ◌-◌, ◌^◌, ℕ, cond, List, [], ◌∷◌, ◌++◌, length, take, refl, sym, ap, subst, ◌∙◌, arith, Option, Some, None, append-nil}
use Rattle.std.specs.Prelude.{is_none, IsNone}
use Rattle.std.proofs.lemmas.List.{length-append, length-take, length-drop}
use Rattle.pipe_core.specs.History.{Run, Call, Commit, EndWriter, bytes_of, run_in, reader_end}
use Rattle.pipe_core.specs.Progress.{total}
use Rattle.pipe_core.specs.declared.reply.Wake.{Wake}
use Rattle.pipe_core.specs.declared.reply.FlushReply.{FlushReply}
use Rattle.pipe_core.specs.Answers.{Flushed, Woke}
use Rattle.pipe_core.specs.Bytes.{capacity_of, with_draft}
use Rattle.pipe_core.specs.Pipe.{Pipe, HoldsFor, PipeAnswers, made_of}
use Rattle.pipe_core.proofs.OrderLemmas.{total_commit}
use Rattle.pipe_core.proofs.RunLemmas.{run_in_bytes}
use Rattle.stream_ends.specs.Reads.{IsTold, telling}

kept_runs : (bytes : List ℕ) (o : Option ℕ) → IsNone o → cond (is_none o) bytes [] ≡ bytes
kept_runs bytes None none = refl
kept_runs bytes (Some code) none = absurd cc

-- while the reader is there, a commit adds its bytes
pub total_run : (bytes : List ℕ) (h : List Call) → IsNone (reader_end h) → total (Commit (run_in 0 bytes) ∷ h) ≡ total h ++ bytes
total_run bytes h attended =
    total_commit (run_in 0 bytes) h
    ∙ ap (λ (xs : List ℕ). total h ++ xs) (kept_runs (bytes_of (run_in 0 bytes)) (reader_end h) attended ∙ run_in_bytes 0 bytes)

pub total_told : (bytes : List ℕ) (h : List Call) → IsNone (reader_end h) → total (telling bytes ∷ h) ≡ total h ++ bytes
total_told [] h attended = sym (append-nil (total h))
total_told (b ∷ bytes) h attended = total_run (b ∷ bytes) h attended

left_ended : (c d : ℕ) (o e : Option ℕ) → d ≡ c → IsNone o → e ≡ Some 0 → (2 ^ 62 - d) + cond (is_none e) 1 0 < (2 ^ 62 - c) + cond (is_none o) 1 0
left_ended c d None e same none is = rw (same, is) (omega arith)
left_ended c d (Some code) e same none is = absurd cc

left_fewer : (c d n : ℕ) (o e : Option ℕ) → d ≡ c + n → 0 < n → c + n ≤ 2 ^ 62 → e ≡ o → (2 ^ 62 - d) + cond (is_none e) 1 0 < (2 ^ 62 - c) + cond (is_none o) 1 0
left_fewer c d n o e more some below is = rw (more, is) (omega (arith, some, below))

pub told_by_end : (p q : Pipe) (h : List Call) (wake : Wake) → HoldsFor p h → IsNone p.control.ended → PipeAnswers p (EndWriter 0 ∷ []) (Woke wake) q → q.bytes.draft ≡ []
    → IsTold (EndWriter 0) p q
told_by_end p q h wake s writing a none = record {
  stands = a.stands;
  made = a.kept;
  lent = a.lent;
  gone = a.gone;
  no_draft = none;
  less = left_ended p.control.committed q.control.committed p.control.ended q.control.ended ((a.stands h s).marks.committed ∙ sym s.marks.committed) writing a.ended;
}

drafted_made : (p : Pipe) (n : ℕ) → n ≤ length p.bytes.free → made_of (record p { bytes = with_draft p.bytes n }) ≡ made_of p
drafted_made p n fits =
    let b = p.bytes in
    let same : capacity_of (with_draft b n) ≡ capacity_of b = omega (arith, fits, length-append b.draft (take n b.free), length-take n b.free, length-drop n b.free) in
    rw same refl

pub told_by_commit : (p q : Pipe) (h : List Call) (n : ℕ) (reply : FlushReply) (wake : Wake) → HoldsFor p h → IsNone p.control.gone → p.bytes.draft ≡ [] → 0 < n
    → n ≤ length p.bytes.free → p.control.committed + n ≤ 2 ^ 62
    → ((runs : List Run) → bytes_of runs ≡ (with_draft p.bytes n).draft → PipeAnswers (record p { bytes = with_draft p.bytes n }) (Commit runs ∷ []) (Flushed reply wake) q)
    → q.bytes.draft ≡ [] → IsTold (Commit (run_in 0 (take n p.bytes.free))) p q
told_by_commit p q h n reply wake s attended empty some fits below answers none =
    let bytes = take n p.bytes.free in
    let drafted : (with_draft p.bytes n).draft ≡ bytes = ap (λ (xs : List ℕ). xs ++ bytes) empty in
    let a = answers (run_in 0 bytes) (run_in_bytes 0 bytes ∙ sym drafted) in
    let there : IsNone (reader_end h) = subst IsNone s.marks.gone attended in
    let grown = (a.stands h (drafted_holds h s)).marks.committed ∙ ap length (total_run bytes h there) in
    let sum : q.control.committed ≡ p.control.committed + n =
    omega (arith, grown, s.marks.committed, length-append (total h) bytes, length-take n p.bytes.free, fits) in
    record {
      stands = λ g t. a.stands g (drafted_holds g t);
      made = a.kept ∙ drafted_made p n fits;
      lent = a.lent;
      gone = a.gone;
      no_draft = none;
      less = left_fewer p.control.committed q.control.committed n p.control.ended q.control.ended sum some below a.ended;
    }
  where
    drafted_holds : (g : List Call) → HoldsFor p g → HoldsFor (record p { bytes = with_draft p.bytes n }) g
    drafted_holds g t = record { marks = t.marks; held = t.held }
