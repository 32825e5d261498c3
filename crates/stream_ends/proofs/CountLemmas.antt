-- Each read of the source that is due brings a byte, or its end, behind which none is due.
use Rattle.std.proofs.Common.{◌≡◌, ◌<◌, ◌≤◌, inl, inr, ℕ, Bool, true, false, cond, max, ◌||◌, List, [], ◌∷◌, ◌++◌, length, ap, arith}
use Rattle.std.specs.Prelude.{IsNone}
use Rattle.std.proofs.lemmas.List.{length-append, length-drop}
use Rattle.edge_core.specs.Device.{SourceState}
use Rattle.pipe_core.specs.History.{Call, Commit, run_in, reader_end, writer_end}
use Rattle.pipe_core.specs.Progress.{total, consumed, examined, held, canceled_read}
use Rattle.pipe_core.specs.Legal.{IsLegal}
use Rattle.pipe_core.specs.Reads.{reply_to_read}
use Rattle.pipe_core.specs.declared.reply.ReadReply.TheVariants as read
use Rattle.pipe_core.proofs.OrderLemmas.{ordered, seen_all}
use Rattle.stream_ends.specs.Reads.{IsDue, Fills, nothing, more, reads_in}
use Rattle.stream_ends.proofs.ToldLemmas.{total_run}

ended_ready : (a b : Bool) → a || true || b ≡ false → ⊥
ended_ready true b e = absurd cc
ended_ready false b e = absurd cc

-- where a read isn't ready behind a commit of some bytes, it waits for more than are held
lacking : (n most : ℕ) (b : ℕ) (bytes : List ℕ) (h : List Call) → IsLegal (Commit (run_in 0 (b ∷ bytes)) ∷ h) → IsNone (reader_end h) → IsDue n most (Commit (run_in 0 (b ∷ bytes)) ∷ h)
    → (length (held h) < length (held (Commit (run_in 0 (b ∷ bytes)) ∷ h))) × (length (held (Commit (run_in 0 (b ∷ bytes)) ∷ h)) < n)
lacking n most b bytes h legal there due =
    let now : List Call = Commit (run_in 0 (b ∷ bytes)) ∷ h in
    let o = ordered h legal.0 in
    let size : length (total now) ≡ length (total h ++ (b ∷ bytes)) = ap length (total_run (b ∷ bytes) h there) in
    let more = length-append (total h) (b ∷ bytes) in
    let reply : reply_to_read n now ≡ read.Pending (examined now) (length (held now)) =
    ap (λ (ready : Bool). cond ready (read.Ready (canceled_read now) (writer_end now) (length (held now))) (read.Pending (examined now) (length (held now)))) due.unready in
    let grown : length (held h) < length (held now) =
    omega (arith, size, more, o.consumed_in, length-drop (consumed h) (total h), length-drop (consumed h) (total now)) in
    elim (seen_all now n (examined now) (length (held now)) legal reply) [
      | inl seen ↦ absurd (omega (arith, seen, size, more, o.examined_in))
      | inr few ↦ (grown, few)
    ]

fewer : (n most : ℕ) (h : List Call) (s : SourceState) (filled : List Call) (after : SourceState) (f : Fills n most h s filled after) → IsLegal filled → IsNone (reader_end filled) → IsDue n most filled
    → (reads_in f ≤ length (held filled)) × (reads_in f < max n 1)
fewer n most h s filled after nothing legal there due = (omega arith, omega arith)
fewer n most h s filled after (more before middle end [] f was given) legal there due = absurd (ended_ready (canceled_read before) _ due.unready)
fewer n most h s filled after (more before middle end (b ∷ bytes) f was given) legal there due =
    let rest = fewer n most h s before middle f legal.0 there was in
    let lacks = lacking n most b bytes before legal there due in
    (omega (arith, rest.0, lacks.0), omega (arith, rest.0, lacks.0, lacks.1))

pub few : (n most : ℕ) (h filled : List Call) (s after : SourceState) (f : Fills n most h s filled after) → IsLegal filled → IsNone (reader_end filled) → IsDue n most filled → reads_in f < max n 1
few n most h filled s after f legal there due = (fewer n most h s filled after f legal there due).1
