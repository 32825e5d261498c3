-- Pauses where each read is for any number of bytes.
use Rattle.std.proofs.Common.{◌≡◌, ◌≤◌, ◌<◌, ℕ, Bool, true, false, not, cond, ◌&&◌, ◌||◌, nat_lt, nat_le, List, [], ◌∷◌, refl, ap, ◌∙◌, arith, Some, None, inl, inr}
use Rattle.std.specs.Prelude.{is_none}
use Rattle.std.proofs.lemmas.Bool.{cases_lt, lt-ltb, le-leb, le-ltb, and_from, or_right}
use Rattle.pipe_core.specs.History.{Call, Commit, EndWriter, Read, Advance, EndReader, CancelRead, CancelFlush, reader_end}
use Rattle.pipe_core.specs.Progress.{unexamined}
use Rattle.pipe_core.specs.Reads.{read_is_ready, awaited, lacks}
use Rattle.pipe_core.specs.Pauses.{lasts, pause_stands, is_paused}
use Rattle.pipe_core.specs.PlainPauses.{IsPlain}
use Rattle.pipe_core.specs.PlainPauses as plain

-- who asks for any number of bytes lacks none
satisfied : (ready : Bool) (n : ℕ) (h : List Call) → n ≡ 0 → lacks (cond ready None (Some n)) h ≡ false
satisfied true n h e = refl
satisfied false n h e = rw e refl

none_lacks : (h : List Call) → IsPlain h → (g : List Call) → lacks (awaited h) g ≡ false
none_lacks [] p g = refl
none_lacks (Commit runs ∷ h) p g = none_lacks h p.1 g
none_lacks (EndWriter code ∷ h) p g = none_lacks h p.1 g
none_lacks (Read n ∷ h) p g = satisfied (read_is_ready n h) n g p.0
none_lacks (Advance c e ∷ h) p g = refl
none_lacks (EndReader code ∷ h) p g = refl
none_lacks (CancelRead ∷ h) p g = none_lacks h p.1 g
none_lacks (CancelFlush ∷ h) p g = none_lacks h p.1 g

and_true : (b : Bool) → b && true ≡ b
and_true true = refl
and_true false = refl

lasts_same : (resume : ℕ) (h : List Call) → IsPlain h → lasts resume h ≡ plain.lasts resume h
lasts_same resume h p = ap (λ (b : Bool). nat_le resume (unexamined h) && not b) (none_lacks h p h) ∙ and_true _

-- As long as there are unexamined bytes enough to begin a pause, one stands.
step : (pause resume : ℕ) (call : Call) (h : List Call) → resume ≤ pause → pause ≤ unexamined (call ∷ h) → plain.begins_pause pause call h || plain.pause_stands pause resume h ≡ true → plain.pause_stands pause resume (call ∷ h) ≡ true
step pause resume call h low due either = and_from _ _ (le-leb _ _ (omega (arith, low, due))) either

reached : (pause resume : ℕ) (h : List Call) → 0 < pause → resume ≤ pause → pause ≤ unexamined h → plain.pause_stands pause resume h ≡ true
reached pause resume [] on low due = absurd (omega (arith, on, due))
reached pause resume (Commit runs ∷ h) on low due = step pause resume (Commit runs) h low due (elim (cases_lt (unexamined h) pause) [
  | inl below ↦ rw (lt-ltb _ _ below, le-leb _ _ due) refl
  | inr above ↦ or_right _ _ (reached pause resume h on low above)
])
reached pause resume (EndWriter code ∷ h) on low due = step pause resume (EndWriter code) h low due (reached pause resume h on low due)
reached pause resume (Read n ∷ h) on low due = step pause resume (Read n) h low due (reached pause resume h on low due)
reached pause resume (Advance c e ∷ h) on low due = step pause resume (Advance c e) h low due (reached pause resume h on low (omega (arith, due)))
reached pause resume (EndReader code ∷ h) on low due = step pause resume (EndReader code) h low due (reached pause resume h on low due)
reached pause resume (CancelRead ∷ h) on low due = step pause resume CancelRead h low due (reached pause resume h on low due)
reached pause resume (CancelFlush ∷ h) on low due = step pause resume CancelFlush h low due (reached pause resume h on low due)

begun_same : (pause u v : ℕ) (stood : Bool) → (pause ≤ u → stood ≡ true) → nat_le pause v || stood ≡ (nat_lt u pause && nat_le pause v) || stood
begun_same pause u v stood imp = elim (cases_lt u pause) [
  | inl below ↦ rw (lt-ltb _ _ below) refl
  | inr above ↦ rw (imp above) (both_true (nat_le pause v) (nat_lt u pause && nat_le pause v))
]
  where
    both_true : (a b : Bool) → a || true ≡ b || true
    both_true true true = refl
    both_true true false = refl
    both_true false true = refl
    both_true false false = refl

-- a call that begins no pause by either rule
quiet : (pause resume : ℕ) (call : Call) (h : List Call) → IsPlain (call ∷ h) → pause_stands pause resume h ≡ plain.pause_stands pause resume h
    → lasts resume (call ∷ h) && pause_stands pause resume h ≡ plain.lasts resume (call ∷ h) && plain.pause_stands pause resume h
quiet pause resume call h p same = rw (lasts_same resume (call ∷ h) p, same) refl

stands_same : (pause resume : ℕ) (h : List Call) → 0 < pause → resume ≤ pause → IsPlain h → pause_stands pause resume h ≡ plain.pause_stands pause resume h
stands_same pause resume [] on low p = refl
stands_same pause resume (Commit runs ∷ h) on low p =
    rw (lasts_same resume (Commit runs ∷ h) p, stands_same pause resume h on low p.1)
    (ap (λ (b : Bool). plain.lasts resume (Commit runs ∷ h) && b) (begun_same pause (unexamined h) (unexamined (Commit runs ∷ h)) (plain.pause_stands pause resume h) (reached pause resume h on low)))
stands_same pause resume (EndWriter code ∷ h) on low p = quiet pause resume (EndWriter code) h p (stands_same pause resume h on low p.1)
stands_same pause resume (Read n ∷ h) on low p = quiet pause resume (Read n) h p (stands_same pause resume h on low p.1)
stands_same pause resume (Advance c e ∷ h) on low p = quiet pause resume (Advance c e) h p (stands_same pause resume h on low p.1)
stands_same pause resume (EndReader code ∷ h) on low p = quiet pause resume (EndReader code) h p (stands_same pause resume h on low p.1)
stands_same pause resume (CancelRead ∷ h) on low p = quiet pause resume CancelRead h p (stands_same pause resume h on low p.1)
stands_same pause resume (CancelFlush ∷ h) on low p = quiet pause resume CancelFlush h p (stands_same pause resume h on low p.1)

pub paused_same : (pause resume : ℕ) (h : List Call) → resume ≤ pause → IsPlain h → is_paused pause resume h ≡ plain.is_paused pause resume h
paused_same pause resume h low p = elim (cases_lt 0 pause) [
  | inl on ↦ ap (λ (b : Bool). nat_lt 0 pause && is_none (reader_end h) && b) (stands_same pause resume h on low p)
  | inr off ↦ rw (le-ltb 0 pause off) refl
]
