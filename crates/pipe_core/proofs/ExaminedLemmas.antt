-- How far the reader has looked is the farthest of its advances.
use Rattle.std.proofs.Common.{◌≡◌, ◌≤◌, ◌+◌, ◌⊎◌, inl, inr, ℕ, List, [], ◌∷◌, ◌++◌, refl, ap, subst, arith}
use Rattle.std.proofs.lemmas.Bool.{cases_lt}
use Rattle.pipe_core.specs.History.{Call, Commit, EndWriter, Read, Advance, EndReader, CancelRead, CancelFlush}
use Rattle.pipe_core.specs.Progress.{consumed, examined}
use Rattle.pipe_core.specs.Examined.{LooksTo, IsFarthest}

never_less : (call : Call) (h : List Call) → examined h ≤ examined (call ∷ h)
never_less (Advance c e) h = omega arith
never_less (Commit runs) h = omega arith
never_less (EndWriter code) h = omega arith
never_less (Read n) h = omega arith
never_less (EndReader code) h = omega arith
never_less CancelRead h = omega arith
never_less CancelFlush h = omega arith

most : (later before : List Call) (c e : ℕ) → consumed before + e ≤ examined (later ++ Advance c e ∷ before)
most [] before c e = omega arith
most (call ∷ later) before c e = omega (arith, most later before c e, never_less call (later ++ Advance c e ∷ before))

abbrev IsReached : List Call → ℕ → Type 0
IsReached h place = (place ≡ 0) ⊎ LooksTo h place

-- a call behind the farthest advance
still : (call : Call) (h : List Call) (place : ℕ) → IsReached h place → IsReached (call ∷ h) place
still call h place (inl first) = inl first
still call h place (inr l) = inr (record { before = l.before; c = l.c; e = l.e; later = call ∷ l.later; parts = ap (λ (g : List Call). call ∷ g) l.parts; is = l.is })

reached : (h : List Call) → IsReached h (examined h)
reached [] = inl refl
reached (Advance c e ∷ h) = elim (cases_lt (consumed h + e) (examined h)) [
  | inl below ↦ subst (λ (n : ℕ). IsReached (Advance c e ∷ h) n) (omega (arith, below)) (still (Advance c e) h (examined h) (reached h))
  | inr above ↦ inr (record { before = h; c = c; e = e; later = []; parts = refl; is = omega (arith, above) })
]
reached (Commit runs ∷ h) = still (Commit runs) h (examined h) (reached h)
reached (EndWriter code ∷ h) = still (EndWriter code) h (examined h) (reached h)
reached (Read n ∷ h) = still (Read n) h (examined h) (reached h)
reached (EndReader code ∷ h) = still (EndReader code) h (examined h) (reached h)
reached (CancelRead ∷ h) = still CancelRead h (examined h) (reached h)
reached (CancelFlush ∷ h) = still CancelFlush h (examined h) (reached h)

pub farthest : (h : List Call) → IsFarthest h (examined h)
farthest h = record { most = λ place l. omega (arith, l.is, ap examined l.parts, most l.later l.before l.c l.e); reached = reached h }

pub only_farthest : (h : List Call) (place : ℕ) → IsFarthest h place → place ≡ examined h
only_farthest h place far = omega (arith, below (examined h) place (farthest h) far.reached, below place (examined h) far (reached h))
  where
    below : (a b : ℕ) → IsFarthest h a → IsReached h b → b ≤ a
    below a b far (inl first) = omega (arith, first)
    below a b far (inr looks) = far.most b looks
