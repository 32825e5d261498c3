-- The test of a pause and what a pause is.
use Rattle.std.proofs.Common.{◌≡◌, ◌≤◌, ℕ, Bool, true, false, not, ◌&&◌, ◌||◌, nat_lt, nat_le, List, [], ◌∷◌, ◌++◌, refl, ap, subst, ◌∙◌, inl, inr, arith}
use Rattle.std.specs.Prelude.{IsTrue, is_none}
use Rattle.std.proofs.lemmas.Bool.{ltb-true, leb-true, lt-ltb, le-leb, and_parts, and_from, or_cases, or_left, or_right, not-true, not_from_false}
use Rattle.pipe_core.specs.History.{Run, Call, Commit, EndWriter, Read, Advance, EndReader, CancelRead, CancelFlush, reader_end}
use Rattle.pipe_core.specs.Progress.{unexamined}
use Rattle.pipe_core.specs.Reads.{is_starved}
use Rattle.pipe_core.specs.Pauses.{Begins, Lasts, Paused, IsPaused, begins_pause, lasts, pause_stands, is_paused}

not_starved : (b : Bool) → not b ≡ true → b ≡ false
not_starved true e = absurd cc
not_starved false e = refl

lasts_true : (resume : ℕ) (h : List Call) → lasts resume h ≡ true → Lasts resume h
lasts_true resume h t = let p = and_parts (nat_le resume (unexamined h)) (not (is_starved h)) t in (leb-true _ _ p.0, not_starved _ p.1)

true_lasts : (resume : ℕ) (h : List Call) → Lasts resume h → lasts resume h ≡ true
true_lasts resume h l = and_from _ _ (le-leb _ _ l.0) (ap not l.1)

-- a pause lasts on where no fewer bytes are unexamined and nobody starves who didn't before
pub lasts_over : (resume : ℕ) (h g : List Call) → unexamined h ≤ unexamined g → (is_starved h ≡ false → is_starved g ≡ false) → lasts resume h ≡ true → lasts resume g ≡ true
lasts_over resume h g more fed t = let l = lasts_true resume h t in true_lasts resume g (omega (arith, l.0, more), fed l.1)

-- a call that begins a pause is a commit that reaches the threshold
begins : (pause resume : ℕ) (call : Call) (h : List Call) → begins_pause pause call h ≡ true → Lasts resume (call ∷ h) → Paused pause resume (call ∷ h)
begins pause resume (Commit runs) h t due =
    record {
      before = h;
      runs = runs;
      since = [];
      parts = refl;
      begun = leb-true _ _ t;
      lasting = λ later sooner e. first_only later sooner e due;
    }
  where
    first_only : (later sooner : List Call) → [] ≡ later ++ sooner → Lasts resume (Commit runs ∷ h) → Lasts resume (sooner ++ Commit runs ∷ h)
    first_only [] [] e d = d
    first_only [] (c ∷ s) e d = absurd cc
    first_only (c ∷ l) s e d = absurd cc
begins pause resume (EndWriter code) h t due = absurd cc
begins pause resume (Read n) h t due = absurd cc
begins pause resume (Advance c e) h t due = absurd cc
begins pause resume (EndReader code) h t due = absurd cc
begins pause resume CancelRead h t due = absurd cc
begins pause resume CancelFlush h t due = absurd cc

-- a pause goes on over a call that leaves enough unexamined
goes_on : (pause resume : ℕ) (call : Call) (h : List Call) → Paused pause resume h → Lasts resume (call ∷ h) → Paused pause resume (call ∷ h)
goes_on pause resume call h p due = record {
  before = p.before;
  runs = p.runs;
  since = call ∷ p.since;
  parts = ap (λ (g : List Call). call ∷ g) p.parts;
  begun = p.begun;
  lasting = λ later sooner e. each later sooner e;
}
  where
    each : (later sooner : List Call) → call ∷ p.since ≡ later ++ sooner → Lasts resume (sooner ++ Commit p.runs ∷ p.before)
    each [] [] e = absurd cc
    each [] (c ∷ s) e =
        let all : call ∷ h ≡ c ∷ (s ++ Commit p.runs ∷ p.before) = ap (λ (g : List Call). call ∷ g) p.parts ∙ ap (λ (g : List Call). g ++ Commit p.runs ∷ p.before) e in
        subst (λ (g : List Call). Lasts resume g) all due
    each (c ∷ l) s e = p.lasting l s cc

pub paused_by : (pause resume : ℕ) (h : List Call) → pause_stands pause resume h ≡ true → Paused pause resume h
paused_by pause resume [] t = absurd cc
paused_by pause resume (call ∷ h) t =
    let parts = and_parts (lasts resume (call ∷ h)) (begins_pause pause call h || pause_stands pause resume h) t in
    let due : Lasts resume (call ∷ h) = lasts_true resume (call ∷ h) parts.0 in
    elim (or_cases (begins_pause pause call h) (pause_stands pause resume h) parts.1) [
      | inl begun ↦ begins pause resume call h begun due
      | inr stood ↦ goes_on pause resume call h (paused_by pause resume h stood) due
    ]

pub stands : (pause resume : ℕ) (before : List Call) (runs : List Run) (since : List Call) → Begins pause runs before
    → ((later sooner : List Call) → since ≡ later ++ sooner → Lasts resume (sooner ++ Commit runs ∷ before)) → pause_stands pause resume (since ++ Commit runs ∷ before) ≡ true
stands pause resume before runs [] begun lasting =
    and_from _ _ (true_lasts resume (Commit runs ∷ before) (lasting [] [] refl)) (or_left _ _ (le-leb _ _ begun))
stands pause resume before runs (call ∷ since) begun lasting =
    and_from _ _ (true_lasts resume (call ∷ since ++ Commit runs ∷ before) (lasting [] (call ∷ since) refl)) (or_right _ _ (stands pause resume before runs since begun (λ later sooner e. lasting (call ∷ later) sooner (ap (λ (g : List Call). call ∷ g) e))))

pub paused_since : (pause resume : ℕ) (h : List Call) → Paused pause resume h → pause_stands pause resume h ≡ true
paused_since pause resume h p = rw p.parts (stands pause resume p.before p.runs p.since p.begun p.lasting)

pub pause_in_words : (pause resume : ℕ) (h : List Call) → IsTrue (is_paused pause resume h) → IsPaused pause resume h
pause_in_words pause resume h t =
    let outer = and_parts (nat_lt 0 pause && is_none (reader_end h)) (pause_stands pause resume h) t in
    let inner = and_parts (nat_lt 0 pause) (is_none (reader_end h)) outer.0 in
    record { on = ltb-true _ _ inner.0; attended = not-true _ inner.1; held = paused_by pause resume h outer.1 }

pub words_of_pause : (pause resume : ℕ) (h : List Call) → IsPaused pause resume h → IsTrue (is_paused pause resume h)
words_of_pause pause resume h p =
    and_from _ _ (and_from _ _ (lt-ltb _ _ p.on) (not_from_false _ p.attended)) (paused_since pause resume h p.held)
