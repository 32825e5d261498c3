-- What a seat that has seen more still knows: nobody else makes calls of its number.
use Rattle.std.proofs.Common.{◌≡◌, ◌≢◌, ◌*◌, ℕ, Bool, true, false, cond, eqb, List, [], ◌∷◌, ◌++◌, length, refl, sym, ap, subst, ◌∙◌, arith, eq-eqb, Some}
use Rattle.std.proofs.lemmas.Bool.{eqb-true}
use Rattle.std.proofs.lemmas.Bool.{false≢true}
use Rattle.std.specs.Prelude.{map}
use Rattle.std.specs.List.{All, filter}
use Rattle.std.proofs.lemmas.List.{length-append}
use Rattle.std.proofs.lemmas.List.Elements.{All-nil, All-cons, All-head, All-tail}
use Rattle.turn_cell.specs.History.{entries_of, made_by}
use Rattle.turn_cell.specs.Seat.{after_find, after_put}
use Rattle.turn_cell.proofs.HistoryLemmas.{entries_of-append, own_more}
use Rattle.pipe_core.specs.History.{Call, Commit, EndWriter, Read, Advance, EndReader, CancelRead, CancelFlush, seat_of, last_of, writer_end, reader_end}
use Rattle.pipe_core.specs.Lends.{bytes_lent_by, lend}
use Rattle.pipe_turns.specs.Log.{IsLawful, calls_of}
use Rattle.pipe_turns.specs.Turns.{Seat, Wins}
use Rattle.pipe_turns.specs.Ends.{IsEnd}
use Rattle.pipe_turns.specs.Lends.{lend_runs, runs_lent_by}
use Rattle.pipe_turns.proofs.StateLemmas.{IsBySeat, calls_of-append, All-reverse}

abbrev IsNotBy : ℕ → Call → Type 0
IsNotBy k call = seat_of call ≢ k

module _ {X : Type 0} where
  second_of : (P : X → Type 0) (xs ys : List X) → All P (xs ++ ys) → All P ys
  second_of P [] ys all = all
  second_of P (x ∷ xs) ys all = second_of P xs ys (All-tail P x (xs ++ ys) all)

  -- what is no longer than its front has nothing behind it
  nothing_behind : (xs ys : List X) → xs ++ ys ≡ xs → ys ≡ []
  nothing_behind xs [] e = refl
  nothing_behind xs (y ∷ ys) e = absurd (omega (arith, ap length e, length-append xs (y ∷ ys)))

-- calls of which none is that of the seat
none_of : (k : ℕ) (g : List (ℕ × Call)) → entries_of k g ≡ [] → All IsBySeat g → All (IsNotBy k) (map (λ (e : ℕ × Call). e.1) g)
none_of k [] none all = All-nil (IsNotBy k)
none_of k (e ∷ g) none all = each (eqb e.0 k) refl none (λ rest. none_of k g rest (All-tail IsBySeat e g all))
  where
    each : (b : Bool) → eqb e.0 k ≡ b → map (λ (e : ℕ × Call). e.1) (cond b (e ∷ filter (λ (e : ℕ × Call). eqb e.0 k) g) (filter (λ (e : ℕ × Call). eqb e.0 k) g)) ≡ []
        → (entries_of k g ≡ [] → All (IsNotBy k) (map (λ (e : ℕ × Call). e.1) g)) → All (IsNotBy k) (e.1 ∷ map (λ (e : ℕ × Call). e.1) g)
    each true is none rest = absurd cc
    each false is none rest =
        let seat : e.0 ≡ seat_of e.1 = All-head IsBySeat e g all in
        All-cons (IsNotBy k) e.1 (map (λ (e : ℕ × Call). e.1) g) (λ same. false≢true (sym is ∙ eq-eqb e.0 k (seat ∙ same))) (rest none)

-- One history of calls is another with more calls, of which none is of this seat.
pub record Others (k : ℕ) (h more_h : List Call) : Type 0 where
  pub more : List Call
  pub is : more_h ≡ more ++ h
  pub apart : All (IsNotBy k) more

pub others : (k : ℕ) (old new : Seat) → IsEnd k old → Wins old new → Others k (calls_of old.seen) (calls_of new.seen)
others k old new end wins =
    let g = wins.begins.0 in
    let whole : old.seen ++ g ≡ new.seen = wins.begins.1 in
    let mine : entries_of k old.seen ++ entries_of k g ≡ entries_of k old.seen =
    sym (entries_of-append k old.seen g) ∙ ap (entries_of k) whole ∙ ap (λ (j : ℕ). entries_of j new.seen) (sym end.numbered) ∙ wins.own ∙ sym end.own in
    let none = nothing_behind (entries_of k old.seen) (entries_of k g) mine in
    let seats : All IsBySeat g = second_of IsBySeat old.seen g (subst (All IsBySeat) (sym whole) wins.lawful.seats) in
    record {
      more = calls_of g;
      is = ap calls_of (sym whole) ∙ calls_of-append old.seen g;
      apart = All-reverse (IsNotBy k) (map (λ (e : ℕ × Call). e.1) g) (none_of k g none seats);
    }

-- an end that has made no entry has seen others' calls alone
pub others_alone : (k : ℕ) (seat : Seat) → IsEnd k seat → seat.own ≡ [] → Others k [] (calls_of seat.seen)
others_alone k seat end none =
    others k (record seat { seen = []; own = [] }) (record (after_find (2 * length seat.seen) seat) { own = [] })
    (record { numbered = end.numbered; idle = end.idle; own = refl; lawful = record { seats = All-nil IsBySeat; legal = tt } })
    (record { after = refl; begins = (seat.seen, refl); own = rw end.numbered (end.own ∙ none); lawful = end.lawful })

writer_end_under : (more h : List Call) → All (IsNotBy 0) more → writer_end (more ++ h) ≡ writer_end h
writer_end_under [] h apart = refl
writer_end_under (Commit runs ∷ more) h apart = absurd (All-head (IsNotBy 0) (Commit runs) more apart refl)
writer_end_under (EndWriter code ∷ more) h apart = absurd (All-head (IsNotBy 0) (EndWriter code) more apart refl)
writer_end_under (Read n ∷ more) h apart = writer_end_under more h (All-tail (IsNotBy 0) (Read n) more apart)
writer_end_under (Advance c e ∷ more) h apart = writer_end_under more h (All-tail (IsNotBy 0) (Advance c e) more apart)
writer_end_under (EndReader code ∷ more) h apart = writer_end_under more h (All-tail (IsNotBy 0) (EndReader code) more apart)
writer_end_under (CancelRead ∷ more) h apart = writer_end_under more h (All-tail (IsNotBy 0) CancelRead more apart)
writer_end_under (CancelFlush ∷ more) h apart = writer_end_under more h (All-tail (IsNotBy 0) CancelFlush more apart)

reader_end_under : (more h : List Call) → All (IsNotBy 1) more → reader_end (more ++ h) ≡ reader_end h
reader_end_under [] h apart = refl
reader_end_under (Commit runs ∷ more) h apart = reader_end_under more h (All-tail (IsNotBy 1) (Commit runs) more apart)
reader_end_under (EndWriter code ∷ more) h apart = reader_end_under more h (All-tail (IsNotBy 1) (EndWriter code) more apart)
reader_end_under (Read n ∷ more) h apart = absurd (All-head (IsNotBy 1) (Read n) more apart refl)
reader_end_under (Advance c e ∷ more) h apart = absurd (All-head (IsNotBy 1) (Advance c e) more apart refl)
reader_end_under (EndReader code ∷ more) h apart = absurd (All-head (IsNotBy 1) (EndReader code) more apart refl)
reader_end_under (CancelRead ∷ more) h apart = reader_end_under more h (All-tail (IsNotBy 1) CancelRead more apart)
reader_end_under (CancelFlush ∷ more) h apart = reader_end_under more h (All-tail (IsNotBy 1) CancelFlush more apart)

-- the last call of a seat is its own affair
last_under : (k : ℕ) (more h : List Call) → All (IsNotBy k) more → last_of k (more ++ h) ≡ last_of k h
last_under k [] h apart = refl
last_under k (call ∷ more) h apart = each (eqb (seat_of call) k) refl (last_under k more h (All-tail (IsNotBy k) call more apart))
  where
    each : (b : Bool) → eqb (seat_of call) k ≡ b → last_of k (more ++ h) ≡ last_of k h → cond b (Some (call, more ++ h)) (last_of k (more ++ h)) ≡ last_of k h
    each true is rest = absurd (All-head (IsNotBy k) call more apart (eqb-true (seat_of call) k is))
    each false is rest = rest

-- the writer's completion, the reader's completion and the lend are their own seat's affair
pub same_writer_end : (h g : List Call) → Others 0 h g → writer_end g ≡ writer_end h
same_writer_end h g o = ap writer_end o.is ∙ writer_end_under o.more h o.apart

pub same_reader_end : (h g : List Call) → Others 1 h g → reader_end g ≡ reader_end h
same_reader_end h g o = ap reader_end o.is ∙ reader_end_under o.more h o.apart

pub same_lend : (h g : List Call) → Others 1 h g → lend g ≡ lend h
same_lend h g o = ap bytes_lent_by (ap (last_of 1) o.is ∙ last_under 1 o.more h o.apart)

pub same_lend_runs : (h g : List Call) → Others 1 h g → lend_runs g ≡ lend_runs h
same_lend_runs h g o = ap runs_lent_by (ap (last_of 1) o.is ∙ last_under 1 o.more h o.apart)

-- an end that has seen more is still that end
pub end_wins : (k : ℕ) (old new : Seat) → IsEnd k old → Wins old new → IsEnd k new
end_wins k old new end wins = record {
  numbered = ap (λ (s : Seat). s.number) wins.after ∙ end.numbered;
  idle = ap (λ (s : Seat). s.holds) wins.after ∙ end.idle;
  own = ap (λ (j : ℕ). entries_of j new.seen) (sym end.numbered) ∙ wins.own ∙ sym (ap (λ (s : Seat). s.own) wins.after);
  lawful = wins.lawful;
}

-- and so is one that has added entries
pub end_puts : (k : ℕ) (es : List Call) (old new : Seat) → IsEnd k old → new ≡ after_put es old → IsLawful new.seen → IsEnd k new
end_puts k es old new end after lawful = record {
  numbered = ap (λ (s : Seat). s.number) after ∙ end.numbered;
  idle = ap (λ (s : Seat). s.holds) after;
  own = ap (λ (s : Seat). entries_of k s.seen) after ∙ subst (λ (j : ℕ). entries_of k (old.seen ++ made_by j es) ≡ old.own ++ es) (sym end.numbered) (own_more k old.seen es ∙ ap (λ (l : List Call). l ++ es) end.own)
      ∙ sym (ap (λ (s : Seat). s.own) after);
  lawful = lawful;
}
