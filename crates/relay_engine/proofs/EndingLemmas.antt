-- How the writer of a filler completes.
use Rattle.std.proofs.Common.{◌≡◌, ◌==◌, ℕ, Bool, true, false, cond, List, [], ◌∷◌, ◌++◌, reverse, map, filter, flat_map, refl, sym, ap, ◌∙◌, subst, append-nil}
use Rattle.std.specs.Prelude.{IsNone}
use Rattle.std.specs.List.{All}
use Rattle.std.proofs.lemmas.List.{map-append, reverse-append, reverse-reverse}
use Rattle.std.proofs.lemmas.List.Concat.{flat_map-append}
use Rattle.std.proofs.lemmas.List.Elements.{All-head, All-tail, filter-append}
use Rattle.turn_cell.specs.History.{entries_of}
use Rattle.pipe_core.specs.declared.reply.Wake.{Wake}
use Rattle.pipe_core.specs.History.{Run, Call, Commit, EndWriter, Read, Advance, EndReader, CancelRead, CancelFlush, bytes_of, closing, writer_end, seat_of}
use Rattle.pipe_core.specs.Legal.{IsLegal}
use Rattle.pipe_core.specs.Answers.{Woke}
use Rattle.pipe_state.specs.declared.options.Options.{Options}
use Rattle.pipe_turns.specs.Log.{calls_of}
use Rattle.pipe_turns.specs.Heard.{CallsBehind}
use Rattle.pipe_turns.specs.Turns.{Seat}
use Rattle.pipe_turns.specs.Ends.{IsEnd}
use Rattle.pipe_shared.specs.Ends.{Writer}
use Rattle.relay_engine.specs.Filler.{written}
use Rattle.relay_engine.specs.Tally.{Spends, tally_of}
use Rattle.relay_engine.specs.PipeFiller.{Completes, MayClose, seen_by}

-- ---- what a seat has made stands in what it has seen

-- the entries of the writer's number are the writer's calls
mine : (g : List (ℕ × Call)) → All (λ e. e.0 ≡ seat_of e.1) g → entries_of 0 g ≡ filter (λ call. seat_of call == 0) (map (λ e. e.1) g)
mine [] all = refl
mine (e ∷ g) all = each (e.0 == 0) refl (mine g (All-tail (λ (e : ℕ × Call). e.0 ≡ seat_of e.1) e g all))
  where
    same : e.0 ≡ seat_of e.1
    same = All-head (λ (e : ℕ × Call). e.0 ≡ seat_of e.1) e g all

    each : (b : Bool) → (e.0 == 0) ≡ b → entries_of 0 g ≡ filter (λ call. seat_of call == 0) (map (λ e. e.1) g)
        → map (λ (e : ℕ × Call). e.1) (cond b (e ∷ filter (λ (e : ℕ × Call). e.0 == 0) g) (filter (λ (e : ℕ × Call). e.0 == 0) g)) ≡ cond (seat_of e.1 == 0) (e.1 ∷ filter (λ call. seat_of call == 0) (map (λ e. e.1) g)) (filter (λ call. seat_of call == 0) (map (λ e. e.1) g))
    each true is rest = rw (← same, is) (ap (λ (x : List Call). e.1 ∷ x) rest)
    each false is rest = rw (← same, is) rest

-- the commits of a history, in the order in which they were made
abbrev pub commits_of : List Call → List (List Run)
commits_of [] = []
commits_of (Commit runs ∷ h) = commits_of h ++ runs ∷ []
commits_of (call ∷ h) = commits_of h

pub bytes_are : (h : List Call) → flat_map bytes_of (commits_of h) ≡ written h
bytes_are [] = refl
bytes_are (Commit runs ∷ h) =
    flat_map-append bytes_of (commits_of h) (runs ∷ []) ∙ ap (λ (x : List ℕ). x ++ (bytes_of runs ++ [])) (bytes_are h) ∙ ap (λ (x : List ℕ). written h ++ x) (append-nil (bytes_of runs))
bytes_are (EndWriter code ∷ h) = bytes_are h
bytes_are (Read n ∷ h) = bytes_are h
bytes_are (Advance c e ∷ h) = bytes_are h
bytes_are (EndReader code ∷ h) = bytes_are h
bytes_are (CancelRead ∷ h) = bytes_are h
bytes_are (CancelFlush ∷ h) = bytes_are h

-- The writer's calls of a history in which it goes on are commits.
commits_alone : (h : List Call) → IsNone (writer_end h) → filter (λ call. seat_of call == 0) (reverse h) ≡ map (λ runs. Commit runs) (commits_of h)
commits_alone [] going = refl
commits_alone (call ∷ h) going = ap (filter (λ call. seat_of call == 0)) (reverse-append (call ∷ []) h) ∙ filter-append (λ call. seat_of call == 0) (reverse h) (call ∷ []) ∙ each call going (λ still. commits_alone h still)
  where
    each : (c : Call) → IsNone (writer_end (c ∷ h)) → (IsNone (writer_end h) → filter (λ call. seat_of call == 0) (reverse h) ≡ map (λ runs. Commit runs) (commits_of h))
        → filter (λ call. seat_of call == 0) (reverse h) ++ filter (λ call. seat_of call == 0) (c ∷ []) ≡ map (λ runs. Commit runs) (commits_of (c ∷ h))
    each (Commit runs) going rest = ap (λ (x : List Call). x ++ Commit runs ∷ []) (rest going) ∙ sym (map-append (λ (runs : List Run). Commit runs) (commits_of h) (runs ∷ []))
    each (EndWriter code) going rest = absurd cc
    each (Read n) going rest = append-nil (filter (λ call. seat_of call == 0) (reverse h)) ∙ rest going
    each (Advance c e) going rest = append-nil (filter (λ call. seat_of call == 0) (reverse h)) ∙ rest going
    each (EndReader code) going rest = append-nil (filter (λ call. seat_of call == 0) (reverse h)) ∙ rest going
    each CancelRead going rest = append-nil (filter (λ call. seat_of call == 0) (reverse h)) ∙ rest going
    each CancelFlush going rest = append-nil (filter (λ call. seat_of call == 0) (reverse h)) ∙ rest going

-- A seat that has completed has made commits, and then its completion.
pub own_is : (seat : Seat) (code : ℕ) (found : List Call) → IsEnd 0 seat → calls_of seat.seen ≡ EndWriter code ∷ found → seat.own ≡ map (λ runs. Commit runs) (commits_of found) ++ EndWriter code ∷ []
own_is seat code found end seen =
    let legal : IsLegal (EndWriter code ∷ found) = subst IsLegal seen end.lawful.legal in
    let order : map (λ (e : ℕ × Call). e.1) seat.seen ≡ reverse found ++ EndWriter code ∷ [] =
    sym (reverse-reverse (map (λ (e : ℕ × Call). e.1) seat.seen)) ∙ ap reverse seen ∙ reverse-append (EndWriter code ∷ []) found in
    sym end.own
    ∙ mine seat.seen end.lawful.seats
    ∙ ap (filter (λ call. seat_of call == 0)) order
    ∙ filter-append (λ call. seat_of call == 0) (reverse found) (EndWriter code ∷ [])
    ∙ ap (λ (x : List Call). x ++ EndWriter code ∷ []) (commits_alone found legal.1)

-- ---- the completion of a writer that has drafted nothing

pub completes : (options : Options) (code : ℕ) (wake : Wake) (w : Writer) (seat : Seat) → MayClose w → CallsBehind options 0 (seen_by w) (closing w.draft code) (Woke wake) (calls_of seat.seen) → IsEnd 0 seat → Spends 0 (tally_of w.seat) (tally_of seat) → Completes code w seat
completes options code wake w seat may b end spent =
    let found = b.heard ++ seen_by w in
    let seen : calls_of seat.seen ≡ EndWriter code ∷ found = b.seen ∙ ap (λ (draft : List Run). closing draft code ++ found) may.settled in
    record {
      found = found;
      later = record { between = b.heard; all = b.others; is = refl };
      seen = seen;
      legal = b.legal;
      commits = commits_of found;
      own = own_is seat code found end seen;
      bytes = bytes_are found;
      spent = spent;
    }
