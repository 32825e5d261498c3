-- A call of the pipe in a state, with the number of the seat that makes it, is a step of the state.
use Rattle.std.proofs.Common.{◌≡◌, ℕ, List, [], ◌∷◌, ◌++◌, arith, length, reverse, refl, sym, ap, subst, ◌∙◌}
use Rattle.std.specs.Prelude.{map, Result, Ok, Err, IfOk}
use Rattle.std.specs.List.{All, AllByRecursion}
use Rattle.std.proofs.lemmas.List.{map-append, reverse-append, reverse-reverse}
use Rattle.std.proofs.lemmas.List.Elements.{All-nil, All-cons, All-head, All-tail, All-append}
use Rattle.turn_cell.specs.History.{made_by}
use Rattle.turn_cell.specs.Seat.{after_put}
use Rattle.pipe_core.specs.History.{Run, Call, seat_of, closing}
use Rattle.pipe_core.specs.Answers.{Answer, answer_at_once}
use Rattle.pipe_state.specs.Held.{HeldAnswers, HeldMade, PipeHeld}
use Rattle.pipe_state.specs.Segments.{AreSized}
use Rattle.pipe_turns.specs.declared.state.SharedPipe.{SharedPipe}
use Rattle.pipe_turns.specs.Log.{calls_of}
use Rattle.pipe_turns.specs.State.{StateAnswers}
use Rattle.pipe_turns.specs.Turns.{Seat}

-- the calls of a longer history
pub calls_of-append : (h g : List (ℕ × Call)) → calls_of (h ++ g) ≡ calls_of g ++ calls_of h
calls_of-append h g = ap reverse (map-append (λ (e : ℕ × Call). e.1) h g) ∙ reverse-append (map (λ (e : ℕ × Call). e.1) h) (map (λ (e : ℕ × Call). e.1) g)

-- the calls that one seat made
pub calls_of-made_by : (k : ℕ) (calls : List Call) → map (λ (e : ℕ × Call). e.1) (made_by k calls) ≡ calls
calls_of-made_by k [] = refl
calls_of-made_by k (call ∷ calls) = ap (λ (l : List Call). call ∷ l) (calls_of-made_by k calls)

pub calls_with : (h : List (ℕ × Call)) (k : ℕ) (calls : List Call) → calls_of (h ++ made_by k calls) ≡ reverse calls ++ calls_of h
calls_with h k calls = calls_of-append h (made_by k calls) ∙ ap (λ (l : List Call). reverse l ++ calls_of h) (calls_of-made_by k calls)

abbrev pub IsBySeat : ℕ × Call → Type 0
IsBySeat e = e.0 ≡ seat_of e.1

pub All-reverse : {X : Type 0} (P : X → Type 0) (xs : List X) → All P xs → All P (reverse xs)
All-reverse P [] all = all
All-reverse P (x ∷ xs) all =
    subst (All P) (sym (reverse-append (x ∷ []) xs))
    (All-append P (reverse xs) (x ∷ []) (All-reverse P xs (All-tail P x xs all)) (All-cons P x [] (All-head P x xs all) (All-nil P)))

-- calls of one seat, in the order in which they are made, behind a history
pub more_by : (seat : ℕ) (h : List (ℕ × Call)) (calls : List Call) → AllByRecursion (λ call. seat_of call ≡ seat) calls → All IsBySeat h → All IsBySeat (h ++ made_by seat (reverse calls))
more_by seat h calls mine all = All-append IsBySeat h (made_by seat (reverse calls)) all (each (reverse calls) (All-reverse (λ call. seat_of call ≡ seat) calls (All_from_recursion calls mine)))
  where
    All_from_recursion : (calls : List Call) → AllByRecursion (λ call. seat_of call ≡ seat) calls → All (λ call. seat_of call ≡ seat) calls
    All_from_recursion [] all = All-nil (λ (call : Call). seat_of call ≡ seat)
    All_from_recursion (call ∷ calls) all = All-cons (λ (call : Call). seat_of call ≡ seat) call calls all.0 (All_from_recursion calls all.1)

    each : (calls : List Call) → All (λ call. seat_of call ≡ seat) calls → All IsBySeat (made_by seat calls)
    each [] all = All-nil IsBySeat
    each (call ∷ calls) all =
        All-cons IsBySeat (seat, call) (made_by seat calls) (sym (All-head (λ (call : Call). seat_of call ≡ seat) call calls all)) (each calls (All-tail (λ (call : Call). seat_of call ≡ seat) call calls all))

pub calls_behind : (h : List (ℕ × Call)) (seat : ℕ) (calls : List Call) → calls_of (h ++ made_by seat (reverse calls)) ≡ calls ++ calls_of h
calls_behind h seat calls = calls_with h seat (reverse calls) ∙ ap (λ (l : List Call). l ++ calls_of h) (reverse-reverse calls)

pub same_answer : (p p' r r' : ℕ) (calls h : List Call) → p ≡ p' → r ≡ r' → answer_at_once p r calls h ≡ answer_at_once p' r' calls h
same_answer p p' r r' calls h e f = rw (e, f) refl

-- what the segments answer is what a state with its options answers
pub answers : (s : SharedPipe) (q : PipeHeld) (calls : List Call) (answer : Answer) → HeldAnswers s.pipe calls answer q → StateAnswers s calls answer (record s { pipe = q })
answers s q calls answer a =
    let blocks : q.segments.blocks ≡ s.pipe.segments.blocks = ap (λ (m : HeldMade). m.blocks) a.kept in
    let reader = ap (λ (m : HeldMade). m.reader_name) a.kept in let writer = ap (λ (m : HeldMade). m.writer_name) a.kept in
    record {
      kept = λ i. record { options = s.options; blocks = blocks i; reader = reader i; writer = writer i };
      ended = a.ended;
      gone = a.gone;
      lent = a.lent;
      told = λ h k. a.told h k.runs ∙ same_answer s.pipe.control.pause s.options.pause s.pipe.control.resume s.options.resume calls h k.pause k.resume;
      stands = λ h k. record {
        runs = a.stands h k.runs;
        pause = ap (λ (m : HeldMade). m.thresholds.pause) a.kept ∙ k.pause;
        resume = ap (λ (m : HeldMade). m.thresholds.resume) a.kept ∙ k.resume;
        sized = subst (AreSized s.options.segment) (sym blocks) k.sized;
        count = ap length blocks ∙ k.count;
        empty = k.empty;
        room = (let room = k.room in let same = ap length blocks in omega arith);
      };
    }

-- the calls of a completion are the writer's
pub all_last : (runs : List Run) (code : ℕ) → AllByRecursion (λ call. seat_of call ≡ 0) (closing runs code)
all_last [] code = (refl, tt)
all_last (r ∷ runs) code = (refl, (refl, tt))

pub if_ok : {A E : Type 0} (P Q : A → Type 0) (r : Result A E) → ((a : A) → P a → Q a) → IfOk r P → IfOk r Q
if_ok P Q (Ok a) f p = f a p
if_ok P Q (Err e) f p = p

-- the calls that a seat has seen once it has made some
pub calls_made : (calls : List Call) (found new : Seat) → new ≡ after_put (reverse calls) found → calls_of new.seen ≡ calls ++ calls_of found.seen
calls_made calls found new after = ap (λ (s : Seat). calls_of s.seen) after ∙ calls_behind found.seen found.number calls
