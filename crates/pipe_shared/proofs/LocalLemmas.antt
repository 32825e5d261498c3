-- What a call of the parts is to the pipe for one thread.
use Rattle.std.proofs.Common.{Global, cond, ◌≡◌, ◌≤◌, ◌^◌, ℕ, Bool, List, [], ◌∷◌, ◌++◌, length, reverse, refl, sym, ap, subst, ◌∙◌, arith, Option, Some, None}
use Rattle.std.specs.Prelude.{is_none, is_some, option_map, Vec, IsNone, IsSome, IfSome, Result, Ok, Err, IfOk, OnOk, OnErr}
use Rattle.std.specs.List.{AllByRecursion}
use Rattle.turn_cell.specs.History.{made_by}
use Rattle.pipe_core.specs.declared.reply.FlushReply.{FlushReply}
use Rattle.pipe_core.specs.declared.reply.TooMuch.{TooMuch}
use Rattle.pipe_core.specs.declared.reply.Wake.{Wake}
use Rattle.pipe_core.specs.History.{Call, Commit, bytes_of, reader_end, seat_of}
use Rattle.pipe_core.specs.Answers.{Answer, Flushed}
use Rattle.pipe_core.specs.Lends.{drop_bytes, lend}
use Rattle.pipe_core.specs.Pipe.{HoldsFor, Pipe}
use Rattle.pipe_core.specs.Progress.{held}
use Rattle.pipe_core.specs.Standing.{MayAdvance}
use Rattle.pipe_core.proofs.OrderLemmas.{ordered}
use Rattle.pipe_core.proofs.PipeLemmas.{lent_is}
use Rattle.pipe_core.proofs.RunLemmas.{runs_held}
use Rattle.seg_block.specs.declared.block.Block.{Block}
use Rattle.pipe_state.specs.declared.options.Options.{Options}
use Rattle.pipe_state.specs.declared.reading.Reading.{Reading}
use Rattle.pipe_state.specs.Fetched.{all_fetched}
use Rattle.pipe_state.specs.Held.{HeldAnswers, HeldMade, HoldsRuns, PipeHeld}
use Rattle.pipe_state.specs.Lying.{runs_of}
use Rattle.pipe_state.specs.Segments.{AreSized}
use Rattle.pipe_state.specs.Sides.{reader_has}
use Rattle.pipe_state.specs.Writing.{WritingState}
use Rattle.pipe_turns.specs.Lends.{lend_runs, runs_in}
use Rattle.pipe_turns.specs.Log.{calls_of}
use Rattle.pipe_turns.specs.Name.{Name}
use Rattle.pipe_turns.proofs.LendLemmas.{runs_are_the_lend}
use Rattle.pipe_turns.proofs.StateLemmas.{calls_behind, more_by}
use Rattle.pipe_shared.specs.Made.{name_in}
use Rattle.pipe_shared.specs.Local.{HasReader, HasWriter, IsLocal, LendsFor, Local, LocalAnswers, LocalKeeps}
use Rattle.pipe_shared.specs.declared.local_writer.LocalWriter.{LocalWriter}

-- calls of one seat stand in its log with the number of that seat
pub logged : (seat : ℕ) (before after : Local) (calls : List Call) (answer : Answer) (history : List (ℕ × Call)) → AllByRecursion (λ call. seat_of call ≡ seat) calls → LocalAnswers before calls answer after
    → LocalKeeps before history → LocalKeeps after (history ++ made_by seat (reverse calls))
logged seat before after calls answer history mine a k = record {
  seats = more_by seat history calls mine k.seats;
  stands = subst (HoldsRuns after.pipe) (sym (calls_behind history seat calls)) (a.stands (calls_of history) k.stands);
}

-- ---- a flush

committed : (options : Options) (p q : PipeHeld) (w w' : WritingState) (reading : Option Reading) (list : Vec Block Global) (answer : Answer) → IsLocal options p (LocalWriter.Going w) reading list
    → HeldAnswers p (Commit w.draft ∷ []) answer q → w' ≡ record w { draft = []; has = w'.has } → IsLocal options q (LocalWriter.Going w') reading list
committed options p q w w' reading list answer l a same =
    let blocks : q.segments.blocks ≡ p.segments.blocks = ap (λ (m : HeldMade). m.blocks) a.kept in
    let reader = ap (λ (m : HeldMade). m.reader_name) a.kept in let writer = ap (λ (m : HeldMade). m.writer_name) a.kept in
    let named : name_in options q ≡ name_in options p = (λ i. record { options = options; blocks = blocks i; reader = reader i; writer = writer i }) in
    record {
      history = record {
        h = Commit w.draft ∷ l.history.h;
        holds = a.stands l.history.h l.history.holds;
        lent = subst (λ (o : Option ℕ). IfSome reading (λ r. lend_runs l.history.h ≡ runs_in (is_some o) (reader_has r.chain))) (sym a.lent) l.history.lent;
      };
      good = l.good;
      pause = ap (λ (m : HeldMade). m.thresholds.pause) a.kept ∙ l.pause;
      resume = ap (λ (m : HeldMade). m.thresholds.resume) a.kept ∙ l.resume;
      sized = subst (AreSized options.segment) (sym blocks) l.sized;
      count = ap length blocks ∙ l.count;
      empty = l.empty;
      room = (let room = l.room in let longer = ap length blocks in omega arith);
      writer = still_writes q.control.ended p.control.ended a.ended named same l.writer;
      reader = still_reads q.control.gone p.control.gone a.gone named l.reader;
    }
  where
    still_writes : (now before : Option ℕ) → now ≡ before → name_in options q ≡ name_in options p → w' ≡ record w { draft = []; has = w'.has } → HasWriter (name_in options p) before (LocalWriter.Going w)
        → HasWriter (name_in options q) now (LocalWriter.Going w')
    still_writes None None is named same has =
        subst (λ (n : Name). HasWriter n None (LocalWriter.Going w')) (sym named) (subst (λ (x : WritingState). HasWriter (name_in options p) None (LocalWriter.Going x)) (sym same) (record { pair = has.pair; size = has.size; count = has.count }))
    still_writes (Some code) None is named same has = absurd (cc (is))
    still_writes now (Some code) is named same has = absurd has

    still_reads : (now before : Option ℕ) → now ≡ before → name_in options q ≡ name_in options p → HasReader (name_in options p) before reading → HasReader (name_in options q) now reading
    still_reads now before is named has = subst (λ (n : Name). HasReader n now reading) (sym named) (subst (λ (o : Option ℕ). HasReader (name_in options p) o reading) (sym is) has)

pub flushed : (options : Options) (p q : PipeHeld) (w w' : WritingState) (reading : Option Reading) (list : Vec Block Global) (r : Result (FlushReply × Wake) TooMuch) → IsLocal options p (LocalWriter.Going w) reading list
    → IfOk r (λ answer. HeldAnswers p (Commit w.draft ∷ []) (Flushed answer.0 answer.1) q) → OnOk r (w' ≡ record w { draft = []; has = w'.has }) → OnErr r ((q ≡ p) × (w' ≡ w)) → IsLocal options q (LocalWriter.Going w') reading list
flushed options p q w w' reading list (Ok answer) l a same refused = committed options p q w w' reading list (Flushed answer.0 answer.1) l a same
flushed options p q w w' reading list (Err fault) l a same refused = rw (refused.0, refused.1) l

-- ---- the lend

-- where a lend stands the reader goes on
pub lending_attends : (p : PipeHeld) (h : List Call) → HoldsRuns p h → IsSome p.control.lent → p.control.gone ≡ None
lending_attends p h holds some = holds.marks.gone ∙ each (lend h) refl (subst (λ (o : Option ℕ). IsSome o) holds.marks.lent some)
  where
    each : (o : Option (List ℕ)) → lend h ≡ o → IsSome (option_map length o) → reader_end h ≡ None
    each None is some = absurd (cc (some))
    each (Some bytes) is some = none_is (reader_end h) ((ordered h holds.marks.legal).attended bytes is)
      where
        none_is : (o : Option ℕ) → IsNone o → o ≡ None
        none_is None none = refl
        none_is (Some code) none = absurd (cc (none))

pub may_advance_lent : (lent : Option ℕ) (c e : ℕ) → MayAdvance lent c e → IsSome lent
may_advance_lent None c e may = elim may [ ]
may_advance_lent (Some n) c e may = refl

-- so there is a reader's part
pub reader_is_there : (name : Name) (gone : Option ℕ) (reading : Option Reading) → gone ≡ None → reading ≡ None → HasReader name gone reading → ⊥
reader_is_there name None None going none has = has
reader_is_there name None (Some r) going none has = cc (none)
reader_is_there name (Some code) reading going none has = cc (going)

abbrev pub lent_bytes : Reading → List ℕ
lent_bytes r = bytes_of (drop_bytes r.chain.skip (runs_of (all_fetched r.chain.links)))

lent_here : (p : PipeHeld) (r : Reading) → (l : LendsFor p (Some r)) → IsSome p.control.lent → lend l.h ≡ Some (lent_bytes r)
lent_here p r l some = sym (runs_are_the_lend l.h) ∙ ap (option_map bytes_of) (l.lent ∙ ap (λ (b : Bool). runs_in b (reader_has r.chain)) some)

-- what is lent goes by the segments, whichever history they stand for
abbrev seen_as : PipeHeld → Pipe
seen_as p = record { control = p.control; bytes = record { held = bytes_of (drop_bytes p.segments.reader.skip (runs_of p.segments.live)); draft = []; free = [] } }

holds_as : (p : PipeHeld) (h : List Call) → HoldsRuns p h → reader_end h ≡ None → HoldsFor (seen_as p) h
holds_as p h holds attended = record {
  marks = holds.marks;
  held = ap bytes_of (sym (holds.lies (rw attended refl)).lent) ∙ runs_held h ∙ sym (kept_is (reader_end h) attended);
}
  where
    kept_is : (o : Option ℕ) → o ≡ None → cond (is_none o) (held h) [] ≡ held h
    kept_is None is = refl
    kept_is (Some code) is = absurd (cc (is))

pub lent_for_each : (p : PipeHeld) (r : Reading) → LendsFor p (Some r) → IsSome p.control.lent → (h : List Call) → HoldsRuns p h → lend h ≡ Some (lent_bytes r)
lent_for_each p r l some h holds =
    (lent_is (seen_as p) h (holds_as p h holds (attended h holds)) some).0 ∙ sym (lent_is (seen_as p) l.h (holds_as p l.h l.holds (attended l.h l.holds)) some).0 ∙ lent_here p r l some
  where
    attended : (h : List Call) → HoldsRuns p h → reader_end h ≡ None
    attended h holds = sym holds.marks.gone ∙ lending_attends p h holds some

pub lent_length : (p : PipeHeld) (r : Reading) → LendsFor p (Some r) → IsSome p.control.lent → p.control.lent ≡ Some (length (lent_bytes r))
lent_length p r l some = l.holds.marks.lent ∙ ap (option_map length) (lent_here p r l some)

pub lent_fits : (p : PipeHeld) (r : Reading) → LendsFor p (Some r) → IsSome p.control.lent → length (lent_bytes r) ≤ 2 ^ 62
lent_fits p r l some =
    let order = ordered l.h l.holds.marks.legal in let total = order.total_in in
    let within = order.lent_in (lent_bytes r) (lent_here p r l some) in
    omega arith

-- as it is seen from inside
pub reads_by : (p : PipeHeld) (reading : Option Reading) (r : Reading) → reading ≡ Some r → LendsFor p reading → LendsFor p (Some r)
reads_by p reading r is l = subst (LendsFor p) is l

pub lends_in : (p : PipeHeld) (now : Local) → p ≡ now.pipe → IsSome now.pipe.control.lent → IsSome p.control.lent
lends_in p now is some = subst (λ (q : PipeHeld). IsSome q.control.lent) (sym is) some
