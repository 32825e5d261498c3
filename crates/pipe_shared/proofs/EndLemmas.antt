-- An end after each of its calls is still that end.
use Rattle.std.proofs.Common.{◌≡◌, ◌≤◌, ◌^◌, length, arith, None, ℕ, Bool, true, false, List, [], ◌∷◌, ◌++◌, reverse, refl, sym, ap, subst, ◌∙◌, Some}
use mathlib.Core.List.{IsPrefix}
use Rattle.std.specs.Prelude.{IsSome, option_map, Result, Ok, Err, IfOk, IfErr}
use Rattle.pipe_core.specs.History.{Run, Call, Commit, Read, Advance, EndReader, bytes_of, closing, writer_end, reader_end}
use Rattle.pipe_core.specs.Answers.{Answer}
use Rattle.pipe_core.specs.Lends.{drop_bytes, lend}
use Rattle.pipe_core.proofs.OrderLemmas.{ordered}
use Rattle.pipe_state.specs.declared.options.Options.{Options}
use Rattle.pipe_state.specs.Fetched.{all_fetched}
use Rattle.pipe_state.specs.Lying.{runs_of}
use Rattle.pipe_state.specs.declared.full.Full.{Full}
use Rattle.pipe_state.specs.Sides.{reader_has}
use Rattle.turn_cell.specs.declared.cell.Busy.{Busy}
use Rattle.pipe_turns.specs.Room.{FindsRoom}
use Rattle.pipe_turns.proofs.LendLemmas.{runs_are_the_lend}
use Rattle.pipe_state.specs.Writing.{WritingState}
use Rattle.pipe_state.specs.declared.reading.Reading.{Reading}
use Rattle.pipe_turns.specs.declared.faults.TryFault.{TryFault}
use Rattle.pipe_turns.specs.declared.faults.TryFault.TheVariants as try
use Rattle.pipe_turns.specs.declared.faults.FlushFault.{FlushFault}
use Rattle.pipe_turns.specs.declared.faults.FlushFault.TheVariants as flush
use Rattle.pipe_turns.specs.Log.{calls_of}
use Rattle.pipe_turns.specs.Name.{Name}
use Rattle.pipe_turns.specs.Turns.{Seat, FindsHeld, Wins, Refuses, RefusesFlush, Makes}
use Rattle.pipe_turns.specs.Ends.{IsEnd, ReadsFor}
use Rattle.pipe_turns.specs.Lends.{lend_runs, runs_in}
use Rattle.pipe_turns.proofs.StateLemmas.{calls_made, calls_of-append}
use Rattle.pipe_turns.proofs.SeenLemmas.{others, others_alone, same_lend, same_writer_end, same_reader_end, same_lend_runs, end_wins, end_puts}
use Rattle.pipe_shared.specs.Ends.{IsWriter, IsReader, IsReaderDone, IsWriterDone, lent_in}

-- an end that has made a call
pub end_makes : (k : ℕ) (options : Options) (calls : List Call) (answer : Answer) (old new : Seat) → IsEnd k old → Makes options old calls answer new → IsEnd k new
end_makes k options calls answer old new end m = end_puts k (reverse calls) m.found new (end_wins k old m.found end m.wins) m.after m.lawful

-- by which name it knows its pipe
name_made : (options : Options) (calls : List Call) (answer : Answer) (old new : Seat) → Makes options old calls answer new → new.name ≡ old.name
name_made options calls answer old new m = ap (λ (s : Seat). s.name) m.after ∙ ap (λ (s : Seat). s.name) m.wins.after

-- ---- the writer

pub writer_finds : (word : ℕ) (old new : Seat) (w : WritingState) → IsWriter old w → FindsHeld word old new → IsWriter new w
writer_finds word old new w is finds = subst (λ (s : Seat). IsWriter s w) (sym finds.after) (record {
  goes = record { end = record { numbered = is.goes.end.numbered; idle = is.goes.end.idle; own = is.goes.end.own; lawful = is.goes.end.lawful }; going = is.goes.going };
  writes = is.writes;
})

pub writer_wins : (old new : Seat) (w : WritingState) → IsWriter old w → Wins old new → IsWriter new w
writer_wins old new w is wins =
    let o = others 0 old new is.goes.end wins in
    record {
      goes = record { end = end_wins 0 old new is.goes.end wins; going = same_writer_end (calls_of old.seen) (calls_of new.seen) o ∙ is.goes.going };
      writes = λ name named. is.writes name (sym (ap (λ (s : Seat). s.name) wins.after) ∙ named);
    }

pub writer_refused : (size : ℕ) (fault : FlushFault) (old new : Seat) (w : WritingState) → IsWriter old w → RefusesFlush size fault old new → IsWriter new w
writer_refused size (flush.Busy word) old new w is r = writer_finds word old new w is r
writer_refused size (flush.Worn entries) old new w is r = writer_wins old new w is r.wins
writer_refused size (flush.TooMuch total) old new w is r = writer_wins old new w is r.wins

writer_fills : (seat : Seat) (w w' : WritingState) → IsWriter seat w → w' ≡ record w { free = w'.free; has = w'.has } → IsWriter seat w'
writer_fills seat w w' is same = subst (IsWriter seat) (sym same) (record {
  goes = is.goes;
  writes = λ name named. let writes = is.writes name named in record { pair = writes.pair; size = writes.size; count = writes.count };
})

-- a writer that has asked for another segment
pub writer_after_room : (options : Options) (hint : ℕ) (old new : Seat) (w w' : WritingState) (r : Result (Result ℕ Full) Busy) → IsWriter old w → IfOk r (λ answer. FindsRoom options hint answer old w new w')
    → IfErr r (λ busy. FindsHeld busy.word old new × (w' ≡ w)) → IsWriter new w'
writer_after_room options hint old new w w' (Ok (Ok n)) is found busy = writer_fills new w w' (writer_wins old new w is found.wins) found.answers.3
writer_after_room options hint old new w w' (Ok (Err told)) is found busy = subst (IsWriter new) (sym found.answers.1) (writer_wins old new w is found.wins)
writer_after_room options hint old new w w' (Err refused) is found busy = subst (IsWriter new) (sym busy.1) (writer_finds refused.word old new w is busy.0)

pub writer_commits : (options : Options) (answer : Answer) (old new : Seat) (w w' : WritingState) → IsWriter old w → Makes options old (Commit w.draft ∷ []) answer new
    → w' ≡ record w { draft = []; has = w'.has } → IsWriter new w'
writer_commits options answer old new w w' is m same =
    let found = writer_wins old m.found w is m.wins in
    let calls = calls_made (Commit w.draft ∷ []) m.found new m.after in
    subst (IsWriter new) (sym same) (record {
      goes = record { end = end_makes 0 options (Commit w.draft ∷ []) answer old new is.goes.end m; going = ap writer_end calls ∙ found.goes.going };
      writes = λ name named.
          let writes = is.writes name (sym (name_made options (Commit w.draft ∷ []) answer old new m) ∙ named) in
          record { pair = writes.pair; size = writes.size; count = writes.count };
    })

-- a completion's last call is the writer's end
closed_by : (draft : List Run) (code : ℕ) (h : List Call) → IsSome (writer_end (closing draft code ++ h))
closed_by [] code h = refl
closed_by (r ∷ draft) code h = refl

pub writer_completes : (options : Options) (code : ℕ) (answer : Answer) (old new : Seat) (w : WritingState) → IsWriter old w → Makes options old (closing w.draft code) answer new → IsWriterDone new
writer_completes options code answer old new w is m = record {
  end = end_makes 0 options (closing w.draft code) answer old new is.goes.end m;
  ended = subst (λ (h : List Call). IsSome (writer_end h)) (sym (calls_made (closing w.draft code) m.found new m.after)) (closed_by w.draft code (calls_of m.found.seen));
}

-- ---- the reader

pub reader_finds : (word : ℕ) (old new : Seat) (r : Reading) (lending : Bool) → IsReader old r lending → FindsHeld word old new → IsReader new r lending
reader_finds word old new r lending is finds = subst (λ (s : Seat). IsReader s r lending) (sym finds.after) (record {
  attends = record { end = record { numbered = is.attends.end.numbered; idle = is.attends.end.idle; own = is.attends.end.own; lawful = is.attends.end.lawful }; attended = is.attends.attended };
  reads = is.reads;
  lent = is.lent;
})

pub reader_wins : (old new : Seat) (r : Reading) (lending : Bool) → IsReader old r lending → Wins old new → IsReader new r lending
reader_wins old new r lending is wins =
    let o = others 1 old new is.attends.end wins in
    record {
      attends = record { end = end_wins 1 old new is.attends.end wins; attended = same_reader_end (calls_of old.seen) (calls_of new.seen) o ∙ is.attends.attended };
      reads = λ name named. is.reads name (sym (ap (λ (s : Seat). s.name) wins.after) ∙ named);
      lent = same_lend_runs (calls_of old.seen) (calls_of new.seen) o ∙ is.lent;
    }

pub reader_refused : (fault : TryFault) (old new : Seat) (r : Reading) (lending : Bool) → IsReader old r lending → Refuses fault old new → IsReader new r lending
reader_refused (try.Busy word) old new r lending is refuses = reader_finds word old new r lending is refuses
reader_refused (try.Worn entries) old new r lending is refuses = reader_wins old new r lending is refuses.wins

pub reader_reads : (options : Options) (n : ℕ) (answer : Answer) (old new : Seat) (r r' : Reading) (lending lending' : Bool) → IsReader old r lending → Makes options old (Read n ∷ []) answer new
    → ((name : Name) → old.name ≡ Some name → ReadsFor name r') → lend_runs (calls_of new.seen) ≡ runs_in lending' (reader_has r'.chain) → IsReader new r' lending'
reader_reads options n answer old new r r' lending lending' is made reads lent =
    let found = reader_wins old made.found r lending is made.wins in
    let calls = calls_made (Read n ∷ []) made.found new made.after in
    record {
      attends = record { end = end_makes 1 options (Read n ∷ []) answer old new is.attends.end made; attended = ap reader_end calls ∙ found.attends.attended };
      reads = λ name named. reads name (sym (name_made options (Read n ∷ []) answer old new made) ∙ named);
      lent = lent;
    }

pub reader_advances : (options : Options) (c e : ℕ) (answer : Answer) (old new : Seat) (r r' : Reading) (lending : Bool) → IsReader old r lending → Makes options old (Advance c e ∷ []) answer new
    → ((name : Name) → old.name ≡ Some name → ReadsFor name r') → IsReader new r' false
reader_advances options c e answer old new r r' lending is made reads =
    let found = reader_wins old made.found r lending is made.wins in
    let calls = calls_made (Advance c e ∷ []) made.found new made.after in
    record {
      attends = record { end = end_makes 1 options (Advance c e ∷ []) answer old new is.attends.end made; attended = ap reader_end calls ∙ found.attends.attended };
      reads = λ name named. reads name (sym (name_made options (Advance c e ∷ []) answer old new made) ∙ named);
      lent = ap lend_runs calls;
    }

pub reader_completes : (options : Options) (code : ℕ) (answer : Answer) (old new : Seat) (r : Reading) (lending : Bool) → IsReader old r lending → Makes options old (EndReader code ∷ []) answer new → IsReaderDone new
reader_completes options code answer old new r lending is m = record {
  end = end_makes 1 options (EndReader code ∷ []) answer old new is.attends.end m;
  gone = subst (λ (h : List Call). IsSome (reader_end h)) (sym (calls_made (EndReader code ∷ []) m.found new m.after)) refl;
}

-- ---- what is lent

pub lent_is_lend : (seat : Seat) (r : Reading) (lending : Bool) → IsReader seat r lending → lent_in lending r ≡ lend (calls_of seat.seen)
lent_is_lend seat r lending is = ap (option_map bytes_of) (sym is.lent) ∙ runs_are_the_lend (calls_of seat.seen)

-- a reader that has made no call is lent nothing
pub no_lend_yet : (seat : Seat) (r : Reading) (lending : Bool) → IsReader seat r lending → seat.own ≡ [] → lent_in lending r ≡ None
no_lend_yet seat r lending is none = lent_is_lend seat r lending is ∙ same_lend [] (calls_of seat.seen) (others_alone 1 seat is.attends.end none)

pub is_lending : (lending : Bool) (r : Reading) → IsSome (lent_in lending r) → lending ≡ true
is_lending true r some = refl
is_lending false r some = absurd (cc (some))

pub lend_is : (seat : Seat) (r : Reading) (lending : Bool) → IsReader seat r lending → lending ≡ true → lend (calls_of seat.seen) ≡ Some (bytes_of (drop_bytes r.chain.skip (runs_of (all_fetched r.chain.links))))
lend_is seat r true is same = sym (lent_is_lend seat r true is)
lend_is seat r false is same = absurd (cc (same))

pub lend_fits : (seat : Seat) (r : Reading) (lending : Bool) → IsReader seat r lending → lending ≡ true → length (bytes_of (drop_bytes r.chain.skip (runs_of (all_fetched r.chain.links)))) ≤ 2 ^ 62
lend_fits seat r lending is same =
    let order = ordered (calls_of seat.seen) is.attends.end.lawful.legal in let total = order.total_in in
    let within = order.lent_in (bytes_of (drop_bytes r.chain.skip (runs_of (all_fetched r.chain.links)))) (lend_is seat r lending is same) in
    omega arith

-- the seat is of one pipe alone
pub reads_named : (seat : Seat) (pipe : Name) (r : Reading) → seat.name ≡ Some pipe → ReadsFor pipe r → (name : Name) → seat.name ≡ Some name → ReadsFor name r
reads_named seat pipe r of_pipe reads name named = let same : pipe ≡ name = cc (of_pipe, named) in subst (λ (n : Name). ReadsFor n r) same reads

-- ---- in a longer history

ended_behind : (g h : List Call) → IsSome (writer_end h) → IsSome (writer_end (g ++ h))
ended_behind [] h some = some
ended_behind (Call.Commit runs ∷ g) h some = ended_behind g h some
ended_behind (Call.EndWriter code ∷ g) h some = refl
ended_behind (Call.Read n ∷ g) h some = ended_behind g h some
ended_behind (Call.Advance c e ∷ g) h some = ended_behind g h some
ended_behind (Call.EndReader code ∷ g) h some = ended_behind g h some
ended_behind (Call.CancelRead ∷ g) h some = ended_behind g h some
ended_behind (Call.CancelFlush ∷ g) h some = ended_behind g h some

gone_behind : (g h : List Call) → IsSome (reader_end h) → IsSome (reader_end (g ++ h))
gone_behind [] h some = some
gone_behind (Call.Commit runs ∷ g) h some = gone_behind g h some
gone_behind (Call.EndWriter code ∷ g) h some = gone_behind g h some
gone_behind (Call.Read n ∷ g) h some = gone_behind g h some
gone_behind (Call.Advance c e ∷ g) h some = gone_behind g h some
gone_behind (Call.EndReader code ∷ g) h some = refl
gone_behind (Call.CancelRead ∷ g) h some = gone_behind g h some
gone_behind (Call.CancelFlush ∷ g) h some = gone_behind g h some

pub ended_later : (before after : List (ℕ × Call)) → IsPrefix before after → IsSome (writer_end (calls_of before)) → IsSome (writer_end (calls_of after))
ended_later before after begins some =
    subst (λ (h : List Call). IsSome (writer_end h)) (sym (calls_of-append before begins.0) ∙ ap calls_of begins.1) (ended_behind (calls_of begins.0) (calls_of before) some)

pub gone_later : (before after : List (ℕ × Call)) → IsPrefix before after → IsSome (reader_end (calls_of before)) → IsSome (reader_end (calls_of after))
gone_later before after begins some =
    subst (λ (h : List Call). IsSome (reader_end h)) (sym (calls_of-append before begins.0) ∙ ap calls_of begins.1) (gone_behind (calls_of begins.0) (calls_of before) some)
