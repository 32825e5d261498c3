-- Where both ends of a pipe have completed, what each had seen of one lawful history, and how a relay over it is reported.
use Rattle.std.proofs.Common.{◌≡◌, ◌≢◌, ℕ, true, false, eqb, List, [], ◌∷◌, ◌++◌, reverse, Option, Some, None, refl, sym, ap, ◌∙◌, subst, append-nil, append_assoc, inl, inr, ◌≤◌, ◌^◌, ◌⊎◌}
use Rattle.std.specs.Prelude.{map, flat_map, IsNone}
use Rattle.std.specs.List.{All}
use Rattle.std.proofs.lemmas.Bool.{cases_Bool}
use Rattle.std.proofs.lemmas.List.{reverse-append}
use Rattle.std.proofs.lemmas.List.Elements.{All-head, All-tail}
use Rattle.turn_cell.specs.History.{entries_of}
use Rattle.pipe_core.specs.History.{Run, Call, Commit, EndWriter, Read, Advance, EndReader, CancelRead, CancelFlush, bytes_of, reader_end, writer_end, seat_of}
use Rattle.pipe_core.specs.Progress.{total}
use Rattle.pipe_core.specs.Legal.{IsLegal}
use Rattle.pipe_core.proofs.OrderLemmas.{total_commit}
use Rattle.pipe_turns.specs.Log.{calls_of}
use Rattle.pipe_turns.proofs.StateLemmas.{calls_of-append}
use Rattle.relay_engine.specs.Filler.{written, fill_code}
use Rattle.relay_engine.proofs.LaterLemmas.{none_is}
use Rattle.edge_core.specs.Device.{SourceState, SinkState}
use Rattle.frame_grammar.specs.declared.job.Job.{Job}
use Rattle.relay_model.specs.declared.ending.FillEnd.{FillEnd}
use Rattle.relay_model.specs.declared.ending.FillEnd.TheVariants as taking
use Rattle.relay_model.specs.declared.ending.Report.{Report}
use Rattle.relay_model.specs.Run.{IsReported}
use Rattle.pipe_shared.specs.declared.pipe.Closed.{Closed}
use Rattle.pipe_turns.specs.Turns.{Seat}
use Rattle.pipe_shared.specs.Made.{ClosesPipe}
use Rattle.pipe_state.specs.Released.{BlockName}
use Rattle.relay_engine.specs.Drainer.{end_code}
use Rattle.relay_engine.specs.Sides.{HasFilled}
use Rattle.relay_engine.specs.Pumped.{HasPumped}
use Rattle.relay_engine.proofs.ReportLemmas.{SawAll, SawFront, HoldsOfAll, at_end_is, by_end, of_all, of_front, reported}
use Rattle.relay_engine.proofs.FillingLemmas.{written_under}

-- ---- what the commits of calls are

-- the bytes of the commits of more calls
written_more : (more h : List Call) → written (more ++ h) ≡ written h ++ written more
written_more [] h = sym (append-nil (written h))
written_more (Commit runs ∷ more) h = ap (λ (x : List ℕ). x ++ bytes_of runs) (written_more more h) ∙ append_assoc (written h) (written more) (bytes_of runs)
written_more (EndWriter code ∷ more) h = written_more more h
written_more (Read n ∷ more) h = written_more more h
written_more (Advance c e ∷ more) h = written_more more h
written_more (EndReader code ∷ more) h = written_more more h
written_more (CancelRead ∷ more) h = written_more more h
written_more (CancelFlush ∷ more) h = written_more more h

abbrev IsBySeat : ℕ × Call → Type 0
IsBySeat e = e.0 ≡ seat_of e.1

-- all commits of a history are those of the seat 0
pub written_by_writer : (history : List (ℕ × Call)) → All IsBySeat history → written (calls_of history) ≡ written (reverse (entries_of 0 history))
written_by_writer [] all = refl
written_by_writer (e ∷ history) all =
    let rest = written_by_writer history (All-tail IsBySeat e history all) in
    let seat : e.0 ≡ seat_of e.1 = All-head IsBySeat e history all in
    let parts : written (calls_of (e ∷ history)) ≡ written (e.1 ∷ []) ++ written (calls_of history) = ap written (calls_of-append (e ∷ []) history) ∙ written_more (calls_of history) (e.1 ∷ []) in
    (elim (cases_Bool (eqb e.0 0)) [
      | inl is ↦
          rw is (parts ∙ ap (λ (x : List ℕ). written (e.1 ∷ []) ++ x) rest ∙ sym (ap written (reverse-append (e.1 ∷ []) (entries_of 0 history)) ∙ written_more (reverse (entries_of 0 history)) (e.1 ∷ [])))
      | inr is ↦
          rw is (parts ∙ ap (λ (x : List ℕ). x ++ written (calls_of history)) (written_under (λ call. seat_of call ≢ 0) (λ call is. is) (e.1 ∷ []) [] (λ zero. let both : true ≡ false = sym (ap (λ (k : ℕ). eqb k 0) (seat ∙ zero)) ∙ is in absurd cc, tt)) ∙ rest)
    ])

-- what a writer committed before it completed
written_by_commits : (commits : List (List Run)) (code : ℕ) → written (reverse (map (λ runs. Commit runs) commits ++ EndWriter code ∷ [])) ≡ flat_map bytes_of commits
written_by_commits commits code = ap written (reverse-append (map (λ runs. Commit runs) commits) (EndWriter code ∷ [])) ∙ each commits
  where
    each : (commits : List (List Run)) → written (reverse (map (λ runs. Commit runs) commits)) ≡ flat_map bytes_of commits
    each [] = refl
    each (runs ∷ commits) =
        ap written (reverse-append (Commit runs ∷ []) (map (λ runs. Commit runs) commits))
        ∙ written_more (reverse (map (λ runs. Commit runs) commits)) (Commit runs ∷ [])
        ∙ ap (λ (x : List ℕ). bytes_of runs ++ x) (each commits)

-- ---- what is committed once the reader has completed

-- while the reader goes on, all that is committed counts
total_attended : (h : List Call) → reader_end h ≡ None → total h ≡ written h
total_attended [] none = refl
total_attended (Commit runs ∷ h) none = total_commit runs h ∙ rw none (ap (λ (x : List ℕ). x ++ bytes_of runs) (total_attended h none))
total_attended (EndWriter code ∷ h) none = total_attended h none
total_attended (Read n ∷ h) none = total_attended h none
total_attended (Advance c e ∷ h) none = total_attended h none
total_attended (EndReader code ∷ h) none = absurd cc
total_attended (CancelRead ∷ h) none = total_attended h none
total_attended (CancelFlush ∷ h) none = total_attended h none

-- ---- what stands behind the writer's completion

record StaysEnded (more h : List Call) (code : ℕ) : Type 0 where
  ended : writer_end (more ++ h) ≡ Some code
  none : written more ≡ []

once_ended : (o : Option ℕ) (code : ℕ) → o ≡ Some code → IsNone o → ⊥
once_ended None code is none = cc
once_ended (Some c) code is none = cc

stays_ended : (more h : List Call) (code : ℕ) → IsLegal (more ++ h) → writer_end h ≡ Some code → StaysEnded more h code
stays_ended [] h code legal ended = record { ended = ended; none = refl }
stays_ended (Commit runs ∷ more) h code legal ended = absurd (once_ended _ code (stays_ended more h code legal.0 ended).ended legal.1.0)
stays_ended (EndWriter c ∷ more) h code legal ended = absurd (once_ended _ code (stays_ended more h code legal.0 ended).ended legal.1)
stays_ended (Read n ∷ more) h code legal ended = let rest = stays_ended more h code legal.0 ended in record { ended = rest.ended; none = rest.none }
stays_ended (Advance c e ∷ more) h code legal ended = let rest = stays_ended more h code legal.0 ended in record { ended = rest.ended; none = rest.none }
stays_ended (EndReader c ∷ more) h code legal ended = let rest = stays_ended more h code legal.0 ended in record { ended = rest.ended; none = rest.none }
stays_ended (CancelRead ∷ more) h code legal ended = let rest = stays_ended more h code legal.0 ended in record { ended = rest.ended; none = rest.none }
stays_ended (CancelFlush ∷ more) h code legal ended = let rest = stays_ended more h code legal.0 ended in record { ended = rest.ended; none = rest.none }

-- ---- both ends

legal_before : (more h : List Call) → IsLegal (more ++ h) → IsLegal h
legal_before [] h legal = legal
legal_before (call ∷ more) h legal = legal_before more h legal.0

reader_end_behind : (more h : List Call) → reader_end (more ++ h) ≡ None → reader_end h ≡ None
reader_end_behind [] h none = none
reader_end_behind (Commit runs ∷ more) h none = reader_end_behind more h none
reader_end_behind (EndWriter code ∷ more) h none = reader_end_behind more h none
reader_end_behind (Read n ∷ more) h none = reader_end_behind more h none
reader_end_behind (Advance c e ∷ more) h none = reader_end_behind more h none
reader_end_behind (EndReader code ∷ more) h none = absurd cc
reader_end_behind (CancelRead ∷ more) h none = reader_end_behind more h none
reader_end_behind (CancelFlush ∷ more) h none = reader_end_behind more h none

head_is : (a b : Call) (h g : List Call) → a ∷ h ≡ b ∷ g → a ≡ b
head_is a b h g e = cc

tail_is : (a b : Call) (h g : List Call) → a ∷ h ≡ b ∷ g → h ≡ g
tail_is a b h g e = cc

-- Where the writer had completed before the reader did, the reader had not completed before the writer did.
one_is_first : (more behind found h : List Call) (rc wc code : ℕ) → IsLegal (more ++ EndReader rc ∷ found) → writer_end found ≡ Some code
    → more ++ EndReader rc ∷ found ≡ behind ++ EndWriter wc ∷ h → reader_end h ≡ None
one_is_first [] [] found h rc wc code legal ended same = let heads = head_is _ _ _ _ same in absurd cc
one_is_first [] (call ∷ behind) found h rc wc code legal ended same =
    let left : reader_end (behind ++ EndWriter wc ∷ h) ≡ None = ap reader_end (sym (tail_is _ _ _ _ same)) ∙ none_is (reader_end found) legal.1 in
    reader_end_behind behind (EndWriter wc ∷ h) left
one_is_first (call ∷ more) [] found h rc wc code legal ended same =
    let heads : call ≡ EndWriter wc = head_is _ _ _ _ same in
    let first : IsLegal (EndWriter wc ∷ (more ++ EndReader rc ∷ found)) = subst (λ (c : Call). IsLegal (c ∷ (more ++ EndReader rc ∷ found))) heads legal in
    absurd (once_ended _ code (stays_ended more (EndReader rc ∷ found) code first.0 ended).ended first.1)
one_is_first (call ∷ more) (other ∷ behind) found h rc wc code legal ended same = one_is_first more behind found h rc wc code legal.0 ended (tail_is _ _ _ _ same)

-- ---- what the reader had seen of what was taken

-- By what was made of one lawful history of calls, seen up to the completion of each end.
saw : (x : List ℕ) (fill : FillEnd) (code : ℕ) (all behind_reader found behind_writer h : List Call) → IsLegal all → written all ≡ x → behind_reader ++ EndReader code ∷ found ≡ all → behind_writer ++ EndWriter (fill_code fill) ∷ h ≡ all
    → ((c : ℕ) → fill ≡ taking.Gone c → reader_end h ≡ Some c) → SawAll x fill found ⊎ SawFront x found
saw x fill code all behind_reader found behind_writer h legal taken by_reader by_writer gone = by_end (writer_end found) refl
  where
    legal_reader : IsLegal (behind_reader ++ EndReader code ∷ found)
    legal_reader = subst IsLegal (sym by_reader) legal

    legal_writer : IsLegal (behind_writer ++ EndWriter (fill_code fill) ∷ h)
    legal_writer = subst IsLegal (sym by_writer) legal

    completing : IsLegal (EndReader code ∷ found)
    completing = legal_before behind_reader (EndReader code ∷ found) legal_reader

    parts : total found ++ written behind_reader ≡ x
    parts =
        ap (λ (l : List ℕ). l ++ written behind_reader) (total_attended found (none_is (reader_end found) completing.1))
        ∙ sym (written_more behind_reader (EndReader code ∷ found)) ∙ ap written by_reader ∙ taken

    by_end : (o : Option ℕ) → writer_end found ≡ o → SawAll x fill found ⊎ SawFront x found
    by_end None going = inr (record { more = written behind_reader; parts = parts; going = going })
    by_end (Some c) ended =
        let reader = stays_ended behind_reader (EndReader code ∷ found) c legal_reader ended in
        let writer = stays_ended behind_writer (EndWriter (fill_code fill) ∷ h) (fill_code fill) legal_writer refl in
        let same : Some c ≡ Some (fill_code fill) = sym reader.ended ∙ ap writer_end (by_reader ∙ sym by_writer) ∙ writer.ended in
        let attended = one_is_first behind_reader behind_writer found h code (fill_code fill) c legal_reader ended (by_reader ∙ sym by_writer) in
        let not_gone : (n : ℕ) → fill ≢ taking.Gone n = λ n is. let both = sym (gone n is) ∙ attended in absurd cc in
        inl (record {
          all = sym (append-nil (total found)) ∙ ap (λ (l : List ℕ). total found ++ l) (sym reader.none) ∙ parts;
          whole = at_end_is fill found not_gone (ended ∙ same);
          not_gone = not_gone;
        })

-- The two sides of a pipe that is closed.
met : (limit : ℕ) (fill : FillEnd) (writer reader canceller : Seat) (blocks : List BlockName) (closed : Closed) (told code : ℕ) (found : List Call) (sb s : SourceState) → (filled : HasFilled limit fill writer told sb s) → calls_of reader.seen ≡ EndReader code ∷ found
    → ClosesPipe blocks writer reader canceller closed → SawAll filled.taken fill found ⊎ SawFront filled.taken found
met limit fill writer reader canceller blocks closed told code found sb s filled seen closes =
    let reading = closes.reader_agrees.begins in
    let writing = closes.writer_agrees.begins in
    let own = closes.writer_agrees.own ∙ filled.own in
    saw filled.taken fill code (calls_of closes.history) (calls_of reading.0) found (calls_of writing.0) filled.found closes.lawful.legal
    (
    written_by_writer closes.history closes.lawful.seats
    ∙ ap (λ (l : List Call). written (reverse l)) (ap (λ (k : ℕ). entries_of k closes.history) (sym closes.writer_number) ∙ own)
    ∙ written_by_commits filled.commits (fill_code fill) ∙ filled.bytes
    )
    (ap (λ (l : List Call). calls_of reading.0 ++ l) (sym seen) ∙ sym (calls_of-append reader.seen reading.0) ∙ ap calls_of reading.1)
    (ap (λ (l : List Call). calls_of writing.0 ++ l) (sym filled.seen) ∙ sym (calls_of-append writer.seen writing.0) ∙ ap calls_of writing.1)
    filled.gone

pub settled : (job : Job) (report : Report) (writer reader canceller : Seat) (blocks : List BlockName) (closed : Closed) (sb s : SourceState) (kb k : SinkState) → job.limit ≤ 2 ^ 40 → HasPumped job report writer reader sb s kb k → ClosesPipe blocks writer reader canceller closed → IsReported job report sb s kb k
settled job report writer reader canceller blocks closed sb s kb k limit pumped closes =
    let filled = pumped.filled in
    let drained = pumped.drained in
    let stands : HoldsOfAll job filled.taken pumped.filling drained.found drained.text pumped.draining =
    elim (met job.limit pumped.filling writer reader canceller blocks closed report.taken (end_code pumped.draining) drained.found sb s filled drained.seen closes) [
      | inl saw ↦ of_all job report.frames report.written filled.taken pumped.filling drained.found drained.text pumped.draining drained.concludes saw
      | inr saw ↦ of_front job report.frames report.written filled.taken pumped.filling drained.found drained.text pumped.draining drained.concludes saw
    ] in
    reported job report filled.taken pumped.filling drained.found drained.text pumped.draining sb s kb k limit pumped.outcome filled.counted filled.is_taken (by_end pumped.draining kb drained.text k drained.gained) drained.concludes stands
