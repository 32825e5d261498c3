-- The segments that the reader has lie in blocks of the pipe.
use Rattle.std.proofs.Common.{◌≤◌, ℕ, Bool, cond, true, false, List, [], ◌∷◌, ◌++◌, ap, sym, subst, ◌∙◌, arith, Option, Some, None}
use Rattle.std.proofs.lemmas.List.{map-append}
use Rattle.seg_block.specs.Numbered.{weigh}
use Rattle.seg_block.specs.declared.front.SegFront.{SegFront}
use Rattle.seg_block.specs.declared.tail.Mark.{Mark}
use Rattle.seg_block.specs.declared.tail.TailEnd.{TailEnd}
use Rattle.pipe_state.specs.declared.arrival.Arrival.{Arrival}
use Rattle.pipe_state.specs.Fetched.{Fetched, arrive, arrived, continue_last, continued, fetched_front}
use Rattle.pipe_state.specs.Released.{BlockName, block_in, blocks_in}
use Rattle.pipe_state.specs.Segments.{AreInOrder, AreOf, IsOneOf, blocks_of}
use Rattle.pipe_state.specs.Sides.{Unfinished, going_of}
use Rattle.pipe_state.proofs.ListLemmas.{all_before}
use Rattle.pipe_state.proofs.PlaceLemmas.{weigh-append}

each_of : (blocks : List BlockName) (segments : List Fetched) → ((weight : BlockName → ℕ) → weigh weight (blocks_in segments) ≤ weigh weight blocks) → AreOf blocks segments
each_of blocks [] less = tt
each_of blocks (s ∷ segments) less = (λ weight. let all = less weight in omega arith, each_of blocks segments (λ weight. let all = less weight in omega arith))

going_less : (weight : BlockName → ℕ) (unfinished : List Unfinished) → weigh weight (blocks_in (going_of unfinished)) ≤ weigh weight (blocks_of unfinished)
going_less weight [] = omega arith
going_less weight (u ∷ unfinished) = each u.sent
  where
    each : (sent : Bool) → weigh weight (blocks_in (cond sent (record { label = u.label; bytes = u.bytes; finished = false } ∷ []) [])) ≤ weigh weight (blocks_of (u ∷ unfinished))
    each true = omega arith
    each false = omega arith

live_of : (home : List BlockName) (live : List Fetched) (unfinished : List Unfinished) (blocks : List BlockName) → AreInOrder home live unfinished blocks → AreOf blocks live
live_of home live unfinished blocks order =
    subst (AreOf blocks) (sym order.live_is) (each_of blocks (order.before ++ going_of unfinished) (λ weight.
    let apart = ap (weigh weight) (map-append (λ (s : Fetched). block_in s.label) order.before (going_of unfinished)) ∙ weigh-append weight (blocks_in order.before) (blocks_in (going_of unfinished)) in
    let placed = order.placed weight in
    let less = going_less weight unfinished in
    omega arith))

before_last : (blocks : List BlockName) (fetched : List Fetched) (mark : Mark) (end : Option TailEnd) → AreOf blocks (continue_last fetched mark end) → AreOf blocks fetched
before_last blocks [] mark end all = tt
before_last blocks (s ∷ []) mark end all = (all.0, tt)
before_last blocks (s ∷ t ∷ fetched) mark end all = (all.0, before_last blocks (t ∷ fetched) mark end all.1)

before_arrived : (blocks : List BlockName) (fetched : List Fetched) (front : Option SegFront) (mark : Mark) (end : Option TailEnd) → AreOf blocks (arrived fetched front mark end) → AreOf blocks fetched
before_arrived blocks fetched (Some front) mark end all = all_before (λ (s : Fetched). IsOneOf (block_in s.label) blocks) fetched (continued (fetched_front front) mark end) all
before_arrived blocks fetched None mark end all = before_last blocks fetched mark end all

before_all : (blocks : List BlockName) (fetched : List Fetched) (inbox : List Arrival) → AreOf blocks (arrive fetched inbox) → AreOf blocks fetched
before_all blocks fetched [] all = all
before_all blocks fetched (a ∷ inbox) all = before_arrived blocks fetched a.front a.mark a.end (before_all blocks (arrived fetched a.front a.mark a.end) inbox all)

-- what the reader has, before all that was sent to it has arrived
pub reader_of : (home : List BlockName) (fetched : List Fetched) (inbox : List Arrival) (unfinished : List Unfinished) (blocks : List BlockName) → AreInOrder home (arrive fetched inbox) unfinished blocks → AreOf blocks fetched
reader_of home fetched inbox unfinished blocks order = before_all blocks fetched inbox (live_of home (arrive fetched inbox) unfinished blocks order)
