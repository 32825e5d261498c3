-- Segments that go home, as what the two ends share knows it.
use Rattle.std.proofs.Common.{◌≡◌, ◌≤◌, ◌+◌, ◌-◌, ℕ, Bool, true, false, List, [], ◌∷◌, ◌++◌, length, drop, refl, ap, sym, ◌∙◌, subst, arith, inl, inr, append_assoc, Option, Some, None}
use Rattle.std.specs.List.{AllByRecursion}
use Rattle.std.proofs.lemmas.Bool.{cases_Bool}
use Rattle.std.proofs.lemmas.List.{length-append, length-map, map-append, append_cancel_right}
use Rattle.circular_buffer.specs.Buffer.{Buffer}
use Rattle.seg_block.specs.Numbered.{weigh}
use Rattle.seg_block.specs.declared.block.Block.{Block}
use Rattle.seg_block.specs.declared.front.SegFront.{SegFront}
use Rattle.seg_block.specs.declared.tail.Mark.{Mark}
use Rattle.seg_block.specs.declared.tail.TailEnd.{TailEnd}
use Rattle.pipe_state.specs.Fetched.{Fetched, AllFit, Fits, all_fetched, arrive, arrived, continue_last}
use Rattle.pipe_state.specs.Released.{BlockName, FinishedBefore, blocks_in, block_in, bytes_in, first_goes, goes_home, left_after, names_of, skip_after}
use Rattle.pipe_state.specs.Sides.{ReaderHas, Unfinished, WriterHas, going_of, reader_has}
use Rattle.pipe_state.specs.Chains.{ChainState, first_len}
use Rattle.pipe_state.specs.Segments.{AreInOrder, IsFinished, IsSegments}
use Rattle.pipe_state.specs.declared.arrival.Arrival.{Arrival}
use Rattle.pipe_state.proofs.PlaceLemmas.{weigh-append, live_few}
use Rattle.pipe_state.proofs.FetchedLemmas.{arrive_no_fewer, first_arrives}

-- ---- what goes
pub record Gone (n : ℕ) (segments : List Fetched) : Type 0 where
  pub gone : List Fetched
  pub apart : segments ≡ gone ++ left_after n segments
  pub finished : AllByRecursion IsFinished gone
  pub skip : n ≡ length (bytes_in gone) + skip_after n segments
  pub stays : first_goes (skip_after n segments) (left_after n segments) ≡ false

finished_of : (n : ℕ) (s : Fetched) → goes_home n s ≡ true → (s.finished ≡ true) × (length s.bytes ≤ n)
finished_of n s goes = (grind (arith, goes), grind (arith, goes))

pub gone : (n : ℕ) (segments : List Fetched) → Gone n segments
gone n [] = record { gone = []; apart = refl; finished = tt; skip = omega arith; stays = refl }
gone n (s ∷ segments) = elim (cases_Bool (goes_home n s)) [
  | inl yes' ↦
      (let rest = gone (n - length s.bytes) segments in let first = finished_of n s yes' in
      let both : length (bytes_in (s ∷ rest.gone)) ≡ length s.bytes + length (bytes_in rest.gone) = length-append s.bytes (bytes_in rest.gone) in
      let skip = rest.skip in let low = first.1 in
      let left : left_after n (s ∷ segments) ≡ left_after (n - length s.bytes) segments = rw yes' refl in
      let skips : skip_after n (s ∷ segments) ≡ skip_after (n - length s.bytes) segments = rw yes' refl in
      record {
        gone = s ∷ rest.gone;
        apart = ap (λ l. s ∷ l) rest.apart ∙ ap (λ l. s ∷ (rest.gone ++ l)) (sym left);
        finished = (first.0, rest.finished);
        skip = omega arith;
        stays = ap (λ k. first_goes k (left_after n (s ∷ segments))) skips ∙ ap (first_goes (skip_after (n - length s.bytes) segments)) left ∙ rest.stays;
      })
  | inr no' ↦
      (let left : left_after n (s ∷ segments) ≡ s ∷ segments = rw no' refl in
      let skips : skip_after n (s ∷ segments) ≡ n = rw no' refl in
      record {
        gone = [];
        apart = sym left;
        finished = tt;
        skip = omega arith;
        stays = ap (λ k. first_goes k (left_after n (s ∷ segments))) skips ∙ ap (first_goes n) left ∙ no';
      })
]

-- ---- what is on its way fits behind what stays
one_behind : (s : Fetched) (fetched : List Fetched) (front : Option SegFront) (m : Mark) (end : Option TailEnd) → s.finished ≡ true → Fits (s ∷ fetched) front m end
    → Fits fetched front m end × (arrived (s ∷ fetched) front m end ≡ s ∷ arrived fetched front m end)
one_behind s fetched (Some f) m end finished fits = (fits, refl)
one_behind s [] None m end finished fits = absurd (let going = fits.going in cc (finished, going))
one_behind s (t ∷ fetched) None m end finished fits = (fits, refl)

all_behind_one : (s : Fetched) (fetched : List Fetched) (inbox : List Arrival) → s.finished ≡ true → AllFit (s ∷ fetched) inbox
    → AllFit fetched inbox × (arrive (s ∷ fetched) inbox ≡ s ∷ arrive fetched inbox)
all_behind_one s fetched [] finished fit = (tt, refl)
all_behind_one s fetched (a ∷ inbox) finished fit =
    let one = one_behind s fetched a.front a.mark a.end finished fit.0 in
    let rest = all_behind_one s (arrived fetched a.front a.mark a.end) inbox finished (subst (λ l. AllFit l inbox) one.1 fit.1) in
    ((one.0, rest.0), ap (λ l. arrive l inbox) one.1 ∙ rest.1)

pub behind_gone : (gone fetched : List Fetched) (inbox : List Arrival) → AllByRecursion IsFinished gone → AllFit (gone ++ fetched) inbox
    → AllFit fetched inbox × (arrive (gone ++ fetched) inbox ≡ gone ++ arrive fetched inbox)
behind_gone [] fetched inbox finished fit = (fit, refl)
behind_gone (s ∷ gone) fetched inbox finished fit =
    let one = all_behind_one s (gone ++ fetched) inbox finished.0 fit in let rest = behind_gone gone fetched inbox finished.1 one.0 in
    (rest.0, one.1 ∙ ap (λ l. s ∷ l) rest.1)

-- ---- all but the last are finished
before_of : (before going : List Fetched) → length going ≤ 1 → AllByRecursion IsFinished before → FinishedBefore (before ++ going)
before_of [] [] few finished = tt
before_of [] (s ∷ []) few finished = tt
before_of [] (s ∷ t ∷ going) few finished = absurd (omega arith)
before_of (s ∷ []) [] few finished = tt
before_of (s ∷ []) (t ∷ []) few finished = (finished.0, tt)
before_of (s ∷ []) (t ∷ u ∷ going) few finished = absurd (omega arith)
before_of (s ∷ t ∷ before) going few finished = (finished.0, before_of (t ∷ before) going few finished.1)

before_one : (fetched : List Fetched) (s : Fetched) → FinishedBefore (fetched ++ s ∷ []) → FinishedBefore fetched
before_one [] s order = tt
before_one (t ∷ []) s order = tt
before_one (t ∷ u ∷ fetched) s order = (order.0, before_one (u ∷ fetched) s order.1)

before_last : (fetched : List Fetched) (m : Mark) (end : Option TailEnd) → FinishedBefore (continue_last fetched m end) → FinishedBefore fetched
before_last [] m end order = tt
before_last (s ∷ []) m end order = tt
before_last (s ∷ t ∷ []) m end order = (order.0, tt)
before_last (s ∷ t ∷ u ∷ fetched) m end order = (order.0, before_last (t ∷ u ∷ fetched) m end order.1)

before_arrival : (fetched : List Fetched) (front : Option SegFront) (m : Mark) (end : Option TailEnd) → FinishedBefore (arrived fetched front m end) → FinishedBefore fetched
before_arrival fetched (Some f) m end order = before_one fetched _ order
before_arrival fetched None m end order = before_last fetched m end order

pub before_arrivals : (fetched : List Fetched) (inbox : List Arrival) → FinishedBefore (arrive fetched inbox) → FinishedBefore fetched
before_arrivals fetched [] order = order
before_arrivals fetched (a ∷ inbox) order = before_arrival fetched a.front a.mark a.end (before_arrivals (arrived fetched a.front a.mark a.end) inbox order)

going_one : (unfinished : List Unfinished) → length (going_of unfinished) ≤ 1
going_one [] = omega arith
going_one (u ∷ unfinished) = elim (cases_Bool u.sent) [
  | inl yes' ↦ rw yes' (omega arith)
  | inr no' ↦ rw no' (omega arith)
]

pub fetched_in_order : (home : List BlockName) (fetched : List Fetched) (inbox : List Arrival) (unfinished : List Unfinished) (blocks : List BlockName)
    → AreInOrder home (arrive fetched inbox) unfinished blocks → FinishedBefore fetched
fetched_in_order home fetched inbox unfinished blocks order =
    before_arrivals fetched inbox (subst FinishedBefore (sym order.live_is) (before_of order.before (going_of unfinished) (going_one unfinished) order.finished))

-- ---- what goes was finished by the writer
record Front (gone before going live : List Fetched) : Type 0 where
  pub left : List Fetched
  pub apart : before ≡ gone ++ left
  pub rest : live ≡ left ++ going

pub going_is : (unfinished : List Unfinished) → AllByRecursion (λ (s : Fetched). s.finished ≡ false) (going_of unfinished)
going_is [] = tt
going_is (u ∷ unfinished) = elim (cases_Bool u.sent) [
  | inl yes' ↦ rw yes' (refl, tt)
  | inr no' ↦ rw no' tt
]

front_of : (gone before going live : List Fetched) → gone ++ live ≡ before ++ going → AllByRecursion IsFinished gone → AllByRecursion (λ (s : Fetched). s.finished ≡ false) going → Front gone before going live
front_of [] before going live same finished unfinished = record { left = before; apart = refl; rest = same }
front_of (s ∷ gone) [] [] live same finished unfinished = absurd (cc (same))
front_of (s ∷ gone) [] (t ∷ going) live same finished unfinished =
    absurd (let first = ap (λ (l : List Fetched). finished_first l) same in cc (first, finished.0, unfinished.0))
  where
    finished_first : List Fetched → Bool
    finished_first [] = true
    finished_first (r ∷ l) = r.finished
front_of (s ∷ gone) (t ∷ before) going live same finished unfinished =
    let first : s ≡ t = search (same) in
    let rest = front_of gone before going live (ap (drop 1) same) finished.1 unfinished in
    record { left = rest.left; apart = ap (λ r. r ∷ before) (sym first) ∙ ap (λ l. s ∷ l) rest.apart; rest = rest.rest }

all_after : (gone left : List Fetched) → AllByRecursion IsFinished (gone ++ left) → AllByRecursion IsFinished left
all_after [] left all = all
all_after (s ∷ gone) left all = all_after gone left all.1

-- What stands once these went home.
pub releases : (home home' : Buffer Block) (inbox : Buffer Arrival) (segments left gone : List Fetched) (skip skip' : ℕ) (writer : WriterHas) (blocks : List BlockName)
    → segments ≡ gone ++ left → AllByRecursion IsFinished gone → names_of home'.items ≡ names_of home.items ++ blocks_in gone → home'.capacity ≡ home.capacity
    → IsSegments home inbox (record { segments = segments; skip = skip }) writer blocks
    → IsSegments home' inbox (record { segments = left; skip = skip' }) writer blocks × (arrive segments inbox.items ≡ gone ++ arrive left inbox.items)
releases home home' inbox segments left gone skip skip' writer blocks apart finished more capacity is =
    let behind = behind_gone gone left inbox.items finished (subst (λ l. AllFit l inbox.items) apart is.fit) in
    let live = ap (λ l. arrive l inbox.items) apart ∙ behind.1 in
    let front = front_of gone is.order.before (going_of writer.segments) (arrive left inbox.items) (sym live ∙ is.order.live_is) finished (going_is writer.segments) in (
      record {
        fit = behind.0;
        fronted = is.fronted;
        order = record {
          before = front.left;
          live_is = front.rest;
          finished = all_after gone front.left (subst (AllByRecursion IsFinished) front.apart is.order.finished);
          unsent = is.order.unsent;
          placed = λ weight.
              let had = is.order.placed weight in
              let split = ap (λ l. weigh weight (blocks_in l)) front.apart ∙ ap (weigh weight) (map-append (λ (s : Fetched). block_in s.label) gone front.left) ∙ weigh-append weight (blocks_in gone) (blocks_in front.left) in
              let homes = ap (weigh weight) more ∙ weigh-append weight (names_of home.items) (blocks_in gone) in
              omega arith;
        };
        home_room = capacity ∙ is.home_room;
        inbox_room = is.inbox_room;
      },
      live,
    )

pub release_has_room : (home : Buffer Block) (inbox : Buffer Arrival) (reader : ReaderHas) (writer : WriterHas) (blocks : List BlockName)
    → IsSegments home inbox reader writer blocks → length home.items + length reader.segments ≤ home.capacity
release_has_room home inbox reader writer blocks is =
    let few = live_few (names_of home.items) (arrive reader.segments inbox.items) writer.segments blocks is.order in
    let more = arrive_no_fewer reader.segments inbox.items in
    let n : length (names_of home.items) ≡ length home.items = length-map home.items _ in let room = is.home_room in
    omega arith

-- those that went home stand behind those that were there
pub gone_home : (home home' : List BlockName) (segments gone left : List Fetched) → segments ≡ gone ++ left → home' ++ blocks_in left ≡ home ++ blocks_in segments → home' ≡ home ++ blocks_in gone
gone_home home home' segments gone left apart same =
    append_cancel_right home' (home ++ blocks_in gone) (blocks_in left)
    (same ∙ ap (λ l. home ++ blocks_in l) apart ∙ ap (λ l. home ++ l) (map-append (λ (s : Fetched). block_in s.label) gone left) ∙ sym (append_assoc home (blocks_in gone) (blocks_in left)))

-- What a chain's release makes of what the two ends share.
pub record Leaves (home home' : Buffer Block) (inbox : Buffer Arrival) (reader reader' : ReaderHas) (writer : WriterHas) (blocks : List BlockName) (n : ℕ) : Type 0 where
  pub stands : IsSegments home' inbox reader' writer blocks
  pub gone : List Fetched
  pub fetched : reader.segments ≡ gone ++ reader'.segments
  pub live : arrive reader.segments inbox.items ≡ gone ++ arrive reader'.segments inbox.items
  pub finished : AllByRecursion IsFinished gone
  pub skip : reader.skip + n ≡ length (bytes_in gone) + reader'.skip
  pub within : reader'.skip ≤ first_len (arrive reader'.segments inbox.items)
  pub stays : first_goes reader'.skip reader'.segments ≡ false
  pub home_is : names_of home'.items ≡ names_of home.items ++ blocks_in gone

pub leaves : (home home' : Buffer Block) (inbox : Buffer Arrival) (reader : ReaderHas) (chain chain' : ChainState) (writer : WriterHas) (blocks : List BlockName) (n : ℕ)
    → reader_has chain ≡ reader → all_fetched chain'.links ≡ left_after (chain.skip + n) (all_fetched chain.links) → chain'.skip ≡ skip_after (chain.skip + n) (all_fetched chain.links)
    → chain'.skip ≤ first_len (all_fetched chain'.links)
    → names_of home'.items ++ blocks_in (all_fetched chain'.links) ≡ names_of home.items ++ blocks_in (all_fetched chain.links) → home'.capacity ≡ home.capacity
    → IsSegments home inbox reader writer blocks → Leaves home home' inbox reader (reader_has chain') writer blocks n
leaves home home' inbox reader chain chain' writer blocks n same links skip within homes capacity is =
    subst (λ r. Leaves home home' inbox r (reader_has chain') writer blocks n) same (
    let segments : List Fetched = all_fetched chain.links in let left : List Fetched = all_fetched chain'.links in
    let g = gone (chain.skip + n) segments in
    let apart : segments ≡ g.gone ++ left = g.apart ∙ ap (λ l. g.gone ++ l) (sym links) in
    let more = gone_home (names_of home.items) (names_of home'.items) segments g.gone left apart homes in
    let all = releases home home' inbox segments left g.gone chain.skip chain'.skip writer blocks apart g.finished more capacity (subst (λ r. IsSegments home inbox r writer blocks) (sym same) is) in
    let counted = g.skip in
    record {
      stands = all.0;
      gone = g.gone;
      fetched = apart;
      live = all.1;
      finished = g.finished;
      skip = omega arith;
      within = first_arrives left inbox.items chain'.skip within all.0.fit;
      stays = ap (λ k. first_goes k left) skip ∙ ap (first_goes (skip_after (chain.skip + n) segments)) links ∙ g.stays;
      home_is = more;
    })
