-- What the writer's steps make of what the two ends share.
use Rattle.std.proofs.Common.{◌≡◌, ◌≤◌, ◌<◌, ℕ, true, false, List, [], ◌∷◌, ◌++◌, length, drop, refl, ap, sym, ◌∙◌, subst, arith, Some}
use Rattle.std.specs.Prelude.{slice_get}
use Rattle.std.specs.List.{AllByRecursion}
use Rattle.std.proofs.lemmas.List.{length-append, length-map, map-append, append-nil}
use Rattle.circular_buffer.specs.Buffer.{Buffer, buffer}
use Rattle.seg_block.specs.Numbered.{weigh}
use Rattle.seg_block.specs.declared.block.Block.{Block}
use Rattle.pipe_state.specs.Fetched.{Fetched, AllFit, Fits, arrive, arrived, put}
use Rattle.pipe_state.specs.Released.{BlockName, blocks_in, block_in, name_of, names_of}
use Rattle.pipe_state.specs.Sides.{FillingState, ReaderHas, Unfinished, WriterHas, IsUnsent, going_of, unfinished_of, unsent_of}
use Rattle.pipe_state.specs.Sending.{Tells, committed_in, with_committed}
use Rattle.pipe_state.specs.Segments.{AreFronted, AreInOrder, IsFinished, IsSegments, blocks_of, sent_in, with_next, with_one, without_first}
use Rattle.pipe_state.specs.declared.arrival.Arrival.{Arrival}
use Rattle.pipe_state.proofs.ListLemmas.{all_behind, first_apart}
use Rattle.pipe_state.proofs.InboxLemmas.{puts}
use Rattle.pipe_state.proofs.PlaceLemmas.{weigh-append, counted, none_going, all_unsent, unsent_behind, sent_is, no_more_arrivals, put_fronted, live_few, next_going, next_unsent}

-- What was sent of the writer's first segment, and what the reader has or gets then.
pub record Sends (home : List BlockName) (fetched : List Fetched) (inbox : List Arrival) (before : List Fetched) (blocks : List BlockName) (f : FillingState) (s : Fetched) (a : Arrival) : Type 0 where
  pub fit : AllFit fetched (put inbox a.front a.mark a.end)
  pub fits : Fits (arrive fetched inbox) a.front a.mark a.end
  pub live : arrive fetched (put inbox a.front a.mark a.end) ≡ before ++ s ∷ []
  pub sent : arrive fetched (put inbox a.front a.mark a.end) ≡ sent_in f.sent s (arrive fetched inbox)
  pub fronted : AreFronted (put inbox a.front a.mark a.end)
  pub room : length (put inbox a.front a.mark a.end) ≤ length blocks

pub sends : (home : List BlockName) (fetched : List Fetched) (inbox : List Arrival) (unfinished rest : List Unfinished) (blocks : List BlockName) (f : FillingState) (s : Fetched) (a : Arrival)
    → unfinished ≡ unfinished_of f ∷ rest → Tells f s a → AllFit fetched inbox → AreFronted inbox → (order : AreInOrder home (arrive fetched inbox) unfinished blocks)
    → Sends home fetched inbox order.before blocks f s a
sends home fetched inbox unfinished rest blocks f s a is told fit fronted order =
    let before : List Fetched = order.before in
    let live : arrive fetched inbox ≡ before ++ going_of (unfinished_of f ∷ []) = order.live_is ∙ ap (λ us. before ++ going_of us) is in
    let fits : Fits (arrive fetched inbox) a.front a.mark a.end = subst (λ l. Fits l a.front a.mark a.end) (sym live) (told.fits before) in
    let p = puts fetched inbox a.front a.mark a.end fit fits in
    let live' : arrive fetched (put inbox a.front a.mark a.end) ≡ before ++ s ∷ [] = p.then ∙ ap (λ l. arrived l a.front a.mark a.end) live ∙ told.then before in
    let all = put_fronted inbox a.front a.mark a.end fronted in
    let few = no_more_arrivals fetched (put inbox a.front a.mark a.end) all p.fit in
    let count = counted home before unfinished blocks order.placed in
    let one = ap length is in let more = ap length live' in let long = length-append before (s ∷ []) in
    record {
      fit = p.fit;
      fits = fits;
      live = live';
      sent = live' ∙ sym (sent_is before s (unfinished_of f)) ∙ ap (sent_in f.sent s) (sym live);
      fronted = all;
      room = omega arith;
    }

-- the first is finished
pub first_finished : (home : List BlockName) (fetched : List Fetched) (inbox : List Arrival) (unfinished : List Unfinished) (blocks : List BlockName) (f : FillingState) (s : Fetched) (a : Arrival)
    → unfinished ≡ unfinished_of f ∷ drop 1 unfinished → s.finished ≡ true → s.label ≡ f.label → (order : AreInOrder home (arrive fetched inbox) unfinished blocks)
    → Sends home fetched inbox order.before blocks f s a → AreInOrder home (arrive fetched (put inbox a.front a.mark a.end)) (drop 1 unfinished) blocks
first_finished home fetched inbox unfinished blocks f s a is finished label order sent =
    let before : List Fetched = order.before in let rest : List Unfinished = drop 1 unfinished in
    let unsent = unsent_behind (unfinished_of f) rest (subst (λ us. AllByRecursion IsUnsent (unsent_of us)) is order.unsent) in
    record {
      before = before ++ s ∷ [];
      live_is = sent.live ∙ sym (append-nil (before ++ s ∷ [])) ∙ ap (λ g. (before ++ s ∷ []) ++ g) (sym (none_going rest unsent));
      finished = all_behind IsFinished before s order.finished finished;
      unsent = all_unsent rest unsent;
      placed = λ weight.
          let had = order.placed weight in
          let split = ap (weigh weight) (map-append (λ (t : Fetched). block_in t.label) before (s ∷ [])) ∙ weigh-append weight (blocks_in before) (blocks_in (s ∷ [])) in
          let name = ap (λ l. weight (block_in l)) label in
          let first = ap (λ us. weigh weight (blocks_of us)) is in
          omega arith;
    }

-- ---- the steps, whole
pub sends_first : (home : Buffer Block) (inbox : Buffer Arrival) (reader : ReaderHas) (writer : WriterHas) (blocks : List BlockName) (f : FillingState) (s : Fetched) (a : Arrival)
    → writer.segments ≡ unfinished_of f ∷ drop 1 writer.segments → Tells f s a → (is : IsSegments home inbox reader writer blocks)
    → Sends (names_of home.items) reader.segments inbox.items is.order.before blocks f s a
sends_first home inbox reader writer blocks f s a first told is =
    sends (names_of home.items) reader.segments inbox.items writer.segments (drop 1 writer.segments) blocks f s a first told is.fit is.fronted is.order

pub finishes : (home : Buffer Block) (inbox : Buffer Arrival) (reader : ReaderHas) (writer : WriterHas) (blocks : List BlockName) (f : FillingState) (a : Arrival)
    → writer.segments ≡ unfinished_of f ∷ drop 1 writer.segments → Tells f (committed_in f true) a → IsSegments home inbox reader writer blocks
    → IsSegments home (buffer (put inbox.items a.front a.mark a.end) inbox.capacity) reader (without_first writer) blocks
finishes home inbox reader writer blocks f a first told is =
    let sent = sends_first home inbox reader writer blocks f (committed_in f true) a first told is in
    record {
      fit = sent.fit;
      fronted = sent.fronted;
      order = first_finished (names_of home.items) reader.segments inbox.items writer.segments blocks f (committed_in f true) a first refl refl is.order sent;
      home_room = is.home_room;
      inbox_room = is.inbox_room;
    }

pub first_is : (f : FillingState) (private shared : WriterHas) → private ≡ shared → private.segments ≡ unfinished_of f ∷ drop 1 private.segments → shared.segments ≡ unfinished_of f ∷ drop 1 shared.segments
first_is f private shared same first = subst (λ (w : WriterHas). w.segments ≡ unfinished_of f ∷ drop 1 w.segments) same first

pub only_is : (f : FillingState) (private shared : WriterHas) → private ≡ shared → private.segments ≡ unfinished_of f ∷ [] → shared.segments ≡ unfinished_of f ∷ []
only_is f private shared same only = subst (λ (w : WriterHas). w.segments ≡ unfinished_of f ∷ []) same only

pub only_first : (f : FillingState) (writer : WriterHas) → writer.segments ≡ unfinished_of f ∷ [] → writer.segments ≡ unfinished_of f ∷ drop 1 writer.segments
only_first f writer only = only ∙ ap (λ us. unfinished_of f ∷ drop 1 us) (sym only)

pub commits : (home : Buffer Block) (inbox : Buffer Arrival) (reader : ReaderHas) (writer : WriterHas) (blocks : List BlockName) (f : FillingState) (a : Arrival)
    → writer.segments ≡ unfinished_of f ∷ [] → Tells f (committed_in f false) a → IsSegments home inbox reader writer blocks
    → IsSegments home (buffer (put inbox.items a.front a.mark a.end) inbox.capacity) reader (with_one (with_committed f) writer) blocks
commits home inbox reader writer blocks f a only told is =
    let sent = sends_first home inbox reader writer blocks f (committed_in f false) a (only_first f writer only) told is in
    record {
      fit = sent.fit;
      fronted = sent.fronted;
      order = record {
        before = is.order.before;
        live_is = sent.live;
        finished = is.order.finished;
        unsent = tt;
        placed = λ weight. let had = is.order.placed weight in let one = ap (λ us. weigh weight (blocks_of us)) only in omega arith;
      };
      home_room = is.home_room;
      inbox_room = is.inbox_room;
    }

pub home_apart : (home home' : Buffer Block) (b : Block) (f : FillingState) → slice_get home.items 0 ≡ Some b → home' ≡ buffer (drop 1 home.items) home.capacity → block_in f.label ≡ name_of b
    → names_of home.items ≡ block_in f.label ∷ names_of home'.items
home_apart home home' b f first left name =
    ap names_of (first_apart home.items b first) ∙ ap (λ n. n ∷ names_of (drop 1 home.items)) (sym name) ∙ ap (λ h. block_in f.label ∷ names_of h.items) (sym left)

-- What stands once a block at home is the writer's.
pub takes : (home home' : Buffer Block) (inbox : Buffer Arrival) (reader : ReaderHas) (writer : WriterHas) (blocks : List BlockName) (b : Block) (f : FillingState) (hint : ℕ)
    → slice_get home.items 0 ≡ Some b → home' ≡ buffer (drop 1 home.items) home.capacity → block_in f.label ≡ name_of b → f.bytes ≡ [] → f.sent ≡ false
    → IsSegments home inbox reader writer blocks → IsSegments home' inbox reader (with_next f hint writer) blocks
takes home home' inbox reader writer blocks b f hint first left name none unsent is =
    let u : Unfinished = unfinished_of f in
    let apart : names_of home.items ≡ block_in f.label ∷ names_of home'.items = home_apart home home' b f first left name in
    record {
      fit = is.fit;
      fronted = is.fronted;
      order = record {
        before = is.order.before;
        live_is = is.order.live_is ∙ ap (λ g. is.order.before ++ g) (sym (next_going writer.segments u (unsent, none)));
        finished = is.order.finished;
        unsent = next_unsent writer.segments u (unsent, none) is.order.unsent;
        placed = λ weight.
            let had = is.order.placed weight in let home_weight = ap (weigh weight) apart in
            let split = ap (weigh weight) (map-append (λ (v : Unfinished). block_in v.label) writer.segments (u ∷ [])) ∙ weigh-append weight (blocks_of writer.segments) (blocks_of (u ∷ [])) in
            omega arith;
      };
      home_room = ap (λ h. h.capacity) left ∙ is.home_room;
      inbox_room = is.inbox_room;
    }

pub gives : (home home' : Buffer Block) (inbox : Buffer Arrival) (reader : ReaderHas) (writer : WriterHas) (blocks : List BlockName) (b : Block) (f : FillingState)
    → writer.segments ≡ unfinished_of f ∷ [] → f.sent ≡ false → name_of b ≡ block_in f.label → home' ≡ buffer (home.items ++ b ∷ []) home.capacity
    → IsSegments home inbox reader writer blocks → IsSegments home' inbox reader (without_first writer) blocks
gives home home' inbox reader writer blocks b f only unsent name more is =
    let none : drop 1 writer.segments ≡ [] = ap (drop 1) only in
    let going : going_of writer.segments ≡ [] = ap going_of only ∙ (rw unsent refl) in
    record {
      fit = is.fit;
      fronted = is.fronted;
      order = record {
        before = is.order.before;
        live_is = is.order.live_is ∙ ap (λ g. is.order.before ++ g) (going ∙ sym (ap going_of none));
        finished = is.order.finished;
        unsent = subst (λ us. AllByRecursion IsUnsent (unsent_of us)) (sym none) tt;
        placed = λ weight.
            let had = is.order.placed weight in let one = ap (λ us. weigh weight (blocks_of us)) only in let left = ap (λ us. weigh weight (blocks_of us)) none in
            let split = ap (λ h. weigh weight (names_of h.items)) more ∙ ap (weigh weight) (map-append name_of home.items (b ∷ [])) ∙ weigh-append weight (names_of home.items) (name_of b ∷ []) in
            let same = ap weight name in
            omega arith;
      };
      home_room = ap (λ h. h.capacity) more ∙ is.home_room;
      inbox_room = is.inbox_room;
    }

pub home_has_room : (home : Buffer Block) (inbox : Buffer Arrival) (reader : ReaderHas) (writer : WriterHas) (blocks : List BlockName) (f : FillingState)
    → writer.segments ≡ unfinished_of f ∷ [] → IsSegments home inbox reader writer blocks → length home.items < home.capacity
home_has_room home inbox reader writer blocks f only is =
    let count = counted (names_of home.items) is.order.before writer.segments blocks is.order.placed in
    let one = ap length only in let n : length (names_of home.items) ≡ length home.items = length-map home.items _ in let room = is.home_room in
    omega arith

pub fetches : (home : Buffer Block) (inbox : Buffer Arrival) (reader : ReaderHas) (writer : WriterHas) (blocks : List BlockName)
    → IsSegments home inbox reader writer blocks → IsSegments home (buffer [] inbox.capacity) (record { segments = arrive reader.segments inbox.items; skip = reader.skip }) writer blocks
fetches home inbox reader writer blocks is = record {
  fit = tt;
  fronted = tt;
  order = is.order;
  home_room = is.home_room;
  inbox_room = is.inbox_room;
}

pub fetch_has_room : (home : Buffer Block) (inbox : Buffer Arrival) (reader : ReaderHas) (writer : WriterHas) (blocks : List BlockName)
    → IsSegments home inbox reader writer blocks → length (arrive reader.segments inbox.items) ≤ length blocks
fetch_has_room home inbox reader writer blocks is =
    let few = live_few (names_of home.items) (arrive reader.segments inbox.items) writer.segments blocks is.order in omega arith
