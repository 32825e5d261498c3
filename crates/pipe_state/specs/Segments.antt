-- What the two ends of a pipe share of its segments.
use Rattle.std.specs.Prelude.{◌≡◌, ◌≤◌, ◌<◌, ◌+◌, ◌-◌, ℕ, Bool, true, false, IsSome, List, [], ◌∷◌, ◌++◌, length, drop, map, max}
use Rattle.std.specs.List.{AllByRecursion}
use Rattle.circular_buffer.specs.Buffer.{Buffer}
use Rattle.seg_block.specs.Numbered.{weigh}
use Rattle.seg_block.specs.declared.block.Block.{Block}
use Rattle.pipe_state.specs.Fetched.{Fetched, AllFit, arrive}
use Rattle.pipe_state.specs.Chains.{first_len}
use Rattle.pipe_state.specs.Released.{BlockName, block_in, blocks_in, bytes_in, first_goes, names_of}
use Rattle.pipe_state.specs.Sending.{committed_in}
use Rattle.pipe_state.specs.Sides.{FillingState, ReaderHas, Unfinished, WriterHas, IsUnsent, going_of, unfinished_of, unsent_of}
use Rattle.pipe_state.specs.declared.arrival.Arrival.{Arrival}

-- The blocks at home, the segments that have bytes for the reader or had some, in order, what each end has, by which names
-- the ends are known, and the blocks of which the pipe was made.
pub record SegmentsState : Type 0 where
  pub home : List BlockName
  pub live : List Fetched
  pub reader : ReaderHas
  pub writer : WriterHas
  pub reader_name : ℕ
  pub writer_name : ℕ
  pub blocks : List BlockName

abbrev pub reads_none : ReaderHas
reads_none = record { segments = []; skip = 0 }

abbrev pub writes_none : WriterHas
writes_none = record { segments = []; hint = 0 }

-- all blocks are at home
abbrev pub all_home : List BlockName → ℕ → ℕ → SegmentsState
all_home blocks reader writer = record {
  home = blocks;
  live = [];
  reader = reads_none;
  writer = writes_none;
  reader_name = reader;
  writer_name = writer;
  blocks = blocks;
}

abbrev pub blocks_of : List Unfinished → List BlockName
blocks_of unfinished = map (λ u. block_in u.label) unfinished

-- Each block is in one place: at home, with a segment that the writer has finished, or with one that it has not.
abbrev pub ArePlaced : List BlockName → List Fetched → List Unfinished → List BlockName → Type 0
ArePlaced home finished unfinished blocks =
    (weight : BlockName → ℕ) → weigh weight home + weigh weight (blocks_in finished) + weigh weight (blocks_of unfinished) ≡ weigh weight blocks

abbrev pub IsFinished : Fetched → Type 0
IsFinished segment = segment.finished ≡ true

-- The writer has finished all but the last, or all; what it has not finished besides is unsent; and each block is in one place.
pub record AreInOrder (home : List BlockName) (live : List Fetched) (unfinished : List Unfinished) (blocks : List BlockName) : Type 0 where
  pub before : List Fetched
  pub live_is : live ≡ before ++ going_of unfinished
  pub finished : AllByRecursion IsFinished before
  pub unsent : AllByRecursion IsUnsent (unsent_of unfinished)
  pub placed : ArePlaced home before unfinished blocks

-- Where the writer has finished it, it has too little room for so many bytes.
abbrev pub IsFilled : ℕ → Fetched → Type 0
IsFilled hint segment = segment.finished ≡ true → segment.label.size - hint < length segment.bytes

abbrev pub AreFilled : ℕ → List Fetched → Type 0
AreFilled hint segments = AllByRecursion (IsFilled hint) segments

-- all but the first come with their front
abbrev pub AreFronted : List Arrival → Type 0
AreFronted arrivals = AllByRecursion (λ a. IsSome a.front) (drop 1 arrivals)

pub record IsSegments (home : Buffer Block) (inbox : Buffer Arrival) (reader : ReaderHas) (writer : WriterHas) (blocks : List BlockName) : Type 0 where
  pub fit : AllFit reader.segments inbox.items
  pub fronted : AreFronted inbox.items
  pub order : AreInOrder (names_of home.items) (arrive reader.segments inbox.items) writer.segments blocks
  pub home_room : home.capacity ≡ length blocks
  pub inbox_room : inbox.capacity ≡ length blocks

-- the segments once one is in this state, which the reader had or was to get, or which is the next
abbrev pub sent_in : Bool → Fetched → List Fetched → List Fetched
sent_in false segment live = live ++ segment ∷ []
sent_in true segment [] = []
sent_in true segment (s ∷ []) = segment ∷ []
sent_in true segment (s ∷ t ∷ live) = s ∷ sent_in true segment (t ∷ live)

abbrev pub without_first : WriterHas → WriterHas
without_first writer = record writer { segments = drop 1 writer.segments }

abbrev pub with_one : FillingState → WriterHas → WriterHas
with_one f writer = record writer { segments = unfinished_of f ∷ [] }

-- once the writer has one more, for want of room for this hint
abbrev pub with_next : FillingState → ℕ → WriterHas → WriterHas
with_next f hint writer = record { segments = writer.segments ++ unfinished_of f ∷ []; hint = max writer.hint hint }

-- It is one of these blocks: whatever weight a block has, they weigh no less.
abbrev pub IsOneOf : BlockName → List BlockName → Type 0
IsOneOf block blocks = (weight : BlockName → ℕ) → weight block ≤ weigh weight blocks

-- the segments lie in these blocks
abbrev pub AreOf : List BlockName → List Fetched → Type 0
AreOf blocks segments = AllByRecursion (λ s. IsOneOf (block_in s.label) blocks) segments

-- each block has so many bytes
abbrev pub AreSized : ℕ → List BlockName → Type 0
AreSized size blocks = AllByRecursion (λ (b : BlockName). b.size ≡ size) blocks

-- once the draft of the first unfinished segment is committed, and that is finished
abbrev pub with_finished : FillingState → SegmentsState → SegmentsState
with_finished f s = record s { live = sent_in f.sent (committed_in f true) s.live; writer = without_first s.writer }

-- The first block at home is this segment now, of which nothing was used.
pub record Starts (home : List BlockName) (f : FillingState) (left : List BlockName) : Type 0 where
  pub block : home ≡ block_in f.label ∷ left
  pub empty : (f.bytes ≡ []) × (f.draft ≡ []) × (f.sent ≡ false)

-- The reader gave up so many bytes: the first segments of which it gave up all, and that are finished, went home, and the next is
-- not finished, or has bytes that it did not give up.
pub record Releases (n : ℕ) (before after : SegmentsState) : Type 0 where
  pub gone : List Fetched
  pub fetched : before.reader.segments ≡ gone ++ after.reader.segments
  pub live : before.live ≡ gone ++ after.live
  pub finished : AllByRecursion IsFinished gone
  pub skip : before.reader.skip + n ≡ length (bytes_in gone) + after.reader.skip
  pub within : after.reader.skip ≤ first_len after.live
  pub stays : first_goes after.reader.skip after.reader.segments ≡ false
  pub home : after.home ≡ before.home ++ blocks_in gone
  pub kept : after ≡ record before { home = after.home; live = after.live; reader = after.reader }

-- Nothing else changed than what the reader gets, and what the writer has.
abbrev pub SendsOnly : SegmentsState → SegmentsState → Type 0
SendsOnly before after = after ≡ record before { live = after.live; writer = after.writer }

-- Nothing else changed than what is at home, what the reader gets, and what the writer has.
abbrev pub EndsOnly : SegmentsState → SegmentsState → Type 0
EndsOnly before after = after ≡ record before { home = after.home; live = after.live; writer = after.writer }
