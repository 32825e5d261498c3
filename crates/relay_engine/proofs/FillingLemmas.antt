-- The parts of a step of a filler on any pipe, put together.
use Rattle.std.proofs.Common.{◌≡◌, ◌⊎◌, ◌≢◌, ◌<◌, ◌≤◌, ◌+◌, ◌-◌, ◌^◌, ℕ, Bool, true, false, List, [], ◌∷◌, ◌++◌, length, Some, None, Result, Ok, Err, refl, sym, ap, ◌∙◌, subst, append-nil, arith, inl, inr}
use Rattle.std.proofs.lemmas.Bool.{eqb-true}
use Rattle.std.proofs.lemmas.List.{length-append}
use Rattle.std.proofs.KnownBytes.{Consumes-nil}
use Rattle.std.specs.List.{AllByRecursion}
use Rattle.std.specs.Io.KnownBytes.{IsAtEnd}
use Rattle.edge_core.specs.Device.{SourceState, Fails, Gives}
use Rattle.relay_model.specs.declared.ending.FillEnd.{FillEnd}
use Rattle.relay_model.specs.declared.ending.FillEnd.TheVariants as taking
use Rattle.pipe_core.specs.declared.reply.FlushReply.{FlushReply}
use Rattle.pipe_core.specs.declared.reply.FlushReply.TheVariants as flush
use Rattle.pipe_core.specs.History.{Run, Call, Commit, EndWriter, Read, Advance, EndReader, CancelRead, CancelFlush, bytes_of, seat_of}
use Rattle.pipe_core.specs.Flushes.{reply_to_commit}
use Rattle.pipe_state.specs.declared.options.Options.{Options}
use Rattle.pipe_turns.specs.declared.faults.TryFault.{TryFault}
use Rattle.relay_engine.specs.Ends.{GivesOneMore}
use Rattle.relay_engine.specs.Filler.{written}
use Rattle.relay_engine.specs.Later.{Later, CallsLater, HearsLater}
use Rattle.relay_engine.specs.Filling.{Drafting, FillingState, DraftsSome, Drafts, HasTaken, Commits, IsGranted, Keeps, Settles, CommitsRead, TellsOwed, TakesBy, FillsOn, moves_nothing, owes}
use Rattle.relay_engine.specs.Tally.{Spends, Tally}
use Rattle.relay_engine.specs.declared.filling.Filled.{Filled}
use Rattle.relay_engine.specs.declared.filling.Filled.TheVariants.{Moved, Paused, Full, Ended}
use Rattle.relay_engine.proofs.LaterLemmas.{later_as, later_here, later_on, later_with}

-- ---- what others do

pub written_under : (others : Call → Type 0) → ((call : Call) → others call → seat_of call ≢ 0) → (more h : List Call) → AllByRecursion others more → written (more ++ h) ≡ written h
written_under others apart [] h all = refl
written_under others apart (Commit runs ∷ more) h all = absurd (apart (Commit runs) all.0 refl)
written_under others apart (EndWriter code ∷ more) h all = written_under others apart more h all.1
written_under others apart (Read n ∷ more) h all = written_under others apart more h all.1
written_under others apart (Advance c e ∷ more) h all = written_under others apart more h all.1
written_under others apart (EndReader code ∷ more) h all = written_under others apart more h all.1
written_under others apart (CancelRead ∷ more) h all = written_under others apart more h all.1
written_under others apart (CancelFlush ∷ more) h all = written_under others apart more h all.1

pub written_later : (others : Call → Type 0) → ((call : Call) → others call → seat_of call ≢ 0) → (h k : List Call) → Later others h k → written k ≡ written h
written_later others apart h k later = ap written later.is ∙ written_under others apart later.between h later.all

-- the calls of others, and commits
abbrev pub OrCommits : (Call → Type 0) → Call → Type 0
OrCommits others (Commit runs) = Unit {0}
OrCommits others call = others call

or_commits : (others : Call → Type 0) (call : Call) → others call → OrCommits others call
or_commits others (Commit runs) is = tt
or_commits others (EndWriter code) is = is
or_commits others (Read n) is = is
or_commits others (Advance c e) is = is
or_commits others (EndReader code) is = is
or_commits others CancelRead is = is
or_commits others CancelFlush is = is

pub later_or_commits : (others : Call → Type 0) (h k : List Call) → Later others h k → Later (OrCommits others) h k
later_or_commits others h k later = later_as others (OrCommits others) (or_commits others) h k later

-- behind others' calls a commit
later_commit : (others : Call → Type 0) (h k : List Call) (runs : List Run) → Later others h k → Later (OrCommits others) h (Commit runs ∷ k)
later_commit others h k runs later = later_with (OrCommits others) h k (Commit runs) tt (later_or_commits others h k later)

-- ---- a commit of the draft

pub small : {P : Type 0} (at : P → List Call → Type 0) (writer : P → Drafting) (f : FillingState) (p : P) → f.taken ≤ f.limit → f.limit ≤ 2 ^ 40 → (h : List Call) × (bytes : List ℕ) × HasTaken at writer f p h bytes
    → (h : List Call) × at p h × (length (written h) + length (bytes_of (writer p).draft) ≤ 2 ^ 62)
small at writer f p within limit holds =
    let t = holds.2 in (holds.0, t.stands, omega (arith, ap length t.all, length-append (written holds.0) (bytes_of (writer p).draft), t.counted, within, limit))

module _ {P : Type 0} (at : P → List Call → Type 0) (others : Call → Type 0) (writer : P → Drafting) (apart : (call : Call) → others call → seat_of call ≢ 0) where
  pub committed : (options : Options) (reply answer : FlushReply) (inside f : FillingState) (owed : Bool) (p p' : P) → inside ≡ f → answer ≡ reply → (writer p').draft ≡ [] → Spends 0 (writer p).tally (writer p').tally
      → ((h : List Call) → at p h → CallsLater at others h (Commit (writer p).draft) (λ found. answer ≡ reply_to_commit options.pause options.resume found (writer p).draft) p')
      → (h : List Call) (bytes : List ℕ) → HasTaken at writer f p h bytes → Commits at others writer options reply p (record inside { owed = owed; drafted = 0 }) p' h bytes
  committed options reply answer inside f owed p p' is same none spent calls h bytes t =
      let c = calls h t.stands in
      record {
        found = c.found;
        later = c.later;
        replied = sym same ∙ c.so;
        holds = record {
          stands = c.stands;
          all =
              ap (λ (x : List Run). (written c.found ++ bytes_of (writer p).draft) ++ bytes_of x) none
              ∙ append-nil (written c.found ++ bytes_of (writer p).draft)
              ∙ ap (λ (x : List ℕ). x ++ bytes_of (writer p).draft) (written_later others apart h c.found c.later)
              ∙ t.all;
          counted = ap (λ x. x.taken) is ∙ t.counted;
          drafted = sym (ap (λ (x : List Run). length (bytes_of x)) none);
          settled = λ unowed. none;
        };
        spent = spent;
      }

  pub kept : (f : FillingState) (p p' : P) → (writer p').draft ≡ (writer p).draft → ((h : List Call) → at p h → HearsLater at others h p') → (h : List Call) (bytes : List ℕ) → HasTaken at writer f p h bytes
      → Keeps at others writer f p' h bytes
  kept f p p' same hears h bytes t =
      let c = hears h t.stands in
      record {
        found = c.found;
        later = c.later;
        holds = record {
          stands = c.stands;
          all = ap (λ (x : List ℕ). x ++ bytes_of (writer p').draft) (written_later others apart h c.found c.later) ∙ ap (λ (x : List Run). written h ++ bytes_of x) same ∙ t.all;
          counted = t.counted;
          drafted = t.drafted ∙ sym (ap (λ (x : List Run). length (bytes_of x)) same);
          settled = λ unowed. same ∙ t.settled unowed;
        };
      }

-- ---- what an answer says

-- The source lost these bytes, or what the answer says.
abbrev pub LosesBy : {F : Type 0} → Result (Filled F) TryFault → SourceState → List ℕ → SourceState → Type 0
LosesBy (Ok (Full full)) before taken after = (taken ≡ []) × Gives before [] after
LosesBy (Ok (Ended taking.End)) before taken after = (taken ≡ []) × Gives before [] after × IsAtEnd after.left
LosesBy (Ok (Ended taking.Fault)) before taken after = (taken ≡ []) × Fails before after
LosesBy (Ok (Ended taking.Long)) before taken after = (taken ≡ []) × GivesOneMore before after
LosesBy answer before taken after = Gives before taken after

-- What is so of the filler and of its history where the taking has ended.
abbrev pub EndsFor : {F : Type 0} → Options → Result (Filled F) TryFault → FillingState → List Call → Type 0
EndsFor options (Ok (Ended taking.Long)) f now = f.taken ≡ f.limit
EndsFor options (Ok (Ended (taking.Gone code))) f now =
    (canceled : Bool) × (runs : List Run) × (found : List Call) × (now ≡ Commit runs ∷ found) × (flush.Ready canceled (Some code) ≡ reply_to_commit options.pause options.resume found runs)
EndsFor options answer f now = Unit {0}

-- whether what is told is the answer to a commit, and the filler goes on
abbrev pub tells_commit : {F : Type 0} → Result (Filled F) TryFault → Bool
tells_commit (Ok (Moved n)) = true
tells_commit (Ok (Paused unexamined)) = true
tells_commit answer = false

gives_nothing : (s s' : SourceState) → s' ≡ s → Gives s [] s'
gives_nothing s s' same = rw same (record { given = Consumes-nil s.left; unfailed = refl })

-- ---- the parts of a step

module _ {P F : Type 0} (at : P → List Call → Type 0) (others : Call → Type 0) (writer : P → Drafting) (refuses : TryFault → P → P → Type 0) (options : Options) (is_full : F → P → P → Type 0) where
  -- what was read gave no byte that is taken
  pub ended_on : (inside f : FillingState) (p q q2 : P) (s s' : SourceState) (end : FillEnd) → inside ≡ f → inside.taken ≤ inside.limit → IsGranted (writer p) (writer q) → (writer q2).tally ≡ (writer q).tally → ((h : List Call) → at q h → at q2 h)
      → Drafts (inside.limit - inside.taken) s (writer q).draft (Err end) (writer q2).draft s' → (h : List Call) (bytes : List ℕ) → Keeps at others writer f q h bytes → TakesBy at others writer refuses options is_full (Ok (Ended end)) f p s f q2 s' h bytes
  ended_on inside f p q q2 s s' end same_f within granted tally stands drafts h bytes k = each end drafts
    where
      room : IsGranted (writer p) (writer q2)
      room = subst (λ (t : Tally). Spends 0 (writer p).tally t ⊎ ((writer p).room ≡ 0) × Spends 1 (writer p).tally t) (sym tally) granted

      still : (writer q2).draft ≡ (writer q).draft → Keeps at others writer f q2 h bytes
      still same = record {
        found = k.found;
        later = k.later;
        holds = record {
          stands = stands k.found k.holds.stands;
          all = ap (λ (x : List Run). written k.found ++ bytes_of x) same ∙ k.holds.all;
          counted = k.holds.counted;
          drafted = k.holds.drafted ∙ sym (ap (λ (x : List Run). length (bytes_of x)) same);
          settled = λ unowed. same ∙ k.holds.settled unowed;
        };
      }

      each : (e : FillEnd) → Drafts (inside.limit - inside.taken) s (writer q).draft (Err e) (writer q2).draft s' → TakesBy at others writer refuses options is_full (Ok (Ended e)) f p s f q2 s' h bytes
      each taking.End d = (room, (d.1, d.2), still d.0)
      each taking.Fault d = (room, d.1, still d.0)
      each taking.Long d = (room, (omega (arith, d.1, within, ap (λ x. x.taken) same_f, ap (λ x. x.limit) same_f), d.2), still d.0)
      each (taking.Gone code) d = absurd d

  -- what was read is drafted, and owed
  pub read_in : (inside f : FillingState) (q q2 : P) (s s' : SourceState) (left n : ℕ) → inside ≡ f → f.owed ≡ false → ((h : List Call) → at q h → at q2 h) → (k : List Call) (bytes : List ℕ)
      → HasTaken at writer f q k bytes → (d : DraftsSome left s (writer q).draft n (writer q2).draft s') → HasTaken at writer (record { limit = inside.limit; taken = inside.taken + n; owed = true; drafted = n }) q2 k (bytes ++ d.bytes)
  read_in inside f q q2 s s' left n is unowed stands k bytes t d =
      let none = t.settled unowed in
      let before : written k ≡ bytes = sym (append-nil (written k)) ∙ ap (λ (x : List Run). written k ++ bytes_of x) (sym none) ∙ t.all in
      let draft : bytes_of (writer q2).draft ≡ d.bytes = d.behind ∙ ap (λ (x : List Run). bytes_of x ++ d.bytes) none in
      record {
        stands = stands k t.stands;
        all = ap (λ (x : List ℕ). written k ++ x) draft ∙ ap (λ (x : List ℕ). x ++ d.bytes) before;
        counted = omega (arith, ap (λ x. x.taken) is, t.counted, d.size, length-append bytes d.bytes);
        drafted = d.size ∙ sym (ap length draft);
        settled = λ never. absurd cc;
      }

  -- and the commit of it was answered, or refused
  pub behind_read : (inside f f' : FillingState) (p q q2 p' : P) (s s' : SourceState) (n : ℕ) (answer : Result (Filled F) TryFault) (options2 : Options) → inside ≡ f → options2 ≡ options → (writer q).draft ≡ (writer p).draft → IsGranted (writer p) (writer q) → (writer q2).tally ≡ (writer q).tally
      → (d : DraftsSome (inside.limit - inside.taken) s (writer q).draft n (writer q2).draft s') → (h : List Call) (bytes : List ℕ) (k : List Call) → Later others h k
      → Settles at others writer refuses options2 answer q2 f' p' k (bytes ++ d.bytes) → TakesBy at others writer refuses options is_full answer f p s f' p' s' h bytes
  behind_read inside f f' p q q2 p' s s' n answer options2 same_f same_options same granted tally d h bytes k later settles =
      subst (λ (x : FillingState). TakesBy at others writer refuses options is_full answer x p s f' p' s' h bytes) same_f (each answer (record {
        reader = q2;
        found = k;
        later = later;
        granted = subst (λ (t : Tally). Spends 0 (writer p).tally t ⊎ ((writer p).room ≡ 0) × Spends 1 (writer p).tally t) (sym tally) granted;
        size = n;
        drafts = record { bytes = d.bytes; size = d.size; some = d.some; within = d.within; given = d.given; behind = d.behind ∙ ap (λ (x : List Run). bytes_of x ++ d.bytes) same };
        settles = subst (λ (o : Options). Settles at others writer refuses o answer q2 f' p' k (bytes ++ d.bytes)) same_options settles;
      }))
    where
      each : (a : Result (Filled F) TryFault) → CommitsRead at others writer refuses options a inside p s f' p' s' h bytes → TakesBy at others writer refuses options is_full a inside p s f' p' s' h bytes
      each (Ok (Moved m)) r = r
      each (Ok (Paused unexamined)) r = r
      each (Ok (Full full)) r = absurd r.settles
      each (Ok (Ended taking.End)) r = absurd r.settles
      each (Ok (Ended taking.Fault)) r = absurd r.settles
      each (Ok (Ended taking.Long)) r = absurd r.settles
      each (Ok (Ended (taking.Gone code))) r = r
      each (Err fault) r = inr r

  -- the commit that was owed went through, and there was nothing to tell
  pub record WentThrough (p : P) (settled : FillingState) (p1 : P) (h : List Call) (bytes : List ℕ) : Type 0 where
    pub none : bytes_of (writer p).draft ≡ []
    pub canceled : Bool
    pub commits : Commits at others writer options (flush.Ready canceled None) p settled p1 h bytes

  pub went_through : (settled : FillingState) (p p1 : P) (filled : Filled F) → moves_nothing filled ≡ true → (h : List Call) (bytes : List ℕ) → Settles at others writer refuses options (Ok filled) p settled p1 h bytes → WentThrough p settled p1 h bytes
  went_through settled p p1 (Moved n) nothing h bytes (is, (canceled, c)) = record { none = no_bytes (bytes_of (writer p).draft) (sym is ∙ eqb-true n 0 nothing); canceled = canceled; commits = c }
    where
      no_bytes : (xs : List ℕ) → length xs ≡ 0 → xs ≡ []
      no_bytes [] none = refl
      no_bytes (x ∷ xs) none = absurd cc
  went_through settled p p1 (Paused unexamined) never h bytes settles = absurd cc
  went_through settled p p1 (Full full) never h bytes settles = absurd cc
  went_through settled p p1 (Ended end) never h bytes settles = absurd cc

  pub not_owed : (owed : Bool) (filled : Filled F) → moves_nothing filled ≡ true → owed ≡ owes filled → owed ≡ false
  not_owed owed (Moved n) nothing is = is
  not_owed owed (Paused unexamined) never is = absurd cc
  not_owed owed (Full full) never is = absurd cc
  not_owed owed (Ended end) never is = absurd cc

  pub took_behind : (f settled f' : FillingState) (p p1 p' : P) (s s' : SourceState) (answer : Result (Filled F) TryFault) (options1 : Options) → f.owed ≡ true → options1 ≡ options → settled.limit ≡ f.limit → (h : List Call) (bytes : List ℕ) → (w : WentThrough p settled p1 h bytes)
      → TakesBy at others writer refuses options1 is_full answer settled p1 s f' p' s' (Commit (writer p).draft ∷ w.commits.found) bytes → FillsOn at others writer refuses options is_full f p s answer f' p' s' h bytes
  took_behind f settled f' p p1 p' s s' answer options1 owed same limit h bytes w takes = inr (inr (record {
    owed = owed;
    none = w.none;
    settled = settled;
    limit = limit;
    writer_then = p1;
    canceled = w.canceled;
    commits = w.commits;
    takes = subst (λ (o : Options). TakesBy at others writer refuses o is_full answer settled p1 s f' p' s' (Commit (writer p).draft ∷ w.commits.found) bytes) same takes;
  }))

  -- ---- what a step has taken

  -- what the last call met, where no commit is told
  abbrev pub MetBy : Result (Filled F) TryFault → P → Type 0
  MetBy (Ok (Full full)) p' = (p : P) × is_full full p p'
  MetBy (Err fault) p' = (p : P) × refuses fault p p'
  MetBy answer p' = Unit {0}

  pub record Took (answer : Result (Filled F) TryFault) (f : FillingState) (p : P) (before : SourceState) (f' : FillingState) (p' : P) (after : SourceState) (h : List Call) (bytes : List ℕ) : Type 0 where
    pub taken : List ℕ
    pub now : List Call
    pub later : Later (OrCommits others) h now
    pub holds : HasTaken at writer f' p' now (bytes ++ taken)
    pub loses : LosesBy answer before taken after
    pub ends : EndsFor options answer f' now
    pub met : MetBy answer p'
    pub read : TellsOwed at others writer refuses options answer f p before f' p' after h bytes ⊎ (tells_commit answer ≡ true → 0 < length taken)

  pub took : (f f' : FillingState) (p p' : P) (s s' : SourceState) (answer : Result (Filled F) TryFault) (h : List Call) (bytes : List ℕ) → FillsOn at others writer refuses options is_full f p s answer f' p' s' h bytes → Took answer f p s f' p' s' h bytes
  took f f' p p' s s' answer h bytes fills = elim fills [
    | inl once ↦ takes f p h answer (later_here (OrCommits others) h) once.1
    | inr other ↦ elim other [
      | inl owed ↦ settled p h [] answer (later_here (OrCommits others) h) (gives_nothing s s' owed.unread) (inl owed) (subst (Settles at others writer refuses options answer p f' p' h) (sym (append-nil bytes)) owed.settles)
      | inr behind ↦ takes behind.settled behind.writer_then (Commit (writer p).draft ∷ behind.commits.found) answer (later_commit others h behind.commits.found (writer p).draft behind.commits.later) behind.takes
    ]
  ]
    where
      -- no byte was taken, and no commit made
      still : (k : List Call) (a : Result (Filled F) TryFault) → Later (OrCommits others) h k → (kept : Keeps at others writer f' p' k bytes) → LosesBy a s [] s' → EndsFor options a f' kept.found → MetBy a p' → tells_commit a ≡ false → Took a f p s f' p' s' h bytes
      still k a later kept loses ends met none = record {
        taken = [];
        now = kept.found;
        later = later_on (OrCommits others) h k kept.found later (later_or_commits others k kept.found kept.later);
        holds = subst (HasTaken at writer f' p' kept.found) (sym (append-nil bytes)) kept.holds;
        loses = loses;
        ends = ends;
        met = met;
        read = inr (λ told. let both = sym none ∙ told in absurd cc);
      }

      -- a commit of the draft was made
      by_commit : (q : P) (k : List Call) (taken : List ℕ) (a : Result (Filled F) TryFault) (reply : FlushReply) → Later (OrCommits others) h k → (c : Commits at others writer options reply q f' p' k (bytes ++ taken)) → LosesBy a s taken s' → EndsFor options a f' (Commit (writer q).draft ∷ c.found) → MetBy a p'
          → (TellsOwed at others writer refuses options a f p s f' p' s' h bytes ⊎ (tells_commit a ≡ true → 0 < length taken)) → Took a f p s f' p' s' h bytes
      by_commit q k taken a reply later c loses ends met read = record {
        taken = taken;
        now = Commit (writer q).draft ∷ c.found;
        later = later_on (OrCommits others) h k (Commit (writer q).draft ∷ c.found) later (later_commit others k c.found (writer q).draft c.later);
        holds = c.holds;
        loses = loses;
        ends = ends;
        met = met;
        read = read;
      }

      -- or refused
      settled : (q : P) (k : List Call) (taken : List ℕ) (a : Result (Filled F) TryFault) → Later (OrCommits others) h k → Gives s taken s' → (TellsOwed at others writer refuses options a f p s f' p' s' h bytes ⊎ (tells_commit a ≡ true → 0 < length taken)) → Settles at others writer refuses options a q f' p' k (bytes ++ taken)
          → Took a f p s f' p' s' h bytes
      settled q k taken (Ok (Moved n)) later given read (is, (canceled, c)) = by_commit q k taken (Ok (Moved n)) (flush.Ready canceled None) later c given tt tt read
      settled q k taken (Ok (Paused unexamined)) later given read c = by_commit q k taken (Ok (Paused unexamined)) (flush.Pending unexamined) later c given tt tt read
      settled q k taken (Ok (Full full)) later given read never = absurd never
      settled q k taken (Ok (Ended taking.End)) later given read never = absurd never
      settled q k taken (Ok (Ended taking.Fault)) later given read never = absurd never
      settled q k taken (Ok (Ended taking.Long)) later given read never = absurd never
      settled q k taken (Ok (Ended (taking.Gone code))) later given read (canceled, c) =
          by_commit q k taken (Ok (Ended (taking.Gone code))) (flush.Ready canceled (Some code)) later c given (canceled, (writer q).draft, c.found, refl, c.replied) tt read
      settled q k taken (Err fault) later given read (refused, kept) = record {
        taken = taken;
        now = kept.found;
        later = later_on (OrCommits others) h k kept.found later (later_or_commits others k kept.found kept.later);
        holds = kept.holds;
        loses = given;
        ends = tt;
        met = (q, refused);
        read = read;
      }

      by_read : (f1 : FillingState) (p1 : P) (k : List Call) (a : Result (Filled F) TryFault) → Later (OrCommits others) h k → CommitsRead at others writer refuses options a f1 p1 s f' p' s' k bytes → Took a f p s f' p' s' h bytes
      by_read f1 p1 k a later r =
          settled r.reader r.found r.drafts.bytes a (later_on (OrCommits others) h k r.found later (later_or_commits others k r.found r.later)) r.drafts.given (inr (λ told. omega (arith, r.drafts.size, r.drafts.some))) r.settles

      takes : (f1 : FillingState) (p1 : P) (k : List Call) (a : Result (Filled F) TryFault) → Later (OrCommits others) h k → TakesBy at others writer refuses options is_full a f1 p1 s f' p' s' k bytes → Took a f p s f' p' s' h bytes
      takes f1 p1 k (Ok (Moved n)) later r = by_read f1 p1 k (Ok (Moved n)) later r
      takes f1 p1 k (Ok (Paused unexamined)) later r = by_read f1 p1 k (Ok (Paused unexamined)) later r
      takes f1 p1 k (Ok (Full full)) later (is, same, kept) = still k (Ok (Full full)) later kept (refl, gives_nothing s s' same) tt (p1, is) refl
      takes f1 p1 k (Ok (Ended taking.End)) later (granted, (gives, ended), kept) = still k (Ok (Ended taking.End)) later kept (refl, gives, ended) tt tt refl
      takes f1 p1 k (Ok (Ended taking.Fault)) later (granted, fails, kept) = still k (Ok (Ended taking.Fault)) later kept (refl, fails) tt tt refl
      takes f1 p1 k (Ok (Ended taking.Long)) later (granted, (at_limit, more), kept) = still k (Ok (Ended taking.Long)) later kept (refl, more) at_limit tt refl
      takes f1 p1 k (Ok (Ended (taking.Gone code))) later r = by_read f1 p1 k (Ok (Ended (taking.Gone code))) later r
      takes f1 p1 k (Err fault) later (inl (refused, same, kept)) = still k (Err fault) later kept (gives_nothing s s' same) tt (p1, refused) refl
      takes f1 p1 k (Err fault) later (inr r) = by_read f1 p1 k (Err fault) later r
