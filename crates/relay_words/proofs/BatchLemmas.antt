-- What holds of a batch that was read.
use Rattle.std.proofs.Common.{◌≡◌, ◌+◌, ◌≤◌, ◌<◌, ◌^◌, ℕ, List, [], ◌∷◌, ◌++◌, length, drop, Option, Some, None, Result, Ok, Err, refl, sym, ap, ◌∙◌, subst, arith}
use Rattle.std.specs.Prelude.{IfOk, IfSome, String}
use Rattle.std.specs.declared.alloc.Global.{Global}
use Rattle.std.specs.List.{prefix_len}
use Rattle.std.proofs.lemmas.List.{length-append, take-append-drop}
use Rattle.std.proofs.Math.Seq.{drop-append-add, drop-append_seam}
use Rattle.frame_grammar.specs.Job.{IsInRange}
use Rattle.frame_grammar.specs.declared.job.Job.{Job}
use Rattle.relay_words.specs.declared.command.Command.{Command}
use Rattle.relay_words.specs.declared.command.Command.TheVariants.{Local, Threaded}
use Rattle.relay_words.specs.declared.command.LocalCommand.TheVariants.{Copy}
use Rattle.relay_words.specs.declared.command.ThreadedCommand.TheVariants.{Pump, Drill, Batch}
use Rattle.relay_words.specs.declared.command.Kind.{Kind}
use Rattle.relay_words.specs.declared.command.Kind.TheVariants as kinds
use Rattle.relay_words.specs.Keys.{is_keyed}
use Rattle.relay_words.specs.Names.{AreNames, misnamed}
use Rattle.relay_words.specs.Numbers.{number_of, number_within}
use Rattle.relay_words.specs.Words.{IfBatch, batch_of, batch_behind, batch_in, batch_with, command_of, frames_made, job_behind, job_of, misplaced, names_part, relay_part, serve_in, texts}
use Rattle.relay_words.proofs.KindLemmas.{Others, of_words}
use Rattle.relay_words.proofs.NamesLemmas.{are_names}
use Rattle.relay_words.proofs.RangeLemmas.{number_range, texts_len, words_limit, words_range}
use Rattle.relay_words.proofs.ServeLemmas.{served}

-- What was read of the words behind `batch`.
pub record IsBatch (words : List (List ℕ)) (workers : ℕ) (job : Job) (names_from : ℕ) : Type 0 where
  pub least : 1 ≤ workers
  pub most : workers ≤ 16
  pub in_range : IsInRange job
  pub limit : job.limit ≡ 2 ^ 40
  pub within : names_from < 1 + length words
  pub names : (command : List ℕ) → AreNames (drop names_from (command ∷ words))

ok_is : {T E : Type 0} (x y : T) → ◌≡◌ {A = Result T E} (Ok x) (Ok y) → x ≡ y
ok_is x y e = cc

-- the two parts are all of the words
parts : (words : List (List ℕ)) → words ≡ relay_part words ++ names_part words
parts [] = refl
parts (input ∷ []) = refl
parts (input ∷ output ∷ words) = ap (λ (x : List (List ℕ)). input ∷ output ∷ x) (sym (take-append-drop (prefix_len is_keyed words) words))

seam : (command word : List ℕ) (words relay names : List (List ℕ)) → words ≡ relay ++ names → drop (2 + length relay) (command ∷ word ∷ words) ≡ names
seam command word words relay names e =
    drop-append-add (command ∷ word ∷ []) words (length relay)
    ∙ ap (λ (x : List (List ℕ)). drop (length relay) x) e
    ∙ drop-append_seam relay names

-- What words that can all be read where they stand give.
record IsRead (workers : ℕ) (relay names : List (List ℕ)) (command : Command) : Type 0 where
  pub job : Job
  pub is : command ≡ Threaded (Batch workers job (2 + length relay))
  pub reads : job_behind relay ≡ Ok job
  pub named : AreNames names

with_job : (workers : ℕ) (relay names : List (List ℕ)) (command : Command) (r : Result Job ℕ) → AreNames names → job_behind relay ≡ r
    → ◌≡◌ {A = Result Command ℕ} (elim r [ Ok job ↦ Ok (Threaded (Batch workers job (2 + length relay))) | Err at ↦ Err (1 + at) ]) (Ok command) → IsRead workers relay names command
with_job workers relay names command (Ok job) lawful q e = record { job = job; is = sym (ok_is _ _ e); reads = q; named = lawful }
with_job workers relay names command (Err at) lawful q e = absurd cc

behind : (workers : ℕ) (relay names : List (List ℕ)) (command : Command) → misnamed [] names ≡ None → batch_behind workers relay names ≡ Ok command → IsRead workers relay names command
behind workers relay [] command q e = absurd cc
behind workers relay (name ∷ names) command q e = with_job workers relay (name ∷ names) command (job_behind relay) (are_names name names q) refl e

with_names : (workers : ℕ) (relay names : List (List ℕ)) (command : Command) (m : Option ℕ) → misnamed [] names ≡ m
    → ◌≡◌ {A = Result Command ℕ} (elim m [ Some at ↦ Err (2 + length relay + at) | None ↦ batch_behind workers relay names ]) (Ok command) → IsRead workers relay names command
with_names workers relay names command None q e = behind workers relay names command q e
with_names workers relay names command (Some at) q e = absurd cc

with_relay : (workers : ℕ) (relay names : List (List ℕ)) (command : Command) (m : Option ℕ)
    → ◌≡◌ {A = Result Command ℕ} (elim m [ Some at ↦ Err (1 + at) | None ↦ elim (misnamed [] names) [ Some at ↦ Err (2 + length relay + at) | None ↦ batch_behind workers relay names ] ]) (Ok command) → IsRead workers relay names command
with_relay workers relay names command None e = with_names workers relay names command (misnamed [] names) refl e
with_relay workers relay names command (Some at) e = absurd cc

pub record Batched (words : List (List ℕ)) (command : Command) : Type 0 where
  pub workers : ℕ
  pub job : Job
  pub names_from : ℕ
  pub is : command ≡ Threaded (Batch workers job names_from)
  pub holds : IsBatch words workers job names_from

of_read : (workers : ℕ) (word : List ℕ) (words : List (List ℕ)) (command : Command) → 1 ≤ workers → workers ≤ 16 → IsRead workers (relay_part words) (names_part words) command → Batched (word ∷ words) command
of_read workers word words command least most r =
    let size : length words ≡ length (relay_part words) + length (names_part words) = ap length (parts words) ∙ length-append (relay_part words) (names_part words) in
    record {
      workers = workers;
      job = r.job;
      names_from = 2 + length (relay_part words);
      is = r.is;
      holds = record {
        least = least;
        most = most;
        in_range = words_range (relay_part words) r.job r.reads;
        limit = words_limit (relay_part words) r.job r.reads;
        within = omega (arith, size, r.named.some);
        names = λ first. subst (λ (x : List (List ℕ)). AreNames x) (sym (seam first word words (relay_part words) (names_part words) (parts words))) r.named;
      };
    }

with_workers : (word : List ℕ) (words : List (List ℕ)) (command : Command) (o : Option ℕ) → number_within 1 16 word ≡ o
    → ◌≡◌ {A = Result Command ℕ} (elim o [ None ↦ Err 1 | Some workers ↦ batch_with workers (relay_part words) (names_part words) ]) (Ok command) → Batched (word ∷ words) command
with_workers word words command None q e = absurd cc
with_workers word words command (Some workers) q e =
    let range = number_range 1 16 (number_of word) workers q in
    of_read workers word words command range.0 range.1 (with_relay workers (relay_part words) (names_part words) command (misplaced [] (relay_part words)) e)

pub batched : (words : List (List ℕ)) (command : Command) → batch_in words ≡ Ok command → Batched words command
batched [] command e = absurd cc
batched (word ∷ words) command e = with_workers word words command (number_within 1 16 word) refl e

-- ---- of the words behind `batch`

pub is_in_range : (words : List (List ℕ)) (r : Result Command ℕ) → r ≡ batch_in words → IfOk r (λ command. IsInRange (job_of command))
is_in_range words (Ok command) e = let b = batched words command (sym e) in subst (λ (c : Command). IsInRange (job_of c)) (sym b.is) b.holds.in_range
is_in_range words (Err at) e = tt

pub has_limit : (words : List (List ℕ)) (r : Result Command ℕ) → r ≡ batch_in words → IfOk r (λ command. (job_of command).limit ≡ 2 ^ 40)
has_limit words (Ok command) e = let b = batched words command (sym e) in subst (λ (c : Command). (job_of c).limit ≡ 2 ^ 40) (sym b.is) b.holds.limit
has_limit words (Err at) e = tt

pub makes_none : (words : List (List ℕ)) (r : Result Command ℕ) → r ≡ batch_in words → IfOk r (λ command. frames_made command ≤ 1000000)
makes_none words (Ok command) e = let b = batched words command (sym e) in subst (λ (c : Command). frames_made c ≤ 1000000) (sym b.is) (omega arith)
makes_none words (Err at) e = tt

-- ---- of all words of a command

abbrev pub IsWhole : List (List ℕ) → ℕ → ℕ → Type 0
IsWhole words workers names_from = (1 ≤ workers) × (workers ≤ 16) × (names_from < length words) × AreNames (drop names_from words)

no_batch : (P : ℕ → Job → ℕ → Type 0) → Others (λ command. IfBatch command P)
no_batch P = record { copy = λ job. tt; pump = λ job. tt; drill = λ seed count job. tt }

whole : (words : List (List ℕ)) (command : Command) → command_of words ≡ Ok command → IfBatch command (λ workers job names_from. IsWhole words workers names_from)
whole [] command e = absurd cc
whole (word ∷ words) command e = of_words (λ command. IfBatch command P) (no_batch P) word words command is_batch is_serve e
  where
    P : ℕ → Job → ℕ → Type 0
    P = λ workers job names_from. IsWhole (word ∷ words) workers names_from

    is_batch : batch_in words ≡ Ok command → IfBatch command (λ workers job names_from. IsWhole (word ∷ words) workers names_from)
    is_batch q =
        let b = batched words command q in
        subst (λ (c : Command). IfBatch c (λ workers job names_from. IsWhole (word ∷ words) workers names_from)) (sym b.is)
        (b.holds.least, b.holds.most, omega (arith, b.holds.within), b.holds.names word)

    is_serve : serve_in words ≡ Ok command → IfBatch command (λ workers job names_from. IsWhole (word ∷ words) workers names_from)
    is_serve q = let s = served words command q in subst (λ (c : Command). IfBatch c (λ workers job names_from. IsWhole (word ∷ words) workers names_from)) (sym s.is) tt

weaker : (P Q : ℕ → Job → ℕ → Type 0) → ((workers : ℕ) (job : Job) (names_from : ℕ) → P workers job names_from → Q workers job names_from) → (command : Command) → IfBatch command P → IfBatch command Q
weaker P Q f command h = by (batch_of command) h
  where
    by : (o : Option (ℕ × Job × ℕ)) → IfSome o (λ b. P b.0 b.1 b.2) → IfSome o (λ b. Q b.0 b.1 b.2)
    by None h = tt
    by (Some b) h = f b.0 b.1 b.2 h

pub has_workers : (words : List (List ℕ)) (command : Command) → command_of words ≡ Ok command → IfBatch command (λ workers job names_from. (1 ≤ workers) × (workers ≤ 16))
has_workers words command e = weaker (λ workers job names_from. IsWhole words workers names_from) (λ workers job names_from. (1 ≤ workers) × (workers ≤ 16)) (λ workers job names_from h. (h.0, h.1)) command (whole words command e)

pub has_names_from : (words : List (String Global)) (command : Command) → command_of (texts words) ≡ Ok command → IfBatch command (λ workers job names_from. names_from < length words)
has_names_from words command e = weaker (λ workers job names_from. IsWhole (texts words) workers names_from) (λ workers job names_from. names_from < length words) (λ workers job names_from h. omega (arith, h.2, texts_len words)) command (whole (texts words) command e)

pub has_names : (words : List (List ℕ)) (command : Command) → command_of words ≡ Ok command → IfBatch command (λ workers job names_from. AreNames (drop names_from words))
has_names words command e = weaker (λ workers job names_from. IsWhole words workers names_from) (λ workers job names_from. AreNames (drop names_from words)) (λ workers job names_from h. h.3) command (whole words command e)
