-- How a batch is read behind its workers.
use Rattle.std.proofs.Common.{◌≡◌, ◌+◌, ◌≤◌, ◌<◌, ℕ, Bool, true, if◌then◌else◌, is_some, unwrap_or, List, [], ◌∷◌, length, take, drop, Option, Some, None, Result, Ok, Err, refl, sym, ap, ◌∙◌, arith}
use Rattle.std.specs.List.{prefix_len}
use Rattle.frame_model.specs.declared.framing.Framing.{Framing}
use Rattle.frame_model.specs.declared.framing.Framing.TheVariants.{Line}
use Rattle.frame_grammar.specs.declared.job.Job.{Job}
use Rattle.relay_words.specs.declared.command.Command.{Command}
use Rattle.relay_words.specs.declared.command.Command.TheVariants.{Threaded}
use Rattle.relay_words.specs.declared.command.ThreadedCommand.TheVariants.{Batch}
use Rattle.relay_words.specs.declared.keys.Keys.{Keys}
use Rattle.relay_words.specs.Keys.{above, is_keyed, keys_among, pause_in, resume_of}
use Rattle.relay_words.specs.Names.{misnamed}
use Rattle.relay_words.specs.Words.{batch_with, framing_of, job_behind, job_with, misplaced, names_part, relay_part}
use Rattle.relay_words.proofs.RangeLemmas.{above_word, among_word, err_is, misplaced_within, with_word}

-- Keys were read from these words, or the first that can't be read.
abbrev pub KeysRead : Result Keys ℕ → List ℕ → List ℕ → List (List ℕ) → Type 0
KeysRead r input output words = r ≡ elim (misplaced (input ∷ output ∷ []) words) [ None ↦ Ok (keys_among words) | Some at ↦ Err at ]

pub key_word : (words : List (List ℕ)) (at : ℕ) → KeysRead (Err at) [] [] words → at ≤ 2 + length words
key_word words at e = by (misplaced ([] ∷ [] ∷ []) words) refl e
  where
    by : (m : Option ℕ) → misplaced ([] ∷ [] ∷ []) words ≡ m → ◌≡◌ {A = Result Keys ℕ} (Err at) (elim m [ None ↦ Ok (keys_among words) | Some i ↦ Err i ]) → at ≤ 2 + length words
    by None q e = absurd cc
    by (Some i) q e = omega (arith, misplaced_within ([] ∷ [] ∷ []) words i q, err_is {T = Keys} at i e)

record AllRead (m : Option ℕ) (words : List (List ℕ)) (keys : Keys) : Type 0 where
  pub none : m ≡ None
  pub given : keys ≡ keys_among words

all_read : (m : Option ℕ) (words : List (List ℕ)) (keys : Keys) → ◌≡◌ {A = Result Keys ℕ} (Ok keys) (elim m [ None ↦ Ok (keys_among words) | Some at ↦ Err at ]) → AllRead m words keys
all_read None words keys e = record { none = refl; given = cc }
all_read (Some at) words keys e = absurd cc

pub resume_word : (input output : Framing) (words : List (List ℕ)) (keys : Keys) (at : ℕ) → KeysRead (Ok keys) [] [] words → Err at ≡ job_with input output keys → at < 3 + length words
resume_word input output words keys at e j =
    let read = all_read (misplaced ([] ∷ [] ∷ []) words) words keys e in
    with_word (above (pause_in keys) keys.resume) _ at (3 + length words)
    (λ n q. above_word (pause_in keys) keys.resume n (3 + length words) (rw read.given (among_word resume_of 3 words)) q) (sym j)

both : {T : Type 0} (a b : Bool) (x y z : T) → a ≡ true → b ≡ true → (if a then (if b then x else y) else z) ≡ x
both a b x y z p q = rw (p, q) refl

-- the framings can be read, so the first word that can't is among the keys
behind_framings : (i o : List ℕ) (keys : List (List ℕ)) (input output : Framing) → Some input ≡ framing_of i → Some output ≡ framing_of o → misplaced [] (i ∷ o ∷ keys) ≡ misplaced (i ∷ o ∷ []) keys
behind_framings i o keys input output fi fo = both (is_some (framing_of i)) (is_some (framing_of o)) (misplaced (i ∷ o ∷ []) keys) _ _ (ap (λ (f : Option Framing). is_some f) (sym fi)) (ap (λ (f : Option Framing). is_some f) (sym fo))

job_is : (i o : List ℕ) (keys : List (List ℕ)) (input output : Framing) → Some input ≡ framing_of i → Some output ≡ framing_of o → job_behind (i ∷ o ∷ keys) ≡ job_with input output (keys_among keys)
job_is i o keys input output fi fo =
    ap (λ (f : Framing). job_with f (unwrap_or (framing_of o) Line) (keys_among keys)) (ap (λ (f : Option Framing). unwrap_or f Line) (sym fi))
    ∙ ap (λ (f : Framing). job_with input f (keys_among keys)) (ap (λ (f : Option Framing). unwrap_or f Line) (sym fo))

finished : (workers from size : ℕ) (m n : Option ℕ) (r : Result Job ℕ) (job : Job) → m ≡ None → n ≡ None → r ≡ Ok job → from ≡ size
    → ◌≡◌ {A = Result Command ℕ} (Ok (Threaded (Batch workers job from))) (elim m [
      | Some at ↦ Err (1 + at)
      | None ↦ elim n [ Some at ↦ Err (size + at) | None ↦ elim r [ Ok job ↦ Ok (Threaded (Batch workers job size)) | Err at ↦ Err (1 + at) ] ]
    ])
finished workers from size m n r job p q e f = rw (p, q, e) (ap (λ (k : ℕ). Ok (Threaded (Batch workers job k))) f)

made : (workers count : ℕ) (i o name : List ℕ) (keys names : List (List ℕ)) (input output : Framing) (given : Keys) (job : Job)
    → Some input ≡ framing_of i → Some output ≡ framing_of o → KeysRead (Ok given) i o keys → None ≡ misnamed [] (name ∷ names)
    → Ok job ≡ job_with input output given → count ≡ length keys → ◌≡◌ {A = Result Command ℕ} (Ok (Threaded (Batch workers job (4 + count)))) (batch_with workers (i ∷ o ∷ keys) (name ∷ names))
made workers count i o name keys names input output given job fi fo k n j c =
    let read = all_read (misplaced (i ∷ o ∷ []) keys) keys given k in
    finished workers (4 + count) (2 + length (i ∷ o ∷ keys)) (misplaced [] (i ∷ o ∷ keys)) (misnamed [] (name ∷ names)) (job_behind (i ∷ o ∷ keys)) job
    (behind_framings i o keys input output fi fo ∙ read.none) (sym n)
    (job_is i o keys input output fi fo ∙ ap (λ (x : Keys). job_with input output x) (sym read.given) ∙ sym j) (omega (arith, c))

pub batch_made : (workers count : ℕ) (i o : List ℕ) (all rest keys names : List (List ℕ)) (input output : Framing) (given : Keys) (job : Job)
    → all ≡ i ∷ o ∷ rest → keys ≡ take (prefix_len is_keyed rest) rest → names ≡ drop (prefix_len is_keyed rest) rest
    → Some input ≡ framing_of i → Some output ≡ framing_of o → KeysRead (Ok given) i o keys → None ≡ misnamed [] names → 0 < length names
    → Ok job ≡ job_with input output given → count ≡ length keys → ◌≡◌ {A = Result Command ℕ} (Ok (Threaded (Batch workers job (4 + count)))) (batch_with workers (relay_part all) (names_part all))
batch_made workers count i o all rest keys [] input output given job a ke ne fi fo k n some j c = absurd (omega (arith, some))
batch_made workers count i o all rest keys (name ∷ names) input output given job a ke ne fi fo k n some j c =
    rw (a, sym ke, sym ne) (made workers count i o name keys names input output given job fi fo k n j c)
