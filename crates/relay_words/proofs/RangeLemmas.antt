-- The numbers of a job that words ask for are in their ranges.
use Rattle.std.proofs.Common.{◌≡◌, ◌≤◌, ◌⊎◌, inl, inr, ℕ, ◌+◌, ◌==◌, Bool, true, false, not, nat_le, nat_lt, nat_eq, ◌&&◌, List, [], ◌∷◌, ◌++◌, ◌<◌, length, drop, Option, Some, None, Result, Ok, Err, refl, sym, ap, arith, if◌then◌else◌, option_and_then, min, unwrap_or, lit≤, ◌^◌, codes, subst}
use Rattle.std.proofs.lemmas.Bool.{and_parts, leb-true}
use Rattle.std.specs.List.{starts_with}
use Rattle.std.specs.Option.{option_or}
use Rattle.frame_grammar.specs.Job.{IsInRange}
use Rattle.frame_model.specs.declared.framing.Framing.{Framing}
use Rattle.frame_model.specs.declared.framing.Framing.TheVariants.{Line}
use Rattle.frame_grammar.specs.declared.job.Job.{Job}
use Rattle.relay_words.specs.declared.keys.Given.{Given}
use Rattle.relay_words.specs.declared.keys.Keys.{Keys}
use Rattle.relay_words.specs.Keys.{above, given_among, given_by, keys_among, max_of, number_of_key, number_or, pause_in, pause_of, resume_of, seg_of, usual_resume}
use Rattle.relay_words.specs.Numbers.{number_of}
use Rattle.relay_words.specs.Words.{can_follow, framing_of, job_behind, job_in, misplaced, texts}
use Rattle.std.specs.Prelude.{IfErr, IfOk, String}
use Rattle.std.specs.declared.alloc.Global.{Global}
use Rattle.std.proofs.lemmas.List.{length-append}

abbrev Within : ℕ → ℕ → ℕ → Type 0
Within least greatest n = (least ≤ n) × (n ≤ greatest)

ok_is : {T E : Type 0} (x y : T) → ◌≡◌ {A = Result T E} (Ok x) (Ok y) → x ≡ y
ok_is x y e = cc

pub number_range : (least greatest : ℕ) (o : Option ℕ) (n : ℕ) → option_and_then (λ n. if nat_le least n && nat_le n greatest then Some n else None) o ≡ Some n → Within least greatest n
number_range least greatest None n e = absurd cc
number_range least greatest (Some m) n e = by (nat_le least m && nat_le m greatest) refl e
  where
    by : (b : Bool) → (nat_le least m && nat_le m greatest) ≡ b → ◌≡◌ {A = Option ℕ} (if b then Some m else None) (Some n) → Within least greatest n
    by true q e =
        let same : m ≡ n = cc in
        let both : (nat_le least m ≡ true) × (nat_le m greatest ≡ true) = and_parts _ _ q in
        (omega (arith, same, leb-true least m both.0), omega (arith, same, leb-true m greatest both.1))
    by false q e = absurd cc

key_range : (name : List ℕ) (least greatest : ℕ) (word : List ℕ) (n : ℕ) → number_of_key name least greatest word ≡ Some n → Within least greatest n
key_range name least greatest word n e = by (starts_with nat_eq word name) e
  where
    by : (b : Bool) → (if b then option_and_then (λ n. if nat_le least n && nat_le n greatest then Some n else None) (number_of (drop (length name) word)) else None) ≡ Some n → Within least greatest n
    by true e = number_range least greatest _ n e
    by false e = absurd cc

one_range : (least greatest at : ℕ) (o : Option ℕ) (given : Given) → ((n : ℕ) → o ≡ Some n → Within least greatest n) → given_by at o None ≡ Some given → Within least greatest given.number
one_range least greatest at None given h e = absurd cc
one_range least greatest at (Some n) given h e =
    let same : n ≡ given.number = ap (λ (o : Option Given). number_or 0 o) e in
    rw (sym same) (h n refl)

among_range : (number : List ℕ → Option ℕ) (least greatest : ℕ) → ((word : List ℕ) (n : ℕ) → number word ≡ Some n → Within least greatest n) → (at : ℕ) (words : List (List ℕ)) (given : Given) → given_among number at words ≡ Some given → Within least greatest given.number
among_range number least greatest h at [] given e = absurd cc
among_range number least greatest h at (word ∷ words) given e = by (given_among number (1 + at) words) (among_range number least greatest h (1 + at) words) e
  where
    by : (o : Option Given) → ((given : Given) → o ≡ Some given → Within least greatest given.number) → option_or o (given_by at (number word) None) ≡ Some given → Within least greatest given.number
    by None ih e = one_range least greatest at (number word) given (h word) e
    by (Some other) ih e = ih given e

or_range : (usual least greatest : ℕ) (o : Option Given) → Within least greatest usual → ((given : Given) → o ≡ Some given → Within least greatest given.number) → Within least greatest (number_or usual o)
or_range usual least greatest None u h = u
or_range usual least greatest (Some given) u h = h given refl

usual_range : (pause : ℕ) → Within 1 16777216 (usual_resume pause)
usual_range pause = by (pause == 0) refl
  where
    by : (b : Bool) → (pause == 0) ≡ b → Within 1 16777216 (if b then 32768 else min 32768 pause)
    by true e = (omega arith, omega arith)
    by false e = (grind (arith, e), omega arith)

usual_below : (pause : ℕ) → (pause ≡ 0) ⊎ (usual_resume pause ≤ pause)
usual_below pause = by (pause == 0) refl
  where
    by : (b : Bool) → (pause == 0) ≡ b → (pause ≡ 0) ⊎ ((if b then 32768 else min 32768 pause) ≤ pause)
    by true e = inl (grind (arith, e))
    by false e = inr (omega arith)

given_below : (pause : ℕ) (given : Given) → above pause (Some given) ≡ None → (pause ≡ 0) ⊎ (given.number ≤ pause)
given_below pause given e = by (pause == 0) (nat_lt pause given.number) refl refl e
  where
    by : (zero below : Bool) → (pause == 0) ≡ zero → nat_lt pause given.number ≡ below → ◌≡◌ {A = Option ℕ} (if not zero && below then Some given.word else None) None → (pause ≡ 0) ⊎ (given.number ≤ pause)
    by true below z l e = inl (grind (arith, z))
    by false true z l e = absurd cc
    by false false z l e = inr (grind (arith, l))

resume_below : (pause : ℕ) (o : Option Given) → above pause o ≡ None → (pause ≡ 0) ⊎ (number_or (usual_resume pause) o ≤ pause)
resume_below pause None e = usual_below pause
resume_below pause (Some given) e = given_below pause given e

abbrev job_made : Framing → Framing → Keys → Job
job_made input output keys = record {
  input = input;
  output = output;
  max = number_or 65536 keys.max;
  seg = number_or 4096 keys.seg;
  pause = pause_in keys;
  resume = number_or (usual_resume (pause_in keys)) keys.resume;
  limit = 2 ^ 40;
}

made_range : (input output : Framing) (words : List (List ℕ)) → above (pause_in (keys_among words)) (keys_among words).resume ≡ None → IsInRange (job_made input output (keys_among words))
made_range input output words q =
    let keys = keys_among words in
    let max : Within 0 268435455 (number_or 65536 keys.max) = or_range 65536 0 268435455 keys.max (omega arith, omega arith) (among_range max_of 0 268435455 (λ word n e. key_range (codes "max=") 0 268435455 word n e) 3 words) in
    let seg : Within 64 65536 (number_or 4096 keys.seg) = or_range 4096 64 65536 keys.seg (omega arith, omega arith) (among_range seg_of 64 65536 (λ word n e. key_range (codes "seg=") 64 65536 word n e) 3 words) in
    let pause : Within 0 16777216 (pause_in keys) = or_range 65536 0 16777216 keys.pause (omega arith, omega arith) (among_range pause_of 0 16777216 (λ word n e. key_range (codes "pause=") 0 16777216 word n e) 3 words) in
    let resume : Within 1 16777216 (number_or (usual_resume (pause_in keys)) keys.resume) = or_range (usual_resume (pause_in keys)) 1 16777216 keys.resume (usual_range (pause_in keys)) (among_range resume_of 1 16777216 (λ word n e. key_range (codes "resume=") 1 16777216 word n e) 3 words) in
    record {
      max = max.1;
      seg_least = seg.0;
      seg = seg.1;
      pause = pause.1;
      resume_least = resume.0;
      resume = resume.1;
      resume_below = resume_below (pause_in keys) keys.resume q;
      limit = lit≤ tt;
    }

job_range : (input output : Framing) (words : List (List ℕ)) (o : Option ℕ) (job : Job) → above (pause_in (keys_among words)) (keys_among words).resume ≡ o → ◌≡◌ {A = Result Job ℕ} (elim o [ Some at ↦ Err at | None ↦ Ok (job_made input output (keys_among words)) ]) (Ok job) → IsInRange job
job_range input output words (Some at) job q e = absurd cc
job_range input output words None job q e =
    let same : job_made input output (keys_among words) ≡ job = ok_is _ _ e in
    subst (λ (j : Job). IsInRange j) same (made_range input output words q)

pub words_range : (words : List (List ℕ)) (job : Job) → job_behind words ≡ Ok job → IsInRange job
words_range [] job e = absurd cc
words_range (i ∷ []) job e = absurd cc
words_range (i ∷ o ∷ keys) job e =
    job_range (unwrap_or (framing_of i) Line) (unwrap_or (framing_of o) Line) keys (above (pause_in (keys_among keys)) (keys_among keys).resume) job refl e

pub in_range : (words : List (List ℕ)) (job : Job) → job_in words ≡ Ok job → IsInRange job
in_range words job e = by (misplaced [] words) e
  where
    by : (m : Option ℕ) → ◌≡◌ {A = Result Job ℕ} (elim m [ None ↦ job_behind words | Some at ↦ Err at ]) (Ok job) → IsInRange job
    by None e = words_range words job e
    by (Some at) e = absurd cc

pub words_limit : (words : List (List ℕ)) (job : Job) → job_behind words ≡ Ok job → job.limit ≡ 2 ^ 40
words_limit [] job e = absurd cc
words_limit (i ∷ []) job e = absurd cc
words_limit (i ∷ o ∷ keys) job e = by (above (pause_in (keys_among keys)) (keys_among keys).resume) e
  where
    by : (m : Option ℕ) → ◌≡◌ {A = Result Job ℕ} (elim m [ Some at ↦ Err at | None ↦ Ok (job_made (unwrap_or (framing_of i) Line) (unwrap_or (framing_of o) Line) (keys_among keys)) ]) (Ok job) → job.limit ≡ 2 ^ 40
    by None e = sym (ap (λ (j : Job). j.limit) (ok_is _ job e))
    by (Some at) e = absurd cc

pub limit_is : (words : List (List ℕ)) (job : Job) → job_in words ≡ Ok job → job.limit ≡ 2 ^ 40
limit_is words job e = by (misplaced [] words) e
  where
    by : (m : Option ℕ) → ◌≡◌ {A = Result Job ℕ} (elim m [ None ↦ job_behind words | Some at ↦ Err at ]) (Ok job) → job.limit ≡ 2 ^ 40
    by None e = words_limit words job e
    by (Some at) e = absurd cc

-- ---- the index of a word

some_is : {T : Type 0} (x y : T) → Some x ≡ Some y → x ≡ y
some_is x y e = cc

pub misplaced_within : (before words : List (List ℕ)) (at : ℕ) → misplaced before words ≡ Some at → at ≤ length before + length words
misplaced_within before [] at e = absurd cc
misplaced_within before (word ∷ words) at e = by (can_follow before word) (misplaced_within (before ++ word ∷ []) words at) e
  where
    by : (b : Bool) → (misplaced (before ++ word ∷ []) words ≡ Some at → at ≤ length (before ++ word ∷ []) + length words)
        → (if b then misplaced (before ++ word ∷ []) words else Some (1 + length before)) ≡ Some at → at ≤ length before + length (word ∷ words)
    by true ih e =
        let size : length (before ++ word ∷ []) ≡ length before + 1 = length-append before (word ∷ []) in
        omega (arith, ih e, size)
    by false ih e = omega (arith, some_is (1 + length before) at e)

pub among_word : (number : List ℕ → Option ℕ) (at : ℕ) (words : List (List ℕ)) (given : Given) → given_among number at words ≡ Some given → given.word < at + length words
among_word number at [] given e = absurd cc
among_word number at (word ∷ words) given e = by (given_among number (1 + at) words) (number word) (among_word number (1 + at) words) e
  where
    by : (o : Option Given) (n : Option ℕ) → ((given : Given) → o ≡ Some given → given.word < 1 + at + length words) → option_or o (given_by at n None) ≡ Some given → given.word < at + length (word ∷ words)
    by (Some other) n ih e = omega (arith, ih given e)
    by None None ih e = absurd cc
    by None (Some n) ih e = omega (arith, ap (λ (g : Given). g.word) (some_is _ given e))

pub above_word : (pause : ℕ) (o : Option Given) (at bound : ℕ) → ((given : Given) → o ≡ Some given → given.word < bound) → above pause o ≡ Some at → at < bound
above_word pause None at bound h e = absurd cc
above_word pause (Some resume) at bound h e = by (not (pause == 0) && nat_lt pause resume.number) e
  where
    by : (b : Bool) → (if b then Some resume.word else None) ≡ Some at → at < bound
    by true e = omega (arith, h resume refl, some_is resume.word at e)
    by false e = absurd cc

pub err_is : {T E : Type 0} (x y : E) → ◌≡◌ {A = Result T E} (Err x) (Err y) → x ≡ y
err_is x y e = cc

pub with_word : (o : Option ℕ) (job : Job) (at bound : ℕ) → ((n : ℕ) → o ≡ Some n → n < bound) → ◌≡◌ {A = Result Job ℕ} (elim o [ Some n ↦ Err n | None ↦ Ok job ]) (Err at) → at < bound
with_word None job at bound h e = absurd cc
with_word (Some n) job at bound h e = omega (arith, h n refl, err_is {T = Job} n at e)

behind_word : (words : List (List ℕ)) (at : ℕ) → job_behind words ≡ Err at → at ≤ 3 + length words
behind_word [] at e = omega (arith, err_is {T = Job} 1 at e)
behind_word (i ∷ []) at e = omega (arith, err_is {T = Job} 2 at e)
behind_word (i ∷ o ∷ keys) at e =
    let made = job_made (unwrap_or (framing_of i) Line) (unwrap_or (framing_of o) Line) (keys_among keys) in
    let below : at < 3 + length keys =
    with_word (above (pause_in (keys_among keys)) (keys_among keys).resume) made at (3 + length keys)
    (λ n q. above_word (pause_in (keys_among keys)) (keys_among keys).resume n (3 + length keys) (among_word resume_of 3 keys) q) e in
    omega (arith, below)

pub word_within : (words : List (List ℕ)) (at : ℕ) → job_in words ≡ Err at → at ≤ 3 + length words
word_within words at e = by (misplaced [] words) refl e
  where
    by : (m : Option ℕ) → misplaced [] words ≡ m → ◌≡◌ {A = Result Job ℕ} (elim m [ None ↦ job_behind words | Some at ↦ Err at ]) (Err at) → at ≤ 3 + length words
    by None q e = behind_word words at e
    by (Some n) q e = omega (arith, misplaced_within [] words n q, err_is {T = Job} n at e)

pub texts_len : (words : List (String Global)) → length (texts words) ≡ length words
texts_len [] = refl
texts_len (word ∷ words) = omega (arith, texts_len words)

-- ---- what was read

pub is_in_range : (words : List (List ℕ)) (r : Result Job ℕ) → r ≡ job_in words → IfOk r (λ job. IsInRange job)
is_in_range words (Ok job) e = in_range words job (sym e)
is_in_range words (Err at) e = tt

pub has_limit : (words : List (List ℕ)) (r : Result Job ℕ) → r ≡ job_in words → IfOk r (λ job. job.limit ≡ 2 ^ 40)
has_limit words (Ok job) e = limit_is words job (sym e)
has_limit words (Err at) e = tt

pub is_within : (words : List (String Global)) (r : Result Job ℕ) → r ≡ job_in (texts words) → IfErr r (λ word. word ≤ 3 + length words)
is_within words (Ok job) e = tt
is_within words (Err at) e = omega (arith, texts_len words, word_within (texts words) at (sym e))
