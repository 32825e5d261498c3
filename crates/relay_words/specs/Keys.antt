-- The keys of a command.
use Rattle.std.specs.Prelude.{ℕ, ◌+◌, Bool, nat_le, nat_lt, nat_eq, ◌==◌, not, ◌&&◌, ◌||◌, List, [], ◌∷◌, length, drop, Option, Some, None, codes, is_some, option_and_then, if◌then◌else◌, min}
use Rattle.std.specs.List.{starts_with}
use Rattle.std.specs.Option.{option_or}
use Rattle.relay_words.specs.declared.keys.Given.{Given}
use Rattle.relay_words.specs.declared.keys.Keys.{Keys}
use Rattle.relay_words.specs.Numbers.{number_of}

-- The number of a word NAME=NUMBER, where it is in its range.
abbrev pub number_of_key : List ℕ → ℕ → ℕ → List ℕ → Option ℕ
number_of_key name least greatest word =
    if starts_with nat_eq word name
    then option_and_then (λ n. if nat_le least n && nat_le n greatest then Some n else None) (number_of (drop (length name) word))
    else None

abbrev pub max_of : List ℕ → Option ℕ
max_of word = number_of_key (codes "max=") 0 268435455 word

abbrev pub seg_of : List ℕ → Option ℕ
seg_of word = number_of_key (codes "seg=") 64 65536 word

abbrev pub pause_of : List ℕ → Option ℕ
pause_of word = number_of_key (codes "pause=") 0 16777216 word

abbrev pub resume_of : List ℕ → Option ℕ
resume_of word = number_of_key (codes "resume=") 1 16777216 word

-- A word begins as one of the keys does, whatever stands behind the `=`.
abbrev pub is_keyed : List ℕ → Bool
is_keyed word =
    starts_with nat_eq word (codes "max=") || starts_with nat_eq word (codes "seg=") || starts_with nat_eq word (codes "pause=") || starts_with nat_eq word (codes "resume=")

-- What stands for a key behind a word: the word's number, with the index of the word, or what stood before.
abbrev pub given_by : ℕ → Option ℕ → Option Given → Option Given
given_by at None before = before
given_by at (Some n) before = Some (record { number = n; word = at })

-- These keys, and the one that a word behind them gives.
abbrev pub keys_with : ℕ → List ℕ → Keys → Keys
keys_with at word keys = record {
  max = given_by at (max_of word) keys.max;
  seg = given_by at (seg_of word) keys.seg;
  pause = given_by at (pause_of word) keys.pause;
  resume = given_by at (resume_of word) keys.resume;
}

-- What words give for a key, where the first of them has this index.
abbrev pub given_among : (List ℕ → Option ℕ) → ℕ → List (List ℕ) → Option Given
given_among number at [] = None
given_among number at (word ∷ words) = option_or (given_among number (1 + at) words) (given_by at (number word) None)

-- The keys that words behind the command and its framings give.
abbrev pub keys_among : List (List ℕ) → Keys
keys_among words = record {
  max = given_among max_of 3 words;
  seg = given_among seg_of 3 words;
  pause = given_among pause_of 3 words;
  resume = given_among resume_of 3 words;
}

abbrev pub is_new : Option ℕ → Option Given → Bool
is_new number before = is_some number && not (is_some before)

-- A word is one of the keys, and that key isn't given yet.
abbrev pub adds : Keys → List ℕ → Bool
adds keys word = is_new (max_of word) keys.max || is_new (seg_of word) keys.seg || is_new (pause_of word) keys.pause || is_new (resume_of word) keys.resume

abbrev pub number_or : ℕ → Option Given → ℕ
number_or usual None = usual
number_or usual (Some given) = given.number

abbrev pub pause_in : Keys → ℕ
pause_in keys = number_or 65536 keys.pause

-- The usual resume threshold, which is never above a pause threshold.
abbrev pub usual_resume : ℕ → ℕ
usual_resume pause = if pause == 0 then 32768 else min 32768 pause

-- The index of a resume threshold that is given, and is above a pause threshold that pauses.
abbrev pub above : ℕ → Option Given → Option ℕ
above pause None = None
above pause (Some resume) = if not (pause == 0) && nat_lt pause resume.number then Some resume.word else None
