-- A word behind others adds its key to theirs.
use Rattle.std.proofs.Common.{◌≡◌, ◌+◌, ℕ, Bool, true, false, List, [], ◌∷◌, ◌++◌, length, Option, Some, None, Result, Ok, Err, refl, sym, ap, ◌∙◌, arith, if◌then◌else◌, nat_le, nat_eq, ◌&&◌, option_and_then, drop}
use Rattle.std.specs.Option.{option_or}
use Rattle.relay_words.specs.declared.keys.Given.{Given}
use Rattle.relay_words.specs.declared.keys.Keys.{Keys}
use Rattle.relay_words.specs.Keys.{adds, given_among, given_by, keys_among, keys_with, max_of, number_of_key, pause_of, resume_of, seg_of}
use Rattle.std.proofs.lemmas.List.{append_assoc, length-append}
use Rattle.std.proofs.lemmas.Str.Pattern.{starts_text}
use Rattle.std.specs.List.{starts_with}
use Rattle.std.specs.Str.Pattern.{StripsPrefix, FindsTextPrefix}
use Rattle.relay_words.specs.Numbers.{number_of}
use Rattle.relay_words.specs.Words.{misplaced}

or_by : (at : ℕ) (n : Option ℕ) (x y : Option Given) → option_or (given_by at n x) y ≡ given_by at n (option_or x y)
or_by at None x y = refl
or_by at (Some n) x y = refl

snoc : (number : List ℕ → Option ℕ) (at : ℕ) (done : List (List ℕ)) (word : List ℕ) → given_among number at (done ++ word ∷ []) ≡ given_by (at + length done) (number word) (given_among number at done)
snoc number at [] word = ap (λ (i : ℕ). given_by i (number word) None) (omega arith)
snoc number at (d ∷ done) word =
    ap (λ (x : Option Given). option_or x (given_by at (number d) None)) (snoc number (1 + at) done word)
    ∙ or_by (1 + at + length done) (number word) (given_among number (1 + at) done) (given_by at (number d) None)
    ∙ ap (λ (i : ℕ). given_by i (number word) (option_or (given_among number (1 + at) done) (given_by at (number d) None))) (omega arith)

keys_are : (a b c d e f g h : Option Given) → a ≡ e → b ≡ f → c ≡ g → d ≡ h → ◌≡◌ {A = Keys} (record { max = a; seg = b; pause = c; resume = d }) (record { max = e; seg = f; pause = g; resume = h })
keys_are a b c d e f g h p q r s = rw (p, q, r, s) refl

pub keys_snoc : (done : List (List ℕ)) (word : List ℕ) → keys_among (done ++ word ∷ []) ≡ keys_with (3 + length done) word (keys_among done)
keys_snoc done word = keys_are _ _ _ _ _ _ _ _ (snoc max_of 3 done word) (snoc seg_of 3 done word) (snoc pause_of 3 done word) (snoc resume_of 3 done word)

added : (b : Bool) (x y : Keys) → (if b then Some x else None) ≡ Some y → (b ≡ true) × (y ≡ x)
added true x y e = (refl, cc)
added false x y e = absurd cc

refused : (b : Bool) (x : Keys) → (if b then Some x else None) ≡ None → b ≡ false
refused true x e = absurd cc
refused false x e = refl

-- Where a word adds its key, the keys are those of the words with it, and the words behind it are read behind them.
pub taken : (done : List (List ℕ)) (word : List ℕ) (at : ℕ) (keys more : Keys) → keys ≡ keys_among done → at ≡ 3 + length done → Some more ≡ (if adds keys word then Some (keys_with at word keys) else None) → (adds (keys_among done) word ≡ true) × (more ≡ keys_among (done ++ word ∷ []))
taken done word at keys more k a e =
    let yes = added (adds keys word) _ more (sym e) in
    (sym (ap (λ (x : Keys). adds x word) k) ∙ yes.0, yes.1 ∙ ap (λ (x : Keys). keys_with at word x) k ∙ ap (λ (i : ℕ). keys_with i word (keys_among done)) a ∙ sym (keys_snoc done word))

pub not_taken : (done : List (List ℕ)) (word : List ℕ) (at : ℕ) (keys : Keys) → keys ≡ keys_among done → None ≡ (if adds keys word then Some (keys_with at word keys) else None) → adds (keys_among done) word ≡ false
not_taken done word at keys k e = sym (ap (λ (x : Keys). adds x word) k) ∙ refused (adds keys word) _ (sym e)

-- A text that begins with a name is the number behind it, where that is in its range.
pub named : (name word number : List ℕ) (least greatest : ℕ) → StripsPrefix (FindsTextPrefix name) word number → number_of_key name least greatest word ≡ option_and_then (λ n. if nat_le least n && nat_le n greatest then Some n else None) (number_of number)
named name word number least greatest h =
    let starts = starts_text true name word (h.0, h.1, rw h.1.0 h.1.2) in
    by (starts_with nat_eq word name) (sym starts) (h.2 ∙ ap (λ (i : ℕ). drop i word) h.1.0)
  where
    by : (b : Bool) → b ≡ true → number ≡ drop (length name) word → (if b then option_and_then (λ n. if nat_le least n && nat_le n greatest then Some n else None) (number_of (drop (length name) word)) else None) ≡ option_and_then (λ n. if nat_le least n && nat_le n greatest then Some n else None) (number_of number)
    by true e d = rw d refl
    by false e d = absurd cc

pub not_named : (name word : List ℕ) (least greatest : ℕ) → FindsTextPrefix name word None → number_of_key name least greatest word ≡ None
not_named name word least greatest h = rw (sym (starts_text false name word h)) refl

-- The words from the loop's place on, where the next one adds its key.
pub reads_on : (input output word : List ℕ) (all done rest behind : List (List ℕ)) → misplaced (input ∷ output ∷ []) all ≡ misplaced (input ∷ output ∷ done) rest → rest ≡ word ∷ behind → adds (keys_among done) word ≡ true → misplaced (input ∷ output ∷ []) all ≡ misplaced (input ∷ output ∷ (done ++ word ∷ [])) behind
reads_on input output word all done rest behind e r adds_one = e ∙ ap (λ (x : List (List ℕ)). misplaced (input ∷ output ∷ done) x) r ∙ rw adds_one refl

pub stops : (input output word : List ℕ) (all done rest behind : List (List ℕ)) (at : ℕ) → misplaced (input ∷ output ∷ []) all ≡ misplaced (input ∷ output ∷ done) rest → rest ≡ word ∷ behind → adds (keys_among done) word ≡ false → at ≡ 3 + length done → misplaced (input ∷ output ∷ []) all ≡ Some at
stops input output word all done rest behind at e r adds_none a = e ∙ ap (λ (x : List (List ℕ)). misplaced (input ∷ output ∷ done) x) r ∙ rw adds_none (ap (λ (i : ℕ). Some i) (omega (arith, a)))

pub parts_on : (word : List ℕ) (all done rest behind : List (List ℕ)) → all ≡ done ++ rest → rest ≡ word ∷ behind → all ≡ (done ++ word ∷ []) ++ behind
parts_on word all done rest behind e r = e ∙ ap (λ (x : List (List ℕ)). done ++ x) r ∙ sym (append_assoc done (word ∷ []) behind)

pub count_on : {X : Type 0} (word : List ℕ) (done : List (List ℕ)) (rest behind : List X) (count : ℕ) → count ≡ 3 + length done + length rest → length behind + 1 ≡ length rest → count ≡ 3 + length (done ++ word ∷ []) + length behind
count_on word done rest behind count e r = rw (length-append done (word ∷ [])) omega (arith, e, r)

pub answers : (m : Option ℕ) (at : ℕ) (keys : Keys) → m ≡ Some at → ◌≡◌ {A = Result Keys ℕ} (Err at) (elim m [ None ↦ Ok keys | Some i ↦ Err i ])
answers m at keys e = rw e refl
