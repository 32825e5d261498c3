-- Each step of a cell keeps its rule.
use Rattle.std.proofs.Common.{◌≡◌, ◌≤◌, ◌≢◌, ℕ, ◌+◌, ◌*◌, ◌^◌, ◌<◌, Bool, true, false, eqb, List, [], ◌∷◌, ◌++◌, get_or, set, length, refl, sym, ap, ◌∙◌, subst, arith, ne_eqb, eq-eqb, Option, Some, unwrap_or}
use Rattle.std.proofs.lemmas.Bool.{false≢true, eqb-true}
use Rattle.std.specs.Int.RustNames.{bit_or}
use mathlib.Core.Logic.{dite}
use mathlib.Core.Option as plain
use mathlib.Core.List.{IsPrefix}
use native.Mathlib.Decide.{ℕ_discrete}
use lib.ListN.{get_elem?}
use Rattle.atomic_table.specs.Table.{State, Act, step, takes, gives, keeps, stepped, Valid, carried_after, Allows}
use Rattle.atomic_table.proofs.Lists.{set_else}
use Rattle.turn_cell.specs.declared.view.SeatView.{SeatView}
use Rattle.std.proofs.lemmas.List.Elements.{All-weaker}
use Rattle.turn_cell.specs.History.{entries_of, made_by}
use Rattle.turn_cell.specs.Rule.{Turn, free, taken, is_holder, Keeps, Fits, Ruled, TurnRule, view_after_find, view_after_take, view_after_put, Tries, Puts}
use Rattle.turn_cell.proofs.HistoryLemmas.{even_or_one, odd_or_one, own_more, others_same, prefix_refl, prefix_more, set_there, each_of_set}

module _ {S E N : Type 0} (stands : S → List (ℕ × E) → Type 0) (name_of : S → N) (name : N) (seats : ℕ) where
  abbrev K : Type 0
  K = SeatView E N

  abbrev Log : Type 0
  Log = List (ℕ × E)

  abbrev St : Type 0
  St = State (Option S) K

  abbrev Rule : St → Type 0
  Rule = TurnRule stands name_of name seats

  abbrev Kept : St → Log → Turn S → (ℕ → ℕ) → Type 0
  Kept = Ruled stands name_of name seats

  abbrev Fit : Log → (ℕ → ℕ) → ℕ → Bool → K → Type 0
  Fit log owner id b v = Fits log name seats owner id b v

  -- what each seat of the table owes the rule
  abbrev Each : Log → (ℕ → ℕ) → Turn S → ℕ → K → Type 0
  Each log owner turn j v = (n : N) → v.name ≡ Some n → Fit log owner j (is_holder turn j) v

  -- what the step of `try_take` comes to
  abbrev Tried : St → ℕ → K → ℕ → Type 0
  Tried s id v slots = (w : K) × (a : Act (Option S)) × Valid s.homes [] a × Rule (stepped s 0 (bit_or (get_or s.words 0 0) 1) id [] w a)
      × Tries stands name_of (step slots 0 1 0 plain.none) (v, []) (get_or s.words 0 0) (w, carried_after [] a)

  wins : (s : St) (log : Log) (x : S) (owner : ℕ → ℕ) → Kept s log (free x) owner → (id : ℕ) (v : K) (slots : ℕ) → get_elem? s.views id ≡ plain.some v → v.name ≡ Some name → Tried s id v slots
  wins s log x owner k id v slots at live =
      let r : ℕ = get_or s.words 0 0 in
      let n : ℕ = length log in
      let is : r ≡ 2 * n = ap (λ (ws : List ℕ). get_or ws 0 0) k.words in
      let f : Fit log owner id false v = k.each_seat id v name at live in
      let w : K = view_after_take log r v in
      let mine : Fit log owner id true w = record {
        named = f.named;
        seen = prefix_refl log;
        own = f.own;
        placed = f.placed;
        below = f.below;
        counted = f.counted;
        within = f.within;
        joined = f.joined;
        distinct = f.distinct;
        past = f.past;
        rights = f.rights;
        marked = refl;
        whole = λ _. refl;
      } in (
        w,
        takes 0 (Some x),
        ap (λ (hs : List (plain.Option (Option S))). get_elem? hs 0) k.homes,
        record {
          log = log;
          turn = taken id;
          owner = owner;
          kept = record {
            words = ap (λ (ws : List ℕ). set ws 0 (bit_or (get_or ws 0 0) 1)) k.words ∙ ap (λ (i : ℕ). i ∷ []) (even_or_one n);
            homes = ap (λ (hs : List (plain.Option (Option S))). set hs 0 plain.none) k.homes;
            bounded = k.bounded;
            lies = (w, set_there s.views id v w at, live);
            each_seat = λ j u m there e. each_of_set (Each log owner (taken id)) s.views id w (λ _ _. subst (λ (b : Bool). Fit log owner id b w) (sym (eq-eqb id id refl)) mine)
                (λ i y ne at' m' e'. subst (λ (b : Bool). Fit log owner i b y) (sym (ne_eqb i id ne)) (k.each_seat i y m' at' e')) j u there m e;
            no_others = k.no_others;
          };
        },
        (
          (λ _. record {
            state = x;
            log = log;
            after = refl;
            length_told = is;
            bounded = k.bounded;
            begins = f.seen;
            own = f.own;
            past = f.past;
            joined = All-weaker (Keeps log owner id v.number v.next) (λ j. entries_of j.number log ≡ j.own) (λ j q. q.own) v.joined f.joined;
            stand = k.lies.0;
            named = f.named ∙ ap Some (sym k.lies.1);
          }),
          λ odd. absurd (omega arith),
        ),
      )

  loses : (s : St) (log : Log) (h : ℕ) (owner : ℕ → ℕ) → Kept s log (taken h) owner → (id : ℕ) (v : K) (slots : ℕ) → get_elem? s.views id ≡ plain.some v → v.name ≡ Some name → Tried s id v slots
  loses s log h owner k id v slots at live =
      let r : ℕ = get_or s.words 0 0 in
      let n : ℕ = length log in
      let is : r ≡ 2 * n + 1 = ap (λ (ws : List ℕ). get_or ws 0 0) k.words in
      let w : K = view_after_find r v in
      let mine : (m : N) → v.name ≡ Some m → Fit log owner id (eqb id h) w = λ m e. let f = k.each_seat id v m at e in record {
        named = f.named;
        seen = f.seen;
        own = f.own;
        placed = f.placed;
        below = f.below;
        counted = f.counted;
        within = f.within;
        joined = f.joined;
        distinct = f.distinct;
        past = f.past;
        rights = f.rights;
        marked = f.marked;
        whole = f.whole;
      } in (
        w,
        keeps,
        tt,
        record {
          log = log;
          turn = taken h;
          owner = owner;
          kept = record {
            words = ap (λ (ws : List ℕ). set ws 0 (bit_or (get_or ws 0 0) 1)) k.words ∙ ap (λ (i : ℕ). i ∷ []) (odd_or_one n);
            homes = k.homes;
            bounded = k.bounded;
            lies = dite (ℕ_discrete h id) (λ same. (w, subst (λ (i : ℕ). get_elem? (set s.views id w) i ≡ plain.some w) (sym same) (set_there s.views id v w at), live))
                (λ other. (k.lies.0, set_else s.views id h w other ∙ k.lies.1, k.lies.2));
            each_seat = λ j u m there e. each_of_set (Each log owner (taken h)) s.views id w mine (λ i y _ at' m' e'. k.each_seat i y m' at' e') j u there m e;
            no_others = k.no_others;
          };
        },
        ((λ even. absurd (omega arith)), λ _. refl),
      )

  tried : (s : St) (log : Log) (turn : Turn S) (owner : ℕ → ℕ) → Kept s log turn owner → (id : ℕ) (v : K) (slots : ℕ) → get_elem? s.views id ≡ plain.some v → v.name ≡ Some name → Tried s id v slots
  tried s log (free x) owner k = wins s log x owner k
  tried s log (taken h) owner k = loses s log h owner k

  pub tries : (slots id : ℕ) (v : K) (c : List (ℕ × Option S)) → c ≡ [] → v.name ≡ Some name → Allows Rule slots id (v, c) 0 (λ n. bit_or n 1) (Tries stands name_of (step slots 0 1 0 plain.none) (v, c))
  tries slots id v c none live = subst (λ (c : List (ℕ × Option S)). Allows Rule slots id (v, c) 0 (λ n. bit_or n 1) (Tries stands name_of (step slots 0 1 0 plain.none) (v, c))) (sym none)
      (λ s r _ at _. tried s r.log r.turn r.owner r.kept id v slots at live)

  -- a seat that does not step, when another adds entries with its number m
  grown : (log : Log) (owner : ℕ → ℕ) (id j m : ℕ) (es : List E) (b : Bool) (u : K) → Fit log owner j b u → b ≡ false → owner m ≡ id → j ≢ id → Fit (log ++ made_by m es) owner j false u
  grown log owner id j m es b u f off is ne = let apart : (k : ℕ) → owner k ≡ j → m ≢ k = λ k p e. ne (sym p ∙ ap owner (sym e) ∙ is) in record {
    named = f.named;
    seen = prefix_more u.seen log (made_by m es) f.seen;
    own = others_same u.number m log es (apart u.number f.placed) ∙ f.own;
    placed = f.placed;
    below = f.below;
    counted = f.counted;
    within = f.within;
    joined = All-weaker (Keeps log owner j u.number u.next) (Keeps (log ++ made_by m es) owner j u.number u.next) (λ x q. record {
      own = others_same x.number m log es (apart x.number q.placed) ∙ q.own;
      placed = q.placed;
      apart = q.apart;
      below = q.below;
    }) u.joined f.joined;
    distinct = f.distinct;
    past = All-weaker (λ p. IsPrefix p log) (λ p. IsPrefix p (log ++ made_by m es)) (λ p q. prefix_more p log (made_by m es) q) u.past f.past;
    rights = λ k lo hi. let q = f.rights k lo hi in (q.0, others_same k m log es (apart k q.0) ∙ q.1);
    marked = f.marked ∙ off;
    whole = λ yes. absurd (false≢true yes);
  }

  -- the seat that adds entries of its own to the history that it has seen
  adds : (log : Log) (owner : ℕ → ℕ) (id : ℕ) (es : List E) (b : Bool) (v : K) → Fit log owner id b v → v.seen ≡ log → Fit (log ++ made_by v.number es) owner id false (view_after_put es v)
  adds log owner id es b v f whole = let m : ℕ = v.number in let more : Log = made_by m es in record {
    named = f.named;
    seen = subst (λ (l : Log). IsPrefix (l ++ more) (log ++ more)) (sym whole) (prefix_refl (log ++ more));
    own = own_more m log es ∙ ap (λ l. l ++ es) f.own;
    placed = f.placed;
    below = f.below;
    counted = f.counted;
    within = f.within;
    joined = All-weaker (Keeps log owner id m v.next) (Keeps (log ++ more) owner id m v.next) (λ x q. record {
      own = others_same x.number m log es (λ e. q.apart (sym e)) ∙ q.own;
      placed = q.placed;
      apart = q.apart;
      below = q.below;
    }) v.joined f.joined;
    distinct = f.distinct;
    past = All-weaker (λ p. IsPrefix p log) (λ p. IsPrefix p (log ++ more)) (λ p q. prefix_more p log more q) v.past f.past;
    rights = λ k lo hi. let q = f.rights k lo hi in let b : m < v.next = f.below in (q.0, others_same k m log es (λ e. omega arith) ∙ q.1);
    marked = refl;
    whole = λ yes. absurd (false≢true yes);
  }

  abbrev Given : St → ℕ → K → S → List E → ℕ → ℕ → Type 0
  Given s id v x es word slots = (w : K) × (a : Act (Option S)) × Valid s.homes ((0, Some x) ∷ []) a × Rule (stepped s 0 word id ((0, Some x) ∷ []) w a)
      × Puts es (step slots 0 word 0 plain.none) (v, (0, Some x) ∷ []) word (w, carried_after ((0, Some x) ∷ []) a)

  given : (s : St) (log : Log) (turn : Turn S) (owner : ℕ → ℕ) → Kept s log turn owner → (id : ℕ) (v : K) (x : S) (es : List E) (word slots : ℕ) → get_elem? s.views id ≡ plain.some v → v.name ≡ Some name → v.holds ≡ true
      → word ≡ 2 * length (v.seen ++ made_by v.number es) → length (v.seen ++ made_by v.number es) ≤ 2 ^ 62 → stands x (v.seen ++ made_by v.number es) → name_of x ≡ name → Given s id v x es word slots
  given s log (free y) owner k id v x es word slots at live holds right room stand named = let f = k.each_seat id v name at live in absurd (false≢true (sym f.marked ∙ holds))
  given s log (taken h) owner k id v x es word slots at live holds right room stand named =
      let f : Fit log owner id (eqb id h) v = k.each_seat id v name at live in
      let mark : eqb id h ≡ true = sym f.marked ∙ holds in
      let same : id ≡ h = eqb-true id h mark in
      let whole : v.seen ≡ log = f.whole mark in
      let m : ℕ = v.number in
      let more : Log = made_by m es in
      let w : K = view_after_put es v in
      let within : m < seats = omega (arith, f.below, f.within, f.counted) in (
        w,
        gives,
        tt,
        record {
          log = log ++ more;
          turn = free x;
          owner = owner;
          kept = record {
            words = ap (λ (ws : List ℕ). set ws 0 word) k.words ∙ ap (λ (i : ℕ). i ∷ []) (right ∙ ap (λ (l : Log). 2 * length (l ++ more)) whole);
            homes = ap (λ (hs : List (plain.Option (Option S))). set hs 0 (plain.some (Some x))) k.homes;
            bounded = subst (λ (l : Log). length (l ++ more) ≤ 2 ^ 62) whole room;
            lies = (subst (λ (l : Log). stands x (l ++ more)) whole stand, named);
            each_seat = λ j u n there e. each_of_set (Each (log ++ more) owner (free x)) s.views id w (λ _ _. adds log owner id es (eqb id h) v f whole)
                (λ i y ne at' n' e'. grown log owner id i m es (eqb i h) y (k.each_seat i y n' at' e') (ne_eqb i h (λ e. ne (e ∙ sym same))) f.placed ne) j u there n e;
            no_others = λ i far. others_same i m log es (λ e. omega arith) ∙ k.no_others i far;
          };
        },
        refl,
      )

  pub puts : (slots id : ℕ) (v : K) (x : S) (c : List (ℕ × Option S)) (es : List E) (word : ℕ) → c ≡ (0, Some x) ∷ [] → v.name ≡ Some name → v.holds ≡ true → word ≡ 2 * length (v.seen ++ made_by v.number es) → length (v.seen ++ made_by v.number es) ≤ 2 ^ 62 → stands x (v.seen ++ made_by v.number es)
      → v.name ≡ Some (name_of x) → Allows Rule slots id (v, c) 0 (λ _. word) (λ _. Puts es (step slots 0 word 0 plain.none) (v, c) word)
  puts slots id v x c es word is live holds right room stand named =
      subst (λ (c : List (ℕ × Option S)). Allows Rule slots id (v, c) 0 (λ _. word) (λ _. Puts es (step slots 0 word 0 plain.none) (v, c) word)) (sym is)
      (λ s r _ at _. given s r.log r.turn r.owner r.kept id v x es word slots at live holds right room stand (ap (λ (o : Option N). unwrap_or o name) (sym named ∙ live)))
