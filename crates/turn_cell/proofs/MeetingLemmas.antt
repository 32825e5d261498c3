-- A seat is split, two seats are joined, and a cell opens and closes.
use Rattle.std.proofs.Common.{◌≡◌, ◌≢◌, ℕ, ◌+◌, ◌<◌, ◌≤◌, Bool, true, false, eqb, leb, List, [], ◌∷◌, ◌++◌, set, length, refl, sym, ap, ◌∙◌, subst, arith, ne_eqb, eq-eqb, cond, Option, Some, is_some, ⊎_elim, zero, suc, le_refl, length-set}
use Rattle.std.proofs.lemmas.Bool.{false≢true, cases_lt, le-leb, lt-leb}
use mathlib.Core.Logic.{dite}
use mathlib.Core.Option as plain
use mathlib.Core.List.{IsPrefix}
use native.Mathlib.Decide.{ℕ_discrete}
use lib.ListN.{get_elem?}
use Rattle.atomic_table.specs.Table.{State, Splits, Joins, Final, Seen, opening}
use Rattle.atomic_table.proofs.Lists.{set_else, at_longer}
use Rattle.turn_cell.specs.declared.view.SeatView.{SeatView}
use Rattle.turn_cell.specs.declared.view.Joined.{Joined}
use Rattle.std.specs.List.{All}
use Rattle.std.proofs.lemmas.List.Kept.{AllPairs-cons}
use Rattle.std.proofs.lemmas.List.Elements.{All-weaker, All-nil, All-cons, All-append, All-map, All-contains}
use Rattle.atomic_table.specs.Seated.{TableId}
use Rattle.turn_cell.specs.History.{entries_of}
use Rattle.turn_cell.specs.Seat.{Agrees, Closes, CellState, HasTakenInAll, numbers_of}
use Rattle.turn_cell.specs.Rule.{Turn, free, taken, is_holder, Keeps, Fits, Lies, Ruled, TurnRule, first_view, view_settled, view_following, view_after_join, view_as_joined, spent_view, shown}
use Rattle.turn_cell.proofs.HistoryLemmas.{pairs_append, set_there, each_of_set, at_below, at_end, prefix_longer, prefix_refl}

module _ {S E N : Type 0} (stands : S → List (ℕ × E) → Type 0) (name_of : S → N) (name : N) (seats : ℕ) where
  abbrev K : Type 0
  K = SeatView E N

  abbrev Log : Type 0
  Log = List (ℕ × E)

  abbrev St : Type 0
  St = State (Option S) K

  abbrev Rule : St → Type 0
  Rule = TurnRule stands name_of name seats

  abbrev Kept : St → Log → Turn S → (ℕ → ℕ) → Type 0
  Kept = Ruled stands name_of name seats

  abbrev Fit : Log → (ℕ → ℕ) → ℕ → Bool → K → Type 0
  Fit log owner id b v = Fits log name seats owner id b v

  abbrev cell : TableId → CellState N
  cell table = record { table = table; name = name; seats = seats }

  abbrev Each : Log → (ℕ → ℕ) → Turn S → ℕ → K → Type 0
  Each log owner turn j v = (n : N) → v.name ≡ Some n → Fit log owner j (is_holder turn j) v

  -- a seat whose numbers keep their place
  moved : (log : Log) (owner owner' : ℕ → ℕ) (j : ℕ) (b : Bool) (u : K) → Fit log owner j b u → ((n : ℕ) → n < seats → owner n ≡ j → owner' n ≡ j) → Fit log owner' j b u
  moved log owner owner' j b u f same = let top : u.next ≤ seats = omega (arith, f.within, f.counted) in let low : u.number < u.next = f.below in record {
    named = f.named;
    seen = f.seen;
    own = f.own;
    placed = same u.number (omega arith) f.placed;
    below = f.below;
    counted = f.counted;
    within = f.within;
    joined = All-weaker (Keeps log owner j u.number u.next) (Keeps log owner' j u.number u.next) (λ x q. let l : x.number < u.next = q.below in record {
      own = q.own;
      placed = same x.number (omega arith) q.placed;
      apart = q.apart;
      below = q.below;
    }) u.joined f.joined;
    distinct = f.distinct;
    past = f.past;
    rights = λ n lo hi. let q = f.rights n lo hi in (same n hi q.0, q.1);
    marked = f.marked;
    whole = f.whole;
  }

  -- the seat that holds the turn stays where it is
  lies_still : (turn : Turn S) (log : Log) (vs vs' : List K)
      → ((h : ℕ) (u : K) → get_elem? vs h ≡ plain.some u → u.name ≡ Some name → is_holder turn h ≡ true → (u' : K) × (get_elem? vs' h ≡ plain.some u') × (u'.name ≡ Some name))
      → Lies stands name_of name vs log turn → Lies stands name_of name vs' log turn
  lies_still (free x) log vs vs' same l = l
  lies_still (taken h) log vs vs' same l = same h l.0 l.1 l.2 (eq-eqb h h refl)

  newest : (turn : Turn S) (log : Log) (vs : List K) → Lies stands name_of name vs log turn → is_holder turn (length vs) ≡ false
  newest (free x) log vs l = refl
  newest (taken h) log vs l = let low = at_below vs h l.0 l.1 in ne_eqb (length vs) h (λ e. omega arith)

  pub splits : (id : ℕ) (v : K) → v.name ≡ Some name → v.next < v.seats → Splits Rule id v (view_settled v) (view_following v)
  splits id v live room s r at =
      let k = r.kept in
      let log : Log = r.log in
      let turn : Turn S = r.turn in
      let f = k.each_seat id v name at live in
      let new : ℕ = length s.views in
      let m : ℕ = v.next in
      let low : v.number < m = f.below in
      let counted : v.seats ≡ seats = f.counted in
      let owner : ℕ → ℕ = r.owner in
      let owner' : ℕ → ℕ = λ n. cond (leb m n) new (owner n) in
      let stays : (n j : ℕ) → n < m → owner n ≡ j → owner' n ≡ j = λ n j l p. ap (λ (b : Bool). cond b new (owner n)) (lt-leb m n l) ∙ p in
      let goes : (n : ℕ) → m ≤ n → owner' n ≡ new = λ n l. ap (λ (b : Bool). cond b new (owner n)) (le-leb m n l) in
      let old : K = view_settled v in
      let left : Fit log owner' id (is_holder turn id) old = record {
        named = f.named;
        seen = f.seen;
        own = f.own;
        placed = stays v.number id low f.placed;
        below = omega arith;
        counted = counted;
        within = le_refl v.seats;
        joined = All-weaker (Keeps log owner id v.number m) (Keeps log owner' id v.number v.seats) (λ x q. let l : x.number < m = q.below in record {
          own = q.own;
          placed = stays x.number id l q.placed;
          apart = q.apart;
          below = omega arith;
        }) v.joined f.joined;
        distinct = f.distinct;
        past = f.past;
        rights = λ n lo hi. absurd (omega arith);
        marked = f.marked;
        whole = f.whole;
      } in
      let right : Fit log owner' new false (view_following v) = record {
        named = f.named;
        seen = f.seen;
        own = (f.rights m (le_refl m) (omega arith)).1;
        placed = goes m (le_refl m);
        below = omega arith;
        counted = counted;
        within = omega arith;
        joined = All-nil (Keeps log owner' new m (m + 1));
        distinct = λ i j d lt l. absurd (omega arith);
        past = All-nil (λ p. IsPrefix p log);
        rights = λ n lo hi. (goes n (omega arith), (f.rights n (omega arith) hi).1);
        marked = refl;
        whole = λ yes. absurd (false≢true yes);
      } in
      let others : (j : ℕ) (u : K) → j ≢ id → get_elem? s.views j ≡ plain.some u → Each log owner' turn j u = λ j u ne there n e. moved log owner owner' j (is_holder turn j) u (k.each_seat j u n there e)
      (λ i hi p. stays i j (⊎_elim (λ l. l) (λ l. absurd (ne (sym p ∙ (f.rights i l hi).0))) (cases_lt i m)) p) in
      record {
        log = log;
        turn = turn;
        owner = owner';
        kept = record {
          words = k.words;
          homes = k.homes;
          bounded = k.bounded;
          lies = lies_still turn log s.views (set s.views id old ++ view_following v ∷ []) (λ h u there e _. dite (ℕ_discrete h id)
              (λ same. (old, at_longer (set s.views id old) (view_following v ∷ []) h old (subst (λ (i : ℕ). get_elem? (set s.views id old) i ≡ plain.some old) (sym same) (set_there s.views id v old at)), live))
              (λ other. (u, at_longer (set s.views id old) (view_following v ∷ []) h u (set_else s.views id h old other ∙ there), e))) k.lies;
          each_seat = λ j u n there e. ⊎_elim
              (λ (there' : get_elem? (set s.views id old) j ≡ plain.some u). each_of_set (Each log owner' turn) s.views id old (λ _ _. left) others j u there' n e)
              (λ (t : (j ≡ length (set s.views id old)) × (view_following v ≡ u)). let is : j ≡ new = t.0 ∙ length-set s.views id old in
              subst (λ (x : ℕ × K). Fit log owner' x.0 (is_holder turn x.0) x.1) (λ i. (sym is i, t.1 i)) (subst (λ (b : Bool). Fit log owner' new b (view_following v)) (sym (newest turn log s.views k.lies)) right))
              (at_end (set s.views id old) (view_following v) j u there);
          no_others = k.no_others;
        };
      }

  pub joins : (id : ℕ) (v : K) (other : ℕ) (w : K) → v.name ≡ Some name → w.name ≡ Some name → v.holds ≡ false → w.holds ≡ false → v.next ≡ v.seats → Joins Rule id v other w (view_after_join v w) spent_view
  joins id v other w live live' off off' full s r at ne at' =
      let k = r.kept in
      let log : Log = r.log in
      let turn : Turn S = r.turn in
      let both : K = view_after_join v w in
      let at_w : get_elem? s.views other ≡ plain.some w = sym (set_else s.views id other both ne) ∙ at' in
      let f = k.each_seat id v name at live in
      let g = k.each_seat other w name at_w live' in
      let top : w.next ≤ seats = omega (arith, g.within, g.counted) in
      let all : v.next ≡ seats = full ∙ f.counted in
      let owner : ℕ → ℕ = r.owner in
      let owner' : ℕ → ℕ = λ n. cond (eqb (owner n) other) id (owner n) in
      let comes : (n : ℕ) → owner n ≡ other → owner' n ≡ id = λ n p. ap (λ (b : Bool). cond b id (owner n)) (eq-eqb (owner n) other p) in
      let stays : (n j : ℕ) → j ≢ other → owner n ≡ j → owner' n ≡ j = λ n j no p. ap (λ (b : Bool). cond b id (owner n)) (ne_eqb (owner n) other (λ e. no (sym p ∙ e))) ∙ p in
      let away : id ≢ other = λ e. ne (sym e) in
      let Apart : Joined E → Joined E → Type 0 = λ a b. a.number ≢ b.number in
      let Begins : Log → Type 0 = λ p. IsPrefix p log in
      let reach : w.next ≤ v.next = omega (arith, top, all) in
      let apart : (n : ℕ) → owner n ≡ other → n ≢ v.number = λ n p e. ne (sym p ∙ ap owner e ∙ f.placed) in
      let mine : Fit log owner' id (is_holder turn id) both = record {
        named = f.named;
        seen = prefix_longer _ v.seen w.seen log f.seen g.seen;
        own = f.own;
        placed = stays v.number id away f.placed;
        below = f.below;
        counted = f.counted;
        within = f.within;
        joined = All-append (Keeps log owner' id v.number v.next) v.joined (view_as_joined w ∷ w.joined)
            (All-weaker (Keeps log owner id v.number v.next) (Keeps log owner' id v.number v.next) (λ x q. record { own = q.own; placed = stays x.number id away q.placed; apart = q.apart; below = q.below }) v.joined f.joined)
            (All-cons (Keeps log owner' id v.number v.next) (view_as_joined w) w.joined
            (let low : w.number < w.next = g.below in record { own = g.own; placed = comes w.number g.placed; apart = apart w.number g.placed; below = omega arith })
            (All-weaker (Keeps log owner other w.number w.next) (Keeps log owner' id v.number v.next) (λ x q. let low : x.number < w.next = q.below in record { own = q.own; placed = comes x.number q.placed; apart = apart x.number q.placed; below = omega arith }) w.joined g.joined));
        distinct = pairs_append Apart v.joined (view_as_joined w ∷ w.joined) f.distinct
            (AllPairs-cons Apart (view_as_joined w) w.joined (All-weaker (Keeps log owner other w.number w.next) (Apart (view_as_joined w)) (λ y q e. q.apart (sym e)) w.joined g.joined) g.distinct)
            (All-weaker (Keeps log owner id v.number v.next) (λ x. All (Apart x) (view_as_joined w ∷ w.joined))
            (λ x q. let split : (n : ℕ) → owner n ≡ other → x.number ≢ n = λ n p e. away (sym q.placed ∙ (ap owner e ∙ p)) in
            All-cons (Apart x) (view_as_joined w) w.joined (split w.number g.placed) (All-weaker (Keeps log owner other w.number w.next) (Apart x) (λ y r. split y.number r.placed) w.joined g.joined))
            v.joined f.joined);
        past = All-cons Begins v.seen (w.seen ∷ v.past ++ w.past) f.seen (All-cons Begins w.seen (v.past ++ w.past) g.seen (All-append Begins v.past w.past f.past g.past));
        rights = λ n lo hi. absurd (omega arith);
        marked = f.marked;
        whole = λ yes. absurd (false≢true (sym off ∙ (f.marked ∙ yes)));
      } in
      record {
        log = log;
        turn = turn;
        owner = owner';
        kept = record {
          words = k.words;
          homes = k.homes;
          bounded = k.bounded;
          lies = lies_still turn log s.views (set (set s.views id both) other spent_view) (λ h u there e yes.
              let not_id : h ≢ id = λ same. false≢true (sym off ∙ (f.marked ∙ subst (λ (i : ℕ). is_holder turn i ≡ true) same yes)) in
              let not_other : h ≢ other = λ same. false≢true (sym off' ∙ (g.marked ∙ subst (λ (i : ℕ). is_holder turn i ≡ true) same yes)) in
              (u, set_else (set s.views id both) other h spent_view not_other ∙ (set_else s.views id h both not_id ∙ there), e)) k.lies;
          each_seat = λ j u n there e. each_of_set (Each log owner' turn) (set s.views id both) other spent_view (λ _ no. absurd (false≢true (ap is_some no)))
              (λ i y not_other there'. each_of_set (λ i y. i ≢ other → Each log owner' turn i y) s.views id both (λ _ _ _. mine)
              (λ i y _ there'' not_other n' e'. moved log owner owner' i (is_holder turn i) y (k.each_seat i y n' there'' e') (λ a _ p. stays a i not_other p)) i y there' not_other) j u there n e;
          no_others = k.no_others;
        };
      }

  -- what the seat at a place knows agrees with the history
  pub agrees : (table : TableId) (log : Log) (owner : ℕ → ℕ) (id : ℕ) (b : Bool) (v : K) → Fit log owner id b v → Agrees (shown table v) log
  agrees table log owner id b v f = record {
    begins = f.seen;
    own = f.own;
    past = f.past;
    joined = All-weaker (Keeps log owner id v.number v.next) (λ j. entries_of j.number log ≡ j.own) (λ j q. q.own) v.joined f.joined;
  }

  -- once all seats have met in one that doesn't hold the turn, the state is at home
  ends : (table place : TableId) (s : St) (log : Log) (turn : Turn S) (owner : ℕ → ℕ) → Kept s log turn owner → (slots : List (Option S)) (id : ℕ) (v : K) → get_elem? s.views id ≡ plain.some v → v.name ≡ Some name → v.holds ≡ false
      → HasTakenInAll (cell table) (shown place v) → ((k : ℕ) (y : Option S) → get_elem? s.homes k ≡ plain.some (plain.some y) → get_elem? slots k ≡ plain.some y)
      → (x : S) × (get_elem? slots 0 ≡ plain.some (Some x)) × Closes stands (cell table) (shown place v) x × (name_of x ≡ name)
  ends table place s log (free x) owner k slots id v at live off all there = let f = k.each_seat id v name at live in (
    x,
    there 0 (Some x) (ap (λ (hs : List (plain.Option (Option S))). get_elem? hs 0) k.homes),
    record {
      history = log;
      stand = k.lies.0;
      agrees = agrees place log owner id false v f;
      no_others = k.no_others;
    },
    k.lies.1,
  )
  ends table place s log (taken h) owner k slots id v at live off all there =
      let f = k.each_seat id v name at live in
      let u = k.lies.0 in
      let g = k.each_seat h u name k.lies.1 k.lies.2 in
      let low : u.number < seats = omega (arith, g.below, g.within, g.counted) in
      let here : All (λ (n : ℕ). owner n ≡ id) (numbers_of (shown place v)) = All-cons (λ (n : ℕ). owner n ≡ id) v.number _ f.placed
      (All-map (λ (n : ℕ). owner n ≡ id) (λ (j : Joined E). j.number) v.joined (All-weaker (Keeps log owner id v.number v.next) (λ j. owner j.number ≡ id) (λ j q. q.placed) v.joined f.joined)) in
      let same : id ≡ h = sym (All-contains (λ (n : ℕ). owner n ≡ id) (numbers_of (shown place v)) u.number here (all u.number low)) ∙ g.placed in
      absurd (false≢true (sym off ∙ (f.marked ∙ eq-eqb id h same)))

  pub closes : (table place : TableId) (words : List ℕ) (slots : List (Option S)) (id : ℕ) (v : K) → v.name ≡ Some name → v.holds ≡ false → HasTakenInAll (cell table) (shown place v) → Final (Seen Rule id v) words slots
      → (x : S) × (get_elem? slots 0 ≡ plain.some (Some x)) × Closes stands (cell table) (shown place v) x × (name_of x ≡ name)
  closes table place words slots id v live off all final = let r = final.1.0 in ends table place final.0 r.log r.turn r.owner r.kept slots id v final.1.1 live off all final.4

  pub opens : (x : S) → name_of x ≡ name → stands x [] → 1 ≤ seats → Rule (opening (0 ∷ []) (Some x ∷ []) (first_view name seats))
  opens x is stand some_seat = record {
    log = [];
    turn = free x;
    owner = λ _. 0;
    kept = record {
      words = refl;
      homes = refl;
      bounded = omega arith;
      lies = (stand, is);
      each_seat = λ j u n there e. first j u there;
      no_others = λ _ _. refl;
    };
  }
    where
      fresh : Fit [] (λ _. 0) 0 false (first_view name seats)
      fresh = record {
        named = refl;
        seen = prefix_refl [];
        own = refl;
        placed = refl;
        below = omega arith;
        counted = refl;
        within = some_seat;
        joined = All-nil (Keeps [] (λ _. 0) 0 0 1);
        distinct = λ i j d lt l. absurd (omega arith);
        past = All-nil (λ p. IsPrefix p []);
        rights = λ n lo hi. (refl, refl);
        marked = refl;
        whole = λ _. refl;
      }

      first : (j : ℕ) (u : K) → get_elem? (first_view name seats ∷ []) j ≡ plain.some u → Fit [] (λ _. 0) j false u
      first zero u there = subst (Fit [] (λ _. 0) 0 false) (plain.some-injective (first_view name seats) u there) fresh
      first (suc j) u there = absurd (plain.some-ne-none u (sym there))
