-- What is still to be taken stays untouched, and what doors in memory tell is as they were made.
use Rattle.std.proofs.Common.{◌≡◌, inl, inr, ℕ, false, List, [], ◌∷◌, Option, Some, All, IfSome, map, refl, sym, ap, ◌∙◌, subst}
use Rattle.std.proofs.lemmas.Bool.{cases_Bool}
use Rattle.std.proofs.lemmas.List.Elements.{All-cons, All-head, All-tail, All-map, All-weaker}
use Rattle.std.specs.Str.{bytes_eq}
use Rattle.std.specs.Prelude.{String}
use Rattle.std.specs.declared.alloc.Global.{Global}
use Rattle.edge_core.specs.Doors.{Named, OpensInlet, OpensOutlet, content_of}
use Rattle.edge_core.specs.MemDoors.{IsFresh, MemDoorsState, mem_doors_state, name_of, name_told, unopened, with_inlet_out, with_outlet_out}
use Rattle.edge_core.specs.MemSink.{MemSinkState, mem_sink_state, opened_by}
use Rattle.edge_core.specs.MemSource.{MemSourceState, mem_source_state}
use Rattle.edge_core.specs.Names.{IsFreshSink, IsFreshSource, IsUntouched, NamedState, inlet_of, inlet_taken, named_with, outlet_of, outlet_taken, with_changed, without_inlet, without_outlet}
use Rattle.edge_core.specs.Plan.{PlanState, plan_of}
use Rattle.edge_core.specs.Returns.{ReturnsState, nothing_out}

untouched_changed : (change : NamedState → NamedState) → ((known : NamedState) → IsUntouched known → IsUntouched (change known)) → (name : List ℕ) (names : List NamedState) → All IsUntouched names → All IsUntouched (with_changed change name names)
untouched_changed change keeps name [] all = all
untouched_changed change keeps name (known ∷ others) all = elim (cases_Bool (bytes_eq known.name name)) [
  | inl here ↦ rw here (All-cons IsUntouched (change known) others (keeps known (All-head IsUntouched known others all)) (All-tail IsUntouched known others all))
  | inr other ↦ rw other (All-cons IsUntouched known (with_changed change name others) (All-head IsUntouched known others all) (untouched_changed change keeps name others (All-tail IsUntouched known others all)))
]

pub untouched_without_inlet : (name : List ℕ) (names after : List NamedState) → after ≡ without_inlet name names → All IsUntouched names → All IsUntouched after
untouched_without_inlet name names after is all = rw is (untouched_changed inlet_taken (λ known both. (tt, both.1)) name names all)

pub untouched_without_outlet : (name : List ℕ) (names after : List NamedState) → after ≡ without_outlet name names → All IsUntouched names → All IsUntouched after
untouched_without_outlet name names after is all = rw is (untouched_changed outlet_taken (λ known both. (both.0, tt)) name names all)

told_changed : (change : NamedState → NamedState) → ((known : NamedState) → name_told (change known) ≡ name_told known) → (name : List ℕ) (names : List NamedState) → map name_told (with_changed change name names) ≡ map name_told names
told_changed change keeps name [] = refl
told_changed change keeps name (known ∷ others) = elim (cases_Bool (bytes_eq known.name name)) [
  | inl here ↦ rw here (ap (λ (first : Named). first ∷ map name_told others) (keeps known))
  | inr other ↦ rw other (ap (λ (list : List Named). name_told known ∷ list) (told_changed change keeps name others))
]

inlet_told : (name : List ℕ) (names : List NamedState) (source : MemSourceState) → All IsUntouched names → inlet_of name names ≡ Some source
    → (content_of name (map name_told names) ≡ Some source.left) × IsFreshSource source
inlet_told name [] source all is = absurd cc
inlet_told name (known ∷ others) source all is = elim (cases_Bool (bytes_eq known.name name)) [
  | inl here ↦
      let fresh = subst (λ (o : Option MemSourceState). IfSome o (λ s. (s.left ≡ known.content) × IsFreshSource s)) (rw here at is) (All-head IsUntouched known others all).0 in
      (rw here (ap (λ (bytes : List ℕ). Some bytes) (sym fresh.0)), fresh.1)
  | inr other ↦
      let later = inlet_told name others source (All-tail IsUntouched known others all) (rw other at is) in
      (rw other later.0, later.1)
]

outlet_fresh : (name : List ℕ) (names : List NamedState) (sink : MemSinkState) → All IsUntouched names → outlet_of name names ≡ Some sink → IsFreshSink sink
outlet_fresh name [] sink all is = absurd cc
outlet_fresh name (known ∷ others) sink all is = elim (cases_Bool (bytes_eq known.name name)) [
  | inl here ↦ subst (λ (o : Option MemSinkState). IfSome o IsFreshSink) (rw here at is) (All-head IsUntouched known others all).1
  | inr other ↦ outlet_fresh name others sink (All-tail IsUntouched known others all) (rw other at is)
]

-- A name's source was taken, and counted as out.
pub opens_inlet : (before : MemDoorsState) (name : List ℕ) (source : MemSourceState) (names : List NamedState) (plan : PlanState) (returns : ReturnsState)
    → All IsUntouched before.names → inlet_of name before.names ≡ Some source → names ≡ without_inlet name before.names
    → plan.faults ≡ before.plan.faults → returns ≡ with_inlet_out before.returns
    → OpensInlet (mem_doors_state before) name (mem_source_state source) (mem_doors_state (record before { names = names; plan = plan; returns = returns }))
opens_inlet before name source names plan returns all is taken kept out =
    let told = inlet_told name before.names source all is in
    record {
      unfailed = told.1;
      named = (sym told.0, rw told.0 refl);
      opened = rw (taken, kept, out, told_changed inlet_taken (λ known. refl) name before.names) refl;
    }

-- A name's sink was taken, and counted as out.
pub opens_outlet : (before : MemDoorsState) (name : List ℕ) (sink opened : MemSinkState) (names : List NamedState) (plan : PlanState) (returns : ReturnsState)
    → All IsUntouched before.names → outlet_of name before.names ≡ Some sink → names ≡ without_outlet name before.names
    → plan.faults ≡ before.plan.faults → returns ≡ with_outlet_out before.returns → opened ≡ opened_by name sink
    → OpensOutlet (mem_doors_state before) name (mem_sink_state opened) (mem_doors_state (record before { names = names; plan = plan; returns = returns }))
opens_outlet before name sink opened names plan returns all is taken kept out named =
    let fresh = outlet_fresh name before.names sink all is in
    record {
      unfailed = ap (λ (s : MemSinkState). s.plan.faults) named ∙ fresh.1;
      empty = ap (λ (s : MemSinkState). Some s.written) named ∙ ap (λ (bytes : List ℕ). Some bytes) fresh.0;
      named = ap (λ (s : MemSinkState). s.name) named;
      opened = rw (taken, kept, out, told_changed outlet_taken (λ known. refl) name before.names) refl;
    }

pub untouched_at_first : (devices : List (String Global × MemSourceState × MemSinkState)) (names : List NamedState) → names ≡ map named_with devices → All IsFresh devices → All IsUntouched names
untouched_at_first devices names is all =
    rw is (All-map IsUntouched named_with devices (All-weaker IsFresh (λ d. IsUntouched (named_with d)) (λ d fresh. ((refl, fresh.0), fresh.1)) devices all))

told_at_first : (devices : List (String Global × MemSourceState × MemSinkState)) → map name_told (map named_with devices) ≡ map (λ device. record { name = name_of device; content = device.1.left }) devices
told_at_first [] = refl
told_at_first (d ∷ devices) = ap (λ (list : List Named). name_told (named_with d) ∷ list) (told_at_first devices)

pub unopened_at_first : (devices : List (String Global × MemSourceState × MemSinkState)) (sources : List MemSourceState) (fails : List ℕ)
    (names : List NamedState) (accepted : List MemSourceState) (connected : List MemSinkState) (plan : PlanState) (returns : ReturnsState)
    → names ≡ map named_with devices → accepted ≡ sources → plan ≡ plan_of [] fails → returns ≡ nothing_out
    → mem_doors_state (record { names = names; accepted = accepted; connected = connected; is_listening = false; plan = plan; returns = returns }) ≡ unopened devices sources
unopened_at_first devices sources fails names accepted connected plan returns are same planned out = rw (are, same, planned, out, told_at_first devices) refl
