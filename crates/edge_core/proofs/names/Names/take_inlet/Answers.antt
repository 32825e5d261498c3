use Rattle.std.proofs.Common.{arith, sym, ap, ◌∙◌, List, Option, option_and_then}
use Rattle.edge_core.specs.Names.{NamedState, inlet_of, inlet_taken, place_from, without_inlet}
use Rattle.edge_core.proofs.NamesLemmas.{absent, first_at, part_at, changed_at}
use Rattle.edge_core.proofs.names.Names.take_inlet.Goals as goal

pub index_mut-requires : goal.index_mut-requires
index_mut-requires c =
    let first = first_at c.args.name.now c.self.inside.list.items c.in-Some.at (ap (λ (names : List NamedState). place_from 0 c.args.name.now names) c.self.view_is ∙ sym c.place_of.ensures ∙ c.in-Some.is) in
    omega (arith, first.within, c.self.inside.list.ok)

pub returns-in-Some-clause-taken : goal.returns-in-Some-clause-taken
returns-in-Some-clause-taken c =
    let first = first_at c.args.name.now c.self.inside.list.items c.in-Some.at (ap (λ (names : List NamedState). place_from 0 c.args.name.now names) c.self.view_is ∙ sym c.place_of.ensures ∙ c.in-Some.is) in
    part_at (λ known. known.inlet) _ _ _ c.index_mut.result.now _ first c.index_mut.ensures.value c.take_inlet.ensures.taken
    ∙ ap (λ (names : List NamedState). inlet_of c.args.name.now names) c.self.view_is

pub returns-in-Some-clause-after : goal.returns-in-Some-clause-after
returns-in-Some-clause-after c =
    let first = first_at c.args.name.now c.self.inside.list.items c.in-Some.at (ap (λ (names : List NamedState). place_from 0 c.args.name.now names) c.self.view_is ∙ sym c.place_of.ensures ∙ c.in-Some.is) in
    changed_at inlet_taken _ _ _ c.index_mut.result.now _ first c.index_mut.ensures.value c.take_inlet.ensures.after
    ∙ ap (λ (names : List NamedState). without_inlet c.args.name.now names) c.self.view_is

pub returns-in-None-clause-taken : goal.returns-in-None-clause-taken
returns-in-None-clause-taken c = ap (λ (o : Option NamedState). option_and_then (λ known. known.inlet) o) (sym (absent c.args.name.now c.args.self.now (sym c.place_of.ensures ∙ c.in-None.is)).0)

pub returns-in-None-clause-after : goal.returns-in-None-clause-after
returns-in-None-clause-after c = sym ((absent c.args.name.now c.args.self.now (sym c.place_of.ensures ∙ c.in-None.is)).1 inlet_taken)
