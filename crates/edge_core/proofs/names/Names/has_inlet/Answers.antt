use Rattle.std.proofs.Common.{arith, sym, ap, ◌∙◌, List, Option, option_and_then, is_some}
use Rattle.edge_core.specs.Names.{NamedState, inlet_of, place_from}
use Rattle.edge_core.proofs.NamesLemmas.{absent, first_at, has_at}
use Rattle.edge_core.proofs.names.Names.has_inlet.Goals as goal

pub index-requires : goal.index-requires
index-requires c =
    let first = first_at c.args.name.now c.self.inside.list.items c.in-Some.at (ap (λ (names : List NamedState). place_from 0 c.args.name.now names) c.self.view_is ∙ sym c.place_of.ensures ∙ c.in-Some.is) in
    omega (arith, first.within, c.self.inside.list.ok)

pub returns-in-Some : goal.returns-in-Some
returns-in-Some c =
    let first = first_at c.args.name.now c.self.inside.list.items c.in-Some.at (ap (λ (names : List NamedState). place_from 0 c.args.name.now names) c.self.view_is ∙ sym c.place_of.ensures ∙ c.in-Some.is) in
    has_at (λ known. known.inlet) _ _ _ c.index.result.now _ first c.index.ensures c.has_inlet.ensures
    ∙ ap (λ (names : List NamedState). is_some (inlet_of c.args.name.now names)) c.self.view_is

pub returns-in-None : goal.returns-in-None
returns-in-None c = ap (λ (o : Option NamedState). is_some (option_and_then (λ known. known.inlet) o)) (sym (absent c.args.name.now c.args.self.now (sym c.place_of.ensures ∙ c.in-None.is)).0)
