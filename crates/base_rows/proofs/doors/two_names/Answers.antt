use Rattle.std.proofs.Common.{◌≡◌, [], ◌∷◌, map, refl}
use Rattle.std.proofs.lemmas.List.Elements.{All-nil, All-push, All-same}
use Rattle.edge_core.specs.MemDoors.{IsFresh, name_of}
use Rattle.base_rows.proofs.doors.two_names.Goals as goal

pub make-requires-clause-named_fresh : goal.make-requires-clause-named_fresh
make-requires-clause-named_fresh c =
    let none = All-same IsFresh _ _ c.new-names.ensures.items (All-nil IsFresh) in
    let first = All-same IsFresh _ _ c.in_ok-push.ensures.items (All-push IsFresh _ _ none c.in_ok-named.ensures.fresh) in
    All-same IsFresh _ _ c.in_ok-push-2.ensures.items (All-push IsFresh _ _ first c.in_ok-named-2.ensures.fresh)

pub make-requires-clause-names_differ : goal.make-requires-clause-names_differ
make-requires-clause-names_differ c =
    let names : map name_of c.push-2.new.self.items ≡ name_of c.in_ok-named.field-0 ∷ name_of c.in_ok-named-2.field-0 ∷ [] =
    rw (c.in_ok-push-2.ensures.items, c.in_ok-push.ensures.items, c.new-names.ensures.items) refl in
    rw (names, c.in_ok-named.ensures.name, c.in_ok-named-2.ensures.name) refl
