use Rattle.std.proofs.Common.{◌≡◌, [], ◌++◌, take, drop, length, ap, arith, append_assoc, length-append}
use Rattle.std.proofs.lemmas.List.{take_rest, take-append-drop}
use Rattle.edge_core.proofs.DeviceLemmas.{Takes-trans}
use Rattle.edge_core.proofs.writing.write_all.Goals as goal

pub loop-rest-preserved : goal.loop-rest-preserved
loop-rest-preserved g c =
    let i = c.loop-rest.invariant in
    let rest = c.loop-rest.rest.now in
    let n = c.in-Ok.taken in
    record {
      done = i.done ++ take n rest;
      parts = rw (take_rest rest n, append_assoc i.done (take n rest) (drop n rest), take-append-drop n rest) i.parts;
      taken = Takes-trans _ _ _ i.done (take n rest) i.taken c.in-Ok.ensures.taken;
      uncalled = λ (empty : c.args.piece.now ≡ []). absurd (grind (arith, ap length empty, ap length i.parts, length-append i.done rest));
    }
