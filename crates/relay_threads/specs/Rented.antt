-- The blocks of a pipe that are out with a pass of a pool.
use Rattle.std.specs.Prelude.{ℕ, List, map}
use Rattle.pipe_state.specs.Released.{BlockName}

-- the ids of the blocks that a pipe was made of
abbrev pub ids_named : List BlockName → List ℕ
ids_named blocks = map (λ (b : BlockName). b.id) blocks
