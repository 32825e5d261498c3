-- What a pipe, its state and its seats are known by.
use Rattle.std.specs.Prelude.{ℕ, List}
use Rattle.pipe_state.specs.declared.options.Options.{Options}
use Rattle.pipe_state.specs.Released.{BlockName}

-- With what a pipe was made: its options and its blocks, and by which names its state knows what each end has. Which pipe a seat is of, its table tells (`IsOf`).
pub record Name : Type 0 where
  pub options : Options
  pub blocks : List BlockName
  pub reader : ℕ
  pub writer : ℕ
