-- What a reader has read of a text, and what is left of it.
use Rattle.std.proofs.Common.{ℕ, List}
use Rattle.db_lex.specs.Lines.{KeptLine}
use Rattle.db_rules.specs.Blocks.{SoFar}
use Rattle.db_rules.proofs.Walk.{Reaches}
use Rattle.db_read.specs.Reading.{Shows}
use Rattle.db_read.specs.declared.reader.Reader.{Reader}

-- what a reader has read, and what is left
pub record Walked (helpers : List (List ℕ)) (text : List ℕ) (reader : Reader) (left : List KeptLine) : Type 0 where
  pub so_far : SoFar
  pub shown : Shows reader so_far
  pub reaches : Reaches helpers text so_far left
