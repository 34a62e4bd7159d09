-- What an expression says, wherever it lies in memory.
use Rattle.std.specs.Prelude.{ℕ, List}
use Rattle.pat_types.specs.declared.expr.Op.{Op}
use Rattle.pat_types.specs.declared.expr.Arg.{Arg}
use Rattle.pat_types.specs.declared.expr.Function.{Function}
use Rattle.pat_types.specs.declared.expr.Expr.{Expr, Num, Call, Not', Neg', Bin'}
use Rattle.cons_parse.specs.declared.token.Name.{Name}
use Rattle.cons_parse.specs.declared.token.Name.TheVariants.{Letter, Known, Unknown}
use Rattle.cons_parse.specs.Grammar as written

-- an expression without its boxes
pub data Tree : Type 0 where
  NumTree : ℕ → Tree
  CallTree : Function → List Arg → Tree
  NotTree : Tree → Tree
  NegTree : Tree → Tree
  BinTree : Op → Tree → Tree → Tree

-- what an expression says
abbrev pub tree_of : Expr → Tree
tree_of (Num n) = NumTree n
tree_of (Call f args) = CallTree f args
tree_of (Not' p e) = NotTree (tree_of e)
tree_of (Neg' p e) = NegTree (tree_of e)
tree_of (Bin' op p a q b) = BinTree op (tree_of a) (tree_of b)

-- the tree of a call; a name that is no function's gives the number 0
abbrev pub call_tree : Name → List Arg → Tree
call_tree (Letter c) args = NumTree 0
call_tree (Known f) args = CallTree f args
call_tree Unknown args = NumTree 0

-- what a written expression says: parentheses only group
abbrev pub meaning_of : written.Written → Tree
meaning_of (written.Num n) = NumTree n
meaning_of (written.Call name args) = call_tree name args
meaning_of (written.Parens e) = meaning_of e
meaning_of (written.Not e) = NotTree (meaning_of e)
meaning_of (written.Neg e) = NegTree (meaning_of e)
meaning_of (written.Bin op a b) = BinTree op (meaning_of a) (meaning_of b)
