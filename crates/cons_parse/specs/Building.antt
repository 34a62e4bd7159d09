-- Building an expression from its items with a stack of what is still open, for any form that the expression may have.
use Rattle.std.specs.Prelude.{ℕ, nat_le, List, [], ◌∷◌, map, reverse, drop, Option, Some, None, if◌then◌else◌}
use Rattle.std.specs.Option.{option_map}
use Rattle.pat_types.specs.declared.expr.Op.{Op}
use Rattle.pat_types.specs.declared.expr.Arg.{Arg}
use Rattle.pat_types.specs.declared.expr.Expr.{Expr}
use Rattle.cons_parse.specs.declared.token.Name.{Name}
use Rattle.cons_parse.specs.declared.calls.Item.{Item}
use Rattle.cons_parse.specs.declared.calls.Item.TheVariants as item
use Rattle.cons_parse.specs.declared.build.Frame.{Frame}
use Rattle.cons_parse.specs.declared.build.Frame.TheVariants as frame
use Rattle.cons_parse.specs.Grammar.{level_of_op}
use Rattle.cons_parse.specs.Grammar as written
use Rattle.cons_parse.specs.Trees.{Tree, NumTree, NotTree, NegTree, BinTree, tree_of, call_tree}

-- how an expression of some form is made of its parts
pub record Forms (P : Type 0) : Type 0 where
  pub num : ℕ → P
  pub call : Name → List Arg → P
  pub parens : P → P
  pub denied : P → P
  pub negated : P → P
  pub joined : Op → P → P → P

-- what may be open before an operand
pub data Pending (P : Type 0) : Type 0 where
  OpenNot : Pending P
  OpenNeg : Pending P
  OpenParens : Pending P
  OpenLeft : Op → P → Pending P

-- what is open, the newest first, and an operand behind it
abbrev pub Standing : Type 0 → Type 0
Standing P = List (Pending P) × P

-- the operand e with the open signs before it, which leave the stack
abbrev pub settled_in : {P : Type 0} → Forms P → List (Pending P) → P → Standing P
settled_in f [] e = ([], e)
settled_in f (OpenNot ∷ ps) e = settled_in f ps (f.denied e)
settled_in f (OpenNeg ∷ ps) e = settled_in f ps (f.negated e)
settled_in f (OpenParens ∷ ps) e = (OpenParens ∷ ps, e)
settled_in f (OpenLeft op a ∷ ps) e = (OpenLeft op a ∷ ps, e)

-- the operand e as the right side of each open operator of level k or a tighter one; these operators leave the stack
abbrev pub joined_in : {P : Type 0} → Forms P → ℕ → List (Pending P) → P → Standing P
joined_in f k [] e = ([], e)
joined_in f k (OpenNot ∷ ps) e = (OpenNot ∷ ps, e)
joined_in f k (OpenNeg ∷ ps) e = (OpenNeg ∷ ps, e)
joined_in f k (OpenParens ∷ ps) e = (OpenParens ∷ ps, e)
joined_in f k (OpenLeft op a ∷ ps) e =
    if nat_le k (level_of_op op) then joined_in f k ps (f.joined op a e) else (OpenLeft op a ∷ ps, e)

-- a place among the items: what is open, and the operand that stands before the place, if there is one
pub record State (P : Type 0) : Type 0 where
  pub pending : List (Pending P)
  pub now : Option P

-- the place behind an operand
abbrev pub standing : {P : Type 0} → Standing P → State P
standing s = record { pending = s.0; now = Some s.1 }

-- a place where an operand is expected
abbrev pub waiting : {P : Type 0} → List (Pending P) → State P
waiting ps = record { pending = ps; now = None }

-- the place behind an operator, which is a sign if no operand stands before it
abbrev pub operated : {P : Type 0} → Forms P → List (Pending P) → Option P → Op → State P
operated f ps None op = waiting (OpenNeg ∷ ps)
operated f ps (Some e) op = let s = joined_in f (level_of_op op) ps e in waiting (OpenLeft op s.1 ∷ s.0)

-- the place behind a closing parenthesis
abbrev pub closed_in : {P : Type 0} → Forms P → List (Pending P) → Option P → State P
closed_in f ps None = waiting ps
closed_in f ps (Some e) = let s = joined_in f 0 ps e in standing (settled_in f (drop 1 s.0) (f.parens s.1))

-- the place behind an item
abbrev pub stepped : {P : Type 0} → Forms P → State P → Item → State P
stepped f s (item.Number n) = standing (settled_in f s.pending (f.num n))
stepped f s (item.Call name args) = standing (settled_in f s.pending (f.call name args))
stepped f s (item.Operator op) = operated f s.pending s.now op
stepped f s item.Bang = waiting (OpenNot ∷ s.pending)
stepped f s item.Open = waiting (OpenParens ∷ s.pending)
stepped f s item.Close = closed_in f s.pending s.now

-- the place behind all of these items
unfoldable pub run : {P : Type 0} → Forms P → State P → List Item → State P
run f s [] = s
run f s (i ∷ is) = run f (stepped f s i) is

-- the whole expression, once each open operator has its right side
abbrev pub finished : {P : Type 0} → Forms P → List (Pending P) → Option P → P
finished f ps None = f.num 0
finished f ps (Some e) = (joined_in f 0 ps e).1

-- the expression that items spell
abbrev pub built : {P : Type 0} → Forms P → List Item → P
built f is = let s = run f (waiting []) is in finished f s.pending s.now

-- a written expression, made in the forms f
abbrev pub valued : {P : Type 0} → Forms P → written.Written → P
valued f (written.Num n) = f.num n
valued f (written.Call name args) = f.call name args
valued f (written.Parens e) = f.parens (valued f e)
valued f (written.Not e) = f.denied (valued f e)
valued f (written.Neg e) = f.negated (valued f e)
valued f (written.Bin op a b) = f.joined op (valued f a) (valued f b)

-- the forms that make a tree; parentheses add nothing to it
abbrev pub trees : Forms Tree
trees = record {
  num = NumTree;
  call = call_tree;
  parens = λ e. e;
  denied = NotTree;
  negated = NegTree;
  joined =
      BinTree;
}

-- a frame of the code, as the definitions have it
abbrev pub pending_of : Frame → Pending Tree
pending_of frame.Not = OpenNot
pending_of frame.Neg = OpenNeg
pending_of frame.Open = OpenParens
pending_of (frame.Left op e) = OpenLeft op (tree_of e)

-- the stack of the code, as the definitions have it: the newest first
abbrev pub stack_of : List Frame → List (Pending Tree)
stack_of frames = map pending_of (reverse frames)

-- a place of the code, as the definitions have it
abbrev pub state_of : List Frame → Option Expr → State Tree
state_of frames now = record { pending = stack_of frames; now = option_map tree_of now }
