use Rattle.std.proofs.Common.{◌++◌, ◌∙◌, ap, sym, subst, length, arith}
use Rattle.std.proofs.lemmas.List.{length_push}
use Rattle.dfa_core.specs.Automata.{Row}
use Rattle.dfa_join.specs.Pairs.{IsReached, AreRowsOf, IsRowOf}
use Rattle.dfa_join.proofs.Products.{AreRowsOf-push}
use Rattle.dfa_join.proofs.product.add_row_of.Goals.{In-Ok}
use Rattle.dfa_join.proofs.product.add_row_of.Goals as goal

-- some word reaches the pair
pub expand-requires-clause-reached : goal.expand-requires-clause-reached
expand-requires-clause-reached c =
    subst (IsReached c.args.a.now c.args.b.now) c.requires.pair
    (c.requires.made.work.reached (length c.args.rows.now) c.requires.next)

-- the pairs so far are different and reached
pub expand-requires-clause-work : goal.expand-requires-clause-work
expand-requires-clause-work c = c.requires.made.work

-- the row that is added
abbrev row_of : In-Ok → Row
row_of c = record {
  targets = c.in_ok-targets.targets;
  numbers = c.accepts.result.now ++ c.accepts-2.result.now;
  depth = c.max-depth.result;
}

-- the row that is added is the row of the pair
is_row : (c : In-Ok) → IsRowOf c.args.a.now c.args.b.now c.expand.new.pairs c.args.pair (row_of c)
is_row c = grind arith

-- so the rows are those of the pairs still
pub returns-in-Ok-clause-made : goal.returns-in-Ok-clause-made
returns-in-Ok-clause-made c =
    let a = c.args.a.now in
    let b = c.args.b.now in
    subst (AreRowsOf a b c.args.limit c.expand.new.pairs) (sym c.in-Ok.ensures.added)
    (AreRowsOf-push a b c.args.limit c.args.pairs.now c.expand.new.pairs c.args.rows.now (row_of c)
    c.requires.made c.requires.next c.in_ok-targets.ensures.keeps c.in_ok-targets.ensures.work
    (subst (λ q. IsRowOf a b c.expand.new.pairs q (row_of c)) (sym c.requires.pair) (is_row c))
    c.in_ok-targets.ensures.order)

-- there is one row more
pub returns-in-Ok-clause-more : goal.returns-in-Ok-clause-more
returns-in-Ok-clause-more c = ap length c.in-Ok.ensures.added ∙ length_push c.args.rows.now _
