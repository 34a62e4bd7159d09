-- The empty neighbours of the liberties are Net where these are three, and else Net is empty.
use Rattle.std.proofs.Common.{◌∙◌, sym, arith}
use Rattle.std.proofs.lemmas.Bool.{eqb-true, eq-eqb, both_ways}
use Rattle.std.specs.FinSet as set
use Rattle.go_rules.specs.declared.Cell.TheVariants.{Empty}
use Rattle.wider_rules.proofs.SetLemmas.{net_is, no_net}
use Rattle.read_proof.proofs.FurtherLemmas.{beside_next}
use Rattle.read_proof.proofs.further.net.Goals as goal

-- there are three
pub returns-then-is_netted : goal.returns-then-is_netted
returns-then-is_netted c = λ target p e.
    let pos = c.args.pos.now in
    let libs = c.args.liberties.now in
    c.beside.ensures p ∙ beside_next pos.size pos.cells Empty (set.contains libs) p
    ∙ net_is pos.size pos.cells target libs c.count.result p e c.count.ensures.value
    (eqb-true c.count.result 3 (sym c.is_netted.ensures ∙ c.if-is_netted.true))

-- there are more or fewer
pub returns : goal.returns
returns c = grind (arith, no_net, both_ways, eq-eqb)
