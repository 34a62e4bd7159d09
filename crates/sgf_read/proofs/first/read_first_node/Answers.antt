-- The grammar, the size and the first node, in this order.
use Rattle.std.proofs.Common.{ap, sym, ◌∙◌}
use Rattle.sgf_rules.specs.MainLine.{begins_with_tree}
use Rattle.sgf_read.specs.Reads.{tokens_from}
use Rattle.sgf_read.proofs.GameSteps.{first_without_tree, first_unsized, first_played}
use Rattle.sgf_read.proofs.first.read_first_node.Goals as goal

-- the text begins with no tree
pub returns-then-not-begins_with_tree : goal.returns-then-not-begins_with_tree
returns-then-not-begins_with_tree c =
    first_without_tree c.args.text.now
    (ap (λ at. begins_with_tree (tokens_from c.args.text.now at)) (sym c.tree_start-start.ensures.value)
    ∙ (sym c.begins_with_tree.ensures ∙ c.if-not-begins_with_tree.true))

-- the first node is gone through
pub returns-in-Some : goal.returns-in-Some
returns-in-Some c =
    let text = c.args.text.now in
    c.play_first.ensures
    ∙ first_played text (tokens_from text c.tree_start-start.result) c.in-Some.size c.new.result
    (ap (tokens_from text) c.tree_start-start.ensures.value)
    (sym c.begins_with_tree.ensures ∙ c.if-not-begins_with_tree.false) c.in-Some.ensures c.new.ensures

-- the size is none
pub returns-in-None : goal.returns-in-None
returns-in-None c =
    let text = c.args.text.now in
    first_unsized text (tokens_from text c.tree_start-start.result)
    (ap (tokens_from text) c.tree_start-start.ensures.value)
    (sym c.begins_with_tree.ensures ∙ c.if-not-begins_with_tree.false) c.in-None.ensures
