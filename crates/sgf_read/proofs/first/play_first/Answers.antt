-- The first node, if there is one.
use Rattle.std.proofs.Common.{◌∙◌}
use Rattle.sgf_rules.specs.MainLine.{nodes_in, properties_in}
use Rattle.sgf_rules.specs.Game.{after_nodes}
use Rattle.sgf_rules.specs.FirstNode.{first_alone}
use Rattle.sgf_read.specs.Reads.{tokens_from, uses_at}
use Rattle.sgf_read.proofs.Leads.{fault_answered}
use Rattle.sgf_read.proofs.GameSteps.{first_step, first_stop, first_none, uses_of_node}
use Rattle.sgf_read.proofs.first.play_first.Goals as goal

-- a node with a fault
pub returns-in_err-play_node-in-Some : goal.returns-in_err-play_node-in-Some
returns-in_err-play_node-in-Some c =
    let ts = tokens_from c.args.text.now c.in-Some.node in
    fault_answered c.from_residual.result
    (after_nodes c.args.pos (first_alone (nodes_in (tokens_from c.args.text.now c.args.start))))
    c.in_err-play_node-in-Some.field-0.0 c.from_residual.ensures.1
    (first_stop c.args.pos (nodes_in (tokens_from c.args.text.now c.args.start)) (nodes_in ts) (properties_in ts)
    (uses_at c.args.text.now c.in-Some.node) c.in_err-play_node-in-Some.field-0.0 c.in-Some.ensures.nodes (uses_of_node ts)
    c.in_err-play_node-in-Some.ensures)

-- a node that is gone through
pub returns-in_ok-play_node-in-Some : goal.returns-in_ok-play_node-in-Some
returns-in_ok-play_node-in-Some c =
    let ts = tokens_from c.args.text.now c.in-Some.node in
    first_step c.args.pos (nodes_in (tokens_from c.args.text.now c.args.start)) (nodes_in ts) (properties_in ts)
    (uses_at c.args.text.now c.in-Some.node) c.play_node.new.pos c.in-Some.ensures.nodes (uses_of_node ts)
    c.in_ok-play_node-in-Some.ensures

-- no node
pub returns-in-None : goal.returns-in-None
returns-in-None c =
    first_none c.args.pos (nodes_in (tokens_from c.args.text.now c.args.start)) c.in-None.ensures
