-- The nodes of the main line, one after another.
use Rattle.std.proofs.Common.{◌∙◌}
use Rattle.sgf_rules.specs.MainLine.{nodes_in, properties_in}
use Rattle.sgf_rules.specs.Game.{after_nodes}
use Rattle.sgf_read.specs.Reads.{tokens_from, uses_at}
use Rattle.sgf_read.proofs.Leads.{fault_answered}
use Rattle.sgf_read.proofs.GameSteps.{nodes_step, nodes_stop, nodes_end, uses_of_node}
use Rattle.sgf_read.proofs.game.play_nodes.Goals as goal

-- a node with a fault
pub returns-in_err-play_node : goal.returns-in_err-play_node
returns-in_err-play_node c =
    let ts = tokens_from c.args.text.now c.in-Some.node in
    fault_answered c.from_residual.result (after_nodes c.args.pos (nodes_in (tokens_from c.args.text.now c.args.start)))
    c.in_err-play_node.field-0.0 c.from_residual.ensures.1
    (nodes_stop c.nodes.now (nodes_in (tokens_from c.args.text.now c.nodes.at)) (nodes_in ts) (properties_in ts)
    (uses_at c.args.text.now c.in-Some.node) c.in_err-play_node.field-0.0 c.in-Some.ensures.nodes (uses_of_node ts)
    c.in_err-play_node.ensures ∙ c.nodes.invariant.rest)

-- one node more
pub nodes-preserved : goal.nodes-preserved
nodes-preserved c =
    let ts = tokens_from c.args.text.now c.in-Some.node in
    record {
      within = c.in-Some.ensures.within;
      rest = nodes_step c.nodes.now (nodes_in (tokens_from c.args.text.now c.nodes.at)) (nodes_in ts) (properties_in ts)
          (uses_at c.args.text.now c.in-Some.node) c.play_node.new.pos c.in-Some.ensures.nodes (uses_of_node ts)
          c.in_ok-play_node.ensures ∙ c.nodes.invariant.rest;
    }

-- no node is left
pub returns : goal.returns
returns c =
    nodes_end c.nodes.now (nodes_in (tokens_from c.args.text.now c.nodes.at)) c.in_default.ensures
    ∙ c.nodes.invariant.rest
