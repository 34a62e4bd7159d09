-- A text without a node before its first `)`.
use Rattle.problem_records.proofs.Values.{none_behind_close, none_at_end}
use Rattle.problem_records.proofs.node.first_node_start.Goals as goal

-- the first `)` came before a node
pub returns-in-Close-clause-node : goal.returns-in-Close-clause-node
returns-in-Close-clause-node c =
    none_behind_close c.args.text.now c.tokens.at c.tokens.invariant.node c.in-Some.token c.in-Some.ensures
    c.in-Close.is

-- the text ended before a node
pub returns-clause-node : goal.returns-clause-node
returns-clause-node c = none_at_end c.args.text.now c.tokens.at c.tokens.invariant.node c.in_default.ensures
