-- All values of a node were read.
use Rattle.std.specs.List.{filter}
use Rattle.std.specs.Option.{option_map}
use Rattle.sgf_rules.specs.Tokens.{is_capital}
use Rattle.problem_records.specs.Nodes.{all_shown}
use Rattle.problem_records.proofs.Values.{read_to_sign, read_to_end}
use Rattle.problem_records.proofs.node.values_at.Goals as goal

-- a sign ends the node
pub returns-in_default-kind : goal.returns-in_default-kind
returns-in_default-kind c =
    read_to_sign c.args.text.now c.args.start c.tokens.at
    (option_map (λ n. filter is_capital n.now) c.tokens.name) (all_shown c.tokens.values.items) c.tokens.invariant.rest
    c.in-Some.token c.in-Some.ensures c.in_default-kind.not-Name c.in_default-kind.not-Value

-- the text ends
pub returns : goal.returns
returns c =
    read_to_end c.args.text.now c.args.start c.tokens.at
    (option_map (λ n. filter is_capital n.now) c.tokens.name) (all_shown c.tokens.values.items) c.tokens.invariant.rest
    c.in_default.ensures
