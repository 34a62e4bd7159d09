use Rattle.std.proofs.Common.{◌+◌, ◌∙◌, ◌++◌, [], cond, ap, sym, subst}
use Rattle.std.proofs.lemmas.List.{append-nil}
use Rattle.std.proofs.lemmas.Result.{on_ok_weaker}
use Rattle.dfa_core.specs.Chains.{IsChain}
use Rattle.dfa_core.proofs.ChainWalks.{IsChain-push}
use Rattle.dfa_core.proofs.chain.add_chain_row.Goals as goal

-- the row is the next of the chain
pub returns : goal.returns
returns c =
    λ p leads chain. on_ok_weaker c.add_row.result
    (λ added. subst (IsChain p c.args.n c.args.number (c.args.i + 1)) (sym added)
    (IsChain-push p c.args.n c.args.number c.args.i c.args.rows.now
    (record {
      targets = c.chain_targets-targets.result;
      numbers = c.chain_numbers.result.now ++ [];
      depth = c.chain_depth-depth.result;
    })
    chain
    (record {
      targets = λ x. c.chain_targets-targets.ensures x
          ∙ ap (λ b. cond b (c.args.i + 1) (c.args.n + 1)) (leads x);
      numbers = append-nil c.chain_numbers.result.now ∙ c.chain_numbers.ensures;
      depth = c.chain_depth-depth.ensures;
    })))
    c.add_row.ensures.added
