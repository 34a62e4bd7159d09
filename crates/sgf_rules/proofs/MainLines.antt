-- The main line that is computed, and that of the first tree.
use Rattle.std.proofs.Common.{◌≡◌, ℕ, List, Bool, Some, None, true, false, cond, refl, sym, ap, ◌∙◌}
use Rattle.sgf_rules.specs.Tokens.{tokens_of, record_tokens}
use Rattle.sgf_rules.specs.Trees.{Node}
use Rattle.sgf_rules.specs.Written.{IsMainLine}
use Rattle.sgf_rules.specs.MainLine.{begins_with_tree, nodes_in, main_line}
use Rattle.sgf_rules.proofs.SpelledWalks.{begins_spelled}
use Rattle.sgf_rules.proofs.SpelledLines.{line_spelled}
use Rattle.sgf_rules.proofs.WalkedTrees.{tree_found}
use Rattle.sgf_rules.proofs.FirstTrees.{first_tree_read, first_tree_written}

-- a choice that gives something is made, and gives this
choice_made : (b : Bool) (ns nodes : List Node) → cond b (Some ns) None ≡ Some nodes → (b ≡ true) × (ns ≡ nodes)
choice_made true ns nodes h = (refl, cc)
choice_made false ns nodes h = absurd (cc)

-- what is computed is the main line of the first tree
pub line_found : (text : List ℕ) (nodes : List Node) → main_line text ≡ Some nodes → IsMainLine text nodes
unfolding main_line
line_found text nodes h =
    let made = choice_made (begins_with_tree (record_tokens text)) (nodes_in (record_tokens text)) nodes h in
    let t = tree_found (record_tokens text) made.0 in
    record {
      first = t.0;
      is_first = first_tree_written text t.0 t.1 t.2;
      line = sym made.1 ∙ (ap nodes_in t.2 ∙ line_spelled t.0 t.1);
    }

-- the main line of the first tree is what is computed
pub line_computed : (text : List ℕ) (nodes : List Node) → IsMainLine text nodes → main_line text ≡ Some nodes
unfolding main_line
line_computed text nodes h =
    let spelled = first_tree_read text h.first h.is_first in
    let rest = tokens_of h.is_first.rest in
    ap (λ b. cond b (Some (nodes_in (record_tokens text))) None)
    (ap begins_with_tree spelled ∙ begins_spelled h.first rest)
    ∙ ap (λ (ns : List Node). Some ns) (ap nodes_in spelled ∙ (line_spelled h.first rest ∙ sym h.line))
