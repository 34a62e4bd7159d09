-- The table of attacker's nodes: what is true stays true while more is seen, and what a node's answer is by its
-- verdict.
use Rattle.std.proofs.Common.{◌≡◌, ℕ, Bool, true, false, not, ◌&&◌, ◌||◌, is_some, List, ap, sym, refl, subst, rules}
use Rattle.std.proofs.Common.{◌∙◌, ◌<◌, length, get_or}
use Rattle.go_rules.specs.declared.Colour.{Colour}
use Rattle.go_rules.specs.Position.{BoardState}
use Rattle.go_base.specs.Facts.{Fact, Agrees, Grows, agrees_before}
use Rattle.read_rules.specs.declared.tree.Tree.{Tree}
use Rattle.read_rules.specs.GameTree.{first_success}
use Rattle.read_rules.specs.declared.turn.Turn.{Turn}
use Rattle.read_tree.specs.declared.allowances.Allowances.{Allowances}
use Rattle.read_tree.specs.declared.table.AttackerNode.{AttackerNode}
use Rattle.read_tree.specs.declared.table.Verdict.{Verdict}
use Rattle.read_tree.specs.declared.table.Entry.{Entry}
use Rattle.trial_board.specs.declared.moves.TrialMove.{TrialMove}
use Rattle.trial_board.specs.Trials.{after}
use Rattle.trial_board.specs.Changed.{changed}
use Rattle.read_tree.specs.Allowances.{Ko, defender_may, neither_may, attacker_may, under, has, has_some, without, both}
use Rattle.read_tree.specs.Allowances.{either, IsFiltered}
use Rattle.read_rules.specs.declared.node.Node.{Node}
use Rattle.read_tree.proofs.AllowanceLemmas.{none_of, has-without, in_other}
use Rattle.read_tree.specs.Table.{is_won, known_of, entry_node, IsTrueOf, IsTrueEntry, IsTrueTable}
use Rattle.read_tree.specs.declared.known_plies.KnownPlies.{KnownPlies}
use Rattle.read_tree.specs.KnownPlies.{is_from, IsMonotone, IsTrueKnown}
use Rattle.read_tree.proofs.KnownPliesLemmas.{won_monotone}
use Rattle.std.proofs.lemmas.Bool.{ltb-true}
use Rattle.std.proofs.Common.{nat_lt, arith}
use Rattle.trial_board.specs.declared.changes.Changes.{Changes}

-- a table that is true stays true while more is seen
pub table_more : {seen more : Fact → Bool} {tree : Tree} {target : ℕ} {defender : Colour} {table : List Entry}
    → IsTrueTable seen tree target defender table → Grows seen more → IsTrueTable more tree target defender table
table_more {seen} {more} {tree} {target} {defender} {table} t grows = grind arith

-- an entry of a true table is true
pub entry_true : {seen : Fact → Bool} {tree : Tree} {target : ℕ} {defender : Colour} (table : List Entry) (i : ℕ)
    (other : Entry) → i < length table → IsTrueTable seen tree target defender table
    → IsTrueEntry seen tree target defender (get_or table i other)
entry_true {seen} {tree} {target} {defender} table i other h t = grind arith

-- what is true of the node that has the changes and the wide plies of another is true of this
pub of_node : {seen : Fact → Bool} {tree : Tree} {target : ℕ} {defender : Colour} (changes : Changes) (wide : ℕ)
    (node : AttackerNode) (verdict : Verdict) → changes ≡ node.changes → wide ≡ node.wide
    → IsTrueOf seen tree target defender (record { changes = changes; plies = node.plies; wide = wide }) verdict
    → IsTrueOf seen tree target defender node verdict
of_node {seen} {tree} {target} {defender} changes wide node verdict same_changes same_wide t = grind arith

-- and the other way
pub as_node : {seen : Fact → Bool} {tree : Tree} {target : ℕ} {defender : Colour} (changes : Changes) (wide : ℕ)
    (node : AttackerNode) (verdict : Verdict) → changes ≡ node.changes → wide ≡ node.wide
    → IsTrueOf seen tree target defender node verdict
    → IsTrueOf seen tree target defender (record { changes = changes; plies = node.plies; wide = wide }) verdict
as_node {seen} {tree} {target} {defender} changes wide node verdict same_changes same_wide t = grind arith

-- what an entry knows with so many plies is true of its node
pub told_true : {seen : Fact → Bool} {tree : Tree} {target : ℕ} {defender : Colour} (entry : Entry) (plies : ℕ)
    (verdict : Verdict) → IsTrueEntry seen tree target defender entry
    → ((ko : Ko) → has verdict.good ko ≡ is_from (known_of entry ko).won_from plies)
    → ((ko : Ko) → has verdict.known ko
    ≡ (is_from (known_of entry ko).won_from plies || nat_lt plies (known_of entry ko).lost_below))
    → IsTrueOf seen tree target defender (entry_node entry plies) verdict
told_true {seen} {tree} {target} {defender} entry plies verdict t good known = record {
  each = λ pos a ko h.
      good ko ∙ by_known (is_from (known_of entry ko).won_from plies) (known_of entry ko)
      (λ n. is_won tree target defender (entry_node entry n) pos ko)
      (t.each pos a ko) refl (sym (known ko) ∙ h);
}
  where
    by_known : (g : Bool) (k : KnownPlies) (won : ℕ → Bool) → IsTrueKnown won k → g ≡ is_from k.won_from plies
        → (g || nat_lt plies k.lost_below) ≡ true → g ≡ won plies
    by_known true k won its e h = sym (its.gives plies (sym e))
    by_known false k won its e h = sym (its.denies plies (ltb-true plies k.lost_below h))

-- what was found with so many plies keeps the entry true
pub learnt_true : {seen : Fact → Bool} {tree : Tree} {target : ℕ} {defender : Colour} (entry next : Entry) (plies : ℕ)
    (verdict : Verdict) → IsTrueEntry seen tree target defender entry
    → IsTrueOf seen tree target defender (entry_node entry plies) verdict
    → next.changes ≡ entry.changes → next.wide ≡ entry.wide
    → ((ko : Ko) (won : ℕ → Bool) → IsMonotone won → IsTrueKnown won (known_of entry ko)
    → (has verdict.known ko ≡ true → has verdict.good ko ≡ won plies) → IsTrueKnown won (known_of next ko))
    → IsTrueEntry seen tree target defender next
learnt_true {seen} {tree} {target} {defender} entry next plies verdict t of same_changes same_wide step = record {
  each = λ pos a ko.
      let won : ℕ → Bool = λ n. is_won tree target defender (entry_node entry n) pos ko in
      subst (λ (w : ℕ). IsTrueKnown (λ n. is_won tree target defender
      (record { changes = next.changes; plies = n; wide = w }) pos ko) (known_of next ko)) (sym same_wide)
      (subst (λ (c : Changes). IsTrueKnown (λ n. is_won tree target defender
      (record { changes = c; plies = n; wide = entry.wide }) pos ko) (known_of next ko)) (sym same_changes)
      (step ko won (won_monotone tree target defender entry pos ko) (t.each pos a ko) (of.each pos a ko)));
}

-- those that are in both sets
pub has_both : (a b : Allowances) (ko : Ko) → has (both a b) ko ≡ (has a ko && has b ko)
has_both a b defender_may = refl
has_both a b neither_may = refl
has_both a b attacker_may = refl

-- those that are in one of the sets
has_either : (a b : Allowances) (ko : Ko) → has (either a b) ko ≡ (has a ko || has b ko)
has_either a b defender_may = refl
has_either a b neither_may = refl
has_either a b attacker_may = refl

-- what is known before and what was found of the rest is the answer wherever either speaks
joined : (known good asked found test : Bool) → (known ≡ true → good ≡ test) → found ≡ ((asked && not known) && test)
    → (known || (asked && not known)) ≡ true → ((known && good) || found) ≡ test
joined true good asked found test k f h = search rules
joined false good true found test k f h = search rules
joined false good false found test k f h = cc

-- what was known before, and what was found of the rest, is true
more_true : {seen more : Fact → Bool} {tree : Tree} {target : ℕ} {defender : Colour} {node : AttackerNode}
    {before : Verdict}
    (asked missing good : Allowances) (verdict : Verdict)
    → IsTrueOf seen tree target defender node before → Grows seen more → missing ≡ without asked before.known
    → verdict ≡ record {
      known = either before.known missing;
      good = either (both before.known before.good) good;
    }
    → ((pos : BoardState) → Agrees more pos → IsFiltered missing good (is_won tree target defender node pos))
    → IsTrueOf more tree target defender node verdict
more_true {seen} {more} {tree} {target} {defender} {node} {before} asked missing good verdict t grows e is tells =
    record {
      each = λ pos a ko h.
          let won = is_won tree target defender node pos ko in
          let gone = ap (λ s. has s ko) e ∙ has-without asked before.known ko in
          ap (λ (v : Verdict). has v.good ko) is
          ∙ has_either (both before.known before.good) good ko
          ∙ ap (λ b. b || has good ko) (has_both before.known before.good ko)
          ∙ joined (has before.known ko) (has before.good ko) (has asked ko) (has good ko) won
          (t.each pos (agrees_before grows a) ko) ((tells pos a).each ko ∙ ap (λ b. b && won) gone)
          (sym (ap (λ b. has before.known ko || b) gone) ∙ sym (has_either before.known missing ko)
          ∙ sym (ap (λ (v : Verdict). has v.known ko) is) ∙ h);
    }

-- the node of a turn, with this side to play and so many wide plies left
with_turn : Turn → Bool → ℕ → Ko → Node
with_turn turn attacks wide ko =
    under (record {
      tree = turn.tree;
      target = turn.target;
      defender = turn.defender;
      attacker_to_play = attacks;
      wide = wide;
    }) ko

-- at the attacker's turn the node is won where the position after the moves is
won_is : (turn : Turn) (node : AttackerNode) (pos here : BoardState) → turn.attacker_to_play ≡ true
    → turn.wide ≡ node.wide → here ≡ changed pos node.changes → (ko : Ko)
    → is_won turn.tree turn.target turn.defender node pos ko ≡ is_some (first_success node.plies (under turn ko) here)
unfolding with_turn
won_is turn node pos here attacks wide at ko = grind (arith, with_turn)

-- where what was asked is known, it is told by the verdict
told_by : {seen : Fact → Bool} (turn : Turn) (node : AttackerNode) (verdict : Verdict) (asked found : Allowances)
    (pos here : BoardState) → IsTrueOf seen turn.tree turn.target turn.defender node verdict → Agrees seen pos
    → turn.attacker_to_play ≡ true → turn.wide ≡ node.wide → here ≡ changed pos node.changes
    → ((ko : Ko) → has asked ko ≡ true → has verdict.known ko ≡ true) → found ≡ both asked verdict.good
    → IsFiltered asked found (λ ko. is_some (first_success node.plies (under turn ko) here))
told_by turn node verdict asked found pos here t a attacks wide at covered is = grind (arith, has_both, won_is)

-- it is where nothing of it is missing
pub told_before : {seen : Fact → Bool} (turn : Turn) (node : AttackerNode) (verdict : Verdict)
    (asked missing found : Allowances) (pos here : BoardState)
    → IsTrueOf seen turn.tree turn.target turn.defender node verdict → Agrees seen pos → turn.attacker_to_play ≡ true
    → turn.wide ≡ node.wide → here ≡ changed pos node.changes → missing ≡ without asked verdict.known
    → has_some missing ≡ false → found ≡ both asked verdict.good
    → IsFiltered asked found (λ ko. is_some (first_success node.plies (under turn ko) here))
told_before turn node verdict asked missing found pos here t a attacks wide at e none is =
    grind (arith, told_by, in_other, has-without, none_of)

-- and where what was missing was found
pub told_after : {seen : Fact → Bool} (turn : Turn) (node : AttackerNode) (before verdict : Verdict)
    (asked missing good found : Allowances) (pos here : BoardState)
    → IsTrueOf seen turn.tree turn.target turn.defender node verdict → Agrees seen pos → turn.attacker_to_play ≡ true
    → turn.wide ≡ node.wide → here ≡ changed pos node.changes → missing ≡ without asked before.known
    → verdict ≡ record {
      known = either before.known missing;
      good = either (both before.known before.good) good;
    }
    → found ≡ both asked verdict.good
    → IsFiltered asked found (λ ko. is_some (first_success node.plies (under turn ko) here))
told_after turn node before verdict asked missing good found pos here t a attacks wide at e same is =
    grind (arith, told_by, has_either, has-without)

-- what was known before, and what the reading found of the rest, is true of the node after the moves
pub read_true : {seen more : Fact → Bool} (turn : Turn) (node : AttackerNode) (before verdict : Verdict)
    (asked missing good : Allowances) (moves : List TrialMove)
    → IsTrueOf seen turn.tree turn.target turn.defender node before → Grows seen more → turn.attacker_to_play ≡ true
    → turn.wide ≡ node.wide
    → ((pos : BoardState) → Agrees seen pos → after pos moves ≡ changed pos node.changes)
    → ((pos : BoardState) → Agrees more pos
    → IsFiltered missing good (λ ko. is_some (first_success node.plies (under turn ko) (after pos moves))))
    → missing ≡ without asked before.known
    → verdict ≡ record {
      known = either before.known missing;
      good = either (both before.known before.good) good;
    }
    → IsTrueOf more turn.tree turn.target turn.defender node verdict
read_true turn node before verdict asked missing good moves t grows attacks wide at tells e is =
    grind (arith, more_true, won_is)
