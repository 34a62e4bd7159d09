-- Sets of ko allowances, and the node under each of them.
use Rattle.std.proofs.Common.{◌≡◌, ◌≢◌, ℕ, suc, ◌-◌, ◌*◌, ◌⊎◌, Bool, true, false, not, ◌&&◌, ◌||◌, cond, Option, Some}
use Rattle.std.proofs.Common.{None, is_some, refl, sym, ap, subst, ◌∙◌, arith}
use mathlib.Core.Bool.{beq}
use Rattle.std.proofs.lemmas.Bool.{cases_Bool, both_ways, or_left, or_right}
use Rattle.go_rules.specs.Position.{BoardState}
use Rattle.read_rules.proofs.CandidateLaws.{candidate_on}
use Rattle.read_rules.specs.Turns.{next_turn}
use Rattle.read_rules.specs.Candidates.{is_candidate}
use Rattle.read_rules.specs.declared.node.Node.{Node}
use Rattle.read_rules.specs.declared.turn.Turn.{Turn}
use Rattle.read_tree.specs.declared.allowances.Allowances.{Allowances}
use Rattle.go_rules.specs.Play.{pass}
use Rattle.read_rules.specs.Candidates.{candidates_of}
use Rattle.read_rules.specs.declared.question.Spot.TheVariants.{Pass}
use Rattle.read_rules.specs.GameTree.{is_captured, allowance_of, next_node, attacker_wins, suits}
use Rattle.read_rules.specs.GameTree.{child_of, succeeds, pass_saves, first_success, at_point}
use Rattle.read_tree.specs.Allowances.{all_three}
use Rattle.read_tree.specs.Allowances.{Ko, defender_may, neither_may, attacker_may, attacker_ko_of, defender_ko_of, has}
use Rattle.read_tree.specs.Allowances.{has_some, own_ko, own_where, under, without, IsFiltered}
use Rattle.read_rules.specs.declared.question.ReadingQuestion.{ReadingQuestion}
use Rattle.read_rules.specs.ActiveArea.{IsUndecided, IsNodeOf, by_play, by_pass}
use Rattle.read_rules.specs.GoodMoves.{good_move}
use Rattle.read_tree.specs.Steps.{has_way, IsLeft, AreNodesOf}
use Rattle.read_rules.proofs.WinLemmas.{any-first}
use Rattle.read_rules.proofs.WalkLemmas.{any_from}

-- a set that has some has one
pub some_of : (set : Allowances) → has_some set ≡ true → (ko : Ko) × (has set ko ≡ true)
some_of set h = grind arith

-- a set that has none has not this one
pub none_of : (set : Allowances) (ko : Ko) → has_some set ≡ false → has set ko ≡ false
none_of set ko h = grind arith

-- what is left of a set without another has just the allowances of the first that the other has not
pub has-without : (a b : Allowances) (ko : Ko) → has (without a b) ko ≡ (has a ko && not (has b ko))
has-without a b defender_may = refl
has-without a b neither_may = refl
has-without a b attacker_may = refl

-- what two stages tell: of the asked all but what neither gives
pub has-two : (asked found rest : Allowances) (ko : Ko) → has (without asked (without (without asked found) rest)) ko
    ≡ (has asked ko && not ((has asked ko && not (has found ko)) && not (has rest ko)))
has-two asked found rest ko = grind (arith, has-without)

-- what is in a set, and is not left without another, is in the other
pub in_other : (a b : Bool) → a ≡ true → (a && not b) ≡ false → b ≡ true
in_other true true e h = refl
in_other true false e h = cc
in_other false b e h = cc

-- the side to play has nothing left under another's allowance
pub nothing_left : (attacker : Bool) (ko : Ko) → ko ≢ own_ko attacker
    → cond attacker (attacker_ko_of ko) (defender_ko_of ko) ≡ 0
nothing_left true defender_may ne = refl
nothing_left true neither_may ne = refl
nothing_left true attacker_may ne = absurd (ne refl)
nothing_left false defender_may ne = absurd (ne refl)
nothing_left false neither_may ne = refl
nothing_left false attacker_may ne = refl

-- and one play under its own
pub one_left : (attacker : Bool)
    → cond attacker (attacker_ko_of (own_ko attacker)) (defender_ko_of (own_ko attacker)) ≡ 1
one_left true = refl
one_left false = refl

-- the node at a turn, where a move of the attacker or of the defender leaves its mover this allowance
abbrev node_after : Turn → Bool → ℕ → Ko → Node
node_after turn attacker left ko = record {
  turn = turn;
  attacker_ko = cond attacker left (attacker_ko_of ko);
  defender_ko = cond attacker (defender_ko_of ko) left;
}

-- a legal play keeps the allowance
kept : (turn : Turn) (attacker : Bool) (ko : Ko)
    → node_after turn attacker (cond attacker (attacker_ko_of ko) (defender_ko_of ko)) ko ≡ under turn ko
kept turn true ko = refl
kept turn false ko = refl

-- a move that spends no allowance leads to the next turn, under the allowance of the turn before
pub next_keeps : (turn : Turn) (ko : Ko)
    → next_node (under turn ko) (allowance_of (under turn ko)) ≡ under (next_turn turn) ko
next_keeps turn ko = kept (next_turn turn) turn.attacker_to_play ko

-- a play that the ban alone forbids spends the own one
spent : (turn : Turn) (attacker : Bool) → node_after turn attacker 0 (own_ko attacker) ≡ under turn neither_may
spent turn true = refl
spent turn false = refl

-- a play that spends the mover's own allowance leads to the next turn, where neither side may
pub next_spends : (turn : Turn)
    → next_node (under turn (own_ko turn.attacker_to_play))
    (allowance_of (under turn (own_ko turn.attacker_to_play)) - 1) ≡ under (next_turn turn) neither_may
next_spends turn = grind (arith, one_left, spent)

-- the mover's way at a child
pub suits_child : (n : ℕ) (attacker : Bool) (o : Option (Node × BoardState)) (next : Node) (new : BoardState)
    → o ≡ Some (next, new) → has_way attacker (attacker_wins n next new) ≡ suits n attacker o
suits_child n true o next new e = sym (ap (suits n true) e)
suits_child n false o next new e = sym (ap (suits n false) e)

-- a play that cannot be made gives no side its way
pub suits_none : (n : ℕ) (attacker : Bool) (o : Option (Node × BoardState)) → o ≡ None → suits n attacker o ≡ false
suits_none n true o e = ap (suits n true) e
suits_none n false o e = ap (suits n false) e

-- the same of the asked, by a test that is the same
pub IsFiltered-same : {asked found : Allowances} {a b : Ko → Bool} → IsFiltered asked found a
    → ((ko : Ko) → a ko ≡ b ko) → IsFiltered asked found b
IsFiltered-same {asked} t same = record { each = λ ko. t.each ko ∙ ap (λ x. has asked ko && x) (same ko) }

-- an allowance that fails the test is not found
found_not : (a b : Bool) → b ≡ false → false ≡ (a && b)
found_not true b e = sym e
found_not false b e = refl

-- an asked allowance is found where it passes the test
found_as : (a b y : Bool) → a ≡ true → y ≡ b → y ≡ (a && b)
found_as true b y h e = e
found_as false b y h e = cc

-- what is found after a play by the own allowance alone is told of the asked
pub told_allowed : (n : ℕ) (turn : Turn) (here new : BoardState) (p : ℕ) (asked : Allowances) (way : Bool)
    → let own = own_ko turn.attacker_to_play in has asked own ≡ true
    → (child_of (under turn own) here p ≡ Some (under (next_turn turn) neither_may, new))
    × ((ko : Ko) → ko ≢ own → child_of (under turn ko) here p ≡ None)
    → way ≡ has_way turn.attacker_to_play (attacker_wins n (under (next_turn turn) neither_may) new)
    → IsFiltered asked (own_where turn.attacker_to_play way) (λ ko. succeeds n (under turn ko) here p)
told_allowed n turn here new p asked way own made is = grind (arith, found_not, found_as, suits_child, suits_none)

-- Each pass of the walk over the candidates.
pub left_first : (n : ℕ) (turn : Turn) (here : BoardState) (candidate tried : ℕ → Bool) (asked : Allowances)
    → ((q : ℕ) → tried q ≡ false)
    → IsLeft n turn here candidate tried asked asked
left_first n turn here candidate tried asked none_yet = grind (arith, both_ways)

-- the parts of a test and the other's opposite
pub and_parts_not : (a b : Bool) → (a && not b) ≡ true → (a ≡ true) × (b ≡ false)
and_parts_not true true h = cc
and_parts_not true false h = (refl, refl)
and_parts_not false b h = cc

-- nothing passes where the second test fails
pub and_false_right : (a b : Bool) → b ≡ false → (a && b) ≡ false
and_false_right true b e = e
and_false_right false b e = refl

-- an asked allowance that was not found fails the test
pub told_fails : (a b g : Bool) → g ≡ (a && b) → a ≡ true → g ≡ false → b ≡ false
told_fails true b g e h f = sym e ∙ f
told_fails false b g e h f = cc

-- an asked allowance that is no longer missing passes it
told_passes : (a b g : Bool) → g ≡ (a && b) → a ≡ true → (a && not g) ≡ false → b ≡ true
told_passes true b true e h f = sym e
told_passes true b false e h f = cc
told_passes false b g e h f = cc

-- The play at p was read, a candidate that was not tried before.
module _ (n : ℕ) (turn : Turn) (here : BoardState) (candidate tried now : ℕ → Bool) (p : ℕ)
    (asked missing good : Allowances) (left : IsLeft n turn here candidate tried asked missing)
    (cand : candidate p ≡ true) (one_more : (q : ℕ) → now q ≡ true → (q ≡ p) ⊎ (tried q ≡ true))
    (tells : IsFiltered missing good (λ ko. succeeds n (under turn ko) here p)) where
  -- what is missing no longer is given by p, or by one before
  no_longer : (ko : Ko) → has asked ko ≡ true → has (without missing good) ko ≡ false
      → (q : ℕ) × (candidate q ≡ true) × (succeeds n (under turn ko) here q ≡ true)
  no_longer ko a m = grind (arith, cases_Bool, told_passes, has-without)

  -- what it gives is no longer missing
  pub left_next : IsLeft n turn here candidate now asked (without missing good)
  left_next = grind (arith, and_parts_not, has-without, told_fails, and_false_right, no_longer)

-- a node under no allowance is one of the trees
pub neither_nodes : {q : ReadingQuestion} {root here : BoardState} {n : ℕ} {turn : Turn}
    → IsNodeOf q root n (under turn neither_may) here
    → AreNodesOf q root n turn (record { defender = false; neither = true; attacker = false }) here
neither_nodes {q} {root} {here} {n} {turn} node = grind arith

-- after a legal play at a candidate of undecided nodes, the node under each allowance is one of the trees
pub legal_nodes : {q : ReadingQuestion} {root here new : BoardState} {n : ℕ} {turn : Turn} {asked : Allowances} (p : ℕ)
    → AreNodesOf q root (suc n) turn asked here → ((ko : Ko) → IsUndecided (under turn ko) here)
    → is_candidate turn here p ≡ true
    → ((ko : Ko) → child_of (under turn ko) here p ≡ Some (under (next_turn turn) ko, new))
    → AreNodesOf q root n (next_turn turn) asked new
legal_nodes {new} {turn} p tree und candidate made = record {
  each = λ ko h. by_play (tree.each ko h) (und ko) p candidate (under (next_turn turn) ko) new (made ko);
}

-- after one that spends the own allowance, the node under no allowance is
pub allowed_nodes : {q : ReadingQuestion} {root here new : BoardState} {n : ℕ} {turn : Turn} {asked : Allowances}
    (p : ℕ) → AreNodesOf q root (suc n) turn asked here → ((ko : Ko) → IsUndecided (under turn ko) here)
    → is_candidate turn here p ≡ true → has asked (own_ko turn.attacker_to_play) ≡ true
    → child_of (under turn (own_ko turn.attacker_to_play)) here p ≡ Some (under (next_turn turn) neither_may, new)
    → AreNodesOf q root n (next_turn turn) (record { defender = false; neither = true; attacker = false }) new
allowed_nodes {new} {turn} p tree und candidate own made =
    neither_nodes (by_play (tree.each (own_ko turn.attacker_to_play) own) (und (own_ko turn.attacker_to_play)) p
    candidate (under (next_turn turn) neither_may) new made)

-- after the pass the node under each allowance is one of the trees
pub pass_nodes : {q : ReadingQuestion} {root here : BoardState} {n : ℕ} {turn : Turn} {asked : Allowances}
    → AreNodesOf q root (suc n) turn asked here → is_captured here turn.target ≡ false → turn.attacker_to_play ≡ false
    → AreNodesOf q root n (next_turn turn) asked (pass here)
pass_nodes {q} {root} {here} {n} {turn} tree stands defends = record {
  each = λ ko h. subst (λ node. IsNodeOf q root n node (pass here)) (next_keeps turn ko)
      (by_pass (tree.each ko h) (record {
        stands = stands;
        few = λ t. absurd (both_ways turn.attacker_to_play defends t);
      }) defends);
}

-- a node of fewer allowances
pub fewer_nodes : {q : ReadingQuestion} {root here : BoardState} {n : ℕ} {turn : Turn} {asked : Allowances}
    (fewer : Allowances) → AreNodesOf q root n turn asked here → ((ko : Ko) → has fewer ko ≡ true → has asked ko ≡ true)
    → AreNodesOf q root n turn fewer here
fewer_nodes fewer tree h = record { each = λ ko a. tree.each ko (h ko a) }

-- a node of the allowances that another set leaves of those asked
pub left_nodes : {q : ReadingQuestion} {root here : BoardState} {n : ℕ} {turn : Turn} {asked missing : Allowances}
    (found : Allowances) → AreNodesOf q root n turn asked here → missing ≡ without asked found
    → AreNodesOf q root n turn missing here
left_nodes {asked} found tree is = grind (arith, and_parts_not, has-without)

-- where the first test gives the second
pub and_true : (a b : Bool) → (a ≡ true → b ≡ true) → a ≡ (a && b)
and_true true b h = sym (h refl)
and_true false b h = refl

-- a candidate that succeeds makes the first
pub success_some : (n : ℕ) (node : Node) (here : BoardState) (p : ℕ) → is_candidate node.turn here p ≡ true
    → succeeds n node here p ≡ true → is_some (first_success n node here) ≡ true
success_some n node here p c t =
    grind (
      arith,
      candidate_on node.turn here p c,
      any-first (succeeds n node here) (candidates_of node.turn here),
      any_from (is_candidate node.turn here) (succeeds n node here) (here.size * here.size) 0 p,
    )

-- the defender's way is by the pass or by a candidate
good_by : (turn many saved : Bool) (first : Option ℕ) → turn ≡ false
    → is_some (cond (turn && many) None (cond saved (Some Pass) (at_point first))) ≡ (saved || is_some first)
good_by true many saved first e = cc
good_by false many true first e = refl
good_by false many false None e = refl
good_by false many false (Some p) e = refl

-- a candidate that saves the target is a good move of the defender
pub good_by_success : (n : ℕ) (turn : Turn) (here : BoardState) (ko : Ko) → turn.attacker_to_play ≡ false
    → is_some (first_success n (under turn ko) here) ≡ true → is_some (good_move n (under turn ko) here) ≡ true
good_by_success n turn here ko defends some = grind (arith, good_by, or_right)

-- so is a pass that saves it
pub good_by_pass : (n : ℕ) (turn : Turn) (here : BoardState) (ko : Ko) → turn.attacker_to_play ≡ false
    → pass_saves n (under turn ko) here ≡ true → is_some (good_move n (under turn ko) here) ≡ true
good_by_pass n turn here ko defends saved = grind (arith, good_by, or_left)

-- if neither the pass nor a candidate saves it, he has no good move
pub good_by_none : (n : ℕ) (turn : Turn) (here : BoardState) (ko : Ko) → turn.attacker_to_play ≡ false
    → pass_saves n (under turn ko) here ≡ false → is_some (first_success n (under turn ko) here) ≡ false
    → is_some (good_move n (under turn ko) here) ≡ false
good_by_none n turn here ko defends lost none = grind (arith, good_by)

-- the same where the test says it of the attacker
said_true : (b : Bool) → b ≡ beq b true
said_true true = refl
said_true false = refl

-- what is not found of the asked fails the test
not_found : (a b g : Bool) → g ≡ (a && b) → (a && not g) ≡ (a && beq b false)
not_found true true g e = ap not e
not_found true false g e = ap not e
not_found false b g e = refl

-- under which the attacker wins
pub IsFiltered-attackers : (attacker : Bool) (asked good : Allowances) (way won : Ko → Bool) → IsFiltered asked good way
    → ((ko : Ko) → beq (way ko) attacker ≡ won ko)
    → IsFiltered asked (cond attacker good (without asked good)) won
IsFiltered-attackers true asked good way won t same = IsFiltered-same t (λ ko. said_true (way ko) ∙ same ko)
IsFiltered-attackers false asked good way won t same = grind (arith, IsFiltered-same, has-without, not_found)

-- where all pass, and where none does
pub IsFiltered-all : (asked : Allowances) (test : Ko → Bool) → ((ko : Ko) → test ko ≡ true)
    → IsFiltered asked asked test
IsFiltered-all asked test h = record { each = λ ko. and_true _ _ (λ _. h ko) }

-- none is there
pub has_none : (ko : Ko) → has (record { defender = false; neither = false; attacker = false }) ko ≡ false
has_none defender_may = refl
has_none neither_may = refl
has_none attacker_may = refl

-- nothing is found of the asked where no allowance passes the test
pub IsFiltered-none : (asked : Allowances) (test : Ko → Bool) → ((ko : Ko) → test ko ≡ false)
    → IsFiltered asked (record { defender = false; neither = false; attacker = false }) test
IsFiltered-none asked test h = grind (arith, has_none, and_false_right)

-- all are there
pub has_all : (ko : Ko) → has all_three ko ≡ true
has_all defender_may = refl
has_all neither_may = refl
has_all attacker_may = refl

-- the attacker's way is by a candidate, where the target has not too many liberties
pub good_attacker : (turn many saved : Bool) (first : Option ℕ) → turn ≡ true → many ≡ false
    → is_some first ≡ is_some (cond (turn && many) None (cond (not turn && saved) (Some Pass) (at_point first)))
good_attacker true false saved None t m = refl
good_attacker true false saved (Some p) t m = refl
good_attacker true true saved first t m = cc
good_attacker false many saved first t m = cc
