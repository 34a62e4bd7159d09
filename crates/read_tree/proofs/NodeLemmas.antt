-- Nodes under whatever ko allowances: what the reader tells of one, and the walk over its moves.
use Rattle.std.proofs.Common.{◌≡◌, ◌∙◌, ℕ, zero, suc, ◌+◌, ◌<◌, Bool, true, false, ◌&&◌, ◌||◌, nat_lt, ap, sym, refl}
use Rattle.std.proofs.Common.{arith, eqb, subst, not, cond, Option, None, Some, is_some}
use mathlib.Core.Bool.{beq}
use Rattle.std.proofs.lemmas.Bool.{ltb-true, lt-ltb, or_right}
use Rattle.std.specs.Prelude.{List}
use Rattle.go_rules.specs.Position.{BoardState}
use Rattle.go_base.specs.Facts.{Fact}
use Rattle.read_tree.specs.declared.table.Entry.{Entry}
use Rattle.read_tree.specs.Table.{IsTrueTableAt}
use Rattle.read_rules.specs.declared.node.Node.{Node}
use Rattle.read_rules.specs.Trees.{most_narrow}
use Rattle.go_rules.specs.Strings.{liberties}
use Rattle.go_rules.specs.Play.{pass}
use Rattle.read_rules.specs.declared.question.Spot.{Spot}
use Rattle.read_rules.specs.declared.question.Spot.TheVariants.{Pass}
use Rattle.read_rules.specs.GameTree.{attacker_wins, has_many_liberties, next_node, allowance_of, succeeds}
use Rattle.read_rules.specs.GameTree.{pass_saves, first_success, first_move, at_point}
use Rattle.read_rules.specs.GoodMoves.{is_barred, good_move}
use Rattle.read_tree.specs.Steps.{has_way}
use Rattle.read_tree.proofs.AllowanceLemmas.{suits_child, suits_none}
use Rattle.read_rules.specs.declared.turn.Turn.{Turn}
use Rattle.read_tree.specs.declared.allowances.Allowances.{Allowances}
use Rattle.read_tree.specs.Allowances.{Ko, defender_may, neither_may, attacker_may, attacker_ko_of, defender_ko_of}
use Rattle.read_tree.specs.Allowances.{under, has_some, IsFiltered}
use Rattle.read_tree.specs.Nodes.{has_one_at_most, the_allowance, LeadsTo, SameReading}

-- the set of the allowances of these numbers
abbrev allowance_by : ℕ → ℕ → Allowances
allowance_by a d = record { defender = nat_lt 0 d; neither = eqb a 0 && eqb d 0; attacker = nat_lt 0 a }

-- a set has some exactly where this one of its allowances is there, if the others are not
alone_defender : (found : Allowances) (b : Bool) → found.defender ≡ b → found.neither ≡ false → found.attacker ≡ false
    → has_some found ≡ b
alone_defender found b d n a = grind arith

-- the same of that of neither
alone_neither : (found : Allowances) (b : Bool) → found.defender ≡ false → found.neither ≡ b → found.attacker ≡ false
    → has_some found ≡ b
alone_neither found b d n a = grind arith

-- and of the attacker's
alone_attacker : (found : Allowances) (b : Bool) → found.defender ≡ false → found.neither ≡ false → found.attacker ≡ b
    → has_some found ≡ b
alone_attacker found b d n a = rw (d, n, a) refl

-- what is told of the only allowance of a node is told of the node
told_by : (a d : ℕ) (found : Allowances) (test : Ko → Bool) (won : Bool) → a + d < 2
    → IsFiltered (allowance_by a d) found test
    → ((ko : Ko) → attacker_ko_of ko ≡ a → defender_ko_of ko ≡ d → test ko ≡ won) → has_some found ≡ won
told_by zero zero found test won few told is =
    alone_neither found won (told.each defender_may) (told.each neither_may ∙ is neither_may refl refl)
    (told.each attacker_may)
told_by zero (suc zero) found test won few told is =
    alone_defender found won (told.each defender_may ∙ is defender_may refl refl) (told.each neither_may)
    (told.each attacker_may)
told_by zero (suc (suc d)) found test won few told is = absurd (omega (arith, few))
told_by (suc zero) zero found test won few told is =
    alone_attacker found won (told.each defender_may) (told.each neither_may)
    (told.each attacker_may ∙ is attacker_may refl refl)
told_by (suc zero) (suc d) found test won few told is = absurd (omega (arith, few))
told_by (suc (suc a)) d found test won few told is = absurd (omega (arith, few))

-- the node of a turn under an allowance has the allowance's numbers
pub under_by : (turn : Turn) (ko : Ko) (a d : ℕ) → attacker_ko_of ko ≡ a → defender_ko_of ko ≡ d
    → under turn ko ≡ record { turn = turn; attacker_ko = a; defender_ko = d }
under_by turn ko a d ea ed = rw (ea, ed) refl

-- what the reader tells of the only allowance of a node is who wins there
pub told_alone : (n : ℕ) (node : Node) (here : BoardState) (asked found : Allowances) → has_one_at_most node ≡ true
    → asked ≡ the_allowance node
    → IsFiltered asked found (λ ko. attacker_wins n (under node.turn ko) here)
    → has_some found ≡ attacker_wins n node here
told_alone n node here asked found one is told =
    told_by node.attacker_ko node.defender_ko found (λ ko. attacker_wins n (under node.turn ko) here)
    (attacker_wins n node here) (ltb-true (node.attacker_ko + node.defender_ko) 2 one)
    (subst (λ (set : Allowances). IsFiltered set found (λ ko. attacker_wins n (under node.turn ko) here)) is told)
    (λ ko ea ed. ap (λ (m : Node). attacker_wins n m here)
    (under_by node.turn ko node.attacker_ko node.defender_ko ea ed))

-- the only allowance is one
pub some_allowance : (node : Node) (asked : Allowances) → has_one_at_most node ≡ true → asked ≡ the_allowance node
    → has_some asked ≡ true
some_allowance node asked one is = grind (arith, nat_lt, lt-ltb, or_right)

-- at the defender's turn the attacker is not barred
pub not_barred : (node : Node) (here : BoardState) → node.turn.attacker_to_play ≡ false → false ≡ is_barred node here
not_barred node here e = sym (ap (λ b. b && has_many_liberties node.turn here) e)

-- at his own he is where the liberties are too many
pub barred_by : (node : Node) (here : BoardState) (n : ℕ) → node.turn.attacker_to_play ≡ true
    → n ≡ liberties here.size here.cells node.turn.target
    → (nat_lt 4 n || (eqb node.turn.wide 0 && nat_lt (most_narrow node.turn.tree) n)) ≡ is_barred node here
unfolding has_many_liberties
barred_by node here n e is = grind (arith, nat_lt)

-- who has his way at a child, by who won there
pub way_by : (attacker won : Bool) → beq won attacker ≡ has_way attacker won
way_by true true = refl
way_by true false = refl
way_by false true = refl
way_by false false = refl

-- The first move with n plies left after it.
module _ (n : ℕ) (node : Node) (here : BoardState) where
  -- a play that is made gives the mover his way where he has it at the child
  pub play_made : (p : ℕ) (next : Node) (new : BoardState) (child : Option Node) (won : Bool)
      → LeadsTo node here p child new → child ≡ Some next → won ≡ attacker_wins n next new
      → beq won node.turn.attacker_to_play ≡ succeeds n node here p
  play_made p next new child won leads is e = grind (arith, way_by, suits_child)

  -- one that cannot be made does not
  pub play_refused : (p : ℕ) (new : BoardState) (child : Option Node) → LeadsTo node here p child new → child ≡ None
      → false ≡ succeeds n node here p
  play_refused p new child leads is = grind (arith, suits_none)

  -- the attacker does not pass
  pub no_pass : node.turn.attacker_to_play ≡ true → false ≡ pass_saves n node here
  no_pass e = sym (ap (λ b. not b && not (attacker_wins n (next_node node (allowance_of node)) (pass here))) e)

  -- the defender's pass saves the target where the attacker does not win after it
  pub pass_made : (won : Bool) → node.turn.attacker_to_play ≡ false
      → won ≡ attacker_wins n (next_node node (allowance_of node)) (pass here) → not won ≡ pass_saves n node here
  pass_made won e is = grind arith

  -- the pass comes first
  pub first_pass : true ≡ pass_saves n node here → Some Pass ≡ first_move n node here
  first_pass e = ap (λ b. cond b (Some Pass) (at_point (first_success n node here))) e

  -- else the first move is the first point
  pub first_point : (found : Option ℕ) → false ≡ pass_saves n node here → found ≡ first_success n node here
      → at_point found ≡ first_move n node here
  first_point found e is = ap at_point is ∙ ap (λ b. cond b (Some Pass) (at_point (first_success n node here))) e

  -- where the attacker is barred there is no good move
  pub good_barred : true ≡ is_barred node here → false ≡ is_some (good_move n node here)
  good_barred e = ap (λ b. is_some (cond b None (first_move n node here))) e

  -- else the first is one
  pub good_first : (found : Option Spot) → false ≡ is_barred node here → found ≡ first_move n node here
      → is_some found ≡ is_some (good_move n node here)
  good_first found e is = ap is_some is ∙ ap (λ b. is_some (cond b None (first_move n node here))) e

-- a table that is true in the reading of a node is true in that of another about the same string
pub same_table : {seen : Fact → Bool} {table : List Entry} (node next : Node) → SameReading node next
    → IsTrueTableAt seen node.turn table → IsTrueTableAt seen next.turn table
same_table {seen} {table} node next same t = grind arith
