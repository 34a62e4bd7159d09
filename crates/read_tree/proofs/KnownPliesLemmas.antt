-- What the attacker has with some plies he has with more, so what is known of a node by its plies stays true.
use Rattle.std.proofs.Common.{◌≡◌, ℕ, zero, suc, ◌≤◌, Bool, true, false, nat_lt, Option, Some, None, is_some}
use Rattle.std.proofs.Common.{subst, arith, find}
use Rattle.std.specs.Prelude.{List, [], ◌∷◌}
use Rattle.std.proofs.lemmas.Bool.{both_ways, cases_Bool, ltb-true, ltb-false, not-true}
use Rattle.go_rules.specs.declared.Colour.{Colour}
use Rattle.go_rules.specs.Position.{BoardState}
use Rattle.read_rules.specs.declared.node.Node.{Node}
use Rattle.read_rules.specs.declared.tree.Tree.{Tree}
use Rattle.read_rules.specs.GameTree.{suits}
use Rattle.read_rules.proofs.PlyLaws.{one_more}
use Rattle.read_tree.specs.Allowances.{Ko, defender_may, neither_may, attacker_may}
use Rattle.go_base.specs.Facts.{Fact}
use Rattle.read_tree.specs.declared.known_plies.KnownPlies.{KnownPlies}
use Rattle.read_tree.specs.KnownPlies.{IsMonotone, IsTrueKnown}
use Rattle.read_tree.specs.Table.{entry_node, is_won, IsTrueEntry}
use Rattle.read_tree.specs.declared.table.Entry.{Entry}

-- what he has with n plies he has with m, which are no fewer
pub with_more : {won : ℕ → Bool} → IsMonotone won → (m n : ℕ) → n ≤ m → won n ≡ true → won m ≡ true
with_more {won} mono zero n few h =
    let none : n ≡ 0 = omega (arith, few) in
    subst (λ k. won k ≡ true) none h
with_more {won} mono (suc m) n few h = grind (arith, cases_Bool, ltb-true, ltb-false, with_more mono m n)

-- and what he has not with m plies he has not with n, which are no more
pub with_fewer : {won : ℕ → Bool} → IsMonotone won → (m n : ℕ) → n ≤ m → won m ≡ false → won n ≡ false
with_fewer {won} mono m n few h = grind (arith, cases_Bool (won n), both_ways (won m) h, with_more mono m n few)

-- it is true that he has his way with these plies and more
pub won_true : {won : ℕ → Bool} {known : KnownPlies} (n : ℕ) → IsMonotone won → IsTrueKnown won known
    → won n ≡ true → IsTrueKnown won (record { won_from = Some n; lost_below = known.lost_below })
won_true {won} {known} n mono t w = grind (arith, with_more mono, nat_lt, ltb-false, not-true)

-- it is true that he has it not with fewer plies than these, or with these
pub lost_true : {won : ℕ → Bool} {known : KnownPlies} (n below : ℕ) → IsMonotone won → IsTrueKnown won known
    → won n ≡ false → below ≤ suc n
    → IsTrueKnown won (record { won_from = known.won_from; lost_below = below })
lost_true {won} {known} n below mono t l few = grind (arith, with_fewer mono n)

-- the mover's child that the attacker wins with n plies he wins with one more
child_more : (n : ℕ) (child : Option (Node × BoardState)) → suits n true child ≡ true → suits (suc n) true child ≡ true
child_more n None h = h
child_more n (Some c) h = one_more n c.0 c.1 h

-- a test that gives another finds no less
find_more : {X : Type 0} (f g : X → Bool) → ((x : X) → f x ≡ true → g x ≡ true) → (xs : List X)
    → is_some (find f xs) ≡ true → is_some (find g xs) ≡ true
find_more f g more [] h = h
find_more f g more (x ∷ xs) h = grind (arith, find_more f g more xs)

-- an attacker's node that is won with n plies is won with one more
pub won_monotone : (tree : Tree) (target : ℕ) (defender : Colour) (entry : Entry) (pos : BoardState) (ko : Ko)
    → IsMonotone (λ n. is_won tree target defender (entry_node entry n) pos ko)
won_monotone tree target defender entry pos ko = grind (arith, find_more, child_more)

-- a statement about each allowance
pub of_three : (P : Ko → Type 0) → P defender_may → P neither_may → P attacker_may → (ko : Ko) → P ko
of_three P d n a defender_may = d
of_three P d n a neither_may = n
of_three P d n a attacker_may = a

-- an entry of nothing known is true
pub nothing_known : {seen : Fact → Bool} {tree : Tree} {target : ℕ} {defender : Colour} (entry : Entry)
    → entry.defender ≡ record { won_from = None; lost_below = 0 }
    → entry.neither ≡ record { won_from = None; lost_below = 0 }
    → entry.attacker ≡ record { won_from = None; lost_below = 0 }
    → IsTrueEntry seen tree target defender entry
nothing_known {seen} {tree} {target} {defender} entry d n a = grind (arith, of_three, both_ways)
