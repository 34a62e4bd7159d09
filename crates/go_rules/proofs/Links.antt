-- Paths lead back and on, and a string has its liberties wherever it is looked at.
use Rattle.std.proofs.Common.{◌≡◌, ℕ, zero, suc, ◌+◌, ◌*◌, ◌<◌, Bool, true, false, eqb, List, refl, sym}
use Rattle.std.proofs.Common.{arith, inl, inr, ◌∙◌}
use Rattle.std.proofs.lemmas.Bool.{cases_Bool, both_ways, or_cases, and_parts, eqb-true}
use Rattle.go_rules.specs.declared.Cell.{Cell}
use Rattle.go_rules.specs.Board.{are_neighbours, are_one_apart}
use Rattle.go_rules.specs.Below.{any_below, count_below}
use Rattle.go_rules.specs.Strings.{cell_at, Path, start, step, IsInString, IsLiberty, is_liberty, liberties}
use Rattle.go_rules.proofs.Tests.{eqb_comm, or_comm}
use Rattle.go_rules.proofs.Counts.{count_below_less, any_below_gives}
use Rattle.go_rules.proofs.Paths.{path_on_board, IsLiberty-from_test, is_liberty-from_fact}

-- which of two numbers follows the other does not matter
one_apart_comm : (a b : ℕ) → are_one_apart a b ≡ are_one_apart b a
one_apart_comm a b = or_comm (eqb a (b + 1)) (eqb b (a + 1))

-- neighbours are neighbours in both directions
pub are_neighbours_comm : (s p q : ℕ) → are_neighbours s p q ≡ are_neighbours s q p
unfolding are_neighbours
are_neighbours_comm s p q = grind (arith, eqb_comm, one_apart_comm)

-- no number follows itself
not_apart : (a : ℕ) → are_one_apart a a ≡ true → ⊥
not_apart a h = grind (arith, or_cases, eqb-true)

-- no point is its own neighbour
pub not_its_own : (s p : ℕ) → are_neighbours s p p ≡ true → ⊥
unfolding are_neighbours
not_its_own s p h = grind (arith, or_cases, not_apart, and_parts)

-- a path leads over points that hold the same
pub path_same : (s : ℕ) (cells : List Cell) (p : ℕ) {q : ℕ} → Path s cells p q → cell_at cells q ≡ cell_at cells p
path_same s cells p start = refl
path_same s cells p (step path on near same) = same

-- paths lead on
pub path_on : (s : ℕ) (cells : List Cell) (p q : ℕ) → Path s cells p q → {r : ℕ} → Path s cells q r → Path s cells p r
path_on s cells p q first start = first
path_on s cells p q first (step path on near same) =
    step (path_on s cells p q first path) on near (same ∙ path_same s cells p first)

-- paths lead back
pub path_back : (s : ℕ) (cells : List Cell) (p : ℕ) → p < s * s → {q : ℕ} → Path s cells p q → Path s cells q p
path_back s cells p h start = start
path_back s cells p h (step {q} {r} path on near same) =
    path_on s cells r q
    (step start (path_on_board s cells p h path) (are_neighbours_comm s r q ∙ near)
    (path_same s cells p path ∙ sym same))
    (path_back s cells p h path)

-- Where each point of the paths from q holds the same on another board, the paths are there too.
pub path_keeps : (s : ℕ) (a b : List Cell) (q : ℕ) → ((x : ℕ) → Path s a q x → cell_at b x ≡ cell_at a x) → {r : ℕ}
    → Path s a q r → Path s b q r
path_keeps s a b q same start = start
path_keeps s a b q same (step {q = x} {r} path on near e) =
    step (path_keeps s a b q same path) on near (same r (step path on near e) ∙ e ∙ sym (same q start))

-- two points of one string have the same liberties
pub liberty_moves : (s : ℕ) (cells : List Cell) (p q l : ℕ) → p < s * s → IsInString s cells p q → IsLiberty s cells q l
    → IsLiberty s cells p l
liberty_moves s cells p q l h link lib = grind (arith, path_on)

-- if some are counted, some number passes
count_below_some : (n : ℕ) (test : ℕ → Bool) → 0 < count_below n test → any_below n test ≡ true
count_below_some zero test h = absurd (omega arith)
count_below_some (suc n) test h =
    elim (cases_Bool (test n)) [
      | inl t ↦ rw t refl
      | inr f ↦ rw f (count_below_some n test (let g = rw f at h in omega arith))
    ]

-- where liberties are counted, there is one
pub liberties_some : (s : ℕ) (cells : List Cell) (p : ℕ) → 0 < liberties s cells p → (l : ℕ) × IsLiberty s cells p l
unfolding liberties
liberties_some s cells p h =
    let found = any_below_gives (s * s) (is_liberty s cells p) (count_below_some (s * s) (is_liberty s cells p) h) in
    (found.0, IsLiberty-from_test s cells p found.0 found.2)

-- if there is a liberty, some are counted
pub liberties_from : (s : ℕ) (cells : List Cell) (p l : ℕ) → p < s * s → IsLiberty s cells p l → 0 < liberties s cells p
unfolding liberties
liberties_from s cells p l h lib =
    omega (
      arith,
      count_below_less (s * s) (λ _. false) (is_liberty s cells p)
          (λ k i f. absurd (both_ways false refl f)) l lib.on_board refl (is_liberty-from_fact s cells p l h lib),
    )
