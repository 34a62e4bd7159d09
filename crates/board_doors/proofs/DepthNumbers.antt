-- When a caller's numbers are depths.
use Rattle.std.proofs.Common.{◌≡◌, ◌↔◌, ◌<◌, ◌≤◌, ◌∙◌, true, false, not, ltb, refl, sym, ap, subst, arith, inl, inr}
use Rattle.std.proofs.lemmas.Bool.{cases_lt, lt-ltb, le-ltb}
use Rattle.std.specs.Prelude.{Option, Some, None, IsSome}
use Rattle.read_rules.specs.declared.depths.Depths.{Depths}
use Rattle.read_rules.specs.Ranges.{least_plies, most_plies, most_wide, AreDepths}
use Rattle.board_doors.specs.declared.depths.DepthBytes.{DepthBytes}
use Rattle.board_doors.specs.Doors.{are_depths}

-- plies or wide plies out of their range are no depths
no_depths : (depths : DepthBytes) → (AreDepths depths.plies depths.wide → ⊥) → false ≡ are_depths depths
unfolding are_depths
no_depths depths h = elim (cases_lt depths.plies least_plies) [
  | inl few ↦ rw (lt-ltb depths.plies least_plies few) refl
  | inr some ↦ elim (cases_lt most_plies depths.plies) [
    | inl many ↦ rw (le-ltb depths.plies least_plies some, lt-ltb most_plies depths.plies many) refl
    | inr most ↦ elim (cases_lt most_wide depths.wide) [
      | inl wide ↦ rw (
        le-ltb depths.plies least_plies some,
        le-ltb most_plies depths.plies most,
        lt-ltb most_wide depths.wide wide,
      ) refl
      | inr narrow ↦ absurd (h (omega (arith, some), omega (arith, most), omega (arith, narrow)))
    ]
  ]
]

-- in their ranges the tree decides
tree_decides : (depths : DepthBytes) → AreDepths depths.plies depths.wide
    → are_depths depths ≡ not (ltb 1 depths.tree)
unfolding are_depths
tree_decides depths h =
    rw (le-ltb depths.plies least_plies h.0, le-ltb most_plies depths.plies h.1, le-ltb most_wide depths.wide h.2) refl

-- numbers of which no depths are made are none
pub none_made : (depths : DepthBytes) (made : Option Depths) → IsSome made ↔ AreDepths depths.plies depths.wide
    → made ≡ None → false ≡ are_depths depths
none_made depths made valid is =
    no_depths depths (λ h. let some : IsSome {T = Depths} None = subst IsSome is (valid.1 h) in cc)

-- no tree has the number
pub no_tree : (depths : DepthBytes) (made : Option Depths) (stated : Depths)
    → IsSome made ↔ AreDepths depths.plies depths.wide → made ≡ Some stated → 1 < depths.tree
    → false ≡ are_depths depths
no_tree depths made stated valid is above =
    sym (tree_decides depths (valid.0 (subst IsSome (sym is) refl)) ∙ ap not (lt-ltb 1 depths.tree above))

-- depths are made, and a tree has the number
pub depths_made : (depths : DepthBytes) (made : Option Depths) (stated : Depths)
    → IsSome made ↔ AreDepths depths.plies depths.wide → made ≡ Some stated → depths.tree ≤ 1
    → true ≡ are_depths depths
depths_made depths made stated valid is few =
    sym (tree_decides depths (valid.0 (subst IsSome (sym is) refl)) ∙ ap not (le-ltb 1 depths.tree few))
