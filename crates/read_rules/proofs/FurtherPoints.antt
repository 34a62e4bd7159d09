-- A further candidate is a point of the board, wherever the target lies.
use Rattle.std.proofs.Common.{◌≡◌, ℕ, ◌*◌, ◌<◌, Bool, true, false, List, arith}
use Rattle.std.proofs.lemmas.Bool.{and_parts, or_cases, ltb-true}
use Rattle.go_rules.specs.declared.Cell.{Cell}
use Rattle.go_rules.proofs.Counts.{any_below_gives}
use Rattle.go_rules.proofs.Paths.{IsLiberty-from_test}
use Rattle.wider_rules.specs.Further.{is_rescue, is_join, is_cut, is_cover, is_approach}
use Rattle.wider_rules.specs.Further.{is_further_always, is_further_wide, is_further}
use Rattle.wider_rules.proofs.FurtherLaws.{net_gives, beside_gives, last_gives}

-- The sets of one target.
module _ (s : ℕ) (cells : List Cell) (target p : ℕ) where
  -- and one of Rescue
  rescue_on : is_rescue s cells target p ≡ true → p < s * s
  unfolding is_rescue
  rescue_on h = grind (arith, any_below_gives, last_gives, and_parts)

  -- and one of Join or Link
  join_on : (most : ℕ) → is_join most s cells target p ≡ true → p < s * s
  unfolding is_join
  join_on most h =
      let q = any_below_gives (s * s) _ h in (IsLiberty-from_test s cells q.0 p (and_parts _ _ q.2).1).on_board

  -- and one of Cut
  cut_on : is_cut s cells target p ≡ true → p < s * s
  unfolding is_cut
  cut_on h = let r = any_below_gives (s * s) _ h in (last_gives s cells r.0 p (and_parts _ _ r.2).1).last.on_board

  -- and one of Cover
  cover_on : is_cover s cells target p ≡ true → p < s * s
  unfolding is_cover
  cover_on h = ltb-true p (s * s) (and_parts _ _ (and_parts _ _ h).0).0

  -- and one of Approach
  approach_on : is_approach s cells target p ≡ true → p < s * s
  unfolding is_approach
  approach_on h =
      let r = any_below_gives (s * s) _ h in (IsLiberty-from_test s cells r.0 p (and_parts _ _ r.2).1).on_board

  -- so is each further candidate of every ply
  always_on : (attacker : Bool) → is_further_always attacker s cells target p ≡ true → p < s * s
  unfolding is_further_always
  always_on true h = grind (arith, or_cases, beside_gives, rescue_on)
  always_on false h = grind (arith, or_cases, rescue_on, cut_on)

  -- and each of a wide ply
  wide_on : (attacker : Bool) → is_further_wide attacker s cells target p ≡ true → p < s * s
  unfolding is_further_wide
  wide_on true h = grind (arith, or_cases, net_gives, join_on)
  wide_on false h = grind (arith, or_cases, approach_on, cover_on, beside_gives, join_on)

  -- and so each further candidate
  pub further_on : (wide attacker : Bool) → is_further wide attacker s cells target p ≡ true → p < s * s
  unfolding is_further
  further_on wide attacker h = grind (arith, or_cases, always_on, wide_on, and_parts)
