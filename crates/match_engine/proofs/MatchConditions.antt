-- The conditions of a match, one after another.
use Rattle.std.proofs.Common.{◌≡◌, ℕ, true, false, arith}
use Rattle.go_rules.specs.declared.Colour.{Colour}
use Rattle.go_rules.specs.Position.{BoardState}
use Rattle.pat_types.specs.declared.pattern.Pattern.{Pattern}
use Rattle.cons_eval.specs.Readings.{Codes}
use Rattle.match_rules.specs.Conditions.{is_safe, is_enemy_safe, is_constraint_true, is_allowed}

module _ (code : Codes) (p : Pattern) (board : BoardState) (friend : Colour) (t m : ℕ) where
  -- a friend's stone that is not safe settles it
  pub unsafe_refused : is_safe code p board friend m ≡ false → false ≡ is_allowed code p board friend t m
  unfolding is_allowed
  unsafe_refused e = grind arith

  -- an enemy's stone that is not safe settles it
  pub enemy_refused : is_safe code p board friend m ≡ true → is_enemy_safe code p board friend m ≡ false
      → false ≡ is_allowed code p board friend t m
  unfolding is_allowed
  enemy_refused safe e = grind arith

  -- if both stones are safe, the constraint settles it
  pub by_constraint : is_safe code p board friend m ≡ true → is_enemy_safe code p board friend m ≡ true
      → is_constraint_true code p board friend t m ≡ is_allowed code p board friend t m
  unfolding is_allowed
  by_constraint safe enemy = grind arith
