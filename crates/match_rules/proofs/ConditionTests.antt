-- The test of classes and constraint is what their sentences say.
use Rattle.std.proofs.Common.{◌≡◌, ◌≢◌, ℕ, ◌⊎◌, Bool, true, false, ◌||◌, eqb, List, Contains}
use Rattle.std.proofs.Common.{Option, Some, None, ℤ, pos, subst, arith}
use Rattle.std.specs.List.{list_any}
use Rattle.std.proofs.lemmas.Bool.{and_parts, or_cases, eqb-true, eq-eqb}
use Rattle.std.proofs.lemmas.Bool.{true≢false, false≢true}
use Rattle.std.proofs.lemmas.List.Folds.{Any-from_list_any, list_any-from_Any}
use Rattle.std.proofs.lemmas.Option.{none-some, same_Some}
use Rattle.go_rules.specs.declared.Colour.{Colour}
use Rattle.go_rules.specs.Position.{BoardState, other}
use Rattle.pat_types.specs.declared.pattern.Pattern.{Pattern}
use Rattle.pat_types.specs.declared.expr.Expr.{Expr}
use Rattle.cons_eval.specs.Readings.{Codes}
use Rattle.cons_eval.specs.Functions.{is_safe_move}
use Rattle.cons_eval.specs.Meanings.{Meanings}
use Rattle.cons_eval.specs.Values.{is_so, value_of}
use Rattle.match_rules.specs.Conditions.{unsafe_class, enemy_class, has_class, IsSafePlay}
use Rattle.match_rules.specs.Conditions.{meanings_at, is_so_valued, is_allowed}

-- a class letter that is found is one of the letters
class_there : (p : Pattern) (letter : ℕ) → has_class p letter ≡ true → Contains p.classes letter
class_there p letter e =
    let found = Any-from_list_any (λ c. eqb c letter) p.classes e in
    subst (Contains p.classes) (eqb-true found.1 letter found.4) (found.0, found.2, found.3)

module _ (code : Codes) (board : BoardState) (c : Colour) (m : ℕ) where
  -- a safe move is a legal play whose stone cannot be captured
  safe_play : is_safe_move code board c m ≡ true → IsSafePlay code board c m
  unfolding is_safe_move
  safe_play e = grind (arith, eqb-true, false≢true)

  -- a legal play whose stone cannot be captured is a safe move
  safe_move : IsSafePlay code board c m → is_safe_move code board c m ≡ true
  unfolding is_safe_move
  safe_move is = grind (arith, eq-eqb)

-- a value counts as true if it is not 0
so_value : (meanings : Meanings) (o : Option Expr) → is_so_valued meanings o ≡ true → (e : Expr) → o ≡ Some e
    → value_of meanings e ≢ pos 0
so_value meanings None so e at = absurd (none-some e at)
so_value meanings (Some d) so e at = grind (arith, same_Some)

-- what classes and constraint say of the friend's move at m under t
pub record IsAllowed (code : Codes) (p : Pattern) (board : BoardState) (friend : Colour) (t m : ℕ) : Type 0 where
  pub safe : Contains p.classes unsafe_class ⊎ IsSafePlay code board friend m
  pub enemy_safe : Contains p.classes enemy_class → IsSafePlay code board (other friend) m
  pub constraint_true : (e : Expr) → p.constraint ≡ Some e → value_of (meanings_at code p board friend t m) e ≢ pos 0

module _ (code : Codes) (p : Pattern) (board : BoardState) (friend : Colour) (t m : ℕ) where
  -- the test says what classes and constraint do
  pub allowed-true : is_allowed code p board friend t m ≡ true → IsAllowed code p board friend t m
  unfolding is_allowed
  allowed-true e =
      grind (arith, and_parts, or_cases, class_there, safe_play, false≢true, list_any-from_Any, eq-eqb, so_value)

  -- where classes and constraint allow a match, so does the test
  pub allowed-from : IsAllowed code p board friend t m → is_allowed code p board friend t m ≡ true
  unfolding is_allowed
  allowed-from is = grind (arith, list_any-from_Any, safe_move, class_there)
