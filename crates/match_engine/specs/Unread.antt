-- Patterns whose matches ask for no reading.
use Rattle.std.specs.Prelude.{◌≡◌, ℕ, true, false, List, Some, None, slice_get}
use Rattle.pat_types.specs.declared.pattern.Pattern.{Pattern}
use Rattle.match_rules.specs.Conditions.{has_class, unsafe_class, enemy_class}

-- a match of the pattern asks for no reading: it has class s, but not class n, and no constraint
pub record AsksNoReading (p : Pattern) : Type 0 where
  pub need_not_be_safe : has_class p unsafe_class ≡ true
  pub no_enemy_class : has_class p enemy_class ≡ false
  pub no_constraint : p.constraint ≡ None

-- no match of any of the patterns asks for a reading
abbrev pub NoneAsksReading : List Pattern → Type 0
NoneAsksReading patterns = (number : ℕ) (p : Pattern) → slice_get patterns number ≡ Some p → AsksNoReading p
