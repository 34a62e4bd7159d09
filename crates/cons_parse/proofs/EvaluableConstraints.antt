-- The constraint that is answered is one that a pattern may keep.
use Rattle.std.proofs.Common.{◌≡◌, ℕ, Bool, true, false, ◌&&◌, nat_le, List, [], ◌∷◌, Some, None, refl, arith, IsTrue}
use Rattle.std.proofs.lemmas.Bool.{le-leb}
use Rattle.pat_types.specs.declared.pattern.LabelAt.{LabelAt}
use Rattle.pat_types.specs.declared.expr.Expr.{Expr}
use Rattle.pat_types.specs.Labels.{is_constraint}
use Rattle.cons_parse.specs.declared.error.ConsError.TheVariants.{TooDeep, UnknownFunction, Arity, UnknownLabel}
use Rattle.cons_parse.specs.Grammar.{Written}
use Rattle.cons_parse.specs.Faults.{is_too_deep, some_call, is_unknown_call, misses, is_unlabelled, first_of, fault_of}
use Rattle.cons_parse.specs.Parsing.{Spells}
use Rattle.cons_parse.proofs.SmallNumbers.{text_few}
use Rattle.cons_parse.proofs.Evaluable.{can_tree, leaf_tree, meaning_can, meaning_leaves}

-- no test passes
record NonePass (a b c d : Bool) : Type 0 where
  first : a ≡ false
  second : b ≡ false
  third : c ≡ false
  fourth : d ≡ false

-- if no first fault is found, no test passes
none_pass : (a b c d : Bool)
    → first_of ((a, TooDeep) ∷ (b, UnknownFunction) ∷ (c, Arity) ∷ (d, UnknownLabel) ∷ []) ≡ None → NonePass a b c d
none_pass true b c d h = cc
none_pass false true c d h = cc
none_pass false false true d h = cc
none_pass false false false true h = cc
none_pass false false false false h = record { first = refl; second = refl; third = refl; fourth = refl }

-- an expression without a fault passes no test
tests : (labels : List LabelAt) (w : Written) → fault_of labels w ≡ None
    → NonePass (is_too_deep 0 w) (some_call is_unknown_call w) (some_call misses w) (some_call (is_unlabelled labels) w)
unfolding fault_of
tests labels w h = grind (arith, none_pass)

-- a test that passes is a fact
true_is : (b : Bool) → b ≡ true → IsTrue b
true_is true h = refl
true_is false h = cc

-- two tests that pass are one fact
both_true : (a b : Bool) → a ≡ true → b ≡ true → IsTrue (a && b)
both_true true b h k = true_is b k
both_true false b h k = cc

-- what a text spells without faults may be a constraint
pub kept : (labels : List LabelAt) (text : List ℕ) (e : Expr) → Spells labels text e
    → IsTrue (is_constraint labels (Some e))
kept labels text e s =
    grind (
      arith,
      text_few text,
      meaning_leaves s.written,
      tests,
      can_tree,
      meaning_can,
      leaf_tree,
      both_true,
      nat_le,
      le-leb,
    )
