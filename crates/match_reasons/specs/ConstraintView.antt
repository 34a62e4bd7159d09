-- The view of a constraint question that its evaluation uses.
use Rattle.std.specs.Prelude.{◌≡◌, [], IsSome, None, refl}
use Rattle.pat_types.specs.declared.expr.Arg.TheVariants.{Star, Nowhere}
use Rattle.cons_eval.specs.Meanings.{EnvView}
use Rattle.match_rules.specs.Conditions.{meanings_at}
use Rattle.match_reasons.specs.declared.constraint.FreshQuestion.{FreshQuestion}
use Rattle.match_reasons.specs.FreshReadings.{fresh_codes}

-- the meanings of the pattern at the star, by the codes of fresh readings, and how often readings were asked for
abbrev pub view_of : FreshQuestion → EnvView
view_of e = record {
  meanings = meanings_at (fresh_codes e.depths) e.pattern.now e.position.now e.friend e.transform e.star;
  fixed = [];
  asked = e.asked;
  counts = [];
}

-- the argument for a pass has no point
pub nowhere_none : (e : FreshQuestion) → (view_of e).meanings.point Nowhere ≡ None
nowhere_none e = refl

-- the argument for the star has a point
pub star_some : (e : FreshQuestion) → IsSome ((view_of e).meanings.point Star)
star_some e = refl
