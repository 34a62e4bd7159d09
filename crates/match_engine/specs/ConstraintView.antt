-- The view of a constraint question that its evaluation uses.
use Rattle.std.specs.Prelude.{◌≡◌, ℕ, ◌∷◌, [], IsSome, None, refl}
use Rattle.go_rules.specs.declared.Colour.{Colour}
use Rattle.go_rules.specs.Position.{BoardState}
use Rattle.pat_types.specs.declared.pattern.Pattern.{Pattern}
use Rattle.pat_types.specs.declared.expr.Arg.TheVariants.{Star, Nowhere}
use Rattle.cons_eval.specs.Meanings.{EnvView}
use Rattle.match_rules.specs.Conditions.{meanings_at}
use Rattle.match_engine.specs.declared.constraint_question.ConstraintQuestion.{ConstraintQuestion}
use Rattle.match_engine.specs.ReadingDepths.{numbers_of}
use Rattle.match_engine.specs.Readings.{ReadingsView, codes_of}

-- The meanings of the pattern at m under t, by the codes of the readings r, which are borrowed under this name. The
-- name, the capacity and the depths stay the same; the readings were asked this often, and their counts may rise.
abbrev pub asked : Pattern → BoardState → Colour → ℕ → ℕ → ℕ → ReadingsView → ℕ → EnvView
asked p board friend t m name r often = record {
  meanings = meanings_at (codes_of r) p board friend t m;
  fixed = name ∷ r.answers.kept.1 ∷ numbers_of r.depths;
  asked = often;
  counts = r.answers.fresh ∷ r.trials ∷ r.answers.refused ∷ [];
}

-- the view of a constraint question: its meanings, and the readings that it asks
abbrev pub view_of : ConstraintQuestion → EnvView
view_of e =
    asked e.pattern.now e.position.now e.friend e.transform e.star e.readings.ghost_name e.readings.now e.asked

-- the argument for a pass has no point
pub nowhere_none : (e : ConstraintQuestion) → (view_of e).meanings.point Nowhere ≡ None
nowhere_none e = refl

-- the argument for the star has a point
pub star_some : (e : ConstraintQuestion) → IsSome ((view_of e).meanings.point Star)
star_some e = refl
