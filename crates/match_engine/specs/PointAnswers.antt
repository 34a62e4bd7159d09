-- What is known of a question about points.
use Rattle.std.specs.Prelude.{◌≡◌, ℕ, Bool, true, false}
use Rattle.std.specs.FinSet as set
use Rattle.match_engine.specs.declared.legality.PointAnswers.{PointAnswers}

-- for each point that was asked about, known has the answer of the test; for every other point it has nothing
pub record Knows (test : ℕ → Bool) (known : PointAnswers) : Type 0 where
  pub answered : (q : ℕ) → set.contains known.asked q ≡ true → set.contains known.holds q ≡ test q
  pub no_other : (q : ℕ) → set.contains known.asked q ≡ false → set.contains known.holds q ≡ false
