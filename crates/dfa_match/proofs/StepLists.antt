-- Lists of steps, as they grow and as they are read.
use Rattle.std.proofs.Common.{◌≡◌, ℕ, ◌+◌, ◌-◌, ◌*◌, ◌<◌, ◌≤◌, ◌++◌, List, [], ◌∷◌, length, get_or}
use Rattle.std.proofs.Common.{ℤ, pos as plus, refl, sym, subst, arith, inl, inr}
use Rattle.std.proofs.lemmas.Bool.{cases_lt}
use Rattle.std.proofs.lemmas.List.{length_push, get_or_push, get_or_append_left}
use Rattle.go_rules.specs.Transform.{Offset, transformed}
use Rattle.spiral.specs.Spiral.{offset_count, offset_at}
use Rattle.dfa_match.specs.Steps.{step_by, step_count, last_step, AreStepsBehind}

-- behind the old list stand no steps
pub steps_none : (t : ℕ) (old : List ℕ) → AreStepsBehind t 0 old old
steps_none t old = grind arith

module _ (t n : ℕ) (old steps more : List ℕ) (step : ℕ) (before : AreStepsBehind t n old steps)
    (added : more ≡ steps ++ step ∷ []) where
  -- one step more
  pub steps_more : (n < offset_count → step ≡ step_by (transformed t (offset_at n))) → step ≤ last_step
      → AreStepsBehind t (n + 1) old more
  steps_more is low_step = grind (arith, length_push, get_or_append_left, cases_lt, get_or_push)

-- the list has the steps of the first n transformations, one after the other
pub record AreStepsBelow (n : ℕ) (steps : List ℕ) : Type 0 where
  pub all : length steps ≡ n * step_count
  pub each : (t i : ℕ) → t < n → i < offset_count
      → get_or steps (t * step_count + i) 0 ≡ step_by (transformed t (offset_at i))
  pub past : (k : ℕ) → k < n * step_count → get_or steps k 0 ≤ last_step

module _ (n t : ℕ) (old new : List ℕ) (below : AreStepsBelow n old) (same : t ≡ n)
    (behind : AreStepsBehind t step_count old new) where
  -- no step of the longer list leads too far
  past_below : (k : ℕ) → k < (n + 1) * step_count → get_or new k 0 ≤ last_step
  past_below k low = elim (cases_lt k (length old)) [
    | inl old_one ↦
        let on : k < n * step_count = omega (arith, old_one, below.all) in
        omega (arith, behind.before k old_one, below.past k on)
    | inr last ↦
        let place : length old + (k - length old) ≡ k = omega (arith, last) in
        subst (λ j. get_or new j 0 ≤ last_step) place
        (behind.past (k - length old) (omega (arith, low, last, below.all)))
  ]

  -- the longer list has the steps of one transformation more
  pub steps_below_more : AreStepsBelow (n + 1) new
  steps_below_more = grind (arith, cases_lt, past_below)

-- the first offset leads nowhere
pub offset_at-zero : offset_at 0 ≡ (plus 0, plus 0)
unfolding offset_at
offset_at-zero = refl

-- the first offset is moved nowhere by any transformation
pub still : (t : ℕ) → transformed t (plus 0, plus 0) ≡ (plus 0, plus 0)
still t = grind arith

-- an offset is its two parts
pub offset_by_its_parts : (d : Offset) (x y : ℤ) (o : Offset) → d ≡ o → x ≡ d.0 → y ≡ d.1 → o ≡ (x, y)
offset_by_its_parts d x y o same r c = rw (r, c) (sym same)
