-- The neighbourhood of a string, taken several times, by steps from the string.
use Rattle.std.proofs.Common.{◌≡◌, ℕ, zero, suc, ◌*◌, ◌<◌, ◌⊎◌, Bool, true, List}
use Rattle.std.proofs.Common.{refl, sym, subst, inl, inr}
use Rattle.std.proofs.lemmas.Bool.{eqb-true, eq-eqb}
use Rattle.go_base.specs.Views.{alone}
use Rattle.go_rules.specs.declared.Cell.{Cell}
use Rattle.go_rules.specs.Strings.{is_in_string, IsInString}
use Rattle.go_rules.specs.Neighbourhood.{whole_strings_of, neighbourhood_of}
use Rattle.go_rules.proofs.StringMembers.{is_in_string_on}
use Rattle.go_rules.proofs.InWords.{neighbourhood_of-on_board}
use Rattle.go_rules.proofs.Paths.{IsInString-from_test, is_is_in_string-from_fact}
use Rattle.go_base.proofs.PointNeighbourhoods.{whole_self, whole_string, whole_cases, close_whole, close_next}
use Rattle.go_base.proofs.PointNeighbourhoods.{within, beside, closeness}
use Rattle.read_rules.specs.ActiveArea.{taken_times}
use Rattle.read_rules.specs.AreaInWords.{IsOneStep, along, beyond, IsReachedIn, at_string, one_more}

-- The steps on one board.
module _ (s : ℕ) (cells : List Cell) where
  -- what is in the whole strings of a set is a point of the set, or a stone of the string of one
  with_whole : (S : ℕ → Bool) (y : ℕ) → whole_strings_of s cells S y ≡ true
      → (q : ℕ) × (S q ≡ true) × ((y ≡ q) ⊎ IsInString s cells q y)
  with_whole S y h = elim (whole_cases s cells S y h) [
    | inl i ↦ (y, i, inl refl)
    | inr w ↦ (w.0, w.2, inr (IsInString-from_test s cells w.0 y w.3))
  ]

  -- a point of the neighbourhood of a set is one step from a point of the set
  step_gives : (S : ℕ → Bool) (p : ℕ) → neighbourhood_of s cells S p ≡ true
      → (q : ℕ) × (S q ≡ true) × IsOneStep s cells q p
  step_gives S p h = elim (closeness s cells S p h) [
    | within w ↦ let found = with_whole S p w in (found.0, found.1, along found.2)
    | beside y on w near ↦ let found = with_whole S y w in (found.0, found.1, beyond y found.2 on near)
  ]

  -- a point of a set, and each stone of its string, is in the whole strings of the set
  whole_with : (S : ℕ → Bool) (q y : ℕ) → q < s * s → S q ≡ true → (y ≡ q) ⊎ IsInString s cells q y
      → whole_strings_of s cells S y ≡ true
  whole_with S q y on h (inl e) = subst (λ x. whole_strings_of s cells S x ≡ true) (sym e) (whole_self s cells S q on h)
  whole_with S q y on h (inr i) = whole_string s cells S q y on h (is_is_in_string-from_fact s cells q y on i)

  -- what is one step from a point of a set is in the neighbourhood of the set
  step_from : (S : ℕ → Bool) (q p : ℕ) → q < s * s → S q ≡ true → IsOneStep s cells q p
      → neighbourhood_of s cells S p ≡ true
  step_from S q p on h (along w) = close_whole s cells S p (whole_with S q p on h w)
  step_from S q p on h (beyond y w p_on near) = close_next s cells S y p p_on (whole_with S q y on h w) near

  -- the neighbourhood of the string of t, taken n times
  abbrev pub closed : ℕ → ℕ → ℕ → Bool
  closed t n = taken_times n s cells (is_in_string s cells t)

  -- its points are on the board
  closed_on : (t n p : ℕ) → t < s * s → closed t n p ≡ true → p < s * s
  closed_on t zero p on h = is_in_string_on s cells t p on h
  closed_on t (suc n) p on h = neighbourhood_of-on_board s cells (closed t n) p h

  -- its points are n steps from the string
  pub steps_give : (t n p : ℕ) → closed t n p ≡ true → IsReachedIn s cells t n p
  steps_give t zero p h = at_string (IsInString-from_test s cells t p h)
  steps_give t (suc n) p h =
      let found = step_gives (closed t n) p h in one_more (steps_give t n found.0 found.1) found.2

  -- what is n steps from the string is one of its points
  pub steps_from : (t : ℕ) → t < s * s → {n p : ℕ} → IsReachedIn s cells t n p → closed t n p ≡ true
  steps_from t on {p = p} (at_string i) = is_is_in_string-from_fact s cells t p on i
  steps_from t on (one_more {n} {q} {p} r step) =
      let before = steps_from t on r in step_from (closed t n) q p (closed_on t n q on before) before step

  -- what lies in the second neighbourhood of a point is two steps from it
  pub two_steps-give : (t p : ℕ) → t < s * s → neighbourhood_of s cells (neighbourhood_of s cells (alone t)) p ≡ true
      → (q : ℕ) × (q < s * s) × IsOneStep s cells t q × IsOneStep s cells q p
  two_steps-give t p on h =
      let second = step_gives (neighbourhood_of s cells (alone t)) p h in
      let first = step_gives (alone t) second.0 second.1 in (
        second.0,
        neighbourhood_of-on_board s cells (alone t) second.0 second.1,
        subst (λ x. IsOneStep s cells x second.0) (eqb-true first.0 t first.1) first.2,
        second.2,
      )

  -- what is two steps from a point lies in its second neighbourhood
  pub two_steps-from : (t q p : ℕ) → t < s * s → q < s * s → IsOneStep s cells t q → IsOneStep s cells q p
      → neighbourhood_of s cells (neighbourhood_of s cells (alone t)) p ≡ true
  two_steps-from t q p t_on q_on a b =
      step_from (neighbourhood_of s cells (alone t)) q p q_on
      (step_from (alone t) t q t_on (eq-eqb t t refl) a) b
