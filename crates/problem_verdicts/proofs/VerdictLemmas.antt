-- When a verdict is that all is as expected.
use Rattle.std.proofs.Common.{◌≡◌, ◌↔◌, ℕ, Bool, true, false, ◌&&◌, ◌||◌, not, Option, Some, None, is_some}
use Rattle.std.proofs.Common.{refl, sym, ap, ◌∙◌, if◌then◌else◌}
use Rattle.problem_verdicts.specs.declared.moves.Moves.{Moves}
use Rattle.problem_verdicts.specs.declared.expected.Expected.{Expected}
use Rattle.problem_verdicts.specs.declared.judged.Found.{Found}
use Rattle.problem_verdicts.specs.declared.verdict.Verdict.TheVariants as verdict
use Rattle.problem_verdicts.specs.MoveSets.{are_among, AreAmong, AreSameMoves}
use Rattle.problem_verdicts.specs.Verdicts.{is_told, is_unsolved, needs_none, allows_code, all_attain, are_all_told}
use Rattle.problem_verdicts.specs.Verdicts.{misses, has_more, verdict_on}
use Rattle.problem_verdicts.proofs.MoveSetLemmas.{among_by_test, test_by_among, same_by_tests, tests_by_same}

-- the last verdict is told exactly if no verdict before it applies
last_of : (told unsolved none misses more : Bool) → told ≡ true → unsolved ≡ false → none ≡ false
    → ((if not told then verdict.NotTold
    else if unsolved then verdict.NotSolved
    else if none then verdict.NeedsNoMove
    else if misses then verdict.AnotherAnswer
    else if more then verdict.OtherAnswersToo
    else verdict.AsExpected) ≡ verdict.AsExpected) ↔ ((misses ≡ false) × (more ≡ false))
last_of false u n m o told solved needed = absurd (cc)
last_of true true n m o told solved needed = absurd (cc)
last_of true false true m o told solved needed = absurd (cc)
last_of true false false true o told solved needed = ((λ e. absurd (cc)), (λ h. let bad = h.0 in absurd (cc)))
last_of true false false false true told solved needed = ((λ e. absurd (cc)), (λ h. let bad = h.1 in absurd (cc)))
last_of true false false false false told solved needed = ((λ e. (refl, refl)), (λ h. refl))

-- moves that are told are something that is told
told_by_moves : (code : Option ℕ) (answers : Option Moves) (m : Moves) → answers ≡ Some m
    → (is_some code || is_some answers) ≡ true
told_by_moves None None m e = absurd (cc)
told_by_moves None (Some n) m e = refl
told_by_moves (Some k) answers m e = refl

-- with a code that is allowed, nothing is missed exactly if the moves attain it
nothing_missed : (allowed attained : Bool) → allowed ≡ true → (not (allowed && attained) ≡ false) ↔ (attained ≡ true)
nothing_missed false b e = absurd (cc)
nothing_missed true true e = ((λ h. refl), (λ h. refl))
nothing_missed true false e = ((λ h. absurd (cc)), (λ h. absurd (cc)))

-- where others are ruled out, there is no other exactly if all are told
no_more : (only told : Bool) → only ≡ true → ((only && not told) ≡ false) ↔ (told ≡ true)
no_more false b e = absurd (cc)
no_more true true e = ((λ h. refl), (λ h. refl))
no_more true false e = ((λ h. absurd (cc)), (λ h. absurd (cc)))

-- where they are not, there may be others
others_allowed : (only told : Bool) → only ≡ false → (only && not told) ≡ false
others_allowed true b e = absurd (cc)
others_allowed false b e = refl

module _ (e : Expected) (f : Found) (m : Moves) (tells : e.answers ≡ Some m) (solved : is_unsolved e f ≡ false)
    (needed : needs_none e f ≡ false) (allowed : allows_code e.code f.code ≡ true) where
  -- as expected exactly if no move is missed, and none is there that is ruled out
  by_parts : (verdict_on e f ≡ verdict.AsExpected) ↔ ((misses e f ≡ false) × (has_more e f ≡ false))
  by_parts = last_of (is_told e) (is_unsolved e f) (needs_none e f) (misses e f) (has_more e f)
      (told_by_moves e.code e.answers m tells) solved needed

  -- whether the moves that are told attain the code
  attained : all_attain e.answers f.moves ≡ are_among m f.moves
  attained = ap (λ (a : Option Moves). all_attain a f.moves) tells

  -- whether the moves that attain the code are told
  told : are_all_told e.answers f.moves ≡ are_among f.moves m
  told = ap (λ (a : Option Moves). are_all_told a f.moves) tells

  -- nothing is missed exactly if the moves attain the code
  none_missed : (misses e f ≡ false) ↔ (all_attain e.answers f.moves ≡ true)
  none_missed = nothing_missed (allows_code e.code f.code) (all_attain e.answers f.moves) allowed

  -- with others ruled out
  pub exactly_these : e.only ≡ true → (verdict_on e f ≡ verdict.AsExpected) ↔ AreSameMoves m f.moves
  exactly_these only =
      let rest = no_more e.only (are_all_told e.answers f.moves) only in (
        (λ h. let parts = by_parts.0 h in
            same_by_tests m f.moves (sym attained ∙ none_missed.0 parts.0) (sym told ∙ rest.0 parts.1)),
        (λ h. let tests = tests_by_same m f.moves h in
            by_parts.1 (none_missed.1 (attained ∙ tests.0), rest.1 (told ∙ tests.1))),
      )

  -- with others allowed
  pub these_at_least : e.only ≡ false → (verdict_on e f ≡ verdict.AsExpected) ↔ AreAmong m f.moves
  these_at_least only = (
    (λ h. among_by_test m f.moves (sym attained ∙ none_missed.0 (by_parts.0 h).0)),
    (λ h. by_parts.1 (
      none_missed.1 (attained ∙ test_by_among m f.moves h),
      others_allowed e.only (are_all_told e.answers f.moves) only,
    )),
  )
