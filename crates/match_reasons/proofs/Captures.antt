-- The attack by which a stone is captured.
use Rattle.std.proofs.Common.{◌≡◌, ℕ, Bool, true, false, cond, eqb, Some, None, refl, sym, ap, ◌∙◌}
use Rattle.std.proofs.lemmas.Bool.{eqb-true, eq-eqb}
use Rattle.go_rules.specs.declared.Cell.{Cell}
use Rattle.go_rules.specs.declared.Cell.TheVariants.{Empty, Black, White}
use Rattle.go_rules.specs.Position.{BoardState}
use Rattle.go_rules.specs.Strings.{cell_at, is_stone}
use Rattle.read_rules.specs.declared.depths.Depths.{Depths}
use Rattle.read_rules.specs.declared.question.Answer.{Answer}
use Rattle.read_rules.specs.declared.question.Kind.{Kind}
use Rattle.read_rules.specs.declared.question.Kind.TheVariants.{Attack}
use Rattle.read_rules.specs.Answer.{asked_in}
use Rattle.read_rules.proofs.RuleLemmas.{code-answer_of}
use Rattle.cons_eval.specs.Readings.{code_at}
use Rattle.match_reasons.specs.FreshReadings.{fresh_answer, fresh_codes, capture_of}

-- the code of a fresh answer
pub fresh_code : (d : Depths) (kind : Kind) (board : BoardState) (p : ℕ) (a : Answer) → a ≡ fresh_answer d kind board p
    → a.code ≡ fresh_codes d kind board p
fresh_code d kind board p a is =
    ap (λ (b : Answer). b.code) is ∙ code-answer_of (asked_in d.tree board kind p d.plies d.wide) board

-- what is no empty point is a stone
stone_there : (cell : Cell) → (cell ≡ Empty → ⊥) → is_stone cell ≡ true
stone_there Empty some = absurd (some refl)
stone_there Black some = refl
stone_there White some = refl

module _ (d : Depths) (board : BoardState) (p : ℕ) (a : Answer) (some : cell_at board.cells p ≡ Empty → ⊥)
    (is : a ≡ fresh_answer d Attack board p) where
  -- the code of an attack on a stone is that of its answer
  code_there : a.code ≡ code_at (fresh_codes d) Attack board p
  code_there =
      fresh_code d Attack board p a is
      ∙ sym (ap (λ b. cond b (fresh_codes d Attack board p) 0) (stone_there (cell_at board.cells p) some))

  -- the attack is told unless its code is 0
  told_by : cond (eqb a.code 0) None (Some a) ≡ capture_of d board p
  told_by =
      ap (λ n. cond (eqb n 0) None (Some a)) code_there
      ∙ ap (λ b. cond (eqb (code_at (fresh_codes d) Attack board p) 0) None (Some b)) is

  -- with code 0 nothing is told
  pub not_captured : a.code ≡ 0 → None ≡ capture_of d board p
  not_captured none = sym (ap (λ b. cond b None (Some a)) (eq-eqb a.code 0 none)) ∙ told_by

  -- with another code the attack is told
  pub is_captured : (a.code ≡ 0 → ⊥) → Some a ≡ capture_of d board p
  is_captured some_code = by (eqb a.code 0) refl ∙ told_by
    where
      by : (b : Bool) → eqb a.code 0 ≡ b → Some a ≡ cond (eqb a.code 0) None (Some a)
      by true e = absurd (some_code (eqb-true a.code 0 e))
      by false e = sym (ap (λ b. cond b None (Some a)) e)
