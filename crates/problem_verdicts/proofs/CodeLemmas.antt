-- A question has a code above 0 exactly if it attains one of the three.
use Rattle.std.proofs.Common.{◌≡◌, ◌≢◌, ◌∙◌, ℕ, Bool, true, false, not, cond, ◌||◌, ◌==◌, refl, sym}
use Rattle.go_rules.specs.declared.Cell.TheVariants.{Empty}
use Rattle.go_rules.specs.Position.{BoardState}
use Rattle.go_rules.specs.Strings.{cell_at}
use Rattle.read_rules.specs.declared.question.Kind.{Kind}
use Rattle.read_rules.specs.declared.depths.Depths.{Depths}
use Rattle.read_rules.specs.declared.question.ReadingQuestion.{ReadingQuestion}
use Rattle.read_rules.specs.Answer.{is_about, attains_code, code_of, answer_of, asked_in}
use Rattle.read_rules.proofs.AnswerLemmas.{about_from, stone-colour}

-- the code is chosen by what is attained
above : (about three two one : Bool) → about ≡ true
    → not (cond (not about) 0 (cond three 3 (cond two 2 (cond one 1 0))) == 0) ≡ (one || two || three)
above true true true true e = refl
above true true true false e = refl
above true true false true e = refl
above true true false false e = refl
above true false true true e = refl
above true false true false e = refl
above true false false true e = refl
above true false false false e = refl
above false three two one e = absurd (let wrong = e in cc)

-- the code of a question about the position is above 0 exactly if one of the three is attained
some_code : (q : ReadingQuestion) (pos : BoardState) → is_about q pos ≡ true
    → not ((answer_of q pos).code == 0) ≡ (attains_code q pos 1 || attains_code q pos 2 || attains_code q pos 3)
unfolding answer_of code_of
some_code q pos about =
    above (is_about q pos) (attains_code q pos 3) (attains_code q pos 2) (attains_code q pos 1) about

-- of three tests one passes
first_of : (a b c : Bool) → a ≡ true → true ≡ (a || b || c)
first_of true true true e = refl
first_of true true false e = refl
first_of true false true e = refl
first_of true false false e = refl
first_of false b c e = absurd (let wrong = e in cc)

-- the second does
second_of : (a b c : Bool) → b ≡ true → true ≡ (a || b || c)
second_of true true true e = refl
second_of true true false e = refl
second_of false true true e = refl
second_of false true false e = refl
second_of a false c e = absurd (let wrong = e in cc)

-- the first two fail, and the third decides
third_of : (a b c : Bool) → a ≡ false → b ≡ false → c ≡ (a || b || c)
third_of false false true e f = refl
third_of false false false e f = refl
third_of true b c e f = absurd (let wrong = e in cc)
third_of a true c e f = absurd (let wrong = f in cc)

module _ (pos : BoardState) (kind : Kind) (target : ℕ) (depths : Depths)
    (stone : cell_at pos.cells target ≢ Empty) where
  -- the question that a call asks about the stone attains the code
  abbrev Attains : ℕ → Bool
  Attains code = attains_code (asked_in depths.tree pos kind target depths.plies depths.wide) pos code

  -- it has a code above 0
  abbrev HasCode : Bool
  HasCode = not ((answer_of (asked_in depths.tree pos kind target depths.plies depths.wide) pos).code == 0)

  -- it has a code above 0 exactly if it attains one of the three
  asked_some : HasCode ≡ (Attains 1 || Attains 2 || Attains 3)
  asked_some =
      let q = asked_in depths.tree pos kind target depths.plies depths.wide in
      some_code q pos (about_from q pos refl (stone-colour (cell_at pos.cells target) stone))

  -- code 1 is attained
  pub by_one : Attains 1 ≡ true → true ≡ HasCode
  by_one e = first_of (Attains 1) (Attains 2) (Attains 3) e ∙ sym asked_some

  -- code 2 is
  pub by_two : Attains 2 ≡ true → true ≡ HasCode
  by_two e = second_of (Attains 1) (Attains 2) (Attains 3) e ∙ sym asked_some

  -- neither is, so that code 3 decides
  pub by_three : Attains 1 ≡ false → Attains 2 ≡ false → Attains 3 ≡ HasCode
  by_three e f = third_of (Attains 1) (Attains 2) (Attains 3) e f ∙ sym asked_some
