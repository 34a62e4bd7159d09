-- What a reading under one code finds, and which answer the codes come to.
use Rattle.std.proofs.Common.{◌≡◌, ◌≢◌, ◌∙◌, ℕ, zero, suc, ◌-◌, ◌<◌, ◌≤◌, Bool, true, false, not, cond, Option, None}
use Rattle.std.proofs.Common.{is_some, ap, sym, refl, arith, eq-eqb}
use Rattle.std.proofs.lemmas.Bool.{cases_Bool, and_parts, and_from}
use Rattle.go_rules.specs.declared.Cell.{Cell}
use Rattle.go_rules.specs.declared.Cell.TheVariants.{Empty, Black, White}
use Rattle.go_rules.specs.declared.Colour.{Colour}
use Rattle.go_rules.specs.declared.Colour.TheVariants.{Black as black, White as white}
use Rattle.go_rules.specs.Strings.{cell_at, same_cell}
use Rattle.go_rules.specs.Position.{BoardState, stone_of, colour_of}
use Rattle.go_rules.proofs.Paths.{same_cell-true, same_cell-from}
use Rattle.read_rules.specs.declared.question.Spot.{Spot}
use Rattle.read_rules.specs.declared.question.ReadingQuestion.{ReadingQuestion}
use Rattle.read_rules.specs.GameTree.{is_captured}
use Rattle.read_rules.specs.Answer.{first_node, attains_code, is_about, code_of, first_move_of, move_of, answer_of}
use Rattle.read_rules.specs.GoodMoves.{good_move, Reads}
use Rattle.read_rules.proofs.WinLemmas.{wins-attacker_move, wins-defender_move}

-- what is not denied holds
not_not : (b : Bool) → not (not b) ≡ b
not_not true = refl
not_not false = refl

-- a move that is there was not barred
kept : (barred : Bool) (first found : Option Spot) → found ≡ cond barred None first → is_some found ≡ true
    → found ≡ first
kept true first found e s = absurd (let w : false ≡ true = sym (ap is_some e) ∙ s in cc)
kept false first found e s = e

-- the good move at the first node is what a reading under the code looks for
pub reads : (q : ReadingQuestion) (pos : BoardState) (code : ℕ) (found : Option Spot) → q.plies ≢ 0
    → is_captured pos q.target ≡ false
    → found ≡ good_move (q.plies - 1) (first_node q code) pos → Reads q pos code found
reads q pos code found ne h e = grind (arith, cases_Bool, wins-attacker_move, not_not, wins-defender_move, kept)

-- a cell that holds a stone is not empty
pub stone_stands : (cell : Cell) (c : Colour) → cell ≡ stone_of c → same_cell cell Empty ≡ false
stone_stands cell black e = ap (λ k. same_cell k Empty) e
stone_stands cell white e = ap (λ k. same_cell k Empty) e

-- on a position that the question is about the target stands
pub about_stands : (q : ReadingQuestion) (pos : BoardState) → is_about q pos ≡ true → is_captured pos q.target ≡ false
about_stands q pos h = stone_stands (cell_at pos.cells q.target) q.colour (same_cell-true _ _ (and_parts _ _ h).1)

-- the code by what is attained
chosen : (about three two one : Bool) → ℕ
chosen about three two one = cond (not about) 0 (cond three 3 (cond two 2 (cond one 1 0)))

-- the code of a question is chosen by what it attains
code_of-chosen : (q : ReadingQuestion) (pos : BoardState)
    → code_of q pos ≡ chosen (is_about q pos) (attains_code q pos 3) (attains_code q pos 2) (attains_code q pos 1)
unfolding code_of chosen
code_of-chosen q pos = refl

-- the code is 3 where that is attained
chosen-3 : (about three two one : Bool) → about ≡ true → three ≡ true → chosen about three two one ≡ 3
unfolding chosen
chosen-3 about three two one a t = rw (a, t) refl

-- the code is 2 where that is attained and 3 is not
chosen-2 : (about three two one : Bool) → about ≡ true → three ≡ false → two ≡ true → chosen about three two one ≡ 2
unfolding chosen
chosen-2 about three two one a t s = rw (a, t, s) refl

-- the code is 1 where that is attained and neither 3 nor 2 is
chosen-1 : (about three two one : Bool) → about ≡ true → three ≡ false → two ≡ false → one ≡ true
    → chosen about three two one ≡ 1
unfolding chosen
chosen-1 about three two one a t s o = rw (a, t, s, o) refl

-- the code is 0 where none of the others is attained
chosen-0 : (about three two one : Bool) → about ≡ true → three ≡ false → two ≡ false → one ≡ false
    → chosen about three two one ≡ 0
unfolding chosen
chosen-0 about three two one a t s o = rw (a, t, s, o) refl

-- the answer of a code
answer_with : (q : ReadingQuestion) (pos : BoardState) (code : ℕ) (at : Option Spot) → code_of q pos ≡ code
    → at ≡ move_of q pos code → record { code = code; at = at } ≡ answer_of q pos
unfolding answer_of
answer_with q pos code at e f = grind arith

-- a stone is of its own colour
pub stone-colour : (cell : Cell) → cell ≢ Empty → cell ≡ stone_of (colour_of cell)
stone-colour Empty h = absurd (h refl)
stone-colour Black h = refl
stone-colour White h = refl

-- a question is about each position of its size whose target holds a stone of its colour
pub about_from : (q : ReadingQuestion) (pos : BoardState) → q.size ≡ pos.size
    → cell_at pos.cells q.target ≡ stone_of q.colour → is_about q pos ≡ true
about_from q pos size stone = and_from _ _ (eq-eqb q.size pos.size size) (same_cell-from _ _ stone)

-- the question attains a code exactly where the side to play has a good move at its first node
pub attained_by : (q : ReadingQuestion) (pos : BoardState) (code : ℕ) → q.plies ≢ 0 → is_captured pos q.target ≡ false
    → attains_code q pos code ≡ is_some (good_move (q.plies - 1) (first_node q code) pos)
attained_by q pos code ne h = grind (arith, reads)

-- a code that is attained, where no greater one is, is the code of the question
code_best : (q : ReadingQuestion) (pos : BoardState) (code : ℕ) → is_about q pos ≡ true → code ≤ 3
    → (code ≢ 0 → attains_code q pos code ≡ true)
    → ((more : ℕ) → code < more → more ≤ 3 → attains_code q pos more ≡ false) → code_of q pos ≡ code
code_best q pos zero about bounded hit miss = code_of-chosen q pos ∙ chosen-0 _ _ _ _ about
    (miss 3 (omega arith) (omega arith)) (miss 2 (omega arith) (omega arith)) (miss 1 (omega arith) (omega arith))
code_best q pos (suc zero) about bounded hit miss = code_of-chosen q pos ∙ chosen-1 _ _ _ _ about
    (miss 3 (omega arith) (omega arith)) (miss 2 (omega arith) (omega arith)) (hit (λ e. cc))
code_best q pos (suc (suc zero)) about bounded hit miss = code_of-chosen q pos
    ∙ chosen-2 _ _ _ _ about (miss 3 (omega arith) (omega arith)) (hit (λ e. cc))
code_best q pos (suc (suc (suc zero))) about bounded hit miss = grind (arith, code_of-chosen, chosen-3)
code_best q pos (suc (suc (suc (suc more)))) about bounded hit miss = absurd (omega arith)

-- a code that is attained, where no greater one is, and its move are the answer
pub answer_best : (q : ReadingQuestion) (pos : BoardState) (code : ℕ) (at : Option Spot) → is_about q pos ≡ true
    → code ≤ 3 → (code ≢ 0 → attains_code q pos code ≡ true)
    → ((more : ℕ) → code < more → more ≤ 3 → attains_code q pos more ≡ false) → (code ≡ 0 → at ≡ None)
    → (code ≢ 0 → at ≡ first_move_of q pos code) → record { code = code; at = at } ≡ answer_of q pos
answer_best q pos code at about bounded hit miss no_move move =
    grind (arith, answer_with q pos code at (code_best q pos code about bounded hit miss))
