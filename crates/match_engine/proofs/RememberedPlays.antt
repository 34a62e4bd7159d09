-- What is remembered of plays, and what a play says.
use Rattle.std.proofs.Common.{◌≡◌, ℕ, Bool, true, false, cond, nat_eq, Ok, Err, refl, ◌∙◌, arith}
use Rattle.std.specs.Ordering.{nat_cmp}
use Rattle.std.specs.FinSet as set
use Rattle.go_rules.specs.declared.Colour.{Colour}
use Rattle.go_rules.specs.declared.Illegal.{Illegal}
use Rattle.go_rules.specs.declared.Cell.{Cell}
use Rattle.go_rules.specs.declared.Cell.TheVariants.{Empty, Black, White}
use Rattle.go_rules.specs.Position.{BoardState}
use Rattle.go_rules.specs.Strings.{cell_at, is_stone}
use Rattle.go_rules.specs.Play.{play}
use Rattle.read_rules.specs.declared.question.Kind.{Kind}
use Rattle.read_rules.specs.declared.question.Kind.TheVariants.{Attack}
use Rattle.read_rules.specs.Answer.{answer_of}
use Rattle.read_rules.proofs.RuleLemmas.{code-answer_of}
use Rattle.cons_eval.specs.Readings.{Codes, code_at}
use Rattle.cons_eval.specs.Functions.{is_safe_move}
use Rattle.match_engine.specs.declared.plays.Plays.{Plays}
use Rattle.match_engine.specs.ReadingDepths.{ReadingDepths, asked_at}
use Rattle.match_engine.specs.Readings.{codes_at}
use Rattle.match_engine.specs.Remembered.{Remembers}
use Rattle.match_engine.specs.PointAnswers.{Knows}
use Rattle.match_engine.proofs.QuestionPoints.{Knows-nothing, Knows-more}

-- the code of an answer is that of the readings at these depths
pub answer_codes : (depths : ReadingDepths) (kind : Kind) (pos : BoardState) (p code : ℕ)
    → code ≡ (answer_of (asked_at depths pos kind p) pos).code → code ≡ codes_at depths kind pos p
answer_codes depths kind pos p code is = is ∙ code-answer_of (asked_at depths pos kind p) pos

-- what is no empty point is a stone
stone_there : (cell : Cell) → (cell ≡ Empty → ⊥) → is_stone cell ≡ true
stone_there Empty some = absurd (some refl)
stone_there Black some = refl
stone_there White some = refl

-- the code of a reading at a stone
pub read_code : (depths : ReadingDepths) (kind : Kind) (pos : BoardState) (p code : ℕ)
    → (cell_at pos.cells p ≡ Empty → ⊥) → code ≡ (answer_of (asked_at depths pos kind p) pos).code
    → code ≡ code_at (codes_at depths) kind pos p
read_code depths kind pos p code some is = grind (arith, answer_codes, stone_there)

module _ (code : Codes) (board : BoardState) (c : Colour) where
  -- a legal play is safe where the code of an attack on its stone is 0
  pub safe_after : (m n : ℕ) (next : BoardState) → play board c m ≡ Ok next → n ≡ code_at code Attack next m
      → nat_eq n 0 ≡ is_safe_move code board c m
  unfolding is_safe_move
  safe_after m n next legal is = grind arith

  -- an illegal play is not
  pub safe_never : (m : ℕ) (reason : Illegal) → play board c m ≡ Err reason → false ≡ is_safe_move code board c m
  unfolding is_safe_move
  safe_never m reason illegal = grind arith

  -- what is known of the question whether c's play at a point is legal and safe, is remembered of the plays
  remembered : (plays : Plays) → Knows (is_safe_move code board c) (record { asked = plays.asked; holds = plays.safe })
      → Remembers code board c plays
  remembered plays knows = record { known = knows.answered; no_other = knows.no_other }

  -- nothing is remembered at first
  pub Remembers-nothing : (asked safe : set.FinSet nat_cmp) → asked ≡ set.empty → safe ≡ set.empty
      → Remembers code board c (record { asked = asked; safe = safe })
  Remembers-nothing asked safe none none' =
      remembered (record { asked = asked; safe = safe })
      (Knows-nothing (is_safe_move code board c) asked safe none none')

  -- one play more is remembered
  pub Remembers-more : (old new : Plays) (m : ℕ) (safe : Bool) → Remembers code board c old
      → set.contains old.asked m ≡ false → safe ≡ is_safe_move code board c m
      → new.asked ≡ set.insert old.asked m → new.safe ≡ cond safe (set.insert old.safe m) old.safe
      → Remembers code board c new
  Remembers-more old new m safe before new_here is asked kept =
      remembered new
      (Knows-more (is_safe_move code board c) (record { asked = old.asked; holds = old.safe })
      (record { asked = new.asked; holds = new.safe }) m safe
      (record { answered = before.known; no_other = before.no_other }) new_here is asked kept)
