-- Answers that are the same under each of the asked ko allowances, and words that are written once for all of them.
use Rattle.std.specs.Prelude.{◌≡◌, ◌≢◌, ℕ, Bool, true, false, List, ◌∷◌, Option, Some, None}
use Rattle.std.specs.Prelude.{Result, Ok, if◌then◌else◌, not, ◌==◌}
use Rattle.go_rules.specs.Position.{BoardState}
use Rattle.read_rules.specs.Answer.{first_turn}
use Rattle.read_rules.specs.declared.question.ReadingQuestion.{ReadingQuestion}
use Rattle.read_rules.specs.declared.question.Spot.{Spot}
use Rattle.read_rules.specs.GoodMoves.{IsOnBoard}
use Rattle.read_tree.specs.declared.allowances.Allowances.{Allowances}
use Rattle.read_tree.specs.Allowances.{Ko, defender_may, neither_may, attacker_may, has, own_ko, under}
use Rattle.read_proof.specs.Tokens.{Word}
use Rattle.read_proof.specs.ProofOf.{letter_of}
use Rattle.read_proof.specs.FirstProof.{first_words}
use Rattle.write_proof.specs.declared.alike.MoveSuccess.{MoveSuccess}
use Rattle.write_proof.specs.declared.alike.MoveSuccess.TheVariants.{Always, Never, Differs}
use Rattle.write_proof.specs.declared.alike.Common.{Common}
use Rattle.write_proof.specs.declared.alike.Common.TheVariants.{Move, Nothing, Differs as differs}
use Rattle.write_proof.specs.declared.text.NoRoom.{NoRoom}
use Rattle.write_proof.specs.Printed.{behind_blanks, Puts}

-- at most one allowance is in the set
abbrev pub IsOne : Allowances → Type 0
IsOne asked = (ko other : Ko) → has asked ko ≡ true → has asked other ≡ true → ko ≡ other

-- the set of one allowance
abbrev pub only : Ko → Allowances
only defender_may = record { defender = true; neither = false; attacker = false }
only neither_may = record { defender = false; neither = true; attacker = false }
only attacker_may = record { defender = false; neither = false; attacker = true }

-- the allowance of a code, for an attack or a defence: under code 3 the other side may ignore the ban, under code 1 the
-- side that is asked about, and under other codes neither
abbrev pub ko_under : Bool → ℕ → Ko
ko_under attack code = if code == 3 then own_ko (not attack) else if code == 1 then own_ko attack else neither_may

-- the test is true of each asked allowance if Always is told, and of none if Never is told; Differs says nothing
abbrev pub IsMoveSuccess : Allowances → MoveSuccess → (Ko → Bool) → Type 0
IsMoveSuccess asked Always test = (ko : Ko) → has asked ko ≡ true → test ko ≡ true
IsMoveSuccess asked Never test = (ko : Ko) → has asked ko ≡ true → test ko ≡ false
IsMoveSuccess asked Differs test = Unit {0}

-- under each asked allowance this is the first move, or there is none; Differs says nothing
abbrev pub IsCommon : Allowances → Common → (Ko → Option Spot) → Type 0
IsCommon asked (Move spot) first = (ko : Ko) → has asked ko ≡ true → Some spot ≡ first ko
IsCommon asked Nothing first = (ko : Ko) → has asked ko ≡ true → None ≡ first ko
IsCommon asked differs first = Unit {0}

-- a move that was found is on a board of this size
abbrev pub IsMoveOn : ℕ → Common → Type 0
IsMoveOn size (Move spot) = IsOnBoard size spot
IsMoveOn size Nothing = Unit {0}
IsMoveOn size differs = Unit {0}

-- unless the result is false, which says that the words may differ, what was put is the words under each asked
-- allowance, each after a blank
abbrev pub PutsAlike : Allowances → List ℕ → (Ko → List Word) → List ℕ → Result Bool NoRoom → Type 0
PutsAlike asked old words new result = result ≢ Ok false → (ko : Ko) → has asked ko ≡ true
    → Puts old (behind_blanks (words ko)) new result

-- the words of a claim under an allowance: its letter, and its first proof
abbrev pub claim_words : ReadingQuestion → BoardState → Bool → Ko → List Word
claim_words q pos won ko = letter_of won ∷ first_words q.plies won (under (first_turn q) ko) pos
