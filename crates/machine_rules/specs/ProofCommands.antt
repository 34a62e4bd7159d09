-- What the commands do that print a proof of a reading's code, and that check one.
use Rattle.std.specs.Prelude.{ℕ, Bool, true, false, nat_le, List, [], ◌∷◌, ◌++◌, length, Option, Some}
use Rattle.std.specs.Prelude.{if◌then◌else◌, decimal, codes}
use Rattle.read_rules.specs.declared.question.Kind.{Kind}
use Rattle.read_rules.specs.declared.question.Kind.TheVariants.{Attack, Defend}
use Rattle.read_proof.specs.FirstProof.{first_text}
use Rattle.read_proof.specs.ProofOf.{codes_down_to, proves_all}
use Rattle.read_proof.specs.Tokens.{Word, words_in}
use Rattle.gtp_cmd.specs.Words.{blank}
use Rattle.gtp_cmd.specs.declared.refusals.RefuseText.TheVariants.{ProofTooLong}
use Rattle.machine_rules.specs.Machine.{Machine, position_of, question_at}
use Rattle.machine_rules.specs.Effects.{Effect, refused, succeeded, growing}
use Rattle.machine_rules.specs.BoardCommands.{of_stone}
use Rattle.machine_rules.specs.ReadingCommands.{reading_of}

-- the most bytes of a proof that is printed, without its code
abbrev pub longest_proof : ℕ
longest_proof = 60000

-- the first proof of a question's code on the machine's position
abbrev pub proof_of : Machine → Kind → ℕ → List ℕ
proof_of machine kind p = first_text (question_at machine kind p) (position_of machine)

-- the code of a reading, a blank and the first proof of the code
abbrev pub proof_text : Machine → Kind → ℕ → List ℕ
proof_text machine kind p =
    decimal (reading_of machine kind p).code ++ blank ∷ proof_of machine kind p

-- the first proof is printed if it is not too long; else the command is refused
abbrev pub proof_told : Machine → Kind → ℕ → Effect
proof_told old kind p =
    if nat_le (length (proof_of old kind p)) longest_proof then succeeded (proof_text old kind p) old
    else refused old ProofTooLong

-- the first proof of a question about a stone is printed, or refused as too long, in a growing reply
abbrev pub proved : Machine → Kind → ℕ → Effect
proved old kind p = of_stone old p (growing old (proof_told old kind p))

-- the proofs were read, and no words are left after them
abbrev pub is_whole : Option (List Word) → Bool
is_whole (Some []) = true
is_whole _ = false

-- whether a text is a proof of the code of a question on the machine's position
abbrev pub is_proof : Machine → Kind → ℕ → ℕ → List ℕ → Bool
is_proof machine kind p code text = is_whole
    (proves_all (question_at machine kind p) (position_of machine) code (codes_down_to code) (words_in text))

-- `true` or `false`
abbrev pub word_of : Bool → List ℕ
word_of known = if known then codes "true" else codes "false"

-- the kind of question that a proof is about: attack if `attack`, else defend
abbrev pub kind_of : Bool → Kind
kind_of attack = if attack then Attack else Defend

-- the reply says whether a text is a proof of the code of a question about a stone
abbrev pub checked : Machine → Kind → ℕ → ℕ → List ℕ → Effect
checked old kind p code text = of_stone old p (succeeded (word_of (is_proof old kind p code text)) old)
