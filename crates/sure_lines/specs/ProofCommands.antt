-- The effects of the commands that print a proof of a sure capture, and that check one.
use Rattle.std.specs.Prelude.{◌≢◌, ℕ, ◌+◌, ◌≤◌, ◌==◌, ◌&&◌, nat_lt, Bool, true, false, List, [], ◌∷◌, ◌++◌, length}
use Rattle.std.specs.Prelude.{map, drop, Option, None, Some, if◌then◌else◌, decimal}
use Rattle.std.specs.Option.{option_map}
use Rattle.go_rules.specs.Position.{BoardState}
use Rattle.go_rules.specs.Strings.{cell_at, is_stone}
use Rattle.gtp_cmd.specs.Words.{blank, line_feed, cleaned}
use Rattle.gtp_cmd.specs.declared.refusals.RefuseText.TheVariants.{VertexEmpty, ProofTooLong, OutOfMemory}
use Rattle.read_rules.specs.Answer.{first_node}
use Rattle.read_rules.specs.declared.node.Node.{Node}
use Rattle.read_rules.specs.declared.question.Kind.{Kind}
use Rattle.read_rules.specs.declared.question.Kind.TheVariants.{Attack, Defend}
use Rattle.read_proof.specs.Tokens.{Word, words_in}
use Rattle.sure_proof.specs.SureProofs.{Proved, IsSureProof, proves_surely}
use Rattle.write_sure.specs.Room.{longest_proof}
use Rattle.sure_lines.specs.Effects.{Effect, refused, succeeded}
use Rattle.sure_lines.specs.Files.{named_file, by_file}
use Rattle.sure_lines.specs.Machine.{Machine, present, question_at}
use Rattle.sure_lines.specs.QuestionCommands.{sure_reading}
use Rattle.sure_lines.specs.Replies.{word_of}

-- the code under whose ko allowances the capture is sure, if an answer has this code: for an attack the code itself,
-- for a defence the next code, which the defence does not attain
abbrev pub code_of_capture : Kind → ℕ → ℕ
code_of_capture Attack code = code
code_of_capture Defend code = code + 1

-- the code has ko allowances: it is 1, 2 or 3
abbrev pub has_allowances : ℕ → Bool
has_allowances code = nat_lt 0 code && nat_lt code 4

-- the first node of the question about the string of p, under the ko allowances of the code
abbrev pub node_under : Machine → Kind → ℕ → ℕ → Node
node_under machine kind p code = first_node (question_at machine kind p) code

-- the text is a proof of the sure capture that the code of the sure answer means, and has at most 1,048,576 bytes
pub record IsProofOfAnswer (machine : Machine) (kind : Kind) (p : ℕ) (text : List ℕ) : Type 0 where
  pub proof : IsSureProof machine.plies
      (node_under machine kind p (code_of_capture kind (sure_reading machine kind p).code))
      (present machine) (words_in text)
  pub short : length text ≤ longest_proof

-- the text is a proof of the sure answer's capture, or it is empty, since no proof is printed
abbrev pub IsProofTold : Machine → Kind → ℕ → List ℕ → Type 0
IsProofTold machine kind p text = text ≢ [] → IsProofOfAnswer machine kind p text

-- the text of a code, and of a proof after a blank if the proof is not empty
abbrev pub coded_proof : ℕ → List ℕ → List ℕ
coded_proof code [] = decimal code
coded_proof code (first ∷ more) = decimal code ++ blank ∷ (first ∷ more)

-- the code is printed with this proof; or instead the proof is refused as too long, or there is no memory for it
abbrev pub proof_told : ℕ → List ℕ → Machine → Effect
proof_told code text old = record (succeeded (coded_proof code text) old) { excuses = ProofTooLong ∷ OutOfMemory ∷ [] }

-- the code of the sure answer to a question about the stone at p is printed with this proof; refused if no stone stands
-- there
abbrev pub proved : Machine → Kind → ℕ → List ℕ → Effect
proved old kind p text =
    if is_stone (cell_at (present old).cells p)
    then proof_told (sure_reading old kind p).code text old
    else refused old VertexEmpty

-- the proof was accepted, and no word is left behind it
abbrev pub is_whole : Option (List Word) → Bool
is_whole None = false
is_whole (Some []) = true
is_whole (Some (word ∷ more)) = false

-- the words are a proof that with n plies left the target is surely captured at the node
abbrev pub is_sure_proof : ℕ → Node → BoardState → List Word → Bool
is_sure_proof n node pos words =
    is_whole (option_map (λ (found : Proved). found.rest) (proves_surely n node pos words))

-- the text is a proof that the string of p is surely captured under the ko allowances of the code
abbrev pub is_proof_under : Machine → Kind → ℕ → ℕ → List ℕ → Bool
is_proof_under machine kind p code text =
    is_sure_proof machine.plies (node_under machine kind p code) (present machine) (words_in text)

-- the answer says whether the text is a proof of the sure capture that this code of a question about the string of p
-- means
abbrev pub judged : Machine → Kind → ℕ → ℕ → List ℕ → Effect
judged old kind p code text =
    succeeded (word_of (has_allowances (code_of_capture kind code)
    && is_proof_under old kind p (code_of_capture kind code) text)) old

-- the byte in front of the name of a file that holds a proof
abbrev pub at_sign : ℕ
at_sign = 64

-- the text names a file: its first byte is `@`
abbrev pub names_file : List ℕ → Bool
names_file [] = false
names_file (b ∷ bs) = b == at_sign

-- the name of a file that stands behind the first byte of the text
abbrev pub name_behind : List ℕ → List ℕ
name_behind text = cleaned (drop 1 text)

-- the name of the file that the text names; none if it names no file, or if the name is not in UTF-8
abbrev pub proof_name : List ℕ → Option (List ℕ)
proof_name text = if names_file text then named_file (name_behind text) else None

-- the byte, with a blank in place of a line feed
abbrev pub blank_for_line_feed : ℕ → ℕ
blank_for_line_feed b = if b == line_feed then blank else b

-- the text of the proof that a file with this text holds: each line feed is a blank, so that words may stand on lines
abbrev pub proof_in : List ℕ → List ℕ
proof_in file = map blank_for_line_feed file

-- the proof that is judged is the text, or, if the text names a file, the proof in this file
abbrev pub judged_by : Machine → Kind → ℕ → ℕ → List ℕ → List ℕ → Effect
judged_by old kind p code text file =
    if names_file text then by_file old (name_behind text) (judged old kind p code (proof_in file))
    else judged old kind p code text

-- the text, or the file that it names, is judged as a proof of what this code of a question about the stone at p means;
-- refused if no stone stands there, whatever the text is
abbrev pub checked_by : Machine → Kind → ℕ → ℕ → List ℕ → List ℕ → Effect
checked_by old kind p code text file =
    if is_stone (cell_at (present old).cells p) then judged_by old kind p code text file else refused old VertexEmpty

-- the kind of question that a proof is about
abbrev pub kind_of : Bool → Kind
kind_of attack = if attack then Attack else Defend
