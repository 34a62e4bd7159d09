-- A proof that is written is accepted by the check.
use Rattle.std.proofs.Common.{◌≡◌, ◌∙◌, ℕ, ◌≤◌, Bool, true, false, cond, List}
use Rattle.std.proofs.Common.{Option, Some, None, Result, Ok, Err, refl, ap, not, ltb}
use Rattle.std.proofs.lemmas.Bool.{le-ltb}
use Rattle.go_rules.specs.declared.Cell.{Cell}
use Rattle.go_rules.specs.Position.{BoardState}
use Rattle.read_rules.specs.declared.question.Kind.{Kind}
use Rattle.read_rules.specs.Answer.{asked_in}
use Rattle.read_proof.specs.ProofOf.{IsProofOf}
use Rattle.board_doors.specs.declared.depths.DepthBytes.{DepthBytes}
use Rattle.board_doors.specs.declared.fault.DoorFault.{DoorFault}
use Rattle.board_doors.specs.declared.fault.DoorFault.TheVariants.{Depths as bad_depths, Code}
use Rattle.board_doors.specs.Doors.{Asked, and_then, are_depths, tree_named, stone_at, kind_named}
use Rattle.board_doors.specs.Doors.{question_with, question_by, question_on, checked_with, check_by, check_on}
use Rattle.board_doors.specs.Doors.{is_whole, is_proof_on}

-- there is a question, and the text is a proof that this is its code
abbrev pub IsProofIn : ℕ → List ℕ → Result Asked DoorFault → Type 0
IsProofIn code text (Ok asked) = IsProofOf asked.question asked.position code text
IsProofIn code text (Err fault) = ⊥

module _ (target : ℕ) (depths : DepthBytes) (pos : BoardState) (code : ℕ) (text : List ℕ) (few : code ≤ 3) where
  -- the check accepts it if the numbers are depths
  by_depths : (kind : Kind) (b : Bool) → are_depths depths ≡ b
      → IsProofIn code text (cond b (Ok (record {
        question = asked_in (tree_named depths.tree) pos kind target depths.plies depths.wide;
        position = pos;
      })) (Err bad_depths))
      → cond (not b) (Err bad_depths) (cond (ltb 3 code) (Err Code) (Ok (is_proof_on kind target depths code text pos)))
      ≡ Ok true
  by_depths kind false is proof = absurd proof
  by_depths kind true is proof =
      ap (λ b. cond b (Err Code) (Ok (is_proof_on kind target depths code text pos))) (le-ltb 3 code few)
      ∙ ap (λ left. Ok (is_whole left)) proof

  -- if a stone stands at the point
  by_stone : (kind : Kind) (found : Result Cell DoorFault)
      → IsProofIn code text (and_then (λ stone. question_with kind target depths pos) found)
      → and_then (λ stone. checked_with kind target depths code text pos) found ≡ Ok true
  by_stone kind (Err fault) proof = absurd proof
  by_stone kind (Ok stone) proof = by_depths kind (are_depths depths) refl proof

  -- if the number names a question
  by_kind : (kind : Option Kind) → IsProofIn code text (question_by target depths pos kind)
      → check_by target depths code text pos kind ≡ Ok true
  by_kind None proof = absurd proof
  by_kind (Some kind) proof = by_stone kind (stone_at pos target) proof

  -- the check accepts a proof of the code of a caller's question
  pub is_accepted : (kind : ℕ) → IsProofIn code text (question_on kind target depths pos)
      → check_on kind target depths code text pos ≡ Ok true
  unfolding question_on check_on
  is_accepted kind proof = by_kind (kind_named kind) proof
