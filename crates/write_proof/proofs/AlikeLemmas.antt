-- What is the same under each of the asked ko allowances.
use Rattle.std.proofs.Common.{◌≡◌, ◌≢◌, ◌∙◌, ℕ, Bool, true, false, not, cond, eqb, ◌&&◌, List, [], ◌∷◌, ◌++◌}
use Rattle.std.proofs.Common.{Result, Ok, Err, refl, sym, ap, subst, arith, inl, inr, length, length-append}
use Rattle.std.proofs.lemmas.Bool.{cases_Bool, both_ways, and_parts, eqb-true, ne_eqb}
use Rattle.std.specs.Result.{IsErrAnd}
use Rattle.go_rules.specs.Position.{BoardState}
use Rattle.read_rules.specs.Answer.{first_turn}
use Rattle.read_rules.specs.declared.node.Node.{Node}
use Rattle.read_rules.specs.declared.turn.Turn.{Turn}
use Rattle.read_tree.specs.declared.allowances.Allowances.{Allowances}
use Rattle.read_rules.specs.declared.question.ReadingQuestion.{ReadingQuestion}
use Rattle.read_rules.specs.Answer.{is_attack, first_node}
use Rattle.read_rules.specs.GameTree.{pass_saves, first_success, first_move, at_point}
use Rattle.read_tree.specs.Allowances.{Ko, defender_may, neither_may, attacker_may, all_three, has, has_some}
use Rattle.read_tree.specs.Allowances.{under, IsFiltered, own_ko, own_where, without, both, attacker_ko_of}
use Rattle.read_tree.specs.Allowances.{defender_ko_of}
use Rattle.read_tree.proofs.AllowanceLemmas.{some_of, none_of, has-without, in_other, and_parts_not, has_all}
use Rattle.read_tree.proofs.TableLemmas.{has_both}
use Rattle.read_tree.proofs.NodeLemmas.{under_by, first_point}
use Rattle.read_proof.specs.FirstProof.{first_words, first_words_of}
use Rattle.read_proof.specs.ProofOf.{codes_down_to, claim_under, letter_of}
use Rattle.write_proof.specs.declared.alike.MoveSuccess.{MoveSuccess}
use Rattle.write_proof.specs.declared.alike.MoveSuccess.TheVariants.{Always, Never, Differs}
use Rattle.write_proof.specs.declared.alike.Common.{Common}
use Rattle.write_proof.specs.declared.alike.Common.TheVariants.{Move, Nothing, Differs as differs}
use Rattle.write_proof.specs.declared.text.NoRoom.{NoRoom}
use Rattle.read_proof.specs.Tokens.{Word}
use Rattle.write_proof.specs.Printed.{behind_blanks, Puts}
use Rattle.write_proof.specs.Alike.{IsOne, only, ko_under, IsMoveSuccess, IsCommon, claim_words, PutsAlike}
use Rattle.write_proof.proofs.PutLemmas.{puts_fails, blanks_both, part, under_words, whole_one, whole_first}

-- an error that is handed up is that of the first piece
pub puts_up_told : {U : Type 0} (old new after x y : List ℕ) (e : NoRoom) (s : Result U NoRoom)
    → IsErrAnd s (λ k. k ≡ e) → Puts {T = Bool} old x new (Err e) → Puts old (x ++ y) after s
puts_up_told old new after x y e (Ok done) same h = absurd same
puts_up_told {U} old new after x y e (Err k) same h =
    puts_fails {T = Bool} {U = U} old new after x y (Err e) (Err k) e refl (ap Err same) h

-- where it was told that the words are the same, it was not told that they are not
pub yes_told : (b : Bool) → b ≡ true → ◌≢◌ {A = Result Bool NoRoom} (Ok b) (Ok false)
yes_told true e = λ w. cc
yes_told false e = absurd (let w = e in cc)

-- where the negation fails, the test passes
pub not_false : (b : Bool) → not b ≡ true → b ≡ false
not_false true h = cc
not_false false h = refl

-- what is left of a set without another has none of the other
left_of : (a b : Allowances) → has_some (without a b) ≡ true
    → (ko : Ko) × (has a ko ≡ true) × (has b ko ≡ false)
left_of a b some =
    let one = some_of (without a b) some in
    let parts = and_parts_not _ _ (sym (has-without a b one.0) ∙ one.1) in
    (one.0, parts.0, parts.1)

-- the own allowance is in its set
has_own : (attacker : Bool) → has (own_where attacker true) (own_ko attacker) ≡ true
has_own true = refl
has_own false = refl

-- its set is the set of one allowance
pub own_only : (attacker : Bool) → own_where attacker true ≡ only (own_ko attacker)
own_only true = refl
own_only false = refl

-- no other is in it
own_where_is : (attacker : Bool) (ko : Ko) → has (own_where attacker true) ko ≡ true → ko ≡ own_ko attacker
own_where_is true defender_may h = cc
own_where_is true neither_may h = cc
own_where_is true attacker_may h = refl
own_where_is false defender_may h = refl
own_where_is false neither_may h = cc
own_where_is false attacker_may h = cc

-- a single allowance that is the own one leaves no other
pub own_alone : (attacker : Bool) (asked : Allowances) → IsOne asked → has asked (own_ko attacker) ≡ true
    → has_some (without asked (own_where attacker true)) ≡ false
own_alone attacker asked one there = elim (cases_Bool (has_some (without asked (own_where attacker true)))) [
  | inl some ↦
      let other = left_of asked (own_where attacker true) some in
      let same = one other.0 (own_ko attacker) other.1 there in
      absurd (both_ways (has (own_where attacker true) other.0) other.2
      (ap (has (own_where attacker true)) same ∙ has_own attacker))
  | inr none ↦ none
]

-- what is in a set, and not in both, is not in the other
pub not_both : (a b : Bool) → a ≡ true → (a && b) ≡ false → b ≡ false
not_both true b e h = h
not_both false b e h = cc

-- where nothing is left without it, each asked allowance is the own one
pub alone_own : (attacker : Bool) (asked : Allowances) → has_some (without asked (own_where attacker true)) ≡ false
    → (ko : Ko) → has asked ko ≡ true → ko ≡ own_ko attacker
alone_own attacker asked none ko there =
    own_where_is attacker ko (in_other (has asked ko) (has (own_where attacker true) ko) there
    (sym (has-without asked (own_where attacker true) ko) ∙ none_of (without asked (own_where attacker true)) ko none))

-- the set of one allowance has it alone
pub only_is : (one ko : Ko) → has (only one) ko ≡ true → ko ≡ one
only_is defender_may defender_may h = refl
only_is defender_may neither_may h = cc
only_is defender_may attacker_may h = cc
only_is neither_may defender_may h = cc
only_is neither_may neither_may h = refl
only_is neither_may attacker_may h = cc
only_is attacker_may defender_may h = cc
only_is attacker_may neither_may h = cc
only_is attacker_may attacker_may h = refl

-- it has that
pub only_has : (ko : Ko) → has (only ko) ko ≡ true
only_has defender_may = refl
only_has neither_may = refl
only_has attacker_may = refl

-- it has some
pub only_some : (ko : Ko) → has_some (only ko) ≡ true
only_some defender_may = refl
only_some neither_may = refl
only_some attacker_may = refl

-- and is one
pub only_one : (one : Ko) → IsOne (only one)
only_one one = λ ko other h k. only_is one ko h ∙ sym (only_is one other k)

-- of one allowance the words were put
pub one_put : (asked : Allowances) (ko : Ko) (old new : List ℕ) (words : Ko → List Word) (r : Result Bool NoRoom)
    → asked ≡ only ko → PutsAlike asked old words new r → (IsOne asked → r ≢ Ok false)
    → Puts old (behind_blanks (words ko)) new r
one_put asked ko old new words r is puts one =
    puts (one (subst IsOne (sym is) (only_one ko))) ko (ap (λ (s : Allowances). has s ko) is ∙ only_has ko)

-- why they were not is the same whatever else would have been answered
pub puts_why : (T U : Type 0) (old more new : List ℕ) (e : NoRoom) → Puts {T = T} old more new (Err e)
    → Puts {T = U} old more new (Err e)
puts_why T U old more new e h = h

-- of one allowance it is not told that a move is good under some alone
pub told_one : (asked good : Allowances) → IsOne asked → has_some (without asked good) ≡ true
    → has_some (both asked good) ≡ true → ⊥
told_one asked good one without_it with_it =
    let a = left_of asked good without_it in
    let b = some_of (both asked good) with_it in
    let in_both = and_parts _ _ (sym (has_both asked good b.0) ∙ b.1) in
    both_ways (has good a.0) a.2 (ap (has good) (one a.0 b.0 a.1 in_both.0) ∙ in_both.1)

-- what is told of the asked allowances is told of each
pub success_each : (asked found : Allowances) (test : Ko → Bool) → IsFiltered asked found test → (ko : Ko)
    → has asked ko ≡ true → has found ko ≡ test ko
success_each asked found test tells ko there = tells.each ko ∙ ap (λ b. b && test ko) there

-- what is told of a test is told of another that is the same where it is asked
pub success_same : (asked : Allowances) (t : MoveSuccess) (f g : Ko → Bool)
    → ((ko : Ko) → has asked ko ≡ true → f ko ≡ g ko) → IsMoveSuccess asked t f → IsMoveSuccess asked t g
success_same asked Always f g same h = λ ko a. sym (same ko a) ∙ h ko a
success_same asked Never f g same h = λ ko a. sym (same ko a) ∙ h ko a
success_same asked Differs f g same h = tt

-- where the pass does not save the target, the first move is the first point
pub after_pass : (n : ℕ) (turn : Turn) (asked : Allowances) (here : BoardState) (found : Common)
    → ((ko : Ko) → has asked ko ≡ true → pass_saves n (under turn ko) here ≡ false)
    → IsCommon asked found (λ ko. at_point (first_success n (under turn ko) here))
    → IsCommon asked found (λ ko. first_move n (under turn ko) here)
after_pass n turn asked here found passed points = by found points
  where
    moves : (ko : Ko) → has asked ko ≡ true
        → at_point (first_success n (under turn ko) here) ≡ first_move n (under turn ko) here
    moves ko there = first_point n (under turn ko) here _ (sym (passed ko there)) refl

    by : (found : Common) → IsCommon asked found (λ ko. at_point (first_success n (under turn ko) here))
        → IsCommon asked found (λ ko. first_move n (under turn ko) here)
    by (Move spot) points = λ ko there. points ko there ∙ moves ko there
    by Nothing points = λ ko there. points ko there ∙ moves ko there
    by differs points = tt

-- under the allowance of a code each side may ignore the ban as often as the code says
ko_counts : (attack three one : Bool) → (three ≡ true → one ≡ false)
    → (attacker_ko_of (cond three (own_ko (not attack)) (cond one (own_ko attack) neither_may))
    ≡ cond attack (cond one 1 0) (cond three 1 0))
    × (defender_ko_of (cond three (own_ko (not attack)) (cond one (own_ko attack) neither_may))
    ≡ cond attack (cond three 1 0) (cond one 1 0))
ko_counts attack true true apart = absurd (let w = apart refl in cc)
ko_counts true true false apart = (refl, refl)
ko_counts false true false apart = (refl, refl)
ko_counts true false true apart = (refl, refl)
ko_counts false false true apart = (refl, refl)
ko_counts true false false apart = (refl, refl)
ko_counts false false false apart = (refl, refl)

-- the node of a code is that of the first turn under its allowance
pub node_under : (q : ReadingQuestion) (code : ℕ) → under (first_turn q) (ko_under (is_attack q.kind) code)
    ≡ first_node q code
node_under q code =
    let counts = ko_counts (is_attack q.kind) (eqb code 3) (eqb code 1)
    (λ e. ne_eqb code 1 (λ one. let three = eqb-true code 3 e in omega (arith, one, three))) in
    under_by (first_turn q) (ko_under (is_attack q.kind) code) _ _ counts.0 counts.1

-- what a proof of one code claims under another is written as a claim under its allowance
pub part_claim : (q : ReadingQuestion) (pos : BoardState) (code more : ℕ) → part q pos code more
    ≡ behind_blanks (claim_words q pos (claim_under q code more) (ko_under (is_attack q.kind) more))
part_claim q pos code more =
    let won = claim_under q code more in
    under_words q pos code more
    ∙ ap (λ (m : Node). behind_blanks (letter_of won ∷ []) ++ behind_blanks (first_words q.plies won m pos))
    (sym (node_under q more))
    ∙ sym (blanks_both (letter_of won ∷ [])
    (first_words q.plies won (under (first_turn q) (ko_under (is_attack q.kind) more)) pos))

-- a part of the first proof of code 0 claims the same under each code
part_by : (q : ReadingQuestion) (pos : BoardState) (more : ℕ) → eqb more 0 ≡ false
    → part q pos 0 more ≡ behind_blanks (claim_words q pos (claim_under q 0 3) (ko_under (is_attack q.kind) more))
part_by q pos more none =
    part_claim q pos 0 more
    ∙ ap (λ won. behind_blanks (claim_words q pos won (ko_under (is_attack q.kind) more)))
    (ap (λ b. cond (is_attack q.kind) b (not b)) none)

-- The first proof of code 0, where its three parts are the same.
module _ (q : ReadingQuestion) (pos : BoardState) where
  -- what was written for one part makes up the whole when it stands there three times
  thrice_whole : (piece : List ℕ) → ((ko : Ko) → piece ≡ behind_blanks (claim_words q pos (claim_under q 0 3) ko))
      → piece ++ (piece ++ piece) ≡ behind_blanks (first_words_of q pos 0 (codes_down_to 0))
  thrice_whole piece is =
      let e = λ (more : ℕ) (none : eqb more 0 ≡ false).
      is (ko_under (is_attack q.kind) more) ∙ sym (part_by q pos more none) in
      ap (λ t. t ++ (piece ++ piece)) (e 3 refl)
      ∙ ap (λ t. part q pos 0 3 ++ (t ++ piece)) (e 2 refl)
      ∙ ap (λ t. part q pos 0 3 ++ (part q pos 0 2 ++ t)) (e 1 refl)
      ∙ sym (whole_one q pos 0 (λ w. cc) (λ w. cc))

  -- under each allowance the part was put, or why it was not
  each_put : (piece : List ℕ) (r s : Result Bool NoRoom) → r ≡ s → s ≢ Ok false
      → PutsAlike all_three [] (claim_words q pos (claim_under q 0 3)) piece r
      → (ko : Ko) → Puts [] (behind_blanks (claim_words q pos (claim_under q 0 3) ko)) piece s
  each_put piece r s is same puts ko =
      subst (λ t. PutsAlike all_three [] (claim_words q pos (claim_under q 0 3)) piece t) is puts same ko (has_all ko)

  -- three times the part that was put is the whole
  three_put : (piece : List ℕ) (r : Result Bool NoRoom) → r ≡ Ok true
      → PutsAlike all_three [] (claim_words q pos (claim_under q 0 3)) piece r
      → piece ++ (piece ++ piece) ≡ behind_blanks (first_words_of q pos 0 (codes_down_to 0))
  three_put piece r told puts =
      thrice_whole piece (λ ko. (each_put piece r (Ok true) told (yes_told true refl) puts ko).0)

  -- if the first part was too long, so is the whole
  part_refused : (old out new : List ℕ) (e : NoRoom)
      → ((ko : Ko) → Puts {T = Bool} [] (behind_blanks (claim_words q pos (claim_under q 0 3) ko)) out (Err e))
      → Puts {T = Bool} old (behind_blanks (first_words_of q pos 0 (codes_down_to 0))) new (Err e)
  part_refused old out new e h =
      let first = whole_first q pos 0 in
      let whole = behind_blanks (first_words_of q pos 0 (codes_down_to 0)) in
      let long : Puts {T = Bool} [] (part q pos 0 3) out (Err e) =
      subst (λ t. Puts {T = Bool} [] t out (Err e)) (sym (part_by q pos 3 refl)) (h (ko_under (is_attack q.kind) 3)) in
      omega (
        arith,
        long,
        ap length first.1,
        length-append (part q pos 0 3) first.0,
        length-append old whole,
      )

  -- three times the part is the whole, or would be too long
  pub alike_put : (old piece new : List ℕ) (r : Result Bool NoRoom) (s : Result (Unit {0}) NoRoom) → r ≡ Ok true
      → PutsAlike all_three [] (claim_words q pos (claim_under q 0 3)) piece r
      → Puts old (piece ++ (piece ++ piece)) new s
      → Puts old (behind_blanks (first_words_of q pos 0 (codes_down_to 0))) new s
  alike_put old piece new r s told puts h = subst (λ bytes. Puts old bytes new s) (three_put piece r told puts) h

  -- the part was too long
  pub alike_refused : (old piece new : List ℕ) (e : NoRoom) (r : Result Bool NoRoom) → r ≡ Err e
      → PutsAlike all_three [] (claim_words q pos (claim_under q 0 3)) piece r
      → Puts {T = Bool} old (behind_blanks (first_words_of q pos 0 (codes_down_to 0))) new (Err e)
  alike_refused old piece new e r is puts = part_refused old piece new e (each_put piece r (Err e) is (λ w. cc) puts)
