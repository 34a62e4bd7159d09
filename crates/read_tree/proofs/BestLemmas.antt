-- The best answer, found move by move: a greater code takes the place of a smaller one, and an equal code that of none.
use Rattle.std.proofs.Common.{◌≡◌, ◌≢◌, ℕ, suc, ◌+◌, ◌-◌, ◌*◌, ◌<◌, ◌≤◌, Bool, true, false, not, ◌&&◌, cond, Some}
use Rattle.std.proofs.Common.{None, is_some, IfSome, refl, sym, ap, subst, ◌∙◌, arith, inl, inr, ltb}
use Rattle.std.proofs.lemmas.Bool.{cases_Bool, cases_eq, cases_lt, lt-ltb, le-ltb, ltb-true, both_ways}
use Rattle.go_rules.specs.Position.{BoardState}
use Rattle.go_rules.specs.Strings.{liberties}
use Rattle.go_rules.specs.Play.{pass}
use Rattle.go_base.specs.Views.{nowhere}
use Rattle.read_rules.proofs.CandidateLaws.{candidate_on}
use Rattle.read_rules.specs.Answer.{first_turn}
use Rattle.read_rules.specs.Candidates.{is_candidate}
use Rattle.read_rules.specs.declared.node.Node.{Node}
use Rattle.read_rules.specs.declared.turn.Turn.{Turn}
use Rattle.read_rules.specs.declared.question.ReadingQuestion.{ReadingQuestion}
use Rattle.read_rules.specs.declared.question.Answer.{Answer}
use Rattle.read_rules.specs.declared.question.Kind.{Kind}
use Rattle.read_rules.specs.declared.question.Kind.TheVariants.{Attack, Defend}
use Rattle.read_rules.specs.declared.question.Spot.TheVariants.{At, Pass}
use Rattle.read_tree.specs.declared.allowances.Allowances.{Allowances}
use Rattle.read_rules.specs.GameTree.{is_captured, has_many_liberties, next_node, allowance_of, attacker_wins, succeeds}
use Rattle.read_rules.specs.GameTree.{pass_saves, first_success, first_move, at_point}
use Rattle.read_rules.specs.Answer.{is_attack, first_node, attains_code, is_about, answer_of}
use Rattle.read_rules.specs.ActiveArea.{IsNodeOf, IsUndecided, first}
use Rattle.read_rules.specs.Bound.{outlasts, outlasts_at}
use Rattle.read_tree.specs.Allowances.{all_three}
use Rattle.read_tree.specs.Allowances.{Ko, defender_may, neither_may, attacker_may, has, has_some, own_ko, under, ko_of}
use Rattle.read_tree.specs.Allowances.{codes_above, best_code, IsFiltered}
use Rattle.read_rules.specs.GoodMoves.{IsOnBoard, good_move}
use Rattle.read_tree.specs.Steps.{unread, better, node_of, IsBest, AreNodesOf}
use Rattle.read_tree.proofs.AllowanceLemmas.{none_of, has_all, and_false_right}
use Rattle.read_rules.proofs.LibertyLemmas.{bounded, pass_outlasts}
use Rattle.read_rules.proofs.WinLemmas.{none_up_to, first_success-found, first_success-none}
use Rattle.read_rules.proofs.AnswerLemmas.{attained_by, answer_best, about_stands}
use Rattle.read_rules.proofs.RuleLemmas.{above_one, above_two}
use Rattle.read_rules.proofs.AreaWords.{asked_as}

-- a code from 1 to 3 is one of them
pub data IsCode : ℕ → Type 0 where
  one : IsCode 1
  two : IsCode 2
  three : IsCode 3

-- a code that is above 0 and not above 3 is 1, 2 or 3
code_cases : (code : ℕ) → 0 < code → code ≤ 3 → IsCode code
code_cases code lo hi = elim (cases_eq code 1) [
  | inl e ↦ subst IsCode (sym e) one
  | inr n1 ↦ elim (cases_eq code 2) [
    | inl e ↦ subst IsCode (sym e) two
    | inr n2 ↦ let e : code ≡ 3 = omega arith in subst IsCode (sym e) three
  ]
]

-- the allowance of a greater code is asked for
above_by : (attack : Bool) (code more : ℕ) → IsCode more → code < more
    → has (codes_above code attack) (ko_of attack more) ≡ true
above_by true code more one l = lt-ltb code 1 l
above_by true code more two l = lt-ltb code 2 l
above_by true code more three l = lt-ltb code 3 l
above_by false code more one l = lt-ltb code 1 l
above_by false code more two l = lt-ltb code 2 l
above_by false code more three l = lt-ltb code 3 l

-- of the codes up to 3, each that is greater than the best so far has its allowance asked for
above_has : (attack : Bool) (code more : ℕ) → code < more → more ≤ 3
    → has (codes_above code attack) (ko_of attack more) ≡ true
above_has attack code more l hi = above_by attack code more (code_cases more (omega arith) hi) l

-- and only those are
above_only : (attack : Bool) (code more : ℕ) → IsCode more → has (codes_above code attack) (ko_of attack more) ≡ true
    → code < more
above_only true code more one h = ltb-true code 1 h
above_only true code more two h = ltb-true code 2 h
above_only true code more three h = ltb-true code 3 h
above_only false code more one h = ltb-true code 1 h
above_only false code more two h = ltb-true code 2 h
above_only false code more three h = ltb-true code 3 h

-- the best code of a set that has some: its allowance is there, and that of no greater code
record IsBestCode (set : Allowances) (attack : Bool) (code : ℕ) : Type 0 where
  is_code : IsCode code
  there : has set (ko_of attack code) ≡ true
  none : (more : ℕ) → code < more → more ≤ 3 → has set (ko_of attack more) ≡ false

-- a set that has none of the three allowances has none
none_some : (set : Allowances) (attack : Bool) → has set (own_ko (not attack)) ≡ false → set.neither ≡ false
    → has set (own_ko attack) ≡ false → has_some set ≡ false
none_some set true f3 f2 f1 = rw (f3, f2, f1) refl
none_some set false f3 f2 f1 = rw (f1, f2, f3) refl

-- a set that has an allowance has a best code, whatever the code before was
best_is : (set : Allowances) (code : ℕ) (attack : Bool) → has_some set ≡ true
    → IsBestCode set attack (best_code set code attack)
best_is set code attack h = by (has set (own_ko (not attack))) set.neither (has set (own_ko attack)) refl refl refl
  where
    by : (x y z : Bool) → has set (own_ko (not attack)) ≡ x → set.neither ≡ y → has set (own_ko attack) ≡ z
        → IsBestCode set attack (cond x 3 (cond y 2 (cond z 1 code)))
    by true y z e3 e2 e1 = record { is_code = three; there = e3; none = λ more lo hi. absurd (omega arith) }
    by false true z e3 e2 e1 =
        record { is_code = two; there = e2; none = above_two (λ m. has set (ko_of attack m)) e3 }
    by false false true e3 e2 e1 =
        record { is_code = one; there = e1; none = above_one (λ m. has set (ko_of attack m)) e3 e2 }
    by false false false e3 e2 e1 = absurd (both_ways (has_some set) (none_some set attack e3 e2 e1) h)

-- the test that an asked allowance passes or not
told : (asked : Bool) (found test : Bool) → found ≡ (asked && test) → asked ≡ true → test ≡ found
told true found test e h = sym e
told false found test e h = cc

-- an allowance that is found was asked for and passes the test
told_there : (asked : Bool) (found test : Bool) → found ≡ (asked && test) → found ≡ true
    → (asked ≡ true) × (test ≡ true)
told_there true true true e h = (refl, refl)
told_there true true false e h = cc
told_there false true test e h = cc
told_there asked false test e h = cc

-- some codes are below 3
pub asks_some : (code : ℕ) (attack : Bool) → code < 3 → has_some (codes_above code attack) ≡ true
asks_some code attack l = grind (arith, lt-ltb)

-- a code is not above 3
code_at_most : {code : ℕ} → IsCode code → code ≤ 3
code_at_most one = omega arith
code_at_most two = omega arith
code_at_most three = omega arith

-- and it is above 0
code_above : {code : ℕ} → IsCode code → 0 < code
code_above one = omega arith
code_above two = omega arith
code_above three = omega arith

-- a point that is not among the first fails with the others
off_first : (l c s : Bool) → l ≡ false → ((l && c) && s) ≡ false
off_first true c s e = cc
off_first false c s e = refl

-- a point that fails fails among the first
off_among : (l c s : Bool) → (c && s) ≡ false → ((l && c) && s) ≡ false
off_among true c s e = e
off_among false c s e = refl

-- one of the first that fails among them fails
off_alone : (l c s : Bool) → l ≡ true → ((l && c) && s) ≡ false → (c && s) ≡ false
off_alone true c s e h = h
off_alone false c s e h = cc

-- the attacker does not pass
no_pass : (attacks saves : Bool) → attacks ≡ true → (not attacks && saves) ≡ false
no_pass true saves e = refl
no_pass false saves e = cc

-- Where n plies are left after the moves of this turn.
module _ (n : ℕ) (turn : Turn) (here : BoardState) where
  -- what is best of some candidates is best of others of which none attains a greater code
  best_of : {tried : ℕ → Bool} {best : Answer} (others : ℕ → Bool) → IsBest n turn here tried best
      → ((more : ℕ) → best.code < more → more ≤ 3 → (q : ℕ)
      → (others q && succeeds n (node_of turn more) here q) ≡ false) → IsBest n turn here others best
  best_of others i none = record {
    bounded = i.bounded;
    no_pass = i.no_pass;
    no_point = none;
    no_move = i.no_move;
    move = i.move;
  }

  -- no move yet, where the pass does not save under any code
  best_none : ((more : ℕ) → 0 < more → more ≤ 3 → pass_saves n (node_of turn more) here ≡ false)
      → IsBest n turn here nowhere (record { code = 0; at = None })
  best_none fails = record {
    bounded = omega arith;
    no_pass = fails;
    no_point = λ more lo hi q. refl;
    no_move = λ _. refl;
    move = λ ne. absurd (ne refl);
  }

  -- a pass that saves is the first move
  pass_first : (code : ℕ) → pass_saves n (node_of turn code) here ≡ true
      → Some Pass ≡ first_move n (node_of turn code) here
  pass_first code saves =
      sym (ap (λ b. cond b (Some Pass) (at_point (first_success n (node_of turn code) here))) saves)

  -- the defender's pass, where it saves under some allowance
  pass_saved : (saved : Allowances) → IsFiltered all_three saved (λ ko. pass_saves n (under turn ko) here)
      → has_some saved ≡ true
      → IsBest n turn here nowhere (record { code = best_code saved 0 turn.attacker_to_play; at = Some Pass })
  pass_saved saved t some =
      let best = best_is saved 0 turn.attacker_to_play some in
      let code = best_code saved 0 turn.attacker_to_play in
      let above = code_above best.is_code in
      record {
        bounded = code_at_most best.is_code;
        no_pass = λ more lo hi. told _ _ _ (t.each (ko_of turn.attacker_to_play more))
            (has_all (ko_of turn.attacker_to_play more)) ∙ best.none more lo hi;
        no_point = λ more lo hi q. refl;
        no_move = λ e. absurd (omega arith);
        move = λ ne. (
          Pass,
          refl,
          pass_first code (told_there _ _ _ (t.each (ko_of turn.attacker_to_play code)) best.there).1,
        );
      }

  -- the defender's pass
  pub best_pass : (saved : Allowances) → IsFiltered all_three saved (λ ko. pass_saves n (under turn ko) here)
      → IsBest n turn here nowhere (better (record { code = 0; at = None }) turn.attacker_to_play saved Pass)
  best_pass saved t = elim (cases_Bool (has_some saved)) [
    | inl some ↦ rw some (pass_saved saved t some)
    | inr none ↦ rw none (best_none (λ more lo hi. told _ _ _ (t.each (ko_of turn.attacker_to_play more))
        (has_all (ko_of turn.attacker_to_play more)) ∙ none_of saved (ko_of turn.attacker_to_play more) none))
  ]

  -- one more candidate
  pub best_point : (cands : ℕ → Bool) (next p : ℕ) (best : Answer) (good : Allowances)
      → ((q : ℕ) → cands q ≡ is_candidate turn here q)
      → IsBest n turn here (λ q. ltb q next && cands q) best → cands p ≡ true
      → ((q : ℕ) → next ≤ q → q < p → cands q ≡ false)
      → IsFiltered (codes_above best.code turn.attacker_to_play) good (λ ko. succeeds n (under turn ko) here p)
      → IsBest n turn here (λ q. ltb q (p + 1) && cands q) (better best turn.attacker_to_play good (At p))
  best_point cands next p best good same i cand between t = elim (cases_Bool (has_some good)) [
    | inr none ↦ rw none (best_of (λ q. ltb q (p + 1) && cands q) i (λ more lo hi. later more lo hi
        (fails more lo hi (none_of good (ko_of turn.attacker_to_play more) none))))
    | inl some ↦ rw some (gives some)
  ]
    where
      fails : (more : ℕ) → best.code < more → more ≤ 3 → has good (ko_of turn.attacker_to_play more) ≡ false
          → succeeds n (node_of turn more) here p ≡ false
      fails more lo hi not_there = told _ _ _ (t.each (ko_of turn.attacker_to_play more))
          (above_has turn.attacker_to_play best.code more lo hi) ∙ not_there

      before : (more : ℕ) → best.code < more → more ≤ 3 → (q : ℕ) → q < next
          → (cands q && succeeds n (node_of turn more) here q) ≡ false
      before more lo hi q l = off_alone (ltb q next) (cands q) _ (lt-ltb q next l) (i.no_point more lo hi q)

      later : (more : ℕ) → best.code < more → more ≤ 3 → succeeds n (node_of turn more) here p ≡ false → (q : ℕ)
          → ((ltb q (p + 1) && cands q) && succeeds n (node_of turn more) here q) ≡ false
      later more lo hi lost q = elim (cases_lt q (p + 1)) [
        | inl l ↦ off_among (ltb q (p + 1)) (cands q) _ (none_up_to cands (succeeds n (node_of turn more) here)
            next p (before more lo hi) between cand lost q l)
        | inr g ↦ off_first (ltb q (p + 1)) (cands q) _ (le-ltb q (p + 1) g)
      ]

      first_at : (code : ℕ) → best.code < code → code ≤ 3 → succeeds n (node_of turn code) here p ≡ true
          → Some (At p) ≡ first_move n (node_of turn code) here
      first_at code above bounded wins = ap at_point (first_success-found n (node_of turn code) here next p cands same
          (before code above bounded) between cand (sym wins))
          ∙ sym (ap (λ b. cond b (Some Pass) (at_point (first_success n (node_of turn code) here)))
          (i.no_pass code above bounded))

      gives : has_some good ≡ true → IsBest n turn here (λ q. ltb q (p + 1) && cands q)
          (record { code = best_code good best.code turn.attacker_to_play; at = Some (At p) })
      gives some =
          let found = best_is good best.code turn.attacker_to_play some in
          let code = best_code good best.code turn.attacker_to_play in
          let asked = told_there _ _ _ (t.each (ko_of turn.attacker_to_play code)) found.there in
          let above = above_only turn.attacker_to_play best.code code found.is_code asked.0 in
          let bounded = code_at_most found.is_code in
          record {
            bounded = bounded;
            no_pass = λ more lo hi. i.no_pass more (omega arith) hi;
            no_point = λ more lo hi. later more (omega arith) hi (fails more (omega arith) hi (found.none more lo hi));
            no_move = λ e. absurd (omega arith);
            move = λ ne. (At p, refl, first_at code above bounded asked.1);
          }

  -- no code is greater than 3
  pub best_three : (tried : ℕ → Bool) (best : Answer) → IsBest n turn here tried best → best.code ≡ 3 → (all : ℕ → Bool)
      → IsBest n turn here all best
  best_three tried best i e all = best_of all i (λ more lo hi q. absurd (omega arith))

  -- no candidate stands below point 0: what is best without a candidate is best of those below it
  pub best_start : (cands : ℕ → Bool) (best : Answer) → IsBest n turn here nowhere best
      → IsBest n turn here (λ q. ltb q 0 && cands q) best
  best_start cands best i = best_of (λ q. ltb q 0 && cands q) i
      (λ more lo hi q. off_first (ltb q 0) (cands q) _ (le-ltb q 0 (omega arith)))

-- The best of all moves at the first turn of a question is its answer.
pub node_is : (q : ReadingQuestion) (code : ℕ) → IsCode code → node_of (first_turn q) code ≡ first_node q code
node_is q code c = grind arith

-- a first move that is not barred is a good one
not_barred : (n : ℕ) (node : Node) (pos : BoardState)
    → (node.turn.attacker_to_play && has_many_liberties node.turn pos) ≡ false
    → good_move n node pos ≡ first_move n node pos
not_barred n node pos h = ap (λ b. cond b None (first_move n node pos)) h

-- where the pass does not save and no candidate succeeds, no move has its way
no_first : (n : ℕ) (node : Node) (pos : BoardState) → pass_saves n node pos ≡ false
    → ((q : ℕ) → (is_candidate node.turn pos q && succeeds n node pos q) ≡ false)
    → is_some (first_move n node pos) ≡ false
no_first n node pos ps none =
    let nothing : first_success n node pos ≡ None =
    sym (first_success-none n node pos (pos.size * pos.size) (is_candidate node.turn pos) (λ q. refl)
    (λ q l. none q)
    (λ q g. elim (cases_Bool (is_candidate node.turn pos q))
    [ inl t ↦ absurd (let on = candidate_on node.turn pos q t in omega arith) | inr f ↦ f ])) in
    ap (λ b. is_some (cond b (Some Pass) (at_point (first_success n node pos)))) ps
    ∙ ap (λ o. is_some (at_point o)) nothing

-- a question does not attain a code under which neither the pass nor a candidate has its way at the first turn
not_attained : (q : ReadingQuestion) (pos : BoardState) (code : ℕ) → IsCode code → q.plies ≢ 0
    → is_captured pos q.target ≡ false
    → (is_attack q.kind && has_many_liberties (first_turn q) pos) ≡ false
    → pass_saves (q.plies - 1) (node_of (first_turn q) code) pos ≡ false
    → ((p : ℕ) → (is_candidate (first_turn q) pos p
    && succeeds (q.plies - 1) (node_of (first_turn q) code) pos p) ≡ false) → attains_code q pos code ≡ false
not_attained q pos code is ne stands few pass points =
    grind (
      arith,
      node_is q code is,
      attained_by q pos code ne stands,
      not_barred (q.plies - 1) (first_node q code) pos few,
      no_first (q.plies - 1) (first_node q code) pos,
    )

-- the best of all moves at the first turn is the answer, unless an attack's target has many liberties
best_answer : (q : ReadingQuestion) (pos : BoardState) (best : Answer) → q.plies ≢ 0 → is_about q pos ≡ true
    → (is_attack q.kind && has_many_liberties (first_turn q) pos) ≡ false
    → IsBest (q.plies - 1) (first_turn q) pos (is_candidate (first_turn q) pos) best → best ≡ answer_of q pos
best_answer q pos best ne about few i =
    let stands = about_stands q pos about in
    let moved : (some : best.code ≢ 0)
    → Some (i.move some).0 ≡ first_move (q.plies - 1) (first_node q best.code) pos =
    λ some. (i.move some).2 ∙ ap (λ node. first_move (q.plies - 1) node pos)
    (node_is q best.code (code_cases best.code (omega arith) i.bounded)) in
    answer_best q pos best.code best.at about i.bounded
    (λ some. attained_by q pos best.code ne stands
    ∙ ap is_some (not_barred (q.plies - 1) (first_node q best.code) pos few) ∙ ap is_some (sym (moved some)))
    (λ more lo hi. not_attained q pos more (code_cases more (omega arith) hi) ne stands few
    (i.no_pass more lo hi) (i.no_point more lo hi))
    i.no_move (λ some. (i.move some).1 ∙ moved some)

-- the best move of an attack at an undecided first turn is the answer
pub attack_answer : (q : ReadingQuestion) (pos : BoardState) (best : Answer) → q.plies ≢ 0 → is_about q pos ≡ true
    → is_attack q.kind ≡ true → IsUndecided (under (first_turn q) neither_may) pos
    → (IsBest (q.plies - 1) (first_turn q) pos nowhere (record { code = 0; at = None })
    → IsBest (q.plies - 1) (first_turn q) pos (is_candidate (first_turn q) pos) best) → best ≡ answer_of q pos
attack_answer q pos best ne about attacks und moves =
    grind (arith, best_answer q pos best ne about, and_false_right (is_attack q.kind))

-- the best move of a defence is the answer
pub defence_answer : (q : ReadingQuestion) (pos : BoardState) (best : Answer) → q.plies ≢ 0 → is_about q pos ≡ true
    → is_attack q.kind ≡ false
    → IsBest (q.plies - 1) (first_turn q) pos (is_candidate (first_turn q) pos) best → best ≡ answer_of q pos
defence_answer q pos best ne about defends i = grind (arith, best_answer q pos best ne about)

-- the first turn is one of the trees under each allowance
pub first_nodes : (q : ReadingQuestion) (pos : BoardState) → q.plies ≢ 0
    → AreNodesOf q pos (suc (q.plies - 1)) (first_turn q) all_three pos
first_nodes q pos ne = record {
  each = λ ko h. let e : q.plies ≡ suc (q.plies - 1) = omega arith in
      subst (λ m. IsNodeOf q pos m (under (first_turn q) ko) pos) e (by q.kind ko);
}
  where
    by : (kind : Kind) (ko : Ko)
        → IsNodeOf (asked_as q kind) pos q.plies (under (first_turn (asked_as q kind)) ko) pos
    by Attack defender_may = first 3 (omega arith) (omega arith)
    by Attack neither_may = first 2 (omega arith) (omega arith)
    by Attack attacker_may = first 1 (omega arith) (omega arith)
    by Defend defender_may = first 1 (omega arith) (omega arith)
    by Defend neither_may = first 2 (omega arith) (omega arith)
    by Defend attacker_may = first 3 (omega arith) (omega arith)

-- a better move at a point is on the board
pub better_on : (best : Answer) (attack : Bool) (good : Allowances) (p s : ℕ) → IfSome best.at (IsOnBoard s) → p < s * s
    → IfSome (better best attack good (At p)).at (IsOnBoard s)
better_on best attack good p s h on = grind arith

-- with too many liberties an attack fails, and no defence is needed
pub unread_answer : (q : ReadingQuestion) (pos : BoardState) → q.plies ≢ 0 → is_about q pos ≡ true
    → q.target < pos.size * pos.size
    → outlasts_at (first_turn q) q.plies (liberties pos.size pos.cells q.target) ≡ true
    → unread (is_attack q.kind) ≡ answer_of q pos
unread_answer q pos ne about on h = elim (cases_Bool (is_attack q.kind)) [
  | inl t ↦ ap unread t ∙ answer_best q pos 0 None about (omega arith) (λ some. absurd (some refl))
      (λ more lo hi. ap (λ b. cond b (wins more) (not (wins more))) t ∙ lost more) (λ _. refl)
      (λ some. absurd (some refl))
  | inr f ↦ ap unread f ∙ answer_best q pos 3 (Some Pass) about (omega arith)
      (λ some. ap (λ b. cond b (wins 3) (not (wins 3))) f ∙ ap not (lost 3)) (λ more lo hi. absurd (omega arith))
      (λ e. absurd (omega arith))
      (λ some. sym (ap (λ b. cond b (Some Pass) (at_point (first_success (q.plies - 1) (first_node q 3) pos)))
      (saves f)))
]
  where
    wins : ℕ → Bool
    wins more = attacker_wins q.plies (first_node q more) pos

    lost : (more : ℕ) → wins more ≡ false
    lost more = bounded q.plies (first_node q more) pos on h

    saved : (a w : Bool) → a ≡ false → w ≡ false → (not a && not w) ≡ true
    saved a w ea ew = rw (ea, ew) refl

    saves : is_attack q.kind ≡ false → pass_saves (q.plies - 1) (first_node q 3) pos ≡ true
    saves f =
        let more : q.plies ≡ suc (q.plies - 1) = omega arith in
        let next = next_node (first_node q 3) (allowance_of (first_node q 3)) in
        let h1 = ap (λ b. outlasts q.tree b (suc (q.plies - 1)) q.wide (liberties pos.size pos.cells q.target)) (sym f)
        ∙ ap (λ m. outlasts_at (first_turn q) m (liberties pos.size pos.cells q.target)) (sym more)
        ∙ h in
        let h2 = ap (λ b. outlasts q.tree (not b) (q.plies - 1) (q.wide - 1) (liberties pos.size pos.cells q.target)) f
        ∙ pass_outlasts q.tree (q.plies - 1) q.wide (liberties pos.size pos.cells q.target) h1 in
        saved (is_attack q.kind) (attacker_wins (q.plies - 1) next (pass pos)) f
        (bounded (q.plies - 1) next (pass pos) on h2)
