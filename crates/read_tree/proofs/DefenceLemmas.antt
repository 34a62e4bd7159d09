-- The defender tries the captures and the liberties of the target, then the pass, and then the later candidates: what
-- these stages tell together is under which allowances he has a good move.
use Rattle.std.proofs.Common.{◌≡◌, ℕ, Bool, true, false, not, ◌&&◌, ◌||◌, is_some, refl, sym, ap, ◌∙◌, inl, inr, arith}
use Rattle.std.proofs.lemmas.Bool.{cases_Bool, and_parts}
use Rattle.go_rules.specs.Position.{BoardState}
use Rattle.read_rules.specs.GameTree.{succeeds, pass_saves}
use Rattle.read_rules.specs.GoodMoves.{good_move}
use Rattle.read_rules.specs.Candidates.{is_candidate}
use Rattle.read_rules.specs.declared.turn.Turn.{Turn}
use Rattle.read_tree.specs.declared.allowances.Allowances.{Allowances}
use Rattle.read_tree.specs.Allowances.{Ko, has, has_some, under, without, IsFiltered}
use Rattle.read_tree.specs.Stages.{is_other, is_capture_or_liberty}
use Rattle.read_tree.specs.Steps.{TellsBy}
use Rattle.read_tree.proofs.AllowanceLemmas.{none_of, has-without, in_other, and_true, success_some, told_fails}
use Rattle.read_tree.proofs.AllowanceLemmas.{good_by_success, good_by_pass, good_by_none}
use Rattle.read_tree.proofs.StageLemmas.{none_succeeds, candidate_by_stages, capture_or_liberty_is_candidate}
use Rattle.read_tree.proofs.StageLemmas.{other_is_candidate}

-- what three stages tell: of the asked all but what none of them gives
has-three : (asked close saved later : Allowances) (ko : Ko)
    → has (without asked (without (without (without asked close) saved) later)) ko
    ≡ (has asked ko && not (((has asked ko && not (has close ko)) && not (has saved ko)) && not (has later ko)))
has-three asked close saved later ko = grind (arith, has-without)

-- The captures and the liberties were tried at a turn of the defender.
module _ (n : ℕ) (turn : Turn) (here : BoardState) (asked close : Allowances) (defends : turn.attacker_to_play ≡ false)
    (first : TellsBy n turn here (is_capture_or_liberty here turn.target) asked close) where
  -- what they give is a good move
  close_good : (ko : Ko) → has close ko ≡ true → is_some (good_move n (under turn ko) here) ≡ true
  close_good ko h = let w = first.given ko h in
      good_by_success n turn here ko defends (success_some n (under turn ko) here w.0
      (capture_or_liberty_is_candidate turn here w.0 w.1) w.2)

  -- they left nothing
  pub close_done : has_some (without asked close) ≡ false
      → IsFiltered asked asked (λ ko. is_some (good_move n (under turn ko) here))
  close_done none = record {
    each = λ ko. and_true _ _ (λ a. close_good ko
        (in_other (has asked ko) (has close ko) a (sym (has-without asked close ko)
        ∙ none_of (without asked close) ko none)));
  }

-- Then the pass was tried.
module _ (n : ℕ) (turn : Turn) (here : BoardState) (asked close saved : Allowances)
    (defends : turn.attacker_to_play ≡ false)
    (first : TellsBy n turn here (is_capture_or_liberty here turn.target) asked close)
    (second : IsFiltered (without asked close) saved (λ ko. pass_saves n (under turn ko) here)) where
  -- what it gives is a good move
  saved_good : (ko : Ko) → has saved ko ≡ true → is_some (good_move n (under turn ko) here) ≡ true
  saved_good ko h = good_by_pass n turn here ko defends (and_parts _ _ (sym (second.each ko) ∙ h)).1

  -- what is missing no longer was given by one of the two
  found_good : (ko : Ko) → has asked ko ≡ true → has (without (without asked close) saved) ko ≡ false
      → is_some (good_move n (under turn ko) here) ≡ true
  found_good ko a gone = elim (cases_Bool (has close ko)) [
    | inl t ↦ close_good n turn here asked close defends first ko t
    | inr f ↦ saved_good ko (in_other (has (without asked close) ko) (has saved ko)
        (has-without asked close ko ∙ ap (λ g. has asked ko && not g) f ∙ ap (λ b. b && true) a)
        (sym (has-without (without asked close) saved ko) ∙ gone))
  ]

  -- it left nothing
  pub pass_done : has_some (without (without asked close) saved) ≡ false
      → IsFiltered asked asked (λ ko. is_some (good_move n (under turn ko) here))
  pass_done none = record {
    each = λ ko. and_true _ _ (λ a. found_good ko a (none_of (without (without asked close) saved) ko none));
  }

  -- and then the later candidates
  pub later_over : (later : Allowances)
      → TellsBy n turn here (is_other turn here) (without (without asked close) saved) later
      → IsFiltered asked (without asked (without (without (without asked close) saved) later))
      (λ ko. is_some (good_move n (under turn ko) here))
  later_over later third = record {
    each = λ ko. has-three asked close saved later ko
        ∙ sorted (has asked ko) (has close ko) (has saved ko) (has later ko) _
        (close_good n turn here asked close defends first ko) (saved_good ko) (later_good ko) (none_at ko);
  }
    where
      later_good : (ko : Ko) → has later ko ≡ true → is_some (good_move n (under turn ko) here) ≡ true
      later_good ko h = let w = third.given ko h in
          good_by_success n turn here ko defends
          (success_some n (under turn ko) here w.0 (other_is_candidate turn here w.0 w.1) w.2)

      -- a candidate is a capture or a liberty, or another
      fails : (c l o s : Bool) → c ≡ (l || o) → (l && s) ≡ false → (o && s) ≡ false → (c && s) ≡ false
      fails c true o s is a b = rw is a
      fails c false o s is a b = rw is b

      missing : (ko : Ko) → has asked ko ≡ true → has close ko ≡ false → has (without asked close) ko ≡ true
      missing ko a c = has-without asked close ko ∙ ap (λ g. has asked ko && not g) c ∙ ap (λ b. b && true) a

      lost : (ko : Ko) → has asked ko ≡ true → has close ko ≡ false → has saved ko ≡ false
          → has (without (without asked close) saved) ko ≡ true
      lost ko a c s = has-without (without asked close) saved ko
          ∙ ap (λ g. has (without asked close) ko && not g) s ∙ ap (λ b. b && true) (missing ko a c)

      none_at : (ko : Ko) → has asked ko ≡ true → has close ko ≡ false → has saved ko ≡ false
          → has later ko ≡ false → is_some (good_move n (under turn ko) here) ≡ false
      none_at ko a c s l = good_by_none n turn here ko defends
          (told_fails (has (without asked close) ko) _ (has saved ko) (second.each ko) (missing ko a c) s)
          (none_succeeds n turn here ko (λ q.
          fails (is_candidate turn here q) (is_capture_or_liberty here turn.target q) (is_other turn here q)
          (succeeds n (under turn ko) here q) (candidate_by_stages turn here q)
          (first.none ko a c q) (third.none ko (lost ko a c s) l q)))

      sorted : (a c s l g : Bool) → (c ≡ true → g ≡ true) → (s ≡ true → g ≡ true) → (l ≡ true → g ≡ true)
          → (a ≡ true → c ≡ false → s ≡ false → l ≡ false → g ≡ false)
          → (a && not (((a && not c) && not s) && not l)) ≡ (a && g)
      sorted false c s l g hc hs hl hn = refl
      sorted true true s l g hc hs hl hn = sym (hc refl)
      sorted true false true l g hc hs hl hn = sym (hs refl)
      sorted true false false true g hc hs hl hn = sym (hl refl)
      sorted true false false false g hc hs hl hn = sym (hn refl refl refl refl)
