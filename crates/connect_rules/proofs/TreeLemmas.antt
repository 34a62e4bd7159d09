-- The five rules of the tree, and that more plies join no fewer strings.
use Rattle.std.proofs.Common.{◌≡◌, ℕ, zero, suc, ◌*◌, ◌&&◌, Bool, true, false, not, Ok, Err, Result}
use Rattle.std.proofs.Common.{refl, sym, ap, inl, inr, ◌∙◌, arith}
use Rattle.std.proofs.lemmas.Bool.{cases_Bool, both_ways, and_parts, and_from, not-true}
use Rattle.go_rules.specs.declared.Illegal.{Illegal}
use Rattle.go_rules.specs.Strings.{IsInString}
use Rattle.go_rules.specs.Position.{BoardState}
use Rattle.go_rules.specs.Play.{play, pass}
use Rattle.go_rules.proofs.Counts.{any_below_gives, any_below_from}
use Rattle.go_rules.proofs.Paths.{same_cell-true, same_cell-from, IsInString-from_test}
use Rattle.connect_rules.specs.declared.link.Link.{Link}
use Rattle.connect_rules.specs.Connection.{both_stand, is_one_string, mover_of, leads_to, is_move_to, some_move_to}
use Rattle.connect_rules.specs.Connection.{can_connect}
use Rattle.connect_rules.specs.InWords.{BothStand, IsMove, SomeMoveJoins, NoMoveParts}
use Rattle.connect_rules.proofs.MoveLemmas.{move_on}

-- what a play that leads to a position with a test gives
pub leads_gives : (test : BoardState → Bool) (r : Result BoardState Illegal) → leads_to test r ≡ true
    → (new : BoardState) × (r ≡ Ok new) × (test new ≡ true)
leads_gives test (Ok new) h = (new, refl, h)
leads_gives test (Err why) h = absurd (both_ways false refl h)

-- a position that passes the test is what is wanted of the play that leads to it
pub leads_from : (test : BoardState → Bool) (r : Result BoardState Illegal) (new : BoardState) → r ≡ Ok new
    → test new ≡ true → leads_to test r ≡ true
leads_from test r new e h = ap (leads_to test) e ∙ h

-- both strings stand by the test where they do by the cells
pub stand_from : (link : Link) (pos : BoardState) → BothStand link pos → both_stand link pos ≡ true
stand_from link pos w = and_from _ _ (same_cell-from _ _ w.a) (same_cell-from _ _ w.b)

-- both strings stand by the cells where they do by the test
pub stand_gives : (link : Link) (pos : BoardState) → both_stand link pos ≡ true → BothStand link pos
stand_gives link pos h = grind (arith, and_parts, same_cell-true)

-- the first rule: strings of which one is gone cannot be joined
pub connects-gone : (n : ℕ) (link : Link) (own : Bool) (pos : BoardState) → both_stand link pos ≡ false
    → can_connect n link own pos ≡ false
unfolding can_connect
connects-gone zero link own pos h = rw h refl
connects-gone (suc n) link own pos h = rw h refl

-- the second rule: strings that are one are joined
pub connects-joined : (n : ℕ) (link : Link) (own : Bool) (pos : BoardState) → both_stand link pos ≡ true
    → is_one_string link pos ≡ true → can_connect n link own pos ≡ true
unfolding can_connect
connects-joined zero link own pos h one = rw (h, one) refl
connects-joined (suc n) link own pos h one = rw (h, one) refl

-- the third rule: without a ply strings that are apart are not joined
pub connects-no_plies : (link : Link) (own : Bool) (pos : BoardState) → is_one_string link pos ≡ false
    → can_connect 0 link own pos ≡ false
unfolding can_connect
connects-no_plies link own pos apart = grind (arith, cases_Bool)

-- the fourth rule: at the turn of their own colour some move joins them
pub connects-own : (n : ℕ) (link : Link) (pos : BoardState) → both_stand link pos ≡ true
    → is_one_string link pos ≡ false
    → can_connect (suc n) link true pos ≡ some_move_to (can_connect n link false) link true pos
unfolding can_connect
connects-own n link pos h apart = rw (h, apart) refl

-- the fifth rule: at the other colour's turn neither its pass nor a move of its parts them
pub connects-other : (n : ℕ) (link : Link) (pos : BoardState) → both_stand link pos ≡ true
    → is_one_string link pos ≡ false → can_connect (suc n) link false pos
    ≡ (can_connect n link true (pass pos) && not (some_move_to (λ new. not (can_connect n link true new)) link
    false pos))
unfolding can_connect
connects-other n link pos h apart = rw (h, apart) refl

-- a move that passes a test, if some does
pub some_move_gives : (test : BoardState → Bool) (link : Link) (own : Bool) (pos : BoardState)
    → some_move_to test link own pos ≡ true
    → (p : ℕ) × ((new : BoardState) × (IsMove link own pos p new × (test new ≡ true)))
some_move_gives test link own pos h = grind (arith, any_below_gives, and_parts, leads_gives)

-- where a move passes a test, some does
pub some_move_from : (test : BoardState → Bool) (link : Link) (own : Bool) (pos : BoardState) (p : ℕ) (new : BoardState)
    → IsMove link own pos p new → test new ≡ true → some_move_to test link own pos ≡ true
some_move_from test link own pos p new w h =
    any_below_from (pos.size * pos.size) (is_move_to test link own pos) p (move_on link pos p w.connecting)
    (and_from _ _ w.connecting (leads_from test (play pos (mover_of link own) p) new w.legal h))

-- the strings are apart by the test if no path joins them
pub apart_from : (link : Link) (pos : BoardState) → (IsInString pos.size pos.cells link.a link.b → ⊥)
    → is_one_string link pos ≡ false
apart_from link pos h = elim (cases_Bool (is_one_string link pos)) [
  | inl t ↦ absurd (h (IsInString-from_test pos.size pos.cells link.a link.b t))
  | inr f ↦ f
]

-- at their own turn strings that can be joined have a move that does it, and the other way round
pub own_gives : (n : ℕ) (link : Link) (pos : BoardState) → both_stand link pos ≡ true → is_one_string link pos ≡ false
    → can_connect (suc n) link true pos ≡ true → SomeMoveJoins n link pos
own_gives n link pos stand apart h = grind (arith, some_move_gives, connects-own)

-- a move that joins strings makes them such as can be joined
pub own_from : (n : ℕ) (link : Link) (pos : BoardState) → both_stand link pos ≡ true → is_one_string link pos ≡ false
    → SomeMoveJoins n link pos → can_connect (suc n) link true pos ≡ true
own_from n link pos stand apart w = connects-own n link pos stand apart
    ∙ some_move_from (can_connect n link false) link true pos w.point w.new w.move w.joins

-- at the other turn strings that can be joined are parted by no move, and the other way round
pub other_gives : (n : ℕ) (link : Link) (pos : BoardState) → both_stand link pos ≡ true
    → is_one_string link pos ≡ false → can_connect (suc n) link false pos ≡ true → NoMoveParts n link pos
other_gives n link pos stand apart h =
    let test : BoardState → Bool = λ new. not (can_connect n link true new) in
    let parts = and_parts _ _ (sym (connects-other n link pos stand apart) ∙ h) in
    record {
      passed = parts.0;
      played = λ p new w. elim (cases_Bool (can_connect n link true new)) [
        | inl t ↦ t
        | inr f ↦ absurd (both_ways (some_move_to test link false pos)
            (not-true (some_move_to test link false pos) parts.1)
            (some_move_from test link false pos p new w (rw f refl)))
      ];
    }

-- strings that neither the pass nor a move parts can be joined
pub other_from : (n : ℕ) (link : Link) (pos : BoardState) → both_stand link pos ≡ true
    → is_one_string link pos ≡ false → NoMoveParts n link pos → can_connect (suc n) link false pos ≡ true
other_from n link pos stand apart w =
    grind (arith, connects-other, and_from, cases_Bool, some_move_gives, both_ways, not-true)

-- strings that can be joined stand
pub joined_stand : (n : ℕ) (link : Link) (own : Bool) (pos : BoardState) → can_connect n link own pos ≡ true
    → both_stand link pos ≡ true
joined_stand n link own pos h = grind (arith, cases_Bool, both_ways, connects-gone)

-- one more ply parts no strings
pub one_more : (n : ℕ) (link : Link) (own : Bool) (pos : BoardState) → can_connect n link own pos ≡ true
    → can_connect (suc n) link own pos ≡ true
one_more zero link own pos h = grind (arith, cases_Bool, connects-joined, joined_stand, both_ways, connects-no_plies)
one_more (suc n) link own pos h =
    grind (
      arith,
      joined_stand,
      cases_Bool,
      connects-joined,
      own_gives,
      own_from,
      other_gives,
      other_from,
      one_more n link false,
      one_more n link true (pass pos),
      one_more n link true,
    )
