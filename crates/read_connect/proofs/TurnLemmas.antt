-- What the moves of the side to play say of an undecided node.
use Rattle.std.proofs.Common.{◌≡◌, ℕ, suc, ◌*◌, ◌<◌, ◌&&◌, Bool, true, false, not, refl, sym, ap, inl, inr, ◌∙◌}
use Rattle.std.proofs.Common.{Some, None, arith}
use Rattle.std.proofs.lemmas.Bool.{cases_Bool, both_ways, and_from}
use Rattle.go_rules.specs.Below.{any_below}
use Rattle.go_rules.specs.Position.{BoardState}
use Rattle.go_rules.proofs.Counts.{any_below_from, any_below_false, first_below_is, first_below_none}
use Rattle.connect_rules.specs.declared.link.Link.{Link}
use Rattle.connect_rules.specs.ConnectingMoves.{is_connecting_move}
use Rattle.connect_rules.specs.Connection.{can_connect, succeeds, first_success, pass_parts}
use Rattle.connect_rules.specs.ConnectionArea.{IsUndecided}
use Rattle.connect_rules.proofs.MoveLemmas.{move_on}
use Rattle.connect_rules.proofs.TreeLemmas.{connects-own, connects-other}
use Rattle.go_base.proofs.FilteredSets.{and_false_right}
use Rattle.read_connect.specs.Stages.{attains, TellsSome}

-- what is told of the connecting moves is whether some point succeeds
pub told_is : (n : ℕ) (link : Link) (own : Bool) (here : BoardState) (told : Bool)
    → TellsSome (is_connecting_move link here) (attains n link own here) told
    → told ≡ any_below (here.size * here.size) (succeeds n link own here)
told_is n link own here told tells =
    grind (
      arith,
      cases_Bool told,
      any_below_from (here.size * here.size) (succeeds n link own here),
      move_on link here,
      any_below_false (here.size * here.size) (succeeds n link own here),
      and_from,
      and_false_right,
    )

-- at their own turn the strings can be joined if some move serves
pub own_by : (n : ℕ) (link : Link) (own : Bool) (here : BoardState) (told : Bool) → own ≡ true → IsUndecided link here
    → TellsSome (is_connecting_move link here) (attains n link own here) told → told ≡ can_connect (suc n) link own here
own_by n link true here told e und tells = grind (arith, told_is, connects-own)
own_by n link false here told e und tells = absurd (both_ways false refl e)

-- not a test that is negated
not_false : (b : Bool) → not b ≡ true → b ≡ false
not_false true h = absurd (both_ways false refl h)
not_false false h = refl

-- the negation of a test that fails holds of it
not_true : (b : Bool) → not b ≡ false → b ≡ true
not_true true h = refl
not_true false h = absurd (both_ways true h refl)

-- they cannot be joined where the other colour's pass parts them
pub parted_by : (n : ℕ) (link : Link) (own : Bool) (here : BoardState) → own ≡ false → IsUndecided link here
    → pass_parts n link here ≡ true → false ≡ can_connect (suc n) link own here
parted_by n link true here e und parts = absurd (both_ways true e refl)
parted_by n link false here e und parts = grind (arith, connects-other, not_false)

-- strings that the other colour's pass does not part can be joined if no move of its serves it
pub other_by : (n : ℕ) (link : Link) (own : Bool) (here : BoardState) (told : Bool) → own ≡ false
    → IsUndecided link here → pass_parts n link here ≡ false
    → TellsSome (is_connecting_move link here) (attains n link own here) told
    → not told ≡ can_connect (suc n) link own here
other_by n link true here told e und holds tells = absurd (both_ways true e refl)
other_by n link false here told e und holds tells = grind (arith, told_is, connects-other, not_true)

-- the first move in reading order is the first point of the set of all moves that attains it
module _ (n : ℕ) (link : Link) (own : Bool) (here : BoardState) (moves : ℕ → Bool)
    (all : (p : ℕ) → moves p ≡ is_connecting_move link here p) where
  -- a point that serves, if none before it does
  pub first_hit : (p : ℕ) → moves p ≡ true → attains n link own here p ≡ true
      → ((r : ℕ) → r < p → moves r ≡ true → attains n link own here r ≡ false)
      → Some p ≡ first_success n link own here
  first_hit p its hit none = sym (first_below_is (here.size * here.size) (succeeds n link own here) p
      (move_on link here p (sym (all p) ∙ its)) (and_from _ _ (sym (all p) ∙ its) hit)
      (λ r l. elim (cases_Bool (is_connecting_move link here r)) [
        | inl m ↦ and_false_right (is_connecting_move link here r) (attains n link own here r)
            (none r l (all r ∙ m))
        | inr no_move ↦ ap (λ b. b && attains n link own here r) no_move
      ]))

  -- no point serves
  pub first_none : ((r : ℕ) → moves r ≡ true → attains n link own here r ≡ false)
      → None ≡ first_success n link own here
  first_none none = sym (first_below_none (here.size * here.size) (succeeds n link own here)
      (λ r l. elim (cases_Bool (is_connecting_move link here r)) [
        | inl m ↦ and_false_right (is_connecting_move link here r) (attains n link own here r) (none r (all r ∙ m))
        | inr no_move ↦ ap (λ b. b && attains n link own here r) no_move
      ]))
