-- Which of the two strings is named first does not matter.
use Rattle.std.proofs.Common.{◌≡◌, ℕ, zero, suc, ◌*◌, ◌<◌, ◌&&◌, ◌||◌, Bool, true, false, not, cond, Ok, Err, Result}
use Rattle.std.proofs.Common.{refl, sym, ap, subst, arith}
use Rattle.std.proofs.lemmas.Bool.{cases_Bool, both_ways}
use Rattle.go_rules.specs.declared.Colour.{Colour}
use Rattle.go_rules.specs.declared.Illegal.{Illegal}
use Rattle.go_rules.specs.Position.{BoardState}
use Rattle.go_rules.specs.Play.{play, pass}
use Rattle.go_rules.proofs.StringMembers.{string_back}
use Rattle.go_rules.proofs.Counts.{any_below_same}
use Rattle.go_rules.proofs.PlayLaws.{play_size}
use Rattle.connect_rules.specs.declared.link.Link.{Link}
use Rattle.connect_rules.specs.ConnectingMoves.{is_between, is_capture, is_connecting_move}
use Rattle.connect_rules.specs.Connection.{both_stand, is_one_string, mover_of, leads_to, some_move_to, can_connect}
use Rattle.connect_rules.specs.InWords.{exchanged}

-- two facts hold in either order
and_either : (x y : Bool) → (x && y) ≡ (y && x)
and_either true true = refl
and_either true false = refl
and_either false true = refl
and_either false false = refl

-- one of two facts holds in either order
or_either : (x y : Bool) → (x || y) ≡ (y || x)
or_either true true = refl
or_either true false = refl
or_either false true = refl
or_either false false = refl

-- both strings stand in either order
stand-exchanged : (link : Link) (pos : BoardState) → both_stand (exchanged link) pos ≡ both_stand link pos
stand-exchanged link pos = grind (arith, and_either)

-- the string of the one holds the other in either order
one_string-exchanged : (link : Link) (pos : BoardState) → link.a < pos.size * pos.size → link.b < pos.size * pos.size
    → is_one_string (exchanged link) pos ≡ is_one_string link pos
one_string-exchanged link pos a_on b_on = grind (arith, cases_Bool, string_back, both_ways)

-- the points between two strings lie between them in either order
between_either : (s t f g o q : Bool) → ((t && s) || (g || f) || (q || o)) ≡ ((s && t) || (f || g) || (o || q))
between_either s t f g o q = rw (and_either t s, or_either g f, or_either q o) refl

-- the connecting moves are the same in either order
move-exchanged : (link : Link) (pos : BoardState) (p : ℕ)
    → is_connecting_move (exchanged link) pos p ≡ is_connecting_move link pos p
unfolding is_between is_capture
move-exchanged link pos p = grind (arith, between_either, or_either)

-- tests that agree on the position that a play leads to agree on the play
leads_same : (test other : BoardState → Bool) (r : Result BoardState Illegal)
    → ((new : BoardState) → r ≡ Ok new → test new ≡ other new) → leads_to test r ≡ leads_to other r
leads_same test other (Ok new) h = h new refl
leads_same test other (Err why) h = refl

-- so some move leads to what passes in either order, where the tests agree on what moves lead to
some_move-exchanged : (test other : BoardState → Bool) (link : Link) (own : Bool) (pos : BoardState)
    → ((p : ℕ) (new : BoardState) → play pos (mover_of link own) p ≡ Ok new → test new ≡ other new)
    → some_move_to test (exchanged link) own pos ≡ some_move_to other link own pos
some_move-exchanged test other link own pos same = grind (arith, any_below_same, move-exchanged, leads_same)

-- a play leaves a board of the same size
pub size_after : (pos : BoardState) (c : Colour) (p : ℕ) (new : BoardState) → play pos c p ≡ Ok new → new.size ≡
    pos.size
size_after pos c p new e = grind (arith, play_size pos c p)

-- a node with the same parts is decided alike
node_same : (own stand stand_too one one_too moves moves_too passed passed_too parts parts_too : Bool)
    → stand ≡ stand_too → one ≡ one_too → moves ≡ moves_too → passed ≡ passed_too → parts ≡ parts_too
    → (stand && (one || cond own moves (passed && not parts)))
    ≡ (stand_too && (one_too || cond own moves_too (passed_too && not parts_too)))
node_same own stand stand_too one one_too moves moves_too passed passed_too parts parts_too a b c d e = cc

-- whether two strings can be joined is the same in either order
pub exchange : (n : ℕ) (link : Link) (own : Bool) (pos : BoardState) → link.a < pos.size * pos.size
    → link.b < pos.size * pos.size → can_connect n (exchanged link) own pos ≡ can_connect n link own pos
unfolding can_connect
exchange zero link own pos a_on b_on = grind (arith, stand-exchanged, one_string-exchanged)
exchange (suc n) link own pos a_on b_on =
    let here : (own : Bool) (side : Bool) (p : ℕ) (new : BoardState) → play pos (mover_of link side) p ≡ Ok new
    → can_connect n (exchanged link) own new ≡ can_connect n link own new =
    λ own side p new e.
    let size = size_after pos (mover_of link side) p new e in
    exchange n link own new (subst (λ s. link.a < s * s) (sym size) a_on)
    (subst (λ s. link.b < s * s) (sym size) b_on) in
    node_same own (both_stand (exchanged link) pos) (both_stand link pos) (is_one_string (exchanged link) pos)
    (is_one_string link pos) (some_move_to (can_connect n (exchanged link) false) (exchanged link) true pos)
    (some_move_to (can_connect n link false) link true pos) (can_connect n (exchanged link) true (pass pos))
    (can_connect n link true (pass pos))
    (some_move_to (λ new. not (can_connect n (exchanged link) true new)) (exchanged link) false pos)
    (some_move_to (λ new. not (can_connect n link true new)) link false pos) (stand-exchanged link pos)
    (one_string-exchanged link pos a_on b_on)
    (some_move-exchanged (can_connect n (exchanged link) false) (can_connect n link false) link true pos
    (here false true)) (exchange n link true (pass pos) a_on b_on)
    (some_move-exchanged (λ new. not (can_connect n (exchanged link) true new))
    (λ new. not (can_connect n link true new)) link false pos (λ p new e. ap not (here true false p new e)))
