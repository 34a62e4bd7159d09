-- A stone that is put lives exactly if one of its sides gives it life.
use Rattle.std.proofs.Common.{◌≡◌, ℕ, ◌+◌, ◌*◌, ◌<◌, ◌≤◌, true, Some, List, sym, ap, subst}
use Rattle.std.proofs.Common.{arith, inl, inr, ◌∙◌}
use Rattle.std.proofs.Math.ListN.{set}
use Rattle.std.proofs.lemmas.Bool.{both_ways}
use Rattle.std.specs.Ordering.{nat_cmp}
use Rattle.std.specs.FinSet as sets
use Rattle.go_rules.specs.declared.Cell.{Cell}
use Rattle.go_rules.specs.declared.Cell.TheVariants.{Empty}
use Rattle.go_rules.specs.declared.Colour.{Colour}
use Rattle.go_rules.specs.Board.{are_neighbours}
use Rattle.go_rules.specs.Strings.{cell_at, is_stone, liberty_points}
use Rattle.go_rules.specs.Play.{is_taken}
use Rattle.go_rules.specs.Position.{other, stone_of}
use Rattle.go_rules.proofs.Links.{not_its_own}
use Rattle.go_rules.proofs.Plays.{stone_is, enemy_differs, own_not_taken}
use Rattle.go_base.specs.Sides.{neighbour_at}
use Rattle.go_base.proofs.Takes.{Takes-all}
use Rattle.go_base.proofs.SidesOfPoints.{neighbour_at-all}
use Rattle.go_base.proofs.EachSide.{each_next}
use Rattle.go_strings.specs.Living.{IsAlive, IsDead, IsDeadSide}
use Rattle.go_strings.specs.Puts.{Puts, IsFriend}
use Rattle.go_strings.specs.Sets.{without}
use Rattle.go_strings.proofs.GoSets.{same_sets, liberty_has, liberty_gives}
use Rattle.go_strings.proofs.PutStones.{at_q, below_all, in_without, from_without, own_liberty_from}
use Rattle.go_strings.proofs.PutStones.{own_liberty_beside, own_liberty_only}
use Rattle.go_strings.proofs.RenewedStrings.{taken_has}
use Rattle.go_strings.proofs.Sides.{not_p, enemy_taken, enemy_kept}

-- nothing is in the empty set
not_in_empty : (points : sets.FinSet nat_cmp) (q : ℕ) → points ≡ sets.empty → sets.contains points q ≡ true → ⊥
not_in_empty points q none has = both_ways (sets.contains points q)
    (ap (λ t. sets.contains t q) none ∙ sets.contains-empty nat_cmp q) has

-- none of the first n sides gives life
abbrev pub AreDeadSides : ℕ → List Cell → Colour → ℕ → ℕ → Type 0
AreDeadSides s cells c p n = (k : ℕ) → k < n → (q : ℕ) → neighbour_at s p k ≡ Some q → IsDeadSide s cells c p q

-- one side more gives none, if it is on the board
pub dead_next : (s : ℕ) (cells : List Cell) (c : Colour) (p n : ℕ) → AreDeadSides s cells c p n
    → ((q : ℕ) → neighbour_at s p n ≡ Some q → IsDeadSide s cells c p q) → AreDeadSides s cells c p (n + 1)
dead_next s cells c p n before here = each_next s p n (IsDeadSide s cells c p) before here

module _ {s : ℕ} {cells : List Cell} {c : Colour} {p : ℕ} (h : Puts s cells c p) where
  -- an empty side is a liberty
  pub alive_by_empty : (q : ℕ) → q < s * s → are_neighbours s p q ≡ true → cell_at cells q ≡ Empty
      → IsAlive s cells c p
  alive_by_empty q on near free = inl (
    q,
    liberty_has s (set cells p (stone_of c)) p q h.on_board (own_liberty_beside h q on near free
        (λ e. not_its_own s p (subst (λ x. are_neighbours s p x ≡ true) e near))),
  )

  -- a friend's other liberty is one too
  pub alive_by_friend : (q l : ℕ) → IsFriend s cells c p q
      → sets.contains (without (liberty_points s cells q) p) l ≡ true → IsAlive s cells c p
  alive_by_friend q l friend other =
      let parts = from_without (liberty_points s cells q) p l other in
      inl (
        l,
        liberty_has s (set cells p (stone_of c)) p l h.on_board (own_liberty_from h q l friend
            (liberty_gives s cells q l parts.0) parts.1),
      )

  -- an enemy without another liberty is taken
  pub alive_by_enemy : (q : ℕ) → q < s * s → cell_at cells q ≡ stone_of (other c)
      → without (liberty_points s cells q) p ≡ sets.empty → IsAlive s cells c p
  alive_by_enemy q on enemy none = inr (
    q,
    taken_has s (set cells p (stone_of c)) c q on (enemy_taken h q on enemy none),
  )

  -- a friend without another liberty gives no life
  pub dead_friend : (q : ℕ) → cell_at cells q ≡ stone_of c → without (liberty_points s cells q) p ≡ sets.empty
      → IsDeadSide s cells c p q
  dead_friend q own none = grind (arith, stone_is, own_not_taken, at_q, not_p)

  -- an enemy with another liberty gives none
  pub dead_enemy : (q l : ℕ) → q < s * s → cell_at cells q ≡ stone_of (other c)
      → sets.contains (without (liberty_points s cells q) p) l ≡ true → IsDeadSide s cells c p q
  dead_enemy q l on enemy some = grind (arith, stone_is, enemy_differs, enemy_kept)

  -- if no side gives life, the stone is dead
  pub dead_all : (n : ℕ) → 4 ≤ n → AreDeadSides s cells c p n → IsDead s cells c p
  dead_all n four dead =
      let put = set cells p (stone_of c) in
      let empty = sets.contains-empty nat_cmp in
      record {
        no_liberty = same_sets _ _
            (λ l t.
            let lib = liberty_gives s put p l t in
            let parts = own_liberty_only h l lib in
            absurd (elim parts.1 [
              | inl free ↦
                  let side = neighbour_at-all s p l h.on_board lib.on_board free.0 in
                  both_ways (is_stone (cell_at cells l)) (ap is_stone free.1)
                  (dead side.0 (omega (arith, side.1)) l side.2).stone
              | inr w ↦
                  let side = neighbour_at-all s p w.0 h.on_board w.1.on_board w.1.near in
                  not_in_empty (without (liberty_points s cells w.0) p) l
                  ((dead side.0 (omega (arith, side.1)) w.0 side.2).no_other w.1.own)
                  (in_without (liberty_points s cells w.0) p l (below_all h l lib.on_board)
                  (liberty_has s cells w.0 l w.1.on_board w.2) parts.0)
            ]))
            (λ l t. absurd (both_ways (sets.contains sets.empty l) (empty l) t));
        none_taken = λ beside. sym (Takes-all s put c p n sets.empty h.on_board four (record {
          only = λ q t. absurd (both_ways (sets.contains sets.empty q) (empty q) t);
          whole = λ q t. absurd (both_ways (sets.contains sets.empty q) (empty q) t);
          all = λ k l r at taken. absurd (both_ways (is_taken s put c r) (dead k l r at).stays taken);
        }) beside);
      }
