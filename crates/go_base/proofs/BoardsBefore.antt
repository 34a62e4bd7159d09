-- What a play took is put back, and the board is as before it.
use Rattle.std.proofs.Common.{◌≡◌, ℕ, ◌*◌, ◌<◌, true, false, ◌≢◌, cond, eqb, List, length, map, sym, ap, arith}
use Rattle.std.proofs.Common.{inl, inr, ◌∙◌}
use Rattle.std.proofs.Math.ListN.{set, length-set}
use Rattle.std.specs.List.{range_with_len}
use Rattle.std.proofs.lemmas.List.FromFn.{get_or-map-range_with_len, length-map-range_with_len, fill_by_all}
use Rattle.std.proofs.lemmas.Bool.{cases_Bool, cases_eq, eq-eqb, ne_eqb, both_ways, and_parts, and_from, lt-ltb}
use Rattle.std.proofs.lemmas.Bool.{ltb-true}
use Rattle.std.specs.Ordering.{nat_cmp}
use Rattle.std.specs.FinSet as sets
use Rattle.go_rules.specs.declared.Cell.{Cell}
use Rattle.go_rules.specs.declared.Cell.TheVariants.{Empty}
use Rattle.go_rules.specs.declared.Colour.{Colour}
use Rattle.go_rules.specs.Strings.{cell_at, is_stone, liberties, start}
use Rattle.go_rules.specs.Position.{other, stone_of}
use Rattle.go_rules.specs.Play.{is_taken, taken_at}
use Rattle.go_rules.proofs.Sets.{contains-set_below, same_nat_set}
use Rattle.go_rules.proofs.Links.{liberties_from}
use Rattle.go_rules.proofs.Plays.{stone_is, empty_from, at_put_same, at_put_other, taken_parts, own_not_taken}
use Rattle.go_base.specs.TakenBack.{before_play}
use Rattle.go_base.proofs.PlayResults.{PlaysOn, plays_taken, plays_beside}

-- the cells before a play, point by point
before_at : (s : ℕ) (c : Colour) (p : ℕ) (taken : sets.FinSet nat_cmp) (now old : List Cell) → length old ≡ s * s
    → cell_at old p ≡ Empty
    → ((k : ℕ) → k < s * s → k ≢ p → cell_at old k ≡ cond (sets.contains taken k) (stone_of (other c)) (cell_at now k))
    → before_play s c p taken now ≡ old
unfolding before_play
before_at s c p taken now old whole empty other_points =
    sym (fill_by_all (λ q. cond (eqb q p) Empty (cond (sets.contains taken q) (stone_of (other c)) (cell_at now q))) old
    (s * s) Empty whole (λ k on. elim (cases_eq k p) [
      | inl e ↦ ap (cell_at old) e ∙ empty ∙ ap
          (λ b. cond b Empty (cond (sets.contains taken k) (stone_of (other c)) (cell_at now k))) (sym (eq-eqb k p e))
      | inr ne ↦ other_points k on ne ∙ ap (λ b.
          cond b Empty (cond (sets.contains taken k) (stone_of (other c)) (cell_at now k))) (sym (ne_eqb k p ne))
    ]))

-- the taken stones stand again, and then p was emptied
pub put_back : (s : ℕ) (c : Colour) (p : ℕ) (taken : sets.FinSet nat_cmp) (now back : List Cell) → p < s * s
    → back ≡ map (λ q. cond (sets.contains taken q) (stone_of (other c)) (cell_at now q)) (range_with_len 0 (s * s))
    → set back p Empty ≡ before_play s c p taken now
put_back s c p taken now back on is =
    let whole : length back ≡ s * s = ap length is ∙ length-map-range_with_len _ 0 (s * s) in
    sym (before_at s c p taken now (set back p Empty) (length-set back p Empty ∙ whole)
    (at_put_same back p Empty (omega (arith, whole, on)))
    (λ k k_on ne. at_put_other back p k Empty ne ∙ ap (λ t. cell_at t k) is
    ∙ get_or-map-range_with_len _ 0 (s * s) k k Empty k_on (omega arith)))

-- boards that hold the same on each point are the same
same_board : (n : ℕ) (a b : List Cell) → length a ≡ n → length b ≡ n → ((k : ℕ) → k < n → cell_at a k ≡ cell_at b k)
    → a ≡ b
same_board n a b la lb h = grind (arith, fill_by_all (cell_at b) a n Empty la h, fill_by_all (cell_at b) b n Empty lb)

module _ {s : ℕ} {old put after : List Cell} {c : Colour} {p : ℕ} {taken : sets.FinSet nat_cmp}
    (h : PlaysOn s old put after c p taken) where
  -- the stone stood at p
  put_here : cell_at put p ≡ stone_of c
  put_here = ap (λ t. cell_at t p) h.put_is ∙ at_put_same old p (stone_of c) (omega (arith, h.good.cells, h.on_board))

  -- each other point was as before it
  put_there : (q : ℕ) → q ≢ p → cell_at old q ≡ cell_at put q
  put_there q ne = sym (ap (λ t. cell_at t q) h.put_is ∙ at_put_other old p q (stone_of c) ne)

  -- a point is empty where its stone was taken, and else as the put left it
  after_at : (q : ℕ) → q < s * s → cell_at after q ≡ cond (sets.contains taken q) Empty (cell_at put q)
  after_at q on = ap (λ t. cell_at t q) h.after_is ∙ get_or-map-range_with_len _ 0 (s * s) q q Empty on (omega arith)

  -- the cells are as many as the points
  after_length : length after ≡ s * s
  after_length = ap length h.after_is ∙ length-map-range_with_len _ 0 (s * s)

  -- the rules take each of these stones
  taken_is : (q : ℕ) → sets.contains taken q ≡ true → (q < s * s) × (is_taken s put c q ≡ true)
  unfolding taken_at
  taken_is q t = grind (arith, and_parts, plays_taken h, contains-set_below (s * s) (is_taken s put c) q, ltb-true)

  -- and these are all
  is_among : (q : ℕ) → q < s * s → is_taken s put c q ≡ true → sets.contains taken q ≡ true
  unfolding taken_at
  is_among q on t = ap (λ x. sets.contains x q) (plays_taken h) ∙ contains-set_below (s * s) (is_taken s put c) q
      ∙ and_from _ _ (lt-ltb q (s * s) on) t

  -- the played stone is not taken
  own_stays : sets.contains taken p ≡ false
  own_stays = elim (cases_Bool (sets.contains taken p)) [
    | inl t ↦ absurd (both_ways (is_taken s put c p) (own_not_taken s put c p put_here) (taken_is p t).1)
    | inr f ↦ f
  ]

  -- the stone stands at p after the play
  pub after_here : cell_at after p ≡ stone_of c
  after_here = after_at p h.on_board ∙ ap (λ b. cond b Empty (cell_at put p)) own_stays ∙ put_here

  -- a play that takes something has a liberty, where a taken neighbour stood
  taker_lives : (q : ℕ) → sets.contains taken q ≡ true → 0 < liberties s after p
  taker_lives q t =
      let x = plays_beside h q (taken_is q t).0 (taken_is q t).1 in
      liberties_from s after p x.0 h.on_board (record {
        on_board = x.1;
        is_empty = after_at x.0 x.1 ∙ ap (λ b. cond b Empty (cell_at put x.0)) (is_among x.0 x.1 x.3);
        beside = (p, record { stone = ap is_stone after_here ∙ stone_is c; path = start }, x.2);
      })

  -- a play without a liberty took nothing
  took_none : liberties s after p ≡ 0 → (k : ℕ) → sets.contains taken k ≡ false
  took_none z k = grind (arith, cases_Bool, taker_lives)

  -- so a play that took something has one
  pub takers_live : taken ≢ sets.empty → liberties s after p ≢ 0
  takers_live some z = some (same_nat_set taken sets.empty (λ k. took_none z k ∙ sym (sets.contains-empty nat_cmp k)))

  -- what was taken stands again, and the point is empty
  pub plays_back : before_play s c p taken after ≡ old
  plays_back = before_at s c p taken after old h.good.cells (empty_from _ h.is_empty)
      (λ k on ne. put_there k ne ∙ elim (cases_Bool (sets.contains taken k)) [
        | inl t ↦ (taken_parts s put c k (taken_is k t).1).0
            ∙ ap (λ b. cond b (stone_of (other c)) (cell_at after k)) (sym t)
        | inr f ↦ sym (ap (λ b. cond b (stone_of (other c)) (cell_at after k)) f ∙ after_at k on
            ∙ ap (λ b. cond b Empty (cell_at put k)) f)
      ])

  -- a suicide took nothing, so that the board without its stone is the one before
  pub suicide_back : liberties s after p ≡ 0 → set after p Empty ≡ old
  suicide_back z = same_board (s * s) (set after p Empty) old (length-set after p Empty ∙ after_length) h.good.cells
      (λ k on. elim (cases_eq k p) [
        | inl e ↦ ap (cell_at (set after p Empty)) e
            ∙ at_put_same after p Empty (omega (arith, after_length, h.on_board))
            ∙ sym (ap (cell_at old) e ∙ empty_from _ h.is_empty)
        | inr ne ↦ at_put_other after p k Empty ne ∙ after_at k on
            ∙ ap (λ b. cond b Empty (cell_at put k)) (took_none z k)
            ∙ sym (put_there k ne)
      ])
