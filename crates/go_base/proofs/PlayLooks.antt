-- A play looks at points that are close to what is close to its point.
use Rattle.std.proofs.Common.{◌≡◌, ◌≢◌, ◌⊎◌, ℕ, ◌*◌, ◌<◌, ◌&&◌, ◌||◌, Bool, true, false, cond, List, length, map, refl}
use Rattle.std.proofs.Common.{sym, ap, subst, arith, inl, inr, ◌∙◌}
use Rattle.std.proofs.Math.ListN.{set}
use Rattle.std.specs.List.{range_with_len}
use Rattle.std.proofs.lemmas.List.FromFn.{get_or-map-range_with_len}
use Rattle.std.proofs.lemmas.Bool.{cases_Bool, cases_eq, both_ways, and_from, eqb-true}
use Rattle.std.specs.Ordering.{nat_cmp}
use Rattle.std.specs.FinSet as sets
use Rattle.go_rules.specs.declared.Cell.{Cell}
use Rattle.go_rules.specs.declared.Cell.TheVariants.{Empty}
use Rattle.go_rules.specs.declared.Colour.{Colour}
use Rattle.go_rules.specs.Board.{are_neighbours}
use Rattle.go_rules.specs.Strings.{cell_at, is_stone, same_cell, is_in_string, Path, start, step}
use Rattle.go_rules.specs.Neighbourhood.{whole_strings_of, neighbourhood_of}
use Rattle.go_rules.specs.Position.{other, stone_of}
use Rattle.go_rules.proofs.Counts.{any_below_gives, any_below_from}
use Rattle.go_rules.proofs.Paths.{IsInString-from_test, is_is_in_string-from_fact}
use Rattle.go_rules.proofs.Links.{path_same, path_keeps}
use Rattle.go_rules.proofs.Plays.{stone_is, at_put_same, at_put_other}
use Rattle.go_rules.proofs.StringMembers.{string_self}
use Rattle.go_base.specs.Views.{alone}
use Rattle.go_base.specs.Takes.{near_taken}
use Rattle.go_rules.proofs.InWords.{whole_strings_of-on_board}
use Rattle.go_base.proofs.PointNeighbourhoods.{whole_self, whole_string, whole_cases, close_whole, close_next}
use Rattle.go_base.proofs.PointNeighbourhoods.{close_again, close_alone, close_point, alone_self, within, beside}
use Rattle.go_base.proofs.PointNeighbourhoods.{closeness}

-- the neighbourhood of the neighbourhood of p
abbrev twice : ℕ → List Cell → ℕ → ℕ → Bool
twice s cells p = neighbourhood_of s cells (neighbourhood_of s cells (alone p))

-- which has p, if p is a point of the board
pub twice_self : (s : ℕ) (cells : List Cell) (p r : ℕ) → p < s * s → alone p r ≡ true → twice s cells p r ≡ true
twice_self s cells p r on h = close_again s cells (alone p) r (close_alone s cells p r on h)

-- a neighbour of p, and what is close to an enemy there, is near what a play at p takes
pub near_taken_from : (s : ℕ) (cells : List Cell) (c : Colour) (p q r : ℕ) → q < s * s → are_neighbours s p q ≡ true
    → (alone q r || (same_cell (cell_at cells q) (stone_of (other c)) && neighbourhood_of s cells (alone q) r)) ≡ true
    → near_taken s cells c p r ≡ true
unfolding near_taken
near_taken_from s cells c p q r on near h = any_below_from (s * s) _ q on (and_from _ _ near h)

-- Where each point of the paths from q holds the same on another board, the same is close there.
close_moves : (s : ℕ) (a b : List Cell) (q : ℕ) → q < s * s → ((x : ℕ) → Path s a q x → cell_at b x ≡ cell_at a x)
    → (r : ℕ) → neighbourhood_of s a (alone q) r ≡ true → neighbourhood_of s b (alone q) r ≡ true
close_moves s a b q on same r h = elim (closeness s a (alone q) r h) [
  | within w ↦ close_whole s b (alone q) r (moved r w)
  | beside y r_on w n ↦ close_next s b (alone q) y r r_on (moved y w) n
]
  where
    moved : (y : ℕ) → whole_strings_of s a (alone q) y ≡ true → whole_strings_of s b (alone q) y ≡ true
    moved y w = elim (whole_cases s a (alone q) y w) [
      | inl e ↦ whole_self s b (alone q) y (whole_strings_of-on_board s a (alone q) y w) e
      | inr i ↦
          let x_is : i.0 ≡ q = eqb-true i.0 q i.2 in
          let inside = IsInString-from_test s a q y (subst (λ x. is_in_string s a x y ≡ true) x_is i.3) in
          whole_string s b (alone q) q y on (alone_self q)
          (is_is_in_string-from_fact s b q y on (record {
            stone = ap is_stone (same q start) ∙ inside.stone;
            path = path_keeps s a b q same inside.path;
          }))
    ]

-- a stone of c was put at p, and then the points of the set were emptied
pub record Leaves (s : ℕ) (old put after : List Cell) (c : Colour) (p : ℕ) (taken : sets.FinSet nat_cmp) : Type 0 where
  pub whole : length old ≡ s * s
  pub on_board : p < s * s
  pub is_empty : is_stone (cell_at old p) ≡ false
  pub put_is : put ≡ set old p (stone_of c)
  pub after_is : after ≡ map (λ q. cond (sets.contains taken q) Empty (cell_at put q)) (range_with_len 0 (s * s))

-- y is a stone of c that belongs to the string of a neighbour of p
record Joined (s : ℕ) (old : List Cell) (c : Colour) (p y : ℕ) : Type 0 where
  x : ℕ
  x_on : x < s * s
  x_near : are_neighbours s p x ≡ true
  inside : is_in_string s old x y ≡ true
  its : cell_at old y ≡ stone_of c

module _ {s : ℕ} {old put after : List Cell} {c : Colour} {p : ℕ} {taken : sets.FinSet nat_cmp}
    (h : Leaves s old put after c p taken) where
  -- the stone stands at p
  put_here : cell_at put p ≡ stone_of c
  put_here = ap (λ t. cell_at t p) h.put_is ∙ at_put_same old p (stone_of c) (omega (arith, h.whole, h.on_board))

  -- a neighbour is close
  close_side : (q : ℕ) → q < s * s → are_neighbours s p q ≡ true → neighbourhood_of s old (alone p) q ≡ true
  close_side q on n = close_next s old (alone p) p q on (whole_self s old (alone p) p h.on_board (alone_self p)) n

  -- what is near to what the play takes is in the neighbourhood of the neighbourhood of p
  pub twice_taken : (r : ℕ) → near_taken s put c p r ≡ true → twice s old p r ≡ true
  unfolding near_taken
  twice_taken r t =
      grind (
        arith,
        any_below_gives (s * s),
        close_side,
        close_again s old (alone p) r,
        close_point s old (neighbourhood_of s old (alone p)),
        close_moves s put old,
        at_put_other,
        put_here,
      )

  -- the stones of c that stand after the play stood before it, but for the one at p
  stood : (y : ℕ) → y < s * s → y ≢ p → cell_at after y ≡ stone_of c → cell_at old y ≡ stone_of c
  stood y on ne e = grind (arith, get_or-map-range_with_len, cases_Bool, both_ways, stone_is, at_put_other)

  -- where the string of the played stone goes
  joined : cell_at after p ≡ stone_of c → {y : ℕ} → Path s after p y → (y ≡ p) ⊎ Joined s old c p y
  joined own start = inl refl
  joined own (step {q} {r} path on near same) = elim (cases_eq r p) [
    | inl e ↦ inl e
    | inr ne ↦
        let its = stood r on ne (same ∙ own) in
        elim (joined own path) [
          | inl e ↦ inr (record {
            x = r;
            x_on = on;
            x_near = subst (λ z. are_neighbours s z r ≡ true) e near;
            inside = string_self s old r on (ap is_stone its ∙ stone_is c);
            its = its;
          })
          | inr j ↦
              let w = IsInString-from_test s old j.x q j.inside in
              inr (record {
                x = j.x;
                x_on = j.x_on;
                x_near = j.x_near;
                inside = is_is_in_string-from_fact s old j.x r j.x_on (record {
                  stone = w.stone;
                  path = step w.path on near (its ∙ sym j.its ∙ path_same s old j.x w.path);
                });
                its = its;
              })
        ]
  ]

  -- a stone that the play joins is in the string of a neighbour of p
  whole_joined : (y : ℕ) → Joined s old c p y → whole_strings_of s old (neighbourhood_of s old (alone p)) y ≡ true
  whole_joined y j = grind (arith, whole_string, close_side)

  -- a point of the string of the played stone is p, or was joined by it
  own_cases : (y : ℕ) → whole_strings_of s after (alone p) y ≡ true → (y ≡ p) ⊎ Joined s old c p y
  own_cases y w = elim (whole_cases s after (alone p) y w) [
    | inl e ↦ inl (eqb-true y p e)
    | inr i ↦
        let x_is : i.0 ≡ p = eqb-true i.0 p i.2 in
        let inside = IsInString-from_test s after p y (subst (λ x. is_in_string s after x y ≡ true) x_is i.3) in
        joined (own inside.stone) inside.path
  ]
    where
      own : is_stone (cell_at after p) ≡ true → cell_at after p ≡ stone_of c
      own stone =
          let at = ap (λ t. cell_at t p) h.after_is
          ∙ get_or-map-range_with_len _ 0 (s * s) p p Empty h.on_board (omega arith) in
          elim (cases_Bool (sets.contains taken p)) [
            | inl t ↦ absurd (both_ways (is_stone Empty) refl
                (ap is_stone (sym (at ∙ ap (λ b. cond b Empty (cell_at put p)) t)) ∙ stone))
            | inr f ↦ at ∙ ap (λ b. cond b Empty (cell_at put p)) f ∙ put_here
          ]

  -- the neighbourhood of the played stone after the play lies within that of the neighbourhood of p before it
  pub twice_own : (r : ℕ) → neighbourhood_of s after (alone p) r ≡ true → twice s old p r ≡ true
  twice_own r t = elim (closeness s after (alone p) r t) [
    | within w ↦ elim (own_cases r w) [
      | inl e ↦ twice_self s old p r h.on_board (subst (λ x. alone p x ≡ true) (sym e) (alone_self p))
      | inr j ↦ close_whole s old (neighbourhood_of s old (alone p)) r (whole_joined r j)
    ]
    | beside y on w n ↦ elim (own_cases y w) [
      | inl e ↦ close_again s old (alone p) r (close_side r on (subst (λ x. are_neighbours s x r ≡ true) e n))
      | inr j ↦ close_next s old (neighbourhood_of s old (alone p)) y r on (whole_joined y j) n
    ]
  ]
