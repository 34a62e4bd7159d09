-- Where the string of a stone goes that was just played: it is near the stone's point on the board before the play.
use Rattle.std.proofs.Common.{◌≡◌, ◌⊎◌, ℕ, ◌*◌, ◌<◌, Bool, true, Ok, refl, sym, ap, subst, inl, inr, ◌∙◌}
use Rattle.std.proofs.lemmas.Bool.{cases_eq, eqb-true, eq-eqb, both_ways}
use Rattle.go_rules.specs.declared.Cell.TheVariants.{Empty}
use Rattle.go_rules.specs.declared.Colour.{Colour}
use Rattle.go_rules.specs.Board.{are_neighbours}
use Rattle.go_rules.specs.Strings.{cell_at, is_stone, is_in_string, IsLiberty, Path, start, step}
use Rattle.go_rules.specs.Neighbourhood.{whole_strings_of, neighbourhood_of}
use Rattle.go_rules.specs.Position.{BoardState}
use Rattle.go_rules.specs.Play.{play_free}
use Rattle.go_rules.proofs.Paths.{IsInString-from_test, is_is_in_string-from_fact}
use Rattle.go_rules.proofs.Links.{path_same}
use Rattle.go_rules.proofs.StringMembers.{string_self}
use Rattle.go_rules.proofs.PlayLaws.{others_stay, stone_after}
use Rattle.go_base.specs.Views.{alone}
use Rattle.go_base.proofs.PointNeighbourhoods.{whole_self, whole_string, whole_cases, close_whole, close_next}
use Rattle.go_base.proofs.PointNeighbourhoods.{close_again, close_alone, alone_self, within, beside, closeness}
use Rattle.read_rules.proofs.CandidateLaws.{size_played}

-- The colour c played at l with the ban dropped, which gave this position.
module _ (pos : BoardState) (c : Colour) (l : ℕ) (new : BoardState) (on : l < pos.size * pos.size)
    (legal : play_free pos c l ≡ Ok new) where
  -- y stands in the string, before the play, of a neighbour of l, and is of the colour of the played stone
  record IsJoined (y : ℕ) : Type 0 where
    x : ℕ
    x_on : x < pos.size * pos.size
    x_near : are_neighbours pos.size l x ≡ true
    inside : is_in_string pos.size pos.cells x y ≡ true
    its : cell_at pos.cells y ≡ cell_at new.cells l

  -- a stone of the played stone's colour, other than that one, stood before the play
  stood : (y : ℕ) → y < pos.size * pos.size → (y ≡ l → ⊥) → cell_at new.cells y ≡ cell_at new.cells l
      → cell_at pos.cells y ≡ cell_at new.cells l
  stood y y_on ne same = elim (others_stay pos c l new y legal y_on ne) [
    | inl kept ↦ sym kept ∙ same
    | inr taken ↦ absurd (both_ways (is_stone Empty) refl
        (ap is_stone (sym taken.1 ∙ same) ∙ stone_after pos c l new on legal))
  ]

  -- the string of the played stone has that stone, and strings of its neighbours
  joined : {y : ℕ} → Path pos.size new.cells l y → (y ≡ l) ⊎ IsJoined y
  joined start = inl refl
  joined (step {q} {r} path r_on near same) = elim (cases_eq r l) [
    | inl e ↦ inl e
    | inr ne ↦
        let its = stood r r_on ne same in
        let stone = ap is_stone its ∙ stone_after pos c l new on legal in
        elim (joined path) [
          | inl e ↦ inr (record {
            x = r;
            x_on = r_on;
            x_near = subst (λ z. are_neighbours pos.size z r ≡ true) e near;
            inside = string_self pos.size pos.cells r r_on stone;
            its = its;
          })
          | inr j ↦
              let w = IsInString-from_test pos.size pos.cells j.x q j.inside in
              inr (record {
                x = j.x;
                x_on = j.x_on;
                x_near = j.x_near;
                inside = is_is_in_string-from_fact pos.size pos.cells j.x r j.x_on
                    (record {
                      stone = w.stone;
                      path = step w.path r_on near (its ∙ sym j.its ∙ path_same pos.size pos.cells j.x w.path);
                    });
                its = its;
              })
        ]
  ]

  -- the neighbourhood of the point of the play, before it
  abbrev once : ℕ → Bool
  once = neighbourhood_of pos.size pos.cells (alone l)

  -- a neighbour of the point is in its neighbourhood
  side : (q : ℕ) → q < pos.size * pos.size → are_neighbours pos.size l q ≡ true → once q ≡ true
  side q q_on near = close_next pos.size pos.cells (alone l) l q q_on
      (whole_self pos.size pos.cells (alone l) l on (alone_self l)) near

  -- what joined lies in the whole strings of that neighbourhood
  whole_joined : (y : ℕ) → IsJoined y → whole_strings_of pos.size pos.cells once y ≡ true
  whole_joined y j = whole_string pos.size pos.cells once j.x y j.x_on (side j.x j.x_on j.x_near) j.inside

  -- the played stone's string on the new board
  own : (y : ℕ) → whole_strings_of pos.size new.cells (alone l) y ≡ true → (y ≡ l) ⊎ IsJoined y
  own y w = elim (whole_cases pos.size new.cells (alone l) y w) [
    | inl e ↦ inl (eqb-true y l e)
    | inr i ↦
        let inside = subst (λ x. is_in_string pos.size new.cells x y ≡ true) (eqb-true i.0 l i.2) i.3 in
        joined (IsInString-from_test pos.size new.cells l y inside).path
  ]

  -- what lies in the neighbourhood of the played stone after the play lies in the second neighbourhood of its point
  -- before it
  pub near_played : (r : ℕ) → neighbourhood_of pos.size new.cells (alone l) r ≡ true
      → neighbourhood_of pos.size pos.cells (neighbourhood_of pos.size pos.cells (alone l)) r ≡ true
  near_played r h = elim (closeness pos.size new.cells (alone l) r h) [
    | within w ↦ elim (own r w) [
      | inl e ↦ close_again pos.size pos.cells (alone l) r (close_alone pos.size pos.cells l r on (eq-eqb r l e))
      | inr j ↦ close_whole pos.size pos.cells once r (whole_joined r j)
    ]
    | beside y r_on w near ↦ elim (own y w) [
      | inl e ↦ close_again pos.size pos.cells (alone l) r
          (side r r_on (subst (λ x. are_neighbours pos.size x r ≡ true) e near))
      | inr j ↦ close_next pos.size pos.cells once y r r_on (whole_joined y j) near
    ]
  ]

  -- and so does each liberty of the played stone's string
  pub liberty_played : (p : ℕ) → IsLiberty new.size new.cells l p
      → neighbourhood_of pos.size pos.cells (neighbourhood_of pos.size pos.cells (alone l)) p ≡ true
  liberty_played p lib =
      let its = subst (λ n. IsLiberty n new.cells l p) (size_played pos c l new legal) lib in
      let q = its.beside in
      let q_in = is_is_in_string-from_fact pos.size new.cells l q.0 on q.1 in
      near_played p (close_next pos.size new.cells (alone l) q.0 p its.on_board
      (whole_string pos.size new.cells (alone l) l q.0 on (alone_self l) q_in) q.2)
