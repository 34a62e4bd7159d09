-- What a play leaves of a string.
use Rattle.std.proofs.Common.{◌≡◌, ◌≢◌, ℕ, ◌*◌, ◌<◌, Bool, true, false, cond, List}
use Rattle.std.proofs.Common.{refl, ap, ◌∙◌, set, arith}
use Rattle.go_rules.specs.declared.Cell.{Cell}
use Rattle.go_rules.specs.declared.Cell.TheVariants.{Empty}
use Rattle.go_rules.specs.declared.Colour.{Colour}
use Rattle.go_rules.specs.Strings.{cell_at, is_stone, Path, start, IsLiberty}
use Rattle.go_rules.specs.Position.{stone_of}
use Rattle.go_rules.specs.Play.{cells_after, is_taken}
use Rattle.go_rules.proofs.Links.{path_same, path_on, path_back, path_keeps, liberties_from}
use Rattle.go_rules.proofs.Paths.{path_on_board}
use Rattle.go_rules.proofs.Plays.{at_put_other, at_after, alive_not_taken}

-- A string with a liberty that is not the point of the play. The board is of size s; c plays at p.
module _ (s : ℕ) (cells : List Cell) (c : Colour) (p : ℕ) (was_empty : cell_at cells p ≡ Empty) (t : ℕ)
    (on : t < s * s) where
  -- the cells with the stone put
  abbrev put : List Cell
  put = set cells p (stone_of c)

  -- the string and its liberty stand after the stone was put
  pub put_liberty : (l : ℕ) → IsLiberty s cells t l → l ≢ p → IsLiberty s put t l
  put_liberty l lib ne = grind (arith, at_put_other, path_same, path_keeps)

  -- no stone of the string is taken
  pub after_liberty : (l : ℕ) → IsLiberty s cells t l → l ≢ p → IsLiberty s (cells_after s put c) t l
  after_liberty l lib ne =
      let after = cells_after s put c in
      let there = put_liberty l lib ne in
      let stays : (x : ℕ) → Path s put t x → cell_at after x ≡ cell_at put x = λ x path.
      let x_on = path_on_board s put t on path in
      let alive = liberties_from s put x l x_on (record {
        on_board = there.on_board;
        is_empty = there.is_empty;
        beside = (
          there.beside.0,
          record {
            stone = ap is_stone (path_same s put t path) ∙ there.beside.1.stone;
            path = path_on s put x t (path_back s put t on path) there.beside.1.path;
          },
          there.beside.2,
        );
      }) in
      at_after s put c x x_on ∙ ap (λ b. cond b Empty (cell_at put x)) (alive_not_taken s put c x alive) in
      record {
        on_board = there.on_board;
        is_empty = at_after s put c l there.on_board ∙ empty_both (is_taken s put c l) (cell_at put l) there.is_empty;
        beside = (
          there.beside.0,
          record {
            stone = ap is_stone (stays t start) ∙ there.beside.1.stone;
            path = path_keeps s put after t stays there.beside.1.path;
          },
          there.beside.2,
        );
      }
    where
      empty_both : (b : Bool) (k : Cell) → k ≡ Empty → cond b Empty k ≡ Empty
      empty_both true k e = refl
      empty_both false k e = e
