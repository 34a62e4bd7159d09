-- A stone that is played at the only liberty of an enemy string takes it.
use Rattle.std.proofs.Common.{◌≡◌, ◌≢◌, ℕ, ◌*◌, ◌<◌, List, length, set, sym, ap, subst, ◌∙◌}
use Rattle.go_rules.specs.declared.Cell.{Cell}
use Rattle.go_rules.specs.declared.Cell.TheVariants.{Empty}
use Rattle.go_rules.specs.declared.Colour.{Colour}
use Rattle.go_rules.specs.declared.Colour.TheVariants.{Black as black, White as white}
use Rattle.go_rules.specs.Strings.{cell_at, is_stone, Path, start, IsLiberty}
use Rattle.go_rules.specs.Position.{other, stone_of}
use Rattle.go_rules.specs.Rules.{IsCaptured, IsOnlyLiberty}
use Rattle.go_rules.proofs.Links.{path_same, path_keeps}
use Rattle.go_rules.proofs.Plays.{at_put_same, at_put_other, enemy_differs}

-- a stone is no empty point
pub stone_not_empty : (c : Colour) → stone_of c ≡ Empty → ⊥
stone_not_empty black e = cc
stone_not_empty white e = cc

-- The string of q, an enemy of c on a whole board of s rows, has the only liberty l.
module _ (s : ℕ) (cells : List Cell) (c : Colour) (l q : ℕ) (whole : length cells ≡ s * s)
    (one : IsOnlyLiberty s cells q l) (enemy : cell_at cells q ≡ stone_of (other c)) where
  -- the cells with a stone of c at l, before any stone is taken
  abbrev put : List Cell
  put = set cells l (stone_of c)

  -- the stone is there
  put_here : cell_at put l ≡ stone_of c
  put_here = at_put_same cells l (stone_of c) (subst (λ n. l < n) (sym whole) one.its.on_board)

  -- q is as it was
  put_enemy : cell_at put q ≡ stone_of (other c)
  put_enemy = at_put_other cells l q (stone_of c)
      (λ e. stone_not_empty (other c) (sym enemy ∙ ap (cell_at cells) e ∙ one.its.is_empty)) ∙ enemy

  -- the string of q was the same before
  same_before : (y : ℕ) → Path s put q y → cell_at cells y ≡ cell_at put y
  same_before y path = sym (at_put_other cells l y (stone_of c)
      (λ e. enemy_differs c (sym put_enemy ∙ sym (path_same s put q path) ∙ ap (cell_at put) e ∙ put_here)))

  -- a liberty that the string has now was one before
  liberty_before : (x : ℕ) → x ≢ l → IsLiberty s put q x → IsLiberty s cells q x
  liberty_before x off h = record {
    on_board = h.on_board;
    is_empty = sym (at_put_other cells l x (stone_of c) off) ∙ h.is_empty;
    beside = (
      h.beside.0,
      record {
        stone = ap is_stone (same_before q start) ∙ h.beside.1.stone;
        path = path_keeps s put cells q same_before h.beside.1.path;
      },
      h.beside.2,
    );
  }

  -- so the string has none now, and is captured
  pub only_liberty_captures : IsCaptured s put c q
  only_liberty_captures = record {
    enemy = put_enemy;
    dead = λ x h.
        let off : x ≢ l = λ e. stone_not_empty c (sym put_here ∙ ap (cell_at put) (sym e) ∙ h.is_empty) in
        off (one.only x (liberty_before x off h));
  }
