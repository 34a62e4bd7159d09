-- What a play on a board gives, by the cells that it left.
use Rattle.std.proofs.Common.{◌≡◌, ◌≢◌, ℕ, ◌*◌, ◌<◌, false, cond, Option, List, Ok, Err, map, sym, ap, subst}
use Rattle.std.proofs.Common.{◌∙◌, arith}
use Rattle.std.proofs.Math.ListN.{set, length-set}
use Rattle.std.specs.List.{range_with_len}
use Rattle.std.specs.Ordering.{nat_cmp}
use Rattle.std.specs.FinSet as sets
use Rattle.go_rules.specs.declared.Cell.{Cell}
use Rattle.go_rules.specs.declared.Cell.TheVariants.{Empty}
use Rattle.go_rules.specs.declared.Colour.{Colour}
use Rattle.go_rules.specs.declared.Illegal.TheVariants.{Suicide}
use Rattle.go_rules.specs.Strings.{cell_at, is_stone, liberties}
use Rattle.go_rules.specs.Position.{IsPosition, stone_of, board_of}
use Rattle.go_rules.specs.Play.{taken_at, ban_after, play_free}
use Rattle.go_rules.proofs.Plays.{taken_beside, empty_from, after_from}
use Rattle.go_rules.proofs.Results.{put_on, after_on, free_suicide, free_done}
use Rattle.go_base.specs.Takes.{TakenBeside}

-- a stone of c was put at p, and what it takes was removed
pub record PlaysOn (s : ℕ) (old put after : List Cell) (c : Colour) (p : ℕ) (taken : sets.FinSet nat_cmp) : Type 0 where
  pub good : IsPosition (board_of s old)
  pub on_board : p < s * s
  pub is_empty : is_stone (cell_at old p) ≡ false
  pub put_is : put ≡ set old p (stone_of c)
  pub taken_is : TakenBeside s put c p → taken ≡ taken_at s put c
  pub after_is : after ≡ map (λ q. cond (sets.contains taken q) Empty (cell_at put q)) (range_with_len 0 (s * s))

module _ {s : ℕ} {old put after : List Cell} {c : Colour} {p : ℕ} {taken : sets.FinSet nat_cmp}
    (h : PlaysOn s old put after c p taken) where
  -- what the play takes hangs on a neighbour of its point
  pub plays_beside : TakenBeside s put c p
  plays_beside = subst (λ t. TakenBeside s t c p) (sym h.put_is)
      (taken_beside (board_of s old) h.good c p h.on_board (empty_from _ h.is_empty))

  -- what was gathered is what the rules take
  pub plays_taken : taken ≡ taken_at s put c
  plays_taken = h.taken_is plays_beside

  -- the cells afterwards are those of the rules
  pub plays_after : after ≡ after_on (board_of s old) c p
  plays_after = grind (arith, length-set, after_from, plays_taken)

  -- a stone without a liberty is suicide by the rules
  pub plays_suicide : liberties s after p ≡ 0 → play_free (board_of s old) c p ≡ Err Suicide
  plays_suicide z = sym (free_suicide (board_of s old) c p h.is_empty (ap (λ t. liberties s t p) (sym plays_after) ∙ z))

  -- else the play is done by the rules
  pub plays_done : (ban : Option (ℕ × Colour)) → liberties s after p ≢ 0
      → ((put : List Cell) → taken ≡ taken_at s put c → ban ≡ ban_after s put after c p)
      → play_free (board_of s old) c p ≡ Ok (record { size = s; cells = after; ban = ban })
  plays_done ban nz b =
      grind (arith, free_done (board_of s old) c p h.is_empty, plays_after, put_on (board_of s old) c p, plays_taken)
