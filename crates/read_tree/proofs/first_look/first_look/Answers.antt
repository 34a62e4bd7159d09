-- What the search finds of the target's liberties on the view alone.
use Rattle.std.proofs.Common.{◌≡◌, ℕ, List, arith}
use Rattle.go_rules.specs.declared.Cell.{Cell}
use Rattle.go_rules.specs.Position.{BoardState}
use Rattle.go_base.specs.declared.flood.Searched.{Searched}
use Rattle.go_base.specs.Facts.{Agrees, agrees_before, same_size}
use Rattle.go_base.specs.Floods.{Searches}
use Rattle.trial_board.specs.Overlays.{overlaid}
use Rattle.trial_board.specs.SomeLiberties.{FindsLiberties}
use Rattle.trial_board.proofs.OverlayLemmas.{none_overlaid}
use Rattle.read_tree.proofs.BoundLemmas.{TellsLiberties-most}
use Rattle.read_tree.proofs.first_look.first_look.Given.{Over}
use Rattle.read_tree.proofs.first_look.first_look.Goals.{After-search-found}
use Rattle.read_tree.proofs.first_look.first_look.Goals as goal

-- the position shown stays
pub returns-clause-shown : goal.returns-clause-shown
returns-clause-shown g c = grind arith

-- and the facts seen only grow
pub returns-clause-grows : goal.returns-clause-grows
returns-clause-grows g c = rw (← c.new-board.ensures.look) c.search-found.ensures.looks.asked.grows

-- the liberties that a search found are those on cells and a size that are the same
found_on : {n s p most : ℕ} {cells board : List Cell} {found : Searched} → n ≡ s → cells ≡ board
    → Searches s board p most found → FindsLiberties n cells p most found.liberties
found_on size is h = rw (size, is) (record { all = h.liberties; more = h.more })

-- A position that agrees with what is seen after the search.
module _ (g : Over) (c : After-search-found g) (pos : BoardState)
    (a : Agrees (g.L.Look.seen c.search-found.new.board.look) pos) where
  -- its size is that of the board that was searched
  size : pos.size ≡ (g.L.Look.shows c.new-board.result.look).size
  size = same_size (g.met.L.Look.sized c.new-board.result.look)
      (agrees_before c.search-found.ensures.looks.asked.grows a)

  -- nothing was put over it
  bare : pos.cells ≡ overlaid pos.size c.new-board.result.known pos.cells
  bare = none_overlaid pos.size c.new-board.result.known pos.cells c.new-board.ensures.none a.sound.cells

-- the liberties are the target's, or too many
pub returns-clause-over : goal.returns-clause-over
returns-clause-over g c = λ pos a.
    let d = (goal.at.returns-clause-over g c).After-search-found in
    TellsLiberties-most c.args.turn c.args.plies c.most_liberties.result pos.size pos.cells _ c.most_liberties.ensures
    (found_on (size g d pos a) (bare g d pos a) (c.search-found.ensures.over pos a))

-- the search looked beside the target
pub returns-clause-near : goal.returns-clause-near
returns-clause-near g c = grind (arith, size g, bare g)
