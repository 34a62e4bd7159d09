-- A position is made of the stones of the cells.
use Rattle.std.proofs.Common.{◌*◌, sym, ap, ◌∙◌}
use Rattle.std.specs.FinSet as sets
use Rattle.go_rules.specs.declared.Cell.TheVariants.{Black, White}
use Rattle.go_base.specs.Setups.{setup_of}
use Rattle.sgf_read.proofs.Stones.{stones_in, stones_on_board, setup_answers}
use Rattle.sgf_read.proofs.setup.position_with.Goals as goal

-- the black stones are on the board
pub setup-requires-clause-black : goal.setup-requires-clause-black
setup-requires-clause-black c = λ p h.
    stones_on_board c.args.cells.now Black (c.args.size * c.args.size) p c.requires
    (ap (λ s. sets.contains s p) (sym c.stones_of-black.ensures) ∙ h)

-- and so are the white ones
pub setup-requires-clause-white : goal.setup-requires-clause-white
setup-requires-clause-white c = λ p h.
    stones_on_board c.args.cells.now White (c.args.size * c.args.size) p c.requires
    (ap (λ s. sets.contains s p) (sym c.stones_of-white.ensures) ∙ h)

-- the position that they set up
pub returns : goal.returns
returns c =
    setup_answers c.args.size c.args.cells.now c.setup.result c.requires
    (c.setup.ensures ∙ (ap (λ b. setup_of c.args.size b c.stones_of-white.result) c.stones_of-black.ensures
    ∙ ap (setup_of c.args.size (stones_in c.args.cells.now Black)) c.stones_of-white.ensures))
