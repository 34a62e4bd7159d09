use Rattle.std.proofs.Common.{ap, ◌∙◌, arith}
use Rattle.std.proofs.lemmas.Int.{ints}
use Rattle.dfa_core.specs.Fits.{drawn_admits}
use Rattle.dfa_core.proofs.Lengths.{drawn_along_at}
use Rattle.dfa_core.proofs.chain.mask_at.Goals as goal

-- the anchor and the offset give the cell, and the cell the letters
pub returns : goal.returns
returns c = λ i x at. c.mask_of.ensures x
    ∙ ap (λ d. drawn_admits d x)
    (drawn_along_at c.args.p.now i c.drawn_in.result c.args.from c.args.by _ _ c.requires.anchor at
    (omega (arith, ints)) (omega (arith, ints)) c.drawn_in.ensures)
