-- What the search found of the liberties, on the board after the moves.
use Rattle.std.proofs.Common.{ℕ, List, sym, subst, arith}
use Rattle.go_rules.specs.declared.Cell.{Cell}
use Rattle.go_base.specs.declared.flood.Searched.{Searched}
use Rattle.go_base.specs.Floods.{Searches}
use Rattle.go_base.specs.Facts.{agrees_before, same_size}
use Rattle.trial_board.specs.Overlays.{overlaid}
use Rattle.trial_board.specs.SomeLiberties.{FindsLiberties}
use Rattle.trial_board.proofs.StandingLemmas.{IsStanding-looks}
use Rattle.trial_board.proofs.trial.Trial.some_liberties.Goals as goal

-- looks keep the trial moves
pub invariant_of-self : goal.invariant_of-self
invariant_of-self g c = IsStanding-looks c.self.invariant c.search-found.ensures.looks.asked.grows
    c.search-found.ensures.looks.same

-- the liberties among what a search found
its_liberties : (s : ℕ) (cells : List Cell) (p most : ℕ) (found : Searched) → Searches s cells p most found
    → FindsLiberties s cells p most found.liberties
its_liberties s cells p most found h = record { all = h.liberties; more = h.more }

-- the search was of the board after the moves
pub returns-clause-over : goal.returns-clause-over
returns-clause-over g c = λ pos a.
    let i = c.self.invariant in
    let inside = c.self.inside in
    let found = c.search-found.result in
    let asked = c.search-found.ensures.looks.asked in
    let a0 = agrees_before asked.grows a in
    rw (← c.self.view_is)
    (subst (λ t. FindsLiberties pos.size t c.args.p c.args.most found.liberties) (sym (i.now pos a0).cells)
    (subst (λ n. FindsLiberties n (overlaid pos.size inside.board.known pos.cells) c.args.p c.args.most
    found.liberties)
    (sym (same_size (g.met.L.Look.sized inside.board.look) a0))
    (its_liberties _ _ _ _ found (c.search-found.ensures.over pos a))))

-- and it looked near p
pub returns-clause-near : goal.returns-clause-near
returns-clause-near g c = grind arith
