-- The code and the pass are told by the answer to the question, and the points by their plays.
use Rattle.std.proofs.Common.{◌∙◌, ◌-◌, ◌&&◌, refl, ap, sym}
use Rattle.std.specs.FinSet as set
use Rattle.std.specs.Ordering.{nat_cmp}
use Rattle.go_base.specs.Facts.{agrees_before}
use Rattle.read_rules.specs.declared.question.Answer.{Answer}
use Rattle.read_rules.specs.GameTree.{succeeds}
use Rattle.read_rules.specs.Answer.{first_node}
use Rattle.read_all.specs.AllMoves.{is_among}
use Rattle.read_all.proofs.AttainLemmas.{pass_told, none_attains, play_attains}
use Rattle.read_all.proofs.moves.moves_among.Goals as goal

-- nothing attains code 0
pub returns-then-answer-eq0-clause-over : goal.returns-then-answer-eq0-clause-over
returns-then-answer-eq0-clause-over g c = λ pos a. record {
  greatest = sym c.if-answer-eq0.true ∙ ap (λ (x : Answer). x.code) (c.read-look.ensures.over pos a);
  passes = refl;
  plays = λ p. ap (λ s. set.contains s p) c.new.ensures ∙ set.contains-empty nat_cmp p
      ∙ none_attains c.args.among c.args.question pos p;
}

-- what attains a greater code is found
pub returns-clause-over : goal.returns-clause-over
returns-clause-over g c = λ pos a.
    let q = c.args.question in
    let answer = c.read-look.result.answer in
    let at_end = rw c.finish.ensures at a in
    let at_points = agrees_before c.successes_of-points.ensures.stays.grows at_end in
    let at_read = rw c.new-board.ensures at (agrees_before c.points_among-tried.ensures.stays.grows at_points) in
    let told = c.read-look.ensures.over pos at_read in
    let tried = rw c.new-board.ensures at (c.points_among-tried.ensures.over pos at_points) in
    let won = rw (c.first_node-node.ensures, c.points_among-tried.ensures.stays.moves, c.new-board.ensures) at
    (c.successes_of-points.ensures.over pos at_end) in
    record {
      greatest = ap (λ (x : Answer). x.code) told;
      passes = pass_told q pos answer c.is_pass.result told c.if-answer-eq0.false c.is_pass.ensures;
      plays = λ p. won p ∙ ap (λ b. b && succeeds (q.plies - 1) (first_node q answer.code) pos p) (tried p)
          ∙ ap (λ b. is_among c.args.among q pos p && b) (play_attains q pos answer.code p c.if-answer-eq0.false);
    }
