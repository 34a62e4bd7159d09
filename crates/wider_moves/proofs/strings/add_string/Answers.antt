-- What stands around a string with few liberties came, and nothing of one with many.
use Rattle.std.proofs.Common.{sym, ◌∙◌}
use Rattle.trial_board.specs.Trials.{after}
use Rattle.wider_rules.proofs.StringLemmas.{few_liberties, many_liberties, few_enemies, many_enemies}
use Rattle.wider_moves.proofs.strings.add_string.Goals as goal

-- its liberties came
pub returns-then-lies_between-clause-liberties : goal.returns-then-lies_between-clause-liberties
returns-then-lies_between-clause-liberties g c = λ pos a p.
    let its = c.string-stones.ensures.over pos a in
    few_liberties c.args.least c.args.most pos.size (after pos c.args.board.now.moves).cells c.args.q c.count.result p
    c.string-stones.result.liberties c.args.found.now.liberties c.join.new.self its.1 c.count.ensures.value
    (sym c.lies_between.ensures ∙ c.if-lies_between.true) c.join.ensures

-- and the enemies next to it
pub returns-then-lies_between-clause-enemies : goal.returns-then-lies_between-clause-enemies
returns-then-lies_between-clause-enemies g c = λ pos a p.
    let its = c.string-stones.ensures.over pos a in
    few_enemies c.args.least c.args.most pos.size (after pos c.args.board.now.moves).cells c.args.q c.count.result p
    c.string-stones.result.liberties c.args.found.now.enemies c.join-then-lies_between.new.self its.1
    c.count.ensures.value c.string-stones.result.enemies (sym c.lies_between.ensures ∙ c.if-lies_between.true) its.2 c.join-then-lies_between.ensures

-- none of many liberties came
pub returns-else-lies_between-clause-liberties : goal.returns-else-lies_between-clause-liberties
returns-else-lies_between-clause-liberties g c = λ pos a p.
    let its = c.string-stones.ensures.over pos a in
    many_liberties c.args.least c.args.most pos.size (after pos c.args.board.now.moves).cells c.args.q c.count.result p
    c.string-stones.result.liberties c.args.found.now.liberties c.args.found.now.liberties its.1
    c.count.ensures.value (sym c.lies_between.ensures ∙ c.if-lies_between.false)

-- nor an enemy next to it
pub returns-else-lies_between-clause-enemies : goal.returns-else-lies_between-clause-enemies
returns-else-lies_between-clause-enemies g c = λ pos a p.
    let its = c.string-stones.ensures.over pos a in
    many_enemies c.args.least c.args.most pos.size (after pos c.args.board.now.moves).cells c.args.q c.count.result p
    c.string-stones.result.liberties c.args.found.now.enemies c.args.found.now.enemies its.1
    c.count.ensures.value (sym c.lies_between.ensures ∙ c.if-lies_between.false)
