use Rattle.std.proofs.Common.{◌≡◌, ◌∙◌, true, ap, sym, subst, arith, rules}
use Rattle.std.specs.FinSet as set
use Rattle.go_rules.specs.Position.{BoardState}
use Rattle.read_rules.specs.GameTree.{succeeds}
use Rattle.read_rules.proofs.WinLemmas.{none_up_to, first_success-found}
use Rattle.read_tree.specs.Allowances.{under}
use Rattle.read_tree.proofs.TableLemmas.{table_more}
use Rattle.write_proof.specs.Printed.{position_on}
use Rattle.write_proof.proofs.WriteLemmas.{here_stays}
use Rattle.read_rules.specs.GameTree.{at_point}
use Rattle.read_rules.proofs.WinLemmas.{first_success-none}
use Rattle.read_tree.proofs.ReadyLemmas.{candidate_inside, point_after, ready_after}
use Rattle.write_proof.proofs.alike.first_point.Goals as goal

-- no candidate was tried yet
pub plays-init : goal.plays-init
plays-init g c = grind (arith, table_more c.requires.table c.candidates-candidates.ensures.stays.grows)

-- the next candidate is on the board, and what the reader needs is as before
pub play_success-requires : goal.play_success-requires
play_success-requires g c =
    let i = c.plays.invariant in
    let ready = ready_after i.stays c.args.asked c.requires c.requires.some i.table in
    let on_board = point_after i.stays c.in-Some.p (candidate_inside c.args.turn
    (g.L.Look.shows c.args.board.now.look) c.args.board.now.moves c.in-Some.p
    (sym (c.candidates-candidates.ensures.answer c.in-Some.p) ∙ c.in-Some.ensures.some.2)) in
    search rules

-- it succeeds under none of the allowances, and none before it did
pub plays-preserved : goal.plays-preserved
plays-preserved g c = grind (arith, here_stays, none_up_to)

-- it is the first that succeeds under each
pub returns-in-Always-clause-first : goal.returns-in-Always-clause-first
returns-in-Always-clause-first g c = λ ko asked.
    let i = c.plays.invariant in
    let found = c.in-Some.ensures.some in
    let here = position_on g.L.Look.shows c.args.board.now in
    let node = under c.args.turn ko in
    let same = here_stays g.L.Look.shows g.L.Look.seen c.args.board.now c.plays.board i.stays in
    ap at_point (first_success-found c.args.plies node here c.plays.next c.in-Some.p
    (set.contains c.candidates-candidates.result)
    c.candidates-candidates.ensures.answer (i.none ko asked) found.3 found.2
    (sym (subst (λ (pos : BoardState). succeeds c.args.plies node pos c.in-Some.p ≡ true) same
    ((rw c.in-Always.is at c.play_success.ensures.success) ko asked))))

-- and is on the board
pub returns-in-Always-clause-on_board : goal.returns-in-Always-clause-on_board
returns-in-Always-clause-on_board g c = grind (arith, candidate_inside)

-- of one allowance it is not told that it differs
pub returns-in-Differs-clause-one : goal.returns-in-Differs-clause-one
returns-in-Differs-clause-one g c = λ one e. c.play_success.ensures.one one c.in-Differs.is

-- no candidate is left
pub returns-clause-first : goal.returns-clause-first
returns-clause-first g c = λ ko asked.
    ap at_point (first_success-none c.args.plies (under c.args.turn ko)
    (position_on g.L.Look.shows c.args.board.now) c.plays.next (set.contains c.candidates-candidates.result)
    c.candidates-candidates.ensures.answer (c.plays.invariant.none ko asked) c.in_default.ensures.none)
