use Rattle.std.proofs.Common.{rules, ◌<◌, length, arith}
use Rattle.std.proofs.lemmas.Option.{slice_get_within}
use Rattle.helpers.specs.Slots.{states_of}
use Rattle.helpers.specs.Fields.{helper_names}
use Rattle.helpers.specs.Agreement.{IsAskedFor}
use Rattle.match_engine.specs.AutomatonMatches.{IsFoundThere}
use Rattle.helpers.proofs.CallTotals.{asked_over-none}
use Rattle.match_engine.proofs.AllowedMatches.{kept_next, kept_there, read_old}
use Rattle.match_engine.proofs.AgreedMatches.{answer_is, calls_are}
use Rattle.match_engine.proofs.agreeing.keep_agreed.Given.{Over}
use Rattle.match_engine.proofs.agreeing.keep_agreed.Goals.{After-index-z, After-keep-kept}
use Rattle.match_engine.proofs.agreeing.keep_agreed.Goals as goal

-- the match that is read is one of the list
is_there : (g : Over) (c : After-index-z g) → IsFoundThere c.args.patterns.now c.args.position.now c.index-z.result.now
is_there g c = grind (arith, kept_there)

-- so it is of a pattern of the list
pub pattern_with-p-requires : goal.pattern_with-p-requires
pattern_with-p-requires g c =
    let there = is_there g (goal.at.pattern_with-p-requires g c).After-index-z in
    slice_get_within c.args.patterns.now c.index-z.result.now.pattern there.pattern there.number

-- at a point of the board
pub all_agree-agreed-requires : goal.all_agree-agreed-requires
all_agree-agreed-requires g c = (is_there g (goal.at.all_agree-agreed-requires g c).After-index-z).on_board

-- the helpers that its pattern names were asked
asked_for : (g : Over) (c : After-keep-kept g)
    → IsAskedFor (states_of (λ z. (goal.Helper-dyn g z).state z.1) c.matches.helpers)
    (helper_names c.pattern_with-p.result.now.items) c.args.position.now c.index-z.result.now.at c.args.friend
    c.all_agree-agreed.result (states_of (λ z. (goal.Helper-dyn g z).state z.1) c.all_agree-agreed.new.helpers)
asked_for g c = grind arith

-- and it is kept where all say yes
pub matches-preserved : goal.matches-preserved
matches-preserved g c =
    let asked = asked_for g (goal.at.matches-preserved g c).After-keep-kept in
    let low : c.matches.next < length c.args.found.now.items = search rules in
    let slots = states_of (λ z. (goal.Helper-dyn g z).state z.1) c.args.helpers.now in
    let z = c.index-z.result.now in
    let read = read_old _ c.args.found.now.items c.matches.found.items c.matches.kept c.matches.next z
    c.matches.invariant.kept low c.index-z.ensures in
    record {
      kept = kept_next _ c.args.found.now.items c.matches.found.items c.matches.kept c.matches.next z
          c.matches.invariant.kept low c.index-z.ensures
          c.all_agree-agreed.result c.keep-kept.new.found.items c.keep-kept.result
          (answer_is slots c.args.patterns.now c.args.position.now c.args.friend c.args.found.now.items c.matches.next z
          c.pattern_with-p.result.now _ _ c.all_agree-agreed.result low read c.pattern_with-p.ensures
          c.matches.invariant.calls asked) c.keep-kept.ensures.found c.keep-kept.ensures.kept;
      calls = calls_are slots c.args.patterns.now c.args.position.now c.args.friend c.args.found.now.items
          c.matches.next z c.pattern_with-p.result.now _ _ c.all_agree-agreed.result low read
          c.pattern_with-p.ensures c.matches.invariant.calls asked;
    }

-- at first nothing was asked
pub matches-init : goal.matches-init
matches-init g c = grind (arith, asked_over-none)
