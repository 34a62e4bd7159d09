use Rattle.std.proofs.Common.{◌≡◌, ◌++◌, ◌∷◌, [], length, Some, ap, sym, subst, arith, ◌∙◌}
use Rattle.dfa_join.specs.Pairs.{NumbersPair}
use Rattle.dfa_join.specs.Index.{IsLookup, indexed_number}
use Rattle.dfa_join.proofs.PairLists.{NumbersPair-push, IsLookup-push}
use Rattle.dfa_join.proofs.pairs.Pairs.number.Goals.{After-push_reserved}
use Rattle.dfa_join.proofs.pairs.Pairs.number.Goals as goal

-- the pair came behind the others
list_is : (c : After-push_reserved)
    → c.push_reserved.new.self.items ≡ c.self.inside.list.items ++ c.args.pair ∷ []
list_is c = c.push_reserved.ensures.items ∙ ap (λ pairs. pairs ++ c.args.pair ∷ []) c.reserve.ensures.items

-- the pair was not in the list, so its number is the count of the pairs before it
adds : (c : After-push_reserved) → NumbersPair c.args.limit c.self.inside.list.items
    (c.self.inside.list.items ++ c.args.pair ∷ []) c.args.pair (length c.self.inside.list.items)
adds c =
    let list = c.self.inside.list.items in
    let told = subst (IsLookup list c.args.pair) (sym c.number.ensures ∙ c.in_default.is)
    (c.self.invariant c.args.pair) in
    NumbersPair-push c.args.limit list c.args.pair told.1 (omega (arith, c.len-number.ensures, c.if-number-limit.false))

-- what the index tells is so of the longer list
pub invariant_of-self-2 : goal.invariant_of-self-2
invariant_of-self-2 c = λ q.
    let d = (goal.at.invariant_of-self-2 c).After-push_reserved in
    let list = c.self.inside.list.items in
    let here : indexed_number c.put.new.self c.args.pair ≡ Some (length list) =
    c.in_ok-put.ensures.here ∙ ap (λ n. Some n) (omega (arith, c.len-number.ensures)) in
    rw (list_is d) (IsLookup-push list c.args.pair (indexed_number c.self.inside.index) (indexed_number c.put.new.self)
    c.self.invariant
    (adds d).number here c.in_ok-put.ensures.elsewhere q)

-- the pair has its number
pub returns-clause-ok : goal.returns-clause-ok
returns-clause-ok c =
    let d = (goal.at.returns-clause-ok c).After-push_reserved in
    let count : c.len-number.result ≡ length c.self.inside.list.items = omega (arith, c.len-number.ensures) in
    rw (← c.self.view_is, list_is d, count) (adds d)
