use Rattle.std.proofs.Common.{◌≡◌, ℕ, ◌+◌, ◌<◌, ◌++◌, arith, false, List, length, get_or, map, take, drop}
use Rattle.std.proofs.Common.{ap, sym, ◌∙◌, subst}
use Rattle.std.specs.List.{All}
use Rattle.std.proofs.lemmas.List.{append-nil, length-map}
use Rattle.std.proofs.lemmas.List.Elements.{All-map}
use Rattle.dfa_core.proofs.Entries.{written_whole}
use Rattle.dfa_shortcuts.specs.Shortcuts.{is_accepting_entry}
use Rattle.dfa_match.specs.declared.walks.Walk.{Walk}
use Rattle.dfa_match.specs.Walks.{after_letters, IsStanding}
use Rattle.dfa_match.proofs.StandingWalks.{standing_after, silent_standing, hits_of-silent}
use Rattle.dfa_match.proofs.walks.read_letters.Goals.{After-read_on-met}
use Rattle.dfa_match.proofs.walks.read_letters.Goals as goal

-- what a walk is behind its next letter
abbrev next : (c : After-read_on-met) → Walk → Walk
next c = after_letters c.args.shortcuts.now.entries.items c.args.shortcuts.now.passed.items c.args.steps.now
    c.args.padded.now.letters

-- each walk has read its letter
read : (c : After-read_on-met) → c.read_on-met.new.walks ≡ map (next c) c.args.walks.now.items
read c = grind arith

-- these are the walks of the whole list
written : (c : After-read_on-met)
    → take c.args.walks.now.len (c.read_on-met.new.walks ++ drop (length c.read_on-met.new.walks)
    c.args.walks.now.items) ≡ c.read_on-met.new.walks
written c = grind (arith, written_whole, read, length-map)

-- none of them has passed over more than 255 letters
few_passed : (c : After-read_on-met) (n : ℕ) → All (λ w. w.letters < n) c.args.walks.now.items
    → All (λ w. w.letters < n + 256) (take c.args.walks.now.len
    (c.read_on-met.new.walks ++ drop (length c.read_on-met.new.walks) c.args.walks.now.items))
few_passed c n low = subst (All (λ w. w.letters < n + 256)) (sym (written c))
    (c.read_on-met.ensures.few n (subst (All (λ w. w.letters < n)) (sym c.deref_mut.ensures.value) low))

-- with hits given out, no walk has passed over too many letters
pub returns-then-met-ne0-clause-few : goal.returns-then-met-ne0-clause-few
returns-then-met-ne0-clause-few c = few_passed (goal.at.returns-then-met-ne0-clause-few c).After-read_on-met

-- with no hits, no walk has passed over too many letters
pub returns-clause-few : goal.returns-clause-few
returns-clause-few c = few_passed (goal.at.returns-clause-few c).After-read_on-met

-- so the walks stand at rows
standing : (c : After-read_on-met) → All (IsStanding c.args.automaton.now) (map (next c) c.args.walks.now.items)
standing c = All-map (IsStanding c.args.automaton.now) (next c) c.args.walks.now.items
    (λ k d low. standing_after c.args.automaton.now c.args.shortcuts.now.entries.items
    c.args.shortcuts.now.passed.items c.args.steps.now c.args.padded.now.letters (get_or c.args.walks.now.items k d)
    c.rows.ensures.automaton c.requires.shortcuts (c.requires.standing k d low))

-- where they may give out hits
pub give_all-requires : goal.give_all-requires
give_all-requires c =
    let at_read = (goal.at.give_all-requires c).After-read_on-met in
    subst (All (IsStanding c.args.automaton.now))
    (sym (c.deref-then-met-ne0.ensures.value ∙ written at_read ∙ read at_read))
    (standing at_read)

-- if no row accepts something nothing is given out
pub returns-clause-hits : goal.returns-clause-hits
returns-clause-hits c =
    let at_read = (goal.at.returns-clause-hits c).After-read_on-met in
    let walks : List Walk = map (next at_read) c.args.walks.now.items in
    let silent : All (λ w. is_accepting_entry w.entry ≡ false) walks =
    subst (All (λ w. is_accepting_entry w.entry ≡ false)) (read at_read)
    (c.read_on-met.ensures.silent (omega (arith, c.if-met-ne0.false))) in
    sym (ap (λ hs. c.args.out.now.items ++ hs)
    (hits_of-silent c.args.automaton.now c.args.padded.now.size c.args.t walks
    (λ k d low. silent_standing c.args.automaton.now (get_or walks k d) (standing at_read k d low) (silent k d low)))
    ∙ append-nil c.args.out.now.items)
