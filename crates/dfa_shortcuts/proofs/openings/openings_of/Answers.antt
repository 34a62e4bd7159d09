use Rattle.std.proofs.Common.{◌≡◌, ◌++◌, List, ℕ, take, sym, ap, ◌∙◌, subst}
use Rattle.dfa_shortcuts.specs.Openings.{AreBehind, KnownHaveRows}
use Rattle.dfa_shortcuts.proofs.EntryRows.{HaveRows-entries}
use Rattle.dfa_shortcuts.proofs.LongerOpenings.{AreBehind-first, AreBehind-more}
use Rattle.dfa_shortcuts.proofs.LongerOpenings.{KnownHaveRows-first, KnownHaveRows-more}
use Rattle.dfa_shortcuts.proofs.openings.openings_of.Goals as goal

-- the first entries are those behind the words of one letter
pub letters-init : goal.letters-init
letters-init c =
    let entries : List ℕ = c.entries-entries.result.now in
    let first : c.extend_from_slice.new.self.items ≡ take 4 entries =
    c.in_ok-extend_from_slice.ensures.items ∙ ap (λ es. es ++ take 4 entries) c.new-openings.ensures.items in
    record {
      behind = subst (AreBehind c.args.automaton.now 1) (sym first)
          (AreBehind-first c.args.automaton.now entries c.rows.ensures.automaton c.entries-entries.ensures);
      known = subst (KnownHaveRows entries) (sym first) (KnownHaveRows-first entries
          (HaveRows-entries c.args.automaton.now entries c.rows.ensures.automaton c.entries-entries.ensures));
    }

-- one letter more
pub letters-preserved : goal.letters-preserved
letters-preserved c =
    let entries : List ℕ = c.entries-entries.result.now in
    let shorter : List ℕ = c.as_slice.result.now in
    let known : KnownHaveRows entries shorter =
    subst (KnownHaveRows entries) (sym c.as_slice.ensures.value) c.letters.invariant.known in
    record {
      behind = AreBehind-more entries shorter c.in_ok-openings.openings.items c.in_ok-openings.ensures
          c.args.automaton.now c.letters.counter c.entries-entries.ensures known
          (subst (AreBehind c.args.automaton.now c.letters.counter) (sym c.as_slice.ensures.value)
          c.letters.invariant.behind);
      known = KnownHaveRows-more entries shorter c.in_ok-openings.openings.items c.in_ok-openings.ensures
          (HaveRows-entries c.args.automaton.now entries c.rows.ensures.automaton c.entries-entries.ensures) known;
    }
