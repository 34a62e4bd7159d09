use Rattle.std.proofs.Common.{◌≡◌, ◌++◌, ◌-◌, ℕ, List, length, take, drop, replicate, sym, ap, ◌∙◌, subst, arith}
use Rattle.std.proofs.lemmas.List.{length-replicate}
use Rattle.std.proofs.Math.Seq.{take-nil}
use Rattle.std.specs.Vec.{vec_len}
use Rattle.dfa_core.proofs.Entries.{written_whole}
use Rattle.dfa_shortcuts.specs.Shortcuts.{AreShortcuts}
use Rattle.dfa_shortcuts.proofs.EntryRows.{HaveRows-entries}
use Rattle.dfa_shortcuts.proofs.LongerShortcuts.{AreShortcuts-none}
use Rattle.dfa_shortcuts.proofs.Shortcuts.of.Goals.{After-lengthen_all}
use Rattle.dfa_shortcuts.proofs.Shortcuts.of.Goals as goal

-- the row of each entry has its entries in the list
pub lengthen_all-requires-clause-rows : goal.lengthen_all-requires-clause-rows
lengthen_all-requires-clause-rows c =
    HaveRows-entries c.args.automaton.now c.entries-from.result.now c.rows.ensures.automaton c.entries-from.ensures

-- at first the shortcuts have the entries of the automaton
same_entries : (c : After-lengthen_all) → c.deref_mut.result.now ≡ c.entries-from.result.now
same_entries c = c.deref_mut.ensures.value ∙ c.in_ok-extend_from_slice.ensures.items
    ∙ ap (λ xs. xs ++ c.entries-from.result.now) c.in_ok-entries.ensures.items

-- and pass over nothing
none_passed : (c : After-lengthen_all) → c.deref_mut-2.result.now ≡ replicate (length c.entries-from.result.now) 0
none_passed c =
    let n : ℕ = length c.entries-from.result.now in
    let none : ℕ = vec_len c.new-passed.result in
    c.deref_mut-2.ensures.value ∙ c.in_ok-resize.ensures.items
    ∙ ap (λ (xs : List ℕ). take n xs ++ replicate (n - none) 0) c.new-passed.ensures.items
    ∙ ap (λ (xs : List ℕ). xs ++ replicate (n - none) 0) (take-nil n)
    ∙ ap (λ k. replicate k 0) (let all : n - none ≡ n = omega (arith, c.new-passed.ensures.len) in all)

-- so they are shortcuts, and so is what they become
become : (c : After-lengthen_all)
    → AreShortcuts c.args.automaton.now c.lengthen_all.new.entries c.lengthen_all.new.passed
become c =
    let rows = c.args.automaton.now in
    let from : List ℕ = c.entries-from.result.now in
    c.lengthen_all.ensures.shortcuts rows c.entries-from.ensures
    (subst (λ es. AreShortcuts rows es c.deref_mut-2.result.now) (sym (same_entries c))
    (subst (AreShortcuts rows from) (sym (none_passed c)) (AreShortcuts-none rows from c.entries-from.ensures)))

-- the first vector has their entries
entries_written : (c : After-lengthen_all) → take c.extend_from_slice.new.self.len (c.lengthen_all.new.entries
    ++ drop (length c.lengthen_all.new.entries) c.extend_from_slice.new.self.items) ≡ c.lengthen_all.new.entries
entries_written c = written_whole c.extend_from_slice.new.self.len c.lengthen_all.new.entries _ (omega (
  arith,
  c.lengthen_all.ensures.entries,
  ap length c.deref_mut.ensures.value,
  ap length (same_entries c),
  c.extend_from_slice.new.self.ok.0,
))

-- and the second one how many letters each of them passes over
passed_written : (c : After-lengthen_all) → take c.resize.new.self.len (c.lengthen_all.new.passed
    ++ drop (length c.lengthen_all.new.passed) c.resize.new.self.items) ≡ c.lengthen_all.new.passed
passed_written c = written_whole c.resize.new.self.len c.lengthen_all.new.passed _ (omega (
  arith,
  c.lengthen_all.ensures.passed,
  ap length c.deref_mut-2.ensures.value,
  ap length (none_passed c),
  length-replicate {A = ℕ} (length c.entries-from.result.now) 0,
  c.resize.new.self.ok.0,
))

-- the shortcuts that they become are those of the two vectors
pub returns-clause-shortcuts : goal.returns-clause-shortcuts
returns-clause-shortcuts c =
    let at = (goal.at.returns-clause-shortcuts c).After-lengthen_all in
    subst (λ es. AreShortcuts c.args.automaton.now es (take c.resize.new.self.len (c.lengthen_all.new.passed
    ++ drop (length c.lengthen_all.new.passed) c.resize.new.self.items))) (sym (entries_written at))
    (subst (AreShortcuts c.args.automaton.now c.lengthen_all.new.entries) (sym (passed_written at)) (become at))
