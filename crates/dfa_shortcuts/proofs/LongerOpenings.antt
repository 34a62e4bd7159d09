-- The entries behind openings, one letter after the other.
use Rattle.std.proofs.Common.{◌≡◌, ◌≢◌, ℕ, ◌+◌, ◌*◌, ◌/◌, ◌%◌, ◌^◌, ◌<◌, Bool, true, false, eqb, if◌then◌else◌}
use Rattle.std.proofs.Common.{List, [], ◌∷◌, ◌++◌, length, take, get_or, refl, sym, ap, ◌∙◌, subst, arith, inl, inr}
use Rattle.std.proofs.Math.Nat.{pow-succ'}
use Rattle.std.proofs.Math.Numerals.{add-one}
use Rattle.std.proofs.lemmas.Bool.{cases_lt, eqb-false}
use Rattle.std.proofs.lemmas.List.{get_or_default, get_or_past, get_or-take, length-take-le, length-append}
use Rattle.std.proofs.lemmas.List.Elements.{All-take}
use Rattle.dfa_core.specs.declared.automaton.Seen.{Seen}
use Rattle.dfa_core.specs.Automata.{Row, step_at, reach, accepted, IsAutomaton}
use Rattle.dfa_core.specs.Entries.{entry_with, row_of, AreEntries}
use Rattle.dfa_core.specs.RowKinds.{kind_at}
use Rattle.dfa_core.specs.Words.{Word, letter_number}
use Rattle.dfa_core.proofs.Walks.{reach_from-push}
use Rattle.dfa_core.proofs.Entries.{row_of-entry, letter_below}
use Rattle.dfa_shortcuts.specs.Shortcuts.{is_accepting_entry, IsOfRow, HaveRows}
use Rattle.dfa_shortcuts.specs.Openings.{unknown, word_number, IsBehind, AreBehind}
use Rattle.dfa_shortcuts.specs.Openings.{silent_entry, entry_behind, AreLonger, KnownHaveRows}
use Rattle.dfa_shortcuts.proofs.EntryRows.{silent_row}
use Rattle.dfa_shortcuts.proofs.Words.{split_last, split_prefix, number_from-push}

-- an unknown entry stands behind every word, as it says nothing of it
IsBehind-unknown : (rows : List Row) (w : Word) (entry : ℕ) → entry ≡ unknown → IsBehind rows w entry
IsBehind-unknown rows w entry none = record {
  to = λ known. absurd (known none);
  silent = λ known v u is long. absurd (known none);
}

-- an entry that stays known is as it was, and not that of a row that accepts something
known_silent : (entry : ℕ) → silent_entry entry ≢ unknown
    → (silent_entry entry ≡ entry) × (is_accepting_entry entry ≡ false)
known_silent entry = by (is_accepting_entry entry)
  where
    by : (accepting : Bool) → (if accepting then unknown else entry) ≢ unknown
        → ((if accepting then unknown else entry) ≡ entry) × (accepting ≡ false)
    by true known = absurd (known refl)
    by false known = (refl, refl)

-- where the entry behind a letter is known, so is the one before it
known_before : (entries : List ℕ) (entry letter : ℕ) → entry_behind entries entry letter ≢ unknown
    → (entry ≢ unknown) × (entry_behind entries entry letter
    ≡ silent_entry (get_or entries (4 * row_of entry + letter) 0))
known_before entries entry letter known =
    let other : eqb entry unknown ≡ false = by (eqb entry unknown) known in (
      eqb-false entry unknown other,
      ap behind other,
    )
  where
    behind : Bool → ℕ
    behind same = if same then unknown else silent_entry (get_or entries (4 * row_of entry + letter) 0)

    by : (same : Bool) → behind same ≢ unknown → same ≡ false
    by true some = absurd (some refl)
    by false some = refl

-- what is behind a word and one letter more is the entry behind the letter
IsBehind-more : (rows : List Row) (entries : List ℕ) (w : Word) (x : Seen) (entry : ℕ) → AreEntries rows entries
    → (entry ≢ unknown → IsOfRow entries entry) → IsBehind rows w entry
    → IsBehind rows (w ++ x ∷ []) (entry_behind entries entry (letter_number x))
unfolding accepted
IsBehind-more rows entries w x entry are inside behind = record {
  to = λ known. (next known).0 ∙ (next known).1;
  silent = λ known v u is long. elim (split_prefix w x v u is) [
    | inl all ↦ ap (accepted rows) all ∙ silent_row rows (reach rows (w ++ x ∷ []))
        (ap is_accepting_entry (sym (next known).1) ∙ (next known).2)
    | inr some ↦ behind.silent (known_before entries entry (letter_number x) known).0 v some.0 some.1 long
  ];
}
  where
    target : ℕ
    target = get_or entries (4 * row_of entry + letter_number x) 0

    next : entry_behind entries entry (letter_number x) ≢ unknown
        → (entry_behind entries entry (letter_number x) ≡ target)
        × (target ≡ entry_with (kind_at rows (reach rows (w ++ x ∷ []))) (reach rows (w ++ x ∷ [])))
        × (is_accepting_entry target ≡ false)
    next known =
        let before = known_before entries entry (letter_number x) known in
        let silent = known_silent target (subst (λ e. e ≢ unknown) before.1 known) in
        let row : row_of entry ≡ reach rows w =
        ap row_of (behind.to before.0) ∙ row_of-entry (kind_at rows (reach rows w)) (reach rows w) in
        let on : reach rows (w ++ x ∷ []) ≡ step_at rows (row_of entry) x =
        reach_from-push rows 0 w x ∙ ap (λ q. step_at rows q x) (sym row) in (
          before.1 ∙ silent.0,
          are.each (row_of entry) x (omega (arith, inside before.0, are.many))
              ∙ ap (λ q. entry_with (kind_at rows q) q) (sym on),
          silent.1,
        )

-- the first four entries are those behind the words of one letter
pub AreBehind-first : (rows : List Row) (entries : List ℕ) → IsAutomaton rows → AreEntries rows entries
    → AreBehind rows 1 (take 4 entries)
AreBehind-first rows entries good are = record {
  all = length-take-le 4 entries (omega (arith, good.start, are.many));
  each = each;
}
  where
    each : (w : Word) → length w ≡ 1 → IsBehind rows w (get_or (take 4 entries) (word_number w) unknown)
    each [] long = absurd (omega (arith, long))
    each (x ∷ []) long = record {
      to = λ known. get_or-take 4 entries (4 * 0 + letter_number x) unknown (omega (arith, letter_below x))
          ∙ get_or_default entries (4 * 0 + letter_number x) unknown 0
          (omega (arith, good.start, are.many, letter_below x)) ∙ are.each 0 x good.start;
      silent = λ known v u is longer. absurd (omega (arith, longer, ap length is, length-append v u));
    }
    each (x ∷ y ∷ w) long = absurd (omega (arith, long))

-- the rows of the first four entries have their entries in the list
pub KnownHaveRows-first : (entries : List ℕ) → HaveRows entries → KnownHaveRows entries (take 4 entries)
KnownHaveRows-first entries have i d low known = All-take (IsOfRow entries) 4 entries have i d low

module _ (entries shorter longer : List ℕ) (are_longer : AreLonger entries shorter (4 * length shorter) longer) where
  -- the longer list has the entries behind the words that have one letter more
  pub AreBehind-more : (rows : List Row) (n : ℕ) → AreEntries rows entries → KnownHaveRows entries shorter
      → AreBehind rows n shorter → AreBehind rows (n + 1) longer
  AreBehind-more rows n are have behind = record {
    all = are_longer.many ∙ ap (λ m. 4 * m) behind.all ∙ power n;
    each = each;
  }
    where
      power : (m : ℕ) → 4 * 4 ^ m ≡ 4 ^ (m + 1)
      power m = sym (pow-succ' 4 m) ∙ ap (λ k. 4 ^ k) (sym (add-one m))

      each : (w : Word) → length w ≡ n + 1 → IsBehind rows w (get_or longer (word_number w) unknown)
      each w long =
          let parts = split_last w n (omega (arith, long)) in
          let i : ℕ = word_number parts.0 in
          let place : word_number w ≡ 4 * i + letter_number parts.1 =
          ap word_number parts.3 ∙ number_from-push 0 parts.0 parts.1 in
          elim (cases_lt i (length shorter)) [
            | inl low ↦
                let entry : get_or longer (word_number w) unknown
                ≡ entry_behind entries (get_or shorter i unknown) (letter_number parts.1) =
                ap (λ k. get_or longer k unknown) place ∙ are_longer.each i (letter_number parts.1)
                (letter_below parts.1) (omega (arith, low, letter_below parts.1)) in
                subst (λ v. IsBehind rows v (get_or longer (word_number w) unknown)) (sym parts.3)
                (subst (IsBehind rows (parts.0 ++ parts.1 ∷ [])) (sym entry)
                (IsBehind-more rows entries parts.0 parts.1 (get_or shorter i unknown) are (have i unknown low)
                (behind.each parts.0 parts.2)))
            | inr past ↦ IsBehind-unknown rows w (get_or longer (word_number w) unknown)
                (get_or_past longer (word_number w) unknown (omega (arith, place, past, are_longer.many)))
          ]

  -- the rows of the entries behind one letter more have their entries in the list
  pub KnownHaveRows-more : HaveRows entries → KnownHaveRows entries shorter → KnownHaveRows entries longer
  KnownHaveRows-more have known_have j d low known =
      let i : ℕ = j / 4 in
      let letter : ℕ = j % 4 in
      let here : 4 * i + letter ≡ j = omega arith in
      let inside : i < length shorter = omega (arith, low, are_longer.many) in
      let entry : ℕ = get_or shorter i unknown in
      let next : ℕ = get_or entries (4 * row_of entry + letter) 0 in
      let is : get_or longer j d ≡ entry_behind entries entry letter =
      get_or_default longer j d unknown low ∙ ap (λ k. get_or longer k unknown) (sym here)
      ∙ are_longer.each i letter (omega arith) (omega (arith, inside)) in
      let before = known_before entries entry letter (subst (λ e. e ≢ unknown) is known) in
      let silent = known_silent next (subst (λ e. e ≢ unknown) (is ∙ before.1) known) in
      subst (IsOfRow entries) (sym (is ∙ before.1 ∙ silent.0))
      (have (4 * row_of entry + letter) 0
      (omega (arith, known_have i unknown inside before.0)))
