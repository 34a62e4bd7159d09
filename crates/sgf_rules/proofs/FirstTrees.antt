-- The first tree of a text is the one whose tokens its computed tokens begin with.
use Rattle.std.proofs.Common.{◌≡◌, ℕ, suc, ◌+◌, true, false, List, [], ◌∷◌, ◌++◌, take, refl}
use Rattle.std.proofs.Common.{arith, inl, inr, append_assoc}
use Rattle.std.proofs.lemmas.Bool.{cases_Bool, and_parts}
use Rattle.std.proofs.lemmas.Bool.Decides.{nat_tests}
use Rattle.std.proofs.lemmas.List.{take-append-drop}
use Rattle.std.specs.List.{list_all, list_any, position_or_len}
use Rattle.sgf_rules.specs.Tokens.{is_blank, is_open_byte, Token, tokens_of, record_tokens}
use Rattle.sgf_rules.specs.Trees.{Tree, tree, spelled_tree}
use Rattle.sgf_rules.specs.Written.{WritesAll, IsFirstTree}
use Rattle.sgf_rules.proofs.CutTokens.{blanks_step}
use Rattle.sgf_rules.proofs.WrittenTexts.{tree_sound, tokens_read, tokens_written}

-- before the first `(` nothing is read
front_passed : (before text : List ℕ) → list_any is_open_byte before ≡ false
    → record_tokens (before ++ text) ≡ record_tokens text
front_passed [] text e = refl
front_passed (b ∷ bs) text e = elim (cases_Bool (is_open_byte b)) [
  | inl f ↦ let other : list_any is_open_byte (b ∷ bs) ≡ true = rw f refl in absurd (cc (other, e))
  | inr f ↦
      let rest : list_any is_open_byte bs ≡ false = rw f at e in
      let n : ℕ = position_or_len is_open_byte (bs ++ text) in
      let one : 1 + n ≡ suc n = omega arith in
      rw (f, one) (front_passed bs text rest)
]

-- a blank is no `(`
blank_no_open : (b : ℕ) → is_blank b ≡ true → is_open_byte b ≡ false
blank_no_open b e = grind (arith, nat_tests)

-- nor are blanks
blanks_no_open : (blanks : List ℕ) → list_all is_blank blanks ≡ true → list_any is_open_byte blanks ≡ false
blanks_no_open [] e = refl
blanks_no_open (b ∷ bs) e = grind (arith, and_parts, blank_no_open, blanks_no_open bs)

-- in bytes that write a tree the first `(` is the tree's
pub tree_opens : (t : Tree) (written rest : List ℕ) → WritesAll written (spelled_tree t)
    → record_tokens (written ++ rest) ≡ tokens_of (written ++ rest)
tree_opens (tree n ns us) written rest w = grind (arith, append_assoc, front_passed, blanks_no_open, blanks_step)

-- the computed tokens begin with those of the first tree
pub first_tree_read : (text : List ℕ) (t : Tree) (f : IsFirstTree text t)
    → record_tokens text ≡ spelled_tree t ++ tokens_of f.rest
first_tree_read text t f = grind (arith, front_passed, tree_opens, tokens_read, tree_sound)

-- no byte before the first `(` is one
before_open : (text : List ℕ) → list_any is_open_byte (take (position_or_len is_open_byte text) text) ≡ false
before_open [] = refl
before_open (b ∷ bs) = elim (cases_Bool (is_open_byte b)) [
  | inl e ↦ rw e refl
  | inr e ↦
      let n : ℕ = position_or_len is_open_byte bs in
      let one : 1 + n ≡ suc n = omega arith in
      rw (e, one, e) (before_open bs)
]

-- a tree with whose tokens the computed ones begin is the first
pub first_tree_written : (text : List ℕ) (t : Tree) (later : List Token)
    → record_tokens text ≡ spelled_tree t ++ later → IsFirstTree text t
first_tree_written text t later e =
    grind (arith, tokens_written (spelled_tree t), tree_sound t, before_open text, take-append-drop)
