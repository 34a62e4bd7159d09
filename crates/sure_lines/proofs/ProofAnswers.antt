-- What is answered to the commands about proofs.
use Rattle.std.proofs.Common.{◌≡◌, ◌↔◌, ℕ, ◌+◌, ◌-◌, ◌<◌, Bool, true, false, cond, List, [], ◌∷◌, take, drop, Option}
use Rattle.std.proofs.Common.{Some, None, IsTrue, refl, sym, ap, ◌∙◌, arith, zero, suc}
use Rattle.std.proofs.lemmas.List.{drop-take, drop-drop}
use Rattle.go_rules.specs.Strings.{cell_at, is_stone}
use Rattle.gtp_cmd.specs.Spans.{spanned, span_between}
use Rattle.gtp_cmd.specs.Words.{cleaned}
use Rattle.gtp_cmd.specs.declared.spans.Span.{Span}
use Rattle.gtp_cmd.specs.declared.refusals.RefuseText.TheVariants.{VertexEmpty}
use Rattle.read_proof.specs.Tokens.{Word}
use Rattle.read_rules.specs.declared.question.Kind.{Kind}
use Rattle.sure_lines.specs.Answers.{IsAnswer}
use Rattle.sure_lines.specs.Effects.{Effect, refused}
use Rattle.sure_lines.specs.Files.{Contents, IsFileOf, named_file, by_file, word_at}
use Rattle.sure_lines.specs.Machine.{Machine, present}
use Rattle.sure_lines.specs.ProofCommands.{is_whole, judged, judged_by, checked_by, names_file, name_behind, proof_name}
use Rattle.sure_lines.specs.ProofCommands.{proof_in}
use Rattle.sure_lines.specs.declared.answer.Answer.{Answer}
use Rattle.sure_lines.specs.declared.answer.Answer.TheVariants as answer
use Rattle.sure_lines.proofs.FileAnswers.{some_file}

-- a test that is true exactly if words are left and none of them stands there is that test
pub is_whole-test : (yes : Bool) (left : Option (List Word)) → (IsTrue yes ↔ (left ≡ Some [])) → yes ≡ is_whole left
is_whole-test true None is = absurd (let same = is.0 refl in cc)
is_whole-test false None is = refl
is_whole-test true (Some []) is = refl
is_whole-test false (Some []) is = absurd (let same = is.1 refl in cc)
is_whole-test true (Some (word ∷ more)) is = absurd (let same = is.0 refl in cc)
is_whole-test false (Some (word ∷ more)) is = refl

-- the text of a part of a line without its first byte is the text of the part, without its first byte
spanned-behind : (line : List ℕ) (span : Span) → span.from < span.to
    → spanned line (span_between (span.from + 1) span.to) ≡ drop 1 (spanned line span)
spanned-behind line span some =
    let left : ℕ = span.to - (span.from + 1) in
    let all : 1 + left ≡ span.to - span.from = omega (arith, some) in
    ap (take left) (sym (drop-drop 1 span.from line)) ∙ sym (drop-take 1 left (drop span.from line))
    ∙ ap (λ n. drop 1 (take n (drop span.from line))) all

-- the word behind the first byte of a part of a line is the name that the text of the part has behind its first byte
pub word-behind : (line : List ℕ) (span : Span) → span.from < span.to
    → word_at line (span_between (span.from + 1) span.to) ≡ name_behind (spanned line span)
word-behind line span some = ap cleaned (spanned-behind line span some)

-- so many first bytes that name a file are some
front-some : (n : ℕ) (text : List ℕ) → names_file (take n text) ≡ true → 0 < n
front-some zero text names = absurd (let same = names in cc)
front-some (suc n) text names = omega arith

-- a part of a line that names a file has a byte
pub named-some : (line : List ℕ) (span : Span) → names_file (spanned line span) ≡ true → span.from < span.to
named-some line span names = omega (arith, front-some (span.to - span.from) (drop span.from line) names)

-- What is answered if a proof is checked.
module _ (contents : Contents) (machine : Machine) (p code : ℕ) (text : List ℕ) (said : Answer) where
  -- the answer is one to the check of this kind of question, with some text that is the text of the file that is named
  abbrev pub IsChecked : Kind → Type 0
  IsChecked kind = (file : List ℕ) × IsFileOf contents (proof_name text) file
      × IsAnswer (checked_by machine kind p code text file) said machine machine

  -- the effect of the check, if a stone stands at the point or not
  abbrev of_point : Kind → List ℕ → Bool → Effect
  of_point kind file b = cond b (judged_by machine kind p code text file) (refused machine VertexEmpty)

  -- the effect of the check of a stone, if the text names a file or not
  abbrev of_text : Kind → List ℕ → Bool → Effect
  of_text kind file b = cond b (by_file machine (name_behind text) (judged machine kind p code (proof_in file)))
      (judged machine kind p code text)

  -- at an empty point the check is refused
  pub empty-checked : (kind : Kind) → is_stone (cell_at (present machine).cells p) ≡ false
      → said ≡ answer.Refused VertexEmpty → IsChecked kind
  empty-checked kind empty is = grind (arith, some_file contents (proof_name text))

  module _ (kind : Kind) (stone : is_stone (cell_at (present machine).cells p) ≡ true) where
    -- if they name a file, the words of the file are judged
    pub file-checked : names_file text ≡ true → (name : List ℕ) → name ≡ name_behind text
        → (file : List ℕ) × IsFileOf contents (named_file name) file
        × IsAnswer (by_file machine name (judged machine kind p code (proof_in file))) said machine machine
        → IsChecked kind
    file-checked names name same is = grind arith
