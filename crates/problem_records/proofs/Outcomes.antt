-- What comes of a record, step by step: of its line, of its first node, and of the position.
use Rattle.std.proofs.Common.{◌≡◌, ◌≢◌, ℕ, List, [], ◌∷◌, Option, Some, None, Result, Ok, Err, MatchResult}
use Rattle.std.proofs.Common.{sym, ap, subst, ◌∙◌, ◌⊎◌, inl, inr}
use Rattle.std.specs.Option.{unwrap_or}
use Rattle.std.proofs.lemmas.Result.{MatchResult-weaker}
use Rattle.go_rules.specs.declared.Cell.{Cell}
use Rattle.go_rules.specs.declared.Colour.{Colour}
use Rattle.go_rules.specs.Position.{BoardState}
use Rattle.read_rules.specs.declared.question.Kind.{Kind}
use Rattle.read_rules.specs.declared.depths.Depths.{Depths}
use Rattle.problem_verdicts.specs.declared.expected.Expected.{Expected}
use Rattle.problem_records.specs.Nodes.{Named}
use Rattle.problem_records.specs.Problems.{HasStone}
use Rattle.problem_records.specs.Lines.{words_of, asked_in_words, IsOfParts}
use Rattle.problem_records.specs.Marks.{marked_stones, player_of, asked_by_marks}
use Rattle.problem_records.specs.Asked.{line_in, asked, asked_by_line, IsOutcome}
use Rattle.problem_records.specs.Found.{IsInLine, IsInNode, IsOfLine}
use Rattle.problem_records.specs.declared.lack.Lack.{Lack}
use Rattle.problem_records.specs.declared.lack.Lack.TheVariants as lack
use Rattle.problem_records.specs.declared.lack.ProblemError.{ProblemError}
use Rattle.problem_records.specs.declared.lack.ProblemError.TheVariants.{Lacks, NoMemory}
use Rattle.problem_records.specs.declared.line.Line.{Line}
use Rattle.problem_records.specs.declared.problem.Problem.{Problem}
use Rattle.problem_records.proofs.Stones.{first_is_stone}

-- a question that is asked or lacking, and what is said of each case
abbrev OnQuestion : Result (Kind × ℕ) Lack → (Kind × ℕ → Type 0) → Lack → Type 0
OnQuestion question P l = MatchResult question P (λ wanted. l ≡ wanted)

-- the point of a question that is asked
abbrev point_asked : Result (Kind × ℕ) Lack → ℕ
point_asked (Ok q) = q.1
point_asked (Err l) = 0

-- of a question that is asked, what is said of it
asking : (question : Result (Kind × ℕ) Lack) (P : Kind × ℕ → Type 0) (l : Lack) (q : Kind × ℕ) → question ≡ Ok q → P q
    → OnQuestion question P l
asking question P l q e h = subst (λ (r : Result (Kind × ℕ) Lack). OnQuestion r P l) (sym e) h

module _ (pos : BoardState) (vs : List Named) where
  -- a line counts, so its words ask
  asked_by_words : (text : List ℕ) → line_in vs ≡ Ok (Some text)
      → asked pos vs ≡ asked_in_words pos.size (words_of text)
  asked_by_words text e = ap (asked_by_line pos vs) e

  -- no line counts, so the marks ask
  asked_at_marks : line_in vs ≡ Ok None
      → asked pos vs ≡ asked_by_marks pos.cells (marked_stones pos vs) (player_of vs)
  asked_at_marks e = ap (asked_by_line pos vs) e

  -- a line that counts is not none
  some_line : (text : List ℕ) → line_in vs ≡ Ok (Some text) → line_in vs ≢ Ok None
  some_line text e none = absurd (cc)

  module _ (usual : Depths) where
    -- by the line
    pub by_line : (text : List ℕ) (r : Result Line ProblemError) → line_in vs ≡ Ok (Some text)
        → IsInLine pos.size text r → IsInNode pos vs usual r
    by_line text (Ok line) e h = (asked_by_words text e ∙ h, λ none. absurd (some_line text e none))
    by_line text (Err NoMemory) e h = tt
    by_line text (Err (Lacks l)) e h =
        subst (λ (q : Result (Kind × ℕ) Lack). OnQuestion q (λ _. (line_in vs ≢ Ok None) × IsOfParts l) l)
        (sym (asked_by_words text e))
        (MatchResult-weaker (asked_in_words pos.size (words_of text)) h (λ q p. (some_line text e, p)) (λ w p. p))

    -- what the first node lacks, the record lacks
    by_node_lack : (e : ProblemError) → IsInNode pos vs usual (Err e) → IsOutcome pos vs usual (Err e)
    by_node_lack NoMemory h = tt
    by_node_lack (Lacks l) h = MatchResult-weaker (asked pos vs) h (λ q p. (p.0, inl p.1)) (λ w p. p)

    -- what the first node lacks is told
    pub told_lack : (e : ProblemError) (r : Result Problem ProblemError) → r ≡ Err e
        → IsInNode pos vs usual (Err e) → IsOutcome pos vs usual r
    told_lack e r same h = subst (IsOutcome pos vs usual) (sym same) (by_node_lack e h)

    -- the stone of a question at the marks is the first of those that are marked
    of_marks : (cells : List Cell) (stones : List ℕ) (player : Option Colour) (k : Kind) (p : ℕ)
        → asked_by_marks cells stones player ≡ Ok (k, p) → (ps : List ℕ) × (stones ≡ p ∷ ps)
    of_marks cells [] player k p e = absurd (cc)
    of_marks cells (q ∷ []) None k p e = absurd (cc)
    of_marks cells (q ∷ []) (Some c) k p e = ([], ap (λ (r : Result (Kind × ℕ) Lack). point_asked r ∷ []) e)
    of_marks cells (q ∷ (r ∷ rs)) player k p e = absurd (cc)

    -- a question whose point has no stone is not one at the marks
    not_at_marks : (k : Kind) (p : ℕ) → asked pos vs ≡ Ok (k, p) → (HasStone pos p → ⊥) → line_in vs ≢ Ok None
    not_at_marks k p e empty none =
        let first = of_marks pos.cells (marked_stones pos vs) (player_of vs) k p (sym (asked_at_marks none) ∙ e) in
        empty (first_is_stone pos vs p first.0 first.1)

    -- the problem of the line, or no stone at its point
    pub by_position : (line : Line) (r : Result Problem ProblemError) → IsInNode pos vs usual (Ok line)
        → IsOfLine pos line usual r → IsOutcome pos vs usual r
    by_position line (Ok problem) h of = record {
      question = h.0
          ∙ (ap (λ (x : Kind). Ok (x, line.target)) (sym of.kind)
          ∙ ap (λ (x : ℕ). Ok (problem.kind, x)) (sym of.target));
      by_marks = λ none. record {
        depths_asked = of.depths ∙ ap (λ (d : Option Depths). unwrap_or d usual) (h.1 none).depths_asked;
        no_code = ap (λ (e : Expected). e.code) of.expected ∙ (h.1 none).no_code;
        no_others = ap (λ (e : Expected). e.only) of.expected ∙ (h.1 none).no_others;
      };
    }
    by_position line (Err NoMemory) h of = tt
    by_position line (Err (Lacks l)) h of =
        asking (asked pos vs)
        (λ q. (line_in vs ≢ Ok None) × (IsOfParts l ⊎ ((l ≡ lack.NoStone) × (HasStone pos q.1 → ⊥)))) l
        (line.kind, line.target) h.0
        (not_at_marks line.kind line.target h.0 of.1, inr (cc, of.1))
