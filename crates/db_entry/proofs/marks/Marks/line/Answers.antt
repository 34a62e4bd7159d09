use Rattle.go_rules.specs.Board.{largest_size}
use Rattle.std.proofs.Common.{◌≡◌, ◌<◌, ◌≤◌, ◌∙◌, ◌+◌, ◌++◌, true, false, List, length, map, subst, sym, ap, refl}
use Rattle.std.proofs.Common.{arith}
use Rattle.std.proofs.lemmas.List.{length-map}
use Rattle.std.specs.Prelude.{ℕ, is_some}
use Rattle.db_rules.specs.Diagram.{is_row, shape_of, bar}
use Rattle.db_rules.specs.Labels.{repeats, labels_of_line}
use Rattle.pat_types.specs.Labels.{are_apart}
use Rattle.pat_types.specs.Diagrams.{drawn_strip}
use Rattle.db_entry.proofs.LineLemmas.{is_some-where}
use Rattle.db_entry.proofs.LabelLemmas.{constraint_fault-past, kept_fault_at, kept_push, repeats-same}
use Rattle.db_entry.proofs.marks.Marks.line.Goals as goal
use Rattle.db_entry.proofs.marks.Marks.line.Goals.{After-are_apart}

-- without a main line there is a fault
pub returns-then-self-mains-clause-err : goal.returns-then-self-mains-clause-err
returns-then-self-mains-clause-err c = λ words s.
    constraint_fault-past (map (λ f. f.now) c.args.mains.now) words c.args.word.now
    (omega (arith, s.lines, length-map c.args.mains.now (λ f. f.now)))

-- a word that does not repeat its main line is a fault
pub returns-then-not-repeats-clause-err : goal.returns-then-not-repeats-clause-err
returns-then-not-repeats-clause-err c = λ words s.
    let fails : repeats c.word_at-main.result.now c.args.word.now ≡ false =
    sym c.repeats.ensures ∙ c.if-not-repeats.true in
    kept_fault_at c.args.self.now (map (λ f. f.now) c.args.mains.now) words c.args.word.now c.word_at-main.result.now s
    (omega (arith, length-map c.args.mains.now (λ f. f.now))) c.word_at-main.ensures
    ∙ rw fails refl

-- a word that repeats its main line is as long as that line
pub push_labels-requires-clause-same : goal.push_labels-requires-clause-same
push_labels-requires-clause-same c =
    repeats-same c.word_at-main.result.now c.args.word.now (sym c.repeats.ensures ∙ c.if-not-repeats.false)

-- a main line is no longer than the side of the largest board
pub push_labels-requires-clause-short : goal.push_labels-requires-clause-short
push_labels-requires-clause-short c = let short : length c.word_at-main.result.now ≤ largest_size =
    subst (λ (w : List ℕ). length w ≤ largest_size) (sym c.word_at-main.ensures)
    (c.requires.short c.args.self.now.lines) in omega arith

-- the word repeats its main line
same_line : (c : After-are_apart) → repeats c.word_at-main.result.now c.args.word.now ≡ true
same_line c = sym c.repeats.ensures ∙ c.if-not-repeats.false

-- the letters are apart exactly if those of the kept labels with the line's own are
all_apart : (c : After-are_apart) → c.are_apart.result
    ≡ are_apart (c.args.self.now.labels
    ++ labels_of_line c.args.self.now.rows c.word_at-main.result.now c.args.word.now)
all_apart c = c.are_apart.ensures ∙ ap are_apart (c.as_slice.ensures ∙ c.in-Ok.ensures)

-- two labels of one letter are a fault
pub returns-then-not-are_apart-clause-err : goal.returns-then-not-are_apart-clause-err
returns-then-not-are_apart-clause-err c = λ words s.
    let d = (goal.at.returns-then-not-are_apart-clause-err c).After-are_apart in
    kept_fault_at c.args.self.now (map (λ f. f.now) c.args.mains.now) words c.args.word.now c.word_at-main.result.now s
    (omega (arith, length-map c.args.mains.now (λ f. f.now))) c.word_at-main.ensures
    ∙ rw (same_line d, sym (all_apart d) ∙ c.if-not-are_apart.true) refl

-- a word that repeats its main line, with no letter labelled twice, is one more line
pub returns-clause-ok : goal.returns-clause-ok
returns-clause-ok c = λ words s.
    let d = (goal.at.returns-clause-ok c).After-are_apart in
    let m = c.args.self.now in
    let mains = map (λ f. f.now) c.args.mains.now in
    let main = c.word_at-main.result.now in
    let lt : m.lines < length mains = omega (arith, length-map c.args.mains.now (λ f. f.now)) in
    let row : c.is_some.result ≡ is_row main =
    c.is_some.ensures ∙ ap is_some c.row_shape.ensures ∙ is_some-where (is_row main) (shape_of bar main) in (
      kept_fault_at m mains words c.args.word.now main s lt c.word_at-main.ensures
          ∙ rw (same_line d, sym (all_apart d) ∙ c.if-not-are_apart.false) refl,
      kept_push m _ mains words c.args.word.now main s lt c.word_at-main.ensures refl
          (c.rows_after-self.ensures ∙ ap (λ b. m.rows + drawn_strip b) row) c.in-Ok.ensures,
    )
