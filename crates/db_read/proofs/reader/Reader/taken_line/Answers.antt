use Rattle.std.proofs.Common.{◌≡◌, ◌∙◌, refl, sym, ap, subst, None, length}
use Rattle.std.specs.Prelude.{slice_index}
use Rattle.std.proofs.lemmas.Result.{on_ok_weaker, IfErr-weaker}
use Rattle.db_lex.specs.declared.line.LineKind.TheVariants.{Pattern, Action}
use Rattle.db_rules.specs.declared.stage.Stage.TheVariants.{Diagram, Expression, Actions}
use Rattle.db_rules.specs.declared.stage.TableCell.TheVariants.{Next}
use Rattle.db_rules.specs.Blocks.{placed, table, blocks_of}
use Rattle.db_rules.specs.Faults.{own_fault, pattern_fault}
use Rattle.db_rules.specs.Faults.{Blames}
use Rattle.db_read.specs.Reading.{Shows}
use Rattle.db_rules.proofs.TableLemmas.{pattern_next}
use Rattle.db_read.proofs.LineLemmas.{action_next, action_no_semicolon}
use Rattle.db_read.proofs.reader.Reader.taken_line.Goals as goal

-- a Pattern line begins an entry, and the table leads to its main diagram
pub returns-in-Pattern-clause-ok : goal.returns-in-Pattern-clause-ok
returns-in-Pattern-clause-ok c = on_ok_weaker c.pattern_line.result (λ reads s k number e cell h.
    let next : c.args.stage ≡ Diagram =
    pattern_next s.stage c.args.stage (slice_index c.args.line.now 0)
    (ap (λ t. table s.stage t (slice_index c.args.line.now 0)) (sym c.in-Pattern.is) ∙ cell) in
    let read = reads s k e h in
    subst (λ t. (own_fault c.args.helpers.now s k t ≡ None)
    × Shows c.pattern_line.new.self (placed k c.args.stage s t)) (sym c.in-Pattern.is) (
      ap (pattern_fault (length (blocks_of s))) e
          ∙ read.0,
      subst (λ t. Shows c.pattern_line.new.self (placed k t s Pattern))
          (sym next) read.1,
    )) c.pattern_line.ensures.ok

-- a line of another kind is read as one of the diagram that the table leads to
pub returns-in-Other-clause-ok : goal.returns-in-Other-clause-ok
returns-in-Other-clause-ok c = on_ok_weaker c.other_line.result (λ reads s k number e cell h.
    subst (λ t. (own_fault c.args.helpers.now s k t ≡ None)
    × Shows c.other_line.new.self (placed k c.args.stage s t)) (sym c.in-Other.is)
    (reads c.args.helpers.now s k e (ap (λ t. table s.stage t (slice_index c.args.line.now 0)) (sym c.in-Other.is)
    ∙ cell) h)) c.other_line.ensures.ok

-- its fault is that of a line of that diagram
pub returns-in-Other-clause-err : goal.returns-in-Other-clause-err
returns-in-Other-clause-err c = IfErr-weaker c.other_line.result _ _ (λ err reads s k number e cell h.
    subst (λ t. Blames err (own_fault c.args.helpers.now s k t)) (sym c.in-Other.is)
    (reads c.args.helpers.now s k e (ap (λ t. table s.stage t (slice_index c.args.line.now 0)) (sym c.in-Other.is)
    ∙ cell) h)) c.other_line.ensures.err

-- an action line leaves no expression open, and is passed over
pub returns-in-Action-clause-ok : goal.returns-in-Action-clause-ok
returns-in-Action-clause-ok c = λ s k number e cell h.
    let byte = slice_index c.args.line.now 0 in
    let by_table : table s.stage Action byte ≡ Next c.args.stage =
    ap (λ t. table s.stage t byte) (sym c.in-Action.is) ∙ cell in
    let next : c.args.stage ≡ Actions = action_next s.stage c.args.stage byte by_table in
    let left : s.stage ≡ Expression → ⊥ =
    λ there. action_no_semicolon (sym c.in-Action.is ∙ c.requires.taking.settled (h.stage ∙ there)) in
    let shows : Shows c.action_line.new.self (placed k Actions s Action) =
    c.action_line.ensures byte s k (by_table ∙ ap Next next) left h in
    subst (λ t. (own_fault c.args.helpers.now s k t ≡ None)
    × Shows c.action_line.new.self (placed k c.args.stage s t)) (sym c.in-Action.is)
    (refl, subst (λ t. Shows c.action_line.new.self (placed k t s Action)) (sym next) shows)
