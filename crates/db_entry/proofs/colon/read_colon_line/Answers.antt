-- The fields that are looked at have the fault of all of them, and are all if they have none.
use Rattle.std.proofs.Common.{◌≡◌, ◌∙◌, sym, ap, map, None, take}
use Rattle.std.specs.Prelude.{unwrap_or}
use Rattle.pat_types.specs.declared.mark.Mark.TheVariants.{Oh}
use Rattle.db_rules.specs.Colon.{fields_of, mark_of, class_field, class_letters, further, item_of, fields_fault}
use Rattle.db_entry.specs.Says.{most_fields}
use Rattle.db_entry.proofs.FewFields.{faults_of_few, few_are_all, mark_is_there}
use Rattle.db_entry.proofs.colon.read_colon_line.Goals as goal

-- the fault of the fields that are looked at is that of the colon line
pub returns-in-Some-clause-err : goal.returns-in-Some-clause-err
returns-in-Some-clause-err c = λ words draws.
    let all = fields_of c.args.line.now in
    let fields : map (λ f. f.now) c.as_slice-fields.result.now ≡ take most_fields all =
    ap (map (λ f. f.now)) c.as_slice-fields.ensures.value ∙ c.in_ok-fields.ensures in
    sym (faults_of_few c.args.helpers.now words all) ∙ ap (fields_fault c.args.helpers.now words) (sym fields)
    ∙ sym (c.fields_fault.ensures words draws) ∙ c.in-Some.is

-- fields without a fault have a mark, so it is never missed
pub returns-in-None-clause-err : goal.returns-in-None-clause-err
returns-in-None-clause-err c = λ words draws.
    let none : fields_fault c.args.helpers.now words (map (λ f. f.now) c.as_slice-fields.result.now) ≡ None =
    sym (c.fields_fault.ensures words draws) ∙ c.in_default.is in
    absurd (mark_is_there c.args.helpers.now words (map (λ f. f.now) c.as_slice-fields.result.now) none
    (sym c.mark_of.ensures ∙ c.in-None.is))

-- fields without a fault are all those of the line, and say what the line says
pub returns-clause-ok : goal.returns-clause-ok
returns-clause-ok c = λ words draws.
    let all = fields_of c.args.line.now in
    let helpers = c.args.helpers.now in
    let fields : map (λ f. f.now) c.as_slice-fields.result.now ≡ take most_fields all =
    ap (map (λ f. f.now)) c.as_slice-fields.ensures.value ∙ c.in_ok-fields.ensures in
    let none : fields_fault helpers words (take most_fields all) ≡ None =
    ap (fields_fault helpers words) (sym fields) ∙ sym (c.fields_fault.ensures words draws) ∙ c.in_default.is in
    let whole : map (λ f. f.now) c.as_slice-fields.result.now ≡ all = fields ∙ few_are_all helpers words all none in (
      sym (faults_of_few helpers words all) ∙ none,
      record {
        mark = ap (λ m. unwrap_or m Oh) (sym c.in-Some-mark_of.is ∙ c.mark_of.ensures ∙ ap mark_of whole);
        classes = c.in_ok-class_letters.ensures ∙ ap class_letters (c.class_field.ensures ∙ ap class_field whole);
        items = c.in_ok-items_of.ensures ∙ ap (map item_of) (c.further.ensures ∙ ap further whole);
      },
    )
