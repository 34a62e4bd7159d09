use Rattle.std.proofs.Common.{◌∙◌, ◌+◌, sym, ap, arith, take, drop}
use Rattle.db_rules.specs.Colon.{split_at_commas}
use Rattle.db_entry.proofs.FieldLemmas.{with_fronts, split-some, split-goes, split-ends, split-whole}
use Rattle.db_entry.proofs.fields.field_len.Goals as goal

-- a text always has a first field, and before its first byte nothing of it is read
pub loop-i-init : goal.loop-i-init
loop-i-init c = (omega arith, split-some c.args.text.now)

-- a comma outside parentheses ends the field
pub returns-then-ends_field-clause-first : goal.returns-then-ends_field-clause-first
returns-then-ends_field-clause-first c =
    split-ends c.args.text.now c.loop-i.i c.loop-i.depth c.loop-i-test.true (sym c.ends_field.ensures
    ∙ c.if-ends_field.true) c.loop-i.invariant.1

-- any other byte is one more of the field
pub loop-i-preserved : goal.loop-i-preserved
loop-i-preserved c =
    let goes =
    split-goes c.args.text.now c.loop-i.i c.loop-i.depth c.loop-i-test.true (sym c.ends_field.ensures
    ∙ c.if-ends_field.false) c.loop-i.invariant.1 in (
      omega (arith, c.depth_after-depth.ensures.most),
      goes
          ∙ ap (λ d. with_fronts (take (c.loop-i.i + 1) c.args.text.now)
          (split_at_commas d (drop (c.loop-i.i + 1) c.args.text.now))) (sym c.depth_after-depth.ensures.value),
    )

-- without a comma outside parentheses the whole text is one field
pub returns-clause-first : goal.returns-clause-first
returns-clause-first c =
    split-whole c.args.text.now c.loop-i.i c.loop-i.depth (omega (arith, c.loop-i.auto.i-end)) c.loop-i.invariant.1
