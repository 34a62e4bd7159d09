use Rattle.std.proofs.Common.{◌≡◌, ◌∙◌, sym, subst, refl, ap, None, length}
use Rattle.db_rules.specs.Blocks.{blocks_of, begun_with}
use Rattle.db_read.specs.Drafts.{Drafts, IsComplete, IsUnjudged}
use Rattle.db_read.proofs.FinishLemmas.{complete_at_pattern_line}
use Rattle.db_rules.specs.Faults.{pattern_fault}
use Rattle.db_read.specs.Reading.{ReadsNow}
use Rattle.db_read.specs.declared.draft.Draft.{Draft}
use Rattle.db_read.proofs.ReaderLemmas.{pattern_ok}
use Rattle.db_read.proofs.reader.Reader.pattern_line.Goals as goal

-- the entry before is done, and the line begins one with its name
pub returns-clause-ok : goal.returns-clause-ok
returns-clause-ok c = λ s k e h.
    let r = c.args.self.now in
    let none : pattern_fault (length (blocks_of s)) c.args.line.now ≡ None =
    ap (λ n. pattern_fault n c.args.line.now) (sym h.count) ∙ sym c.in_default.ensures.value in
    let before : ReadsNow c.replace-before.result r.stage s.now =
    subst (λ (d : Draft). ReadsNow d r.stage s.now) (sym c.replace-before.ensures.value)
    (subst (λ t. ReadsNow r.draft t s.now) (sym h.stage) h.draft) in
    let begun : Drafts c.replace-before.new.dest (begun_with k) =
    subst (λ (d : Draft). Drafts d (begun_with k)) (sym c.replace-before.ensures.after)
    (c.in-Ok.ensures.begun k e) in
    let unjudged : IsUnjudged c.replace-before.new.dest =
    subst (λ (d : Draft). IsUnjudged d) (sym c.replace-before.ensures.after) c.in-Ok.ensures.unjudged in
    (none, pattern_ok r _ s k h refl refl begun unjudged (c.in-Ok-close.ensures s.now before))

-- the draft that the line ends is complete
pub close-requires : goal.close-requires
close-requires c = λ on.
    subst (λ (d : Draft). IsComplete d) (sym c.replace-before.ensures.value)
    (complete_at_pattern_line c.args.self.now _ c.requires on)
