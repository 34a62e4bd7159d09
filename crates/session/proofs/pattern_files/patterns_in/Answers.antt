-- A text without a fault has few entries, and its patterns are these.
use Rattle.db_rules.specs.Entries.{entry_of}
use Rattle.session.proofs.FewPatterns.{few_read}
use Rattle.session.proofs.pattern_files.patterns_in.Goals as goal

-- a text without a fault holds at most 4096 patterns
pub returns-clause-few : goal.returns-clause-few
returns-clause-few c = few_read (λ v. v.items) entry_of c.read.result c.args.known.now c.args.text.now c.read.ensures.ok
