-- Each line of a text without a fault goes to its place in a whole block; and whole blocks are read without a fault.
use Rattle.db_rules.proofs.BlockTexts.{faultless_is_database}
use Rattle.db_rules.proofs.WholeBlocks.{database_is_read}
use Rattle.db_rules.proofs.laws.databases_have_no_fault.Goals as goal

-- a text has no fault exactly if it is a database
pub returns : goal.returns
returns c = λ helpers text. (faultless_is_database helpers text, λ d. (database_is_read helpers text d).faultless)
