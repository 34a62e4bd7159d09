-- Two words are left out one by one.
use Rattle.std.proofs.Common.{arith}
use Rattle.std.proofs.lemmas.List.{drop-drop}
use Rattle.gtp_cmd.proofs.word_spans.behind_two.Goals as goal

-- the second is the first of the words behind the first
pub returns-clause-spans : goal.returns-clause-spans
returns-clause-spans c = grind (arith, drop-drop)
