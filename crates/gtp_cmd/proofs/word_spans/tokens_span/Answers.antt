-- Four words are left out two by two.
use Rattle.std.proofs.Common.{arith}
use Rattle.std.proofs.lemmas.List.{drop-drop}
use Rattle.gtp_cmd.proofs.word_spans.tokens_span.Goals as goal

-- these are the name and the three words behind it
pub returns : goal.returns
returns c = grind (arith, drop-drop)
