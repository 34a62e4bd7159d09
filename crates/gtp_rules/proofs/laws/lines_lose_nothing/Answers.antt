-- A text that is cut into lines can be joined again.
use Rattle.std.proofs.lemmas.List.Splits.{join_with_byte-slice_split}
use Rattle.gtp_rules.specs.Lines.{line_feed}
use Rattle.gtp_rules.proofs.LineLemmas.{texts_of-rest_of}
use Rattle.gtp_rules.proofs.laws.lines_lose_nothing.Goals as goal

-- a list that is cut at each line feed is given back when it is joined by them
pub returns-clause-joined : goal.returns-clause-joined
returns-clause-joined c = join_with_byte-slice_split line_feed

-- the bytes behind the last line feed are the last of the texts
pub returns-clause-rest_is_last : goal.returns-clause-rest_is_last
returns-clause-rest_is_last c = texts_of-rest_of
