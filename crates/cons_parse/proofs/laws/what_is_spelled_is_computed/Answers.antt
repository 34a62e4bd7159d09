-- What a text spells is what is computed.
use Rattle.cons_parse.proofs.ReadingLemmas.{is_found, is_spelled}
use Rattle.cons_parse.proofs.laws.what_is_spelled_is_computed.Goals as goal

-- what is spelled is found
pub returns-clause-found : goal.returns-clause-found
returns-clause-found c text w h = is_found text w h

-- what is found is spelled
pub returns-clause-spelled : goal.returns-clause-spelled
returns-clause-spelled c text w h = is_spelled text w h
