-- The bytes of a reply, after the GTP version 2 draft. An empty result has no blank before it.
use Rattle.std.specs.Prelude.{ℕ, List, [], ◌∷◌, ◌++◌, Option, None, Some, codes, decimal}
use Rattle.gtp_cmd.specs.declared.refusals.RefuseText.{RefuseText}
use Rattle.gtp_cmd.specs.declared.refusals.RefuseText.TheVariants.{UnknownCommand, SyntaxError, LineTooLong}
use Rattle.gtp_cmd.specs.declared.refusals.RefuseText.TheVariants.{UnacceptableSize, IllegalMove, HistoryFull}
use Rattle.gtp_cmd.specs.declared.refusals.RefuseText.TheVariants.{CannotUndo, VertexEmpty, OutOfMemory}
use Rattle.gtp_cmd.specs.declared.refusals.RefuseText.TheVariants.{CannotLoadFile, BadSgf, ProofTooLong, ColoursDiffer}
use Rattle.gtp_cmd.specs.declared.refusals.RefuseText.TheVariants.{NoSuchHelper}

-- the printed id, if there is one
abbrev pub id_text : Option ℕ → List ℕ
id_text None = []
id_text (Some id) = decimal id

-- a blank and the result, or nothing if the result is empty
abbrev pub after_blank : List ℕ → List ℕ
after_blank [] = []
after_blank (b ∷ bs) = codes " " ++ b ∷ bs

-- the two line feeds that end each reply
abbrev pub reply_end : List ℕ
reply_end = codes "\n\n"

-- a success: `=`, the id if there is one, a blank and the result if it is not empty, two line feeds
abbrev pub success_text : Option ℕ → List ℕ → List ℕ
success_text id text = codes "=" ++ id_text id ++ after_blank text ++ reply_end

-- what a refusal says
abbrev pub text_of : RefuseText → List ℕ
text_of UnknownCommand = codes "unknown command"
text_of SyntaxError = codes "syntax error"
text_of LineTooLong = codes "line too long"
text_of UnacceptableSize = codes "unacceptable size"
text_of IllegalMove = codes "illegal move"
text_of HistoryFull = codes "history full"
text_of CannotUndo = codes "cannot undo"
text_of VertexEmpty = codes "vertex must not be empty"
text_of OutOfMemory = codes "out of memory"
text_of CannotLoadFile = codes "cannot load file"
text_of (BadSgf kind) = codes "bad sgf kind " ++ decimal kind
text_of ProofTooLong = codes "proof too long"
text_of ColoursDiffer = codes "colours differ"
text_of NoSuchHelper = codes "no such helper"

-- a refusal: `?`, the id if there is one, a blank, what the refusal says, two line feeds
abbrev pub refusal_text : Option ℕ → RefuseText → List ℕ
refusal_text id refusal = codes "?" ++ id_text id ++ codes " " ++ text_of refusal ++ reply_end
