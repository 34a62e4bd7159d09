-- What the loader gives is the text of the file, and what it says else is an answer to the line.
use Rattle.std.proofs.Common.{inl, refl, arith}
use Rattle.sure_lines.proofs.FileAnswers.{text-is_utf8, given-file, loaded-anew, file-not-loaded}
use Rattle.sure_lines.proofs.files.load_file.Goals as goal

-- there was no memory for the name
pub returns-in_default-clause-answer : goal.returns-in_default-clause-answer
returns-in_default-clause-answer g c old effect = (inl refl, refl)

-- the loader gave the text of the file
pub returns-in-Ok-load-clause-text : goal.returns-in-Ok-load-clause-text
returns-in-Ok-load-clause-text g c = grind (arith, text-is_utf8, given-file, loaded-anew)

-- the file could not be loaded
pub returns-in-Err-Failed-clause-answer : goal.returns-in-Err-Failed-clause-answer
returns-in-Err-Failed-clause-answer g c old effect = grind (arith, text-is_utf8, file-not-loaded)

-- there was no memory for the text of the file
pub returns-clause-answer : goal.returns-clause-answer
returns-clause-answer g c old effect = (inl refl, refl)
