-- The answer says what the loader said of the file, and what its text is as a record.
use Rattle.std.proofs.Common.{◌≡◌, ◌++◌, true, [], sym, ap, subst, ◌∙◌, append-nil, arith}
use Rattle.std.specs.Prelude.{IsUtf8}
use Rattle.machine_rules.specs.Heard.{word_at}
use Rattle.machine_rules.specs.Loads.{named_load}
use Rattle.machine_rules.specs.RecordCommands.{is_utf8}
use Rattle.sgf_rules.specs.Game.{game_of}
use Rattle.machine_rules.proofs.Soundness.{some_file}
use Rattle.session_core.specs.EngineView.{machine_with}
use Rattle.session_core.proofs.RecordAnswers.{text-is_utf8, record-misses, given-file, miss-told}
use Rattle.session_core.proofs.RecordAnswers.{loaded-anew, record-loaded, file-not-loaded}
use Rattle.session_core.proofs.engine.Engine.load_record.Goals as goal

-- there was no memory for the word, whatever the file is
pub returns-in_default-clause-answer : goal.returns-in_default-clause-answer
returns-in_default-clause-answer g c =
    grind (arith, some_file (g.L.Loader.contents c.args.files.now) (named_load (word_at c.args.line.now c.args.span)))

-- the loader gave the file's text, and it was read as a record
pub returns-in-Ok-load-clause-answer : goal.returns-in-Ok-load-clause-answer
returns-in-Ok-load-clause-answer g c = grind (arith, text-is_utf8, loaded-anew, record-loaded, given-file)

-- no name is missed there
pub returns-in-Ok-load-clause-missed : goal.returns-in-Ok-load-clause-missed
returns-in-Ok-load-clause-missed g c =
    let machine = machine_with [] c.args.self.now in
    let none = record-misses machine (game_of c.as_slice-in-Ok-load.result.now) c.set_record.result
    (machine_with [] c.set_record.new.self) (named_load (word_at c.args.line.now c.args.span))
    (c.set_record.ensures.answer []) in
    c.in-Ok-load.ensures.missed ∙ sym (ap (λ names. g.L.Loader.missed c.args.files.now ++ names) none
    ∙ append-nil (g.L.Loader.missed c.args.files.now))

-- the file could not be loaded
pub returns-in-Err-Failed-clause-answer : goal.returns-in-Err-Failed-clause-answer
returns-in-Err-Failed-clause-answer g c =
    let word = word_at c.args.line.now c.args.span in
    let same : c.as_slice.result.now ≡ word = c.as_slice.ensures ∙ c.in-Ok.ensures in
    let utf8 : is_utf8 word ≡ true = text-is_utf8 word (subst IsUtf8 same c.in-Ok-from_utf8.ensures.cases.1) in
    let file = some_file (g.L.Loader.contents c.args.files.now) (named_load word) in
    (file.0, file.1, λ helpers. file-not-loaded word utf8 (machine_with helpers c.args.self.now) file.0)

-- its name is missed there
pub returns-in-Err-Failed-clause-missed : goal.returns-in-Err-Failed-clause-missed
returns-in-Err-Failed-clause-missed g c = grind (arith, text-is_utf8, miss-told)

-- there was no memory for the file's text
pub returns-clause-answer : goal.returns-clause-answer
returns-clause-answer g c =
    grind (arith, some_file (g.L.Loader.contents c.args.files.now) (named_load (word_at c.args.line.now c.args.span)))
