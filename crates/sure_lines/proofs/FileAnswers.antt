-- What is answered to a line that loads a file, by what the loader says of the file.
use Rattle.std.proofs.Common.{◌≡◌, ℕ, Bool, true, cond, List, [], ◌∷◌, Option, Some, None}
use Rattle.std.proofs.Common.{inl, inr, refl, arith}
use Rattle.std.proofs.lemmas.Bool.Decides.{nat_tests}
use Rattle.std.proofs.lemmas.Str.{utf8_valid_len-IsUtf8}
use Rattle.std.specs.Prelude.{IsUtf8}
use Rattle.gtp_cmd.specs.declared.refusals.RefuseText.{RefuseText}
use Rattle.gtp_cmd.specs.declared.refusals.RefuseText.TheVariants.{CannotLoadFile, SyntaxError, OutOfMemory}
use Rattle.gtp_io.specs.Loading.{IsLoaded}
use Rattle.sure_lines.specs.Answers.{IsAnswer}
use Rattle.sure_lines.specs.Effects.{Effect, IsExcused, refused, growing}
use Rattle.sure_lines.specs.Files.{Contents, IsFileOf, named_file, is_utf8, by_file}
use Rattle.sure_lines.specs.declared.answer.Answer.{Answer}
use Rattle.sure_lines.specs.declared.answer.Answer.TheVariants as answer
use Rattle.sure_lines.specs.Machine.{Machine}

-- all bytes of a text are its longest front that is a text
pub text-is_utf8 : (bytes : List ℕ) → IsUtf8 bytes → is_utf8 bytes ≡ true
text-is_utf8 bytes is = grind (arith, nat_tests, utf8_valid_len-IsUtf8)

-- some text may be loaded under each name
some_loaded : (contents : Option (List ℕ)) → (file : List ℕ) × IsLoaded contents [] file
some_loaded None = ([], ([], refl))
some_loaded (Some text) = (text, refl)

-- a text for what is loaded, if anything is
pub some_file : (contents : Contents) (name : Option (List ℕ)) → (file : List ℕ) × IsFileOf contents name file
some_file contents None = ([], tt)
some_file contents (Some name) = some_loaded (contents name)

-- an answer is one too if more is excused
pub more-excused : (effect : Effect) (excuses : List RefuseText) (said : Answer) (old new : Machine)
    → ((text : RefuseText) → IsExcused effect.excuses text → IsExcused excuses text)
    → IsAnswer effect said old new → IsAnswer (record effect { excuses = excuses }) said old new
more-excused effect excuses (answer.Brief result) old new more is = grind arith
more-excused effect excuses (answer.Grown result) old new more is = grind arith
more-excused effect excuses answer.NoMemory old new more is = (more OutOfMemory is.0, is.1)
more-excused effect excuses (answer.Refused text) old new more (inl is) = inl is
more-excused effect excuses (answer.Refused text) old new more (inr is) = inr (more text is.0, is.1)
more-excused effect excuses answer.Ended old new more is = is

-- what was loaded by a name, behind nothing, is what the loader gives by the word that the name is
pub loaded-anew : (contents : Contents) (word name into bytes file : List ℕ) → name ≡ word → into ≡ [] → file ≡ bytes
    → IsLoaded (contents name) into bytes → IsLoaded (contents word) [] file
loaded-anew contents word name into bytes file same empty is loaded = grind arith

-- What is loaded by a name that is a text.
module _ (name : List ℕ) (utf8 : is_utf8 name ≡ true) where
  -- what the loader gave is the text of the file
  pub given-file : (contents : Contents) (bytes : List ℕ) → IsLoaded (contents name) [] bytes
      → IsFileOf contents (named_file name) bytes
  given-file contents bytes is = grind arith

  module _ (old : Machine) (effect : Effect) where
    -- the effect of the line, if its name is a text or not
    abbrev done : Bool → Effect
    done b = growing (cond b (record effect { excuses = CannotLoadFile ∷ effect.excuses }) (refused old SyntaxError))

    -- an answer of the effect is one of the line
    pub file-answered : (said : Answer) (new : Machine) → IsAnswer effect said old new
        → IsAnswer (by_file old name effect) said old new
    file-answered said new is = grind (arith, more-excused)

    -- so is that the file could not be loaded
    pub file-not-loaded : IsAnswer (by_file old name effect) (answer.Refused CannotLoadFile) old old
    file-not-loaded = grind arith
