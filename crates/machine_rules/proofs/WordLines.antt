-- What a line with words says.
use Rattle.std.proofs.Common.{drop, ◌≡◌, ℕ, List, [], ◌∷◌, Option, Some, None, refl, ap}
use Rattle.gtp_cmd.specs.Words.{words_of, cleaned, id_of}
use Rattle.gtp_cmd.specs.Spans.{spans_of}
use Rattle.gtp_cmd.specs.declared.spans.Span.{Span}
use Rattle.gtp_cmd.specs.Commands.{command_of, named, asked, called, said, said_with, parsed_words, parsed_of}
use Rattle.gtp_cmd.specs.declared.commands.Command.{Command}
use Rattle.gtp_cmd.specs.declared.commands.CommandName.{CommandName}
use Rattle.gtp_cmd.specs.declared.commands.Parsed.TheVariants.{Nothing}

-- a command that may be missing says something
asked-some : (id : Option ℕ) (o : Option Command) → asked id o ≡ Nothing → ⊥
asked-some id None none = cc
asked-some id (Some c) none = cc

-- the words after a name say something
called-some : (id : Option ℕ) (s : ℕ) (n : Option CommandName) (words : List (List ℕ)) (spans : List Span)
    → called id s n words spans ≡ Nothing → ⊥
called-some id s None words spans none = cc
called-some id s (Some n) words spans none = asked-some id (command_of n s words spans) none

-- the words behind an id say something
said-some : (id : Option ℕ) (s : ℕ) (words : List (List ℕ)) (spans : List Span) → said id s words spans ≡ Nothing → ⊥
said-some id s [] spans none = cc
said-some id s (word ∷ words) spans none = called-some id s (named word) words (drop 1 spans) none

-- a first word says something, be it an id or not
said_with-some : (id : Option ℕ) (s : ℕ) (first : List ℕ) (more : List (List ℕ)) (spans : List Span)
    → said_with id s first more spans ≡ Nothing → ⊥
said_with-some None s first more spans none = said-some None s (first ∷ more) spans none
said_with-some (Some id) s first more spans none = said-some (Some id) s more (drop 1 spans) none

-- words that say nothing are none
parsed_words-none : (s : ℕ) (words : List (List ℕ)) (spans : List Span) → parsed_words s words spans ≡ Nothing
    → words ≡ []
parsed_words-none s [] spans none = refl
parsed_words-none s (first ∷ more) spans none = absurd (said_with-some (id_of first) s first more spans none)

-- a line that says nothing has no words
pub parsed_of-none : (text : List ℕ) (s : ℕ) → parsed_of text s ≡ Nothing → words_of (cleaned text) ≡ []
unfolding parsed_of
parsed_of-none text s none = parsed_words-none s (words_of (cleaned text)) (spans_of text) none

-- a line without words says nothing
pub none-parsed_of : (text : List ℕ) (s : ℕ) → words_of (cleaned text) ≡ [] → parsed_of text s ≡ Nothing
unfolding parsed_of
none-parsed_of text s none = ap (λ words. parsed_words s words (spans_of text)) none
