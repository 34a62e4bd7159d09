-- What a line asks of the readings, by the command that it names.
use Rattle.std.proofs.Common.{◌≡◌, ℕ, Bool, true, false, cond, List, [], ◌∷◌, Option, Some, None, drop, refl, sym, ap}
use Rattle.std.proofs.Common.{◌∙◌, arith}
use Rattle.std.specs.Option.{option_map}
use Rattle.gtp_rules.specs.Lines.{RawLine, Line, TooLong}
use Rattle.gtp_cmd.specs.Words.{cleaned, words_of, id_of}
use Rattle.gtp_cmd.specs.Commands.{named, asked, called, said, said_with, parsed_words, parsed_of, command_of}
use Rattle.gtp_cmd.specs.Spans.{spans_of}
use Rattle.gtp_cmd.specs.declared.spans.Span.{Span}
use Rattle.gtp_cmd.specs.declared.commands.CommandName.{CommandName}
use Rattle.gtp_cmd.specs.declared.commands.CommandName.TheVariants as name
use Rattle.gtp_cmd.specs.declared.commands.Command.{Command}
use Rattle.gtp_cmd.specs.declared.commands.Command.TheVariants as command
use Rattle.gtp_cmd.specs.declared.commands.Parsed.{Parsed}
use Rattle.gtp_cmd.specs.declared.commands.Parsed.TheVariants as parsed
use Rattle.read_rules.specs.declared.question.Kind.TheVariants.{Attack, Defend}
use Rattle.match_engine.specs.declared.keys.Key.{Key}
use Rattle.machine_rules.specs.Machine.{Machine}
use Rattle.machine_rules.specs.ChoiceCommands.{is_full}
use Rattle.machine_rules.specs.Counting.{has_stone, is_read, is_parsed_read, is_read_line}
use Rattle.machine_rules.specs.Questions.{Asks, Nothing, One, Many, key_at, asks_of, asks_of_parsed, asks_of_line}
use Rattle.machine_rules.specs.CertainHit.{first_named, named_after, named_by, named_in, is_reading, is_matching}

-- what asks one question is an `attack` or `defend`, and what asks many is a `match_patterns`
abbrev pub Fits : Asks → Option CommandName → Type 0
Fits Nothing n = Unit {0}
Fits (One key) n = is_reading n ≡ true
Fits Many n = is_matching n ≡ true

-- what asks one question
abbrev is_one : Asks → Bool
is_one Nothing = false
is_one (One key) = true
is_one Many = false

module _ (machine : Machine) where
  -- a question if a stone stands
  fits_where : (stone : Bool) (key : Key) (n : Option CommandName) → is_reading n ≡ true
      → Fits (cond stone (One key) Nothing) n
  fits_where true key n reads = reads
  fits_where false key n reads = tt

  -- a command with an argument, or its refusal
  fits_asked : {X : Type 0} (c : X → Command) (n : Option CommandName) → ((x : X) → Fits (asks_of machine (c x)) n)
      → (id : Option ℕ)
      (argument : Option X) → Fits (asks_of_parsed machine (asked id (option_map c argument))) n
  fits_asked c n each id None = tt
  fits_asked c n each id (Some x) = each x

  -- matches are asked for if the list of moves is not full
  fits_full : (full : Bool) → Fits (cond full Nothing Many) (Some name.GenMove)
  fits_full true = tt
  fits_full false = refl

  -- a command with its words
  fits_command : (n : CommandName) (id : Option ℕ) (s : ℕ) (words : List (List ℕ)) (spans : List Span)
      → Fits (asks_of_parsed machine (asked id (command_of n s words spans))) (Some n)
  fits_command name.ProtocolVersion id s words spans = tt
  fits_command name.Name id s words spans = tt
  fits_command name.Version id s words spans = tt
  fits_command name.KnownCommand id s words spans = grind (arith, fits_asked)
  fits_command name.ListCommands id s words spans = tt
  fits_command name.Quit id s words spans = tt
  fits_command name.BoardSize id s words spans = grind (arith, fits_asked)
  fits_command name.ClearBoard id s words spans = tt
  fits_command name.Komi id s words spans = grind (arith, fits_asked)
  fits_command name.GetKomi id s words spans = tt
  fits_command name.Play id s words spans = grind (arith, fits_asked)
  fits_command name.Undo id s words spans = tt
  fits_command name.ShowBoard id s words spans = tt
  fits_command name.IsLegal id s words spans = grind (arith, fits_asked)
  fits_command name.AllLegal id s words spans = grind (arith, fits_asked)
  fits_command name.CountLib id s words spans = grind (arith, fits_asked)
  fits_command name.FindLib id s words spans = grind (arith, fits_asked)
  fits_command name.Captures id s words spans = grind (arith, fits_asked)
  fits_command name.Attack id s words spans = grind (arith, fits_asked, fits_where)
  fits_command name.Defend id s words spans = grind (arith, fits_asked, fits_where)
  fits_command name.Depths id s words spans = grind (arith, fits_asked)
  fits_command name.MatchPatterns id s words spans = grind (arith, fits_asked)
  fits_command name.ListPatterns id s words spans = tt
  fits_command name.LoadSgf id s words spans = grind (arith, fits_asked)
  fits_command name.AttackProof id s words spans = grind (arith, fits_asked)
  fits_command name.DefendProof id s words spans = grind (arith, fits_asked)
  fits_command name.CheckProof id s words spans = grind (arith, fits_asked)
  fits_command name.Connect id s words spans = grind (arith, fits_asked)
  fits_command name.Disconnect id s words spans = grind (arith, fits_asked)
  fits_command name.GenMove id s words spans = grind (arith, fits_asked, fits_full)
  fits_command name.RegGenMove id s words spans = grind (arith, fits_asked)
  fits_command name.HelperOff id s words spans = grind (arith, fits_asked)
  fits_command name.HelperCalls id s words spans = grind (arith, fits_asked)
  fits_command name.HelperDrop id s words spans = grind (arith, fits_asked)

  -- a name with its words
  fits_called : (id : Option ℕ) (s : ℕ) (n : Option CommandName) (words : List (List ℕ)) (spans : List Span)
      → Fits (asks_of_parsed machine (called id s n words spans)) n
  fits_called id s None words spans = tt
  fits_called id s (Some n) words spans = fits_command n id s words spans

  -- the words behind an id
  fits_said : (id : Option ℕ) (s : ℕ) (words : List (List ℕ)) (spans : List Span)
      → Fits (asks_of_parsed machine (said id s words spans)) (first_named words)
  fits_said id s [] spans = tt
  fits_said id s (word ∷ words) spans = fits_called id s (named word) words (drop 1 spans)

  -- words of which the first may be an id
  fits_with : (id : Option ℕ) (s : ℕ) (first : List ℕ) (more : List (List ℕ)) (spans : List Span)
      → Fits (asks_of_parsed machine (said_with id s first more spans)) (named_after id first more)
  fits_with None s first more spans = fits_called None s (named first) more (drop 1 spans)
  fits_with (Some id) s first more spans = fits_said (Some id) s more (drop 1 spans)

  -- the words of a line
  fits_words : (s : ℕ) (words : List (List ℕ)) (spans : List Span)
      → Fits (asks_of_parsed machine (parsed_words s words spans)) (named_by words)
  fits_words s [] spans = tt
  fits_words s (first ∷ more) spans = fits_with (id_of first) s first more spans

  -- a line
  pub Fits-line : (line : RawLine) → Fits (asks_of_line machine line) (named_in line)
  unfolding asks_of_line named_in parsed_of
  Fits-line TooLong = tt
  Fits-line (Line text) = fits_words machine.base.size (words_of (cleaned text)) (spans_of text)

  -- if a stone stands one question is asked
  one_where : (stone : Bool) (key : Key) → is_one (cond stone (One key) Nothing) ≡ stone
  one_where true key = refl
  one_where false key = refl

  -- no question by itself is asked where matches are
  one_full : (full : Bool) → is_one (cond full Nothing Many) ≡ false
  one_full true = refl
  one_full false = refl

  -- a command asks one question exactly if it is a reading that is answered with a code
  one_command : (c : Command) → is_one (asks_of machine c) ≡ is_read machine c
  one_command (command.Attack p) = one_where (has_stone machine p) (key_at machine Attack p)
  one_command (command.Defend p) = one_where (has_stone machine p) (key_at machine Defend p)
  one_command (command.MatchPatterns friend) = refl
  one_command (command.GenMove friend) = one_full (is_full machine)
  one_command (command.RegGenMove friend) = refl
  one_command _ = refl

  -- so does what a line says
  one_parsed : (p : Parsed) → is_one (asks_of_parsed machine p) ≡ is_parsed_read machine p
  one_parsed (parsed.Command id c) = one_command c
  one_parsed _ = refl

  -- a line asks one question exactly if it asks for a reading and is answered with a code
  pub one-line : (line : RawLine) → is_one (asks_of_line machine line) ≡ is_read_line machine line
  unfolding asks_of_line is_read_line
  one-line TooLong = refl
  one-line (Line text) = one_parsed (parsed_of text machine.base.size)

-- a line that asks one question is answered with a code
pub is_read_line-one : (machine : Machine) (line : RawLine) (key : Key) → asks_of_line machine line ≡ One key
    → is_read_line machine line ≡ true
is_read_line-one machine line key asks = sym (one-line machine line) ∙ ap is_one asks
