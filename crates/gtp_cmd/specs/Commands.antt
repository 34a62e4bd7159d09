-- The commands, the words that each command takes, and what a line says.
use Rattle.std.specs.Prelude.{ℕ, ◌==◌, length, true, false, ◌&&◌, nat_le, Bool, List, [], ◌∷◌, map, Option, None, Some}
use Rattle.std.specs.Prelude.{is_some, if◌then◌else◌, codes, drop}
use Rattle.std.specs.List.{find, join_with_byte}
use Rattle.std.specs.Option.{option_map, option_and_then}
use Rattle.std.specs.Str.{bytes_eq}
use Rattle.go_rules.specs.declared.Colour.{Colour}
use Rattle.go_rules.specs.Board.{smallest_size, largest_size}
use Rattle.read_rules.specs.Ranges.{least_plies, most_plies, most_wide}
use Rattle.gtp_cmd.specs.Words.{cleaned, words_of, number_of, id_of, line_feed}
use Rattle.gtp_cmd.specs.Vertices.{vertex_of, target_of}
use Rattle.gtp_cmd.specs.Colours.{colour_of}
use Rattle.gtp_cmd.specs.Komi.{komi_of}
use Rattle.gtp_cmd.specs.Spans.{spans_of, first_span, whole_span}
use Rattle.gtp_cmd.specs.declared.spans.Span.{Span}
use Rattle.gtp_cmd.specs.declared.commands.CommandName.{CommandName}
use Rattle.gtp_cmd.specs.declared.commands.CommandName.TheVariants as name
use Rattle.gtp_cmd.specs.declared.commands.Command.{Command}
use Rattle.gtp_cmd.specs.declared.commands.Command.TheVariants as command
use Rattle.gtp_cmd.specs.declared.arguments.Claim.{Claim}
use Rattle.gtp_cmd.specs.declared.commands.Parsed.{Parsed}
use Rattle.gtp_cmd.specs.declared.commands.Parsed.TheVariants as parsed
use Rattle.gtp_cmd.specs.declared.refusals.RefuseText.TheVariants.{UnknownCommand, SyntaxError}

-- a command and the word that names it
pub record Row : Type 0 where
  pub command : CommandName
  pub word : List ℕ

-- the commands in the order in which they are listed
abbrev pub table : List Row
table =
    record { command = name.ProtocolVersion; word = codes "protocol_version" }
    ∷ record { command = name.Name; word = codes "name" }
    ∷ record { command = name.Version; word = codes "version" }
    ∷ record { command = name.KnownCommand; word = codes "known_command" }
    ∷ record { command = name.ListCommands; word = codes "list_commands" }
    ∷ record { command = name.Quit; word = codes "quit" }
    ∷ record { command = name.BoardSize; word = codes "boardsize" }
    ∷ record { command = name.ClearBoard; word = codes "clear_board" }
    ∷ record { command = name.Komi; word = codes "komi" }
    ∷ record { command = name.GetKomi; word = codes "get_komi" }
    ∷ record { command = name.Play; word = codes "play" }
    ∷ record { command = name.Undo; word = codes "undo" }
    ∷ record { command = name.ShowBoard; word = codes "showboard" }
    ∷ record { command = name.IsLegal; word = codes "is_legal" }
    ∷ record { command = name.AllLegal; word = codes "all_legal" }
    ∷ record { command = name.CountLib; word = codes "countlib" }
    ∷ record { command = name.FindLib; word = codes "findlib" }
    ∷ record { command = name.Captures; word = codes "captures" }
    ∷ record { command = name.Attack; word = codes "attack" }
    ∷ record { command = name.Defend; word = codes "defend" }
    ∷ record { command = name.Depths; word = codes "depths" }
    ∷ record { command = name.MatchPatterns; word = codes "match_patterns" }
    ∷ record { command = name.ListPatterns; word = codes "list_patterns" }
    ∷ record { command = name.LoadSgf; word = codes "loadsgf" }
    ∷ record { command = name.AttackProof; word = codes "attack_proof" }
    ∷ record { command = name.DefendProof; word = codes "defend_proof" }
    ∷ record { command = name.CheckProof; word = codes "check_proof" }
    ∷ record { command = name.Connect; word = codes "connect" }
    ∷ record { command = name.Disconnect; word = codes "disconnect" }
    ∷ record { command = name.GenMove; word = codes "genmove" }
    ∷ record { command = name.RegGenMove; word = codes "reg_genmove" }
    ∷ record { command = name.HelperOff; word = codes "helper_off" }
    ∷ record { command = name.HelperCalls; word = codes "helper_calls" }
    ∷ record { command = name.HelperDrop; word = codes "helper_drop" }
    ∷ []

-- the command of the first of these rows whose word is this word
abbrev pub command_in : List Row → List ℕ → Option CommandName
command_in rows word = option_map (λ r. r.command) (find (λ r. bytes_eq word r.word) rows)

-- the command that a word names
abbrev pub named : List ℕ → Option CommandName
named word = command_in table word

-- the names of the commands, one name a line
abbrev pub names_text : List ℕ
names_text = join_with_byte line_feed (map (λ r. r.word) table)

-- what the first of these words says, if there is a first word and it is well formed
abbrev pub first_argument : {X : Type 0} → (List ℕ → Option X) → List (List ℕ) → Option X
first_argument says [] = None
first_argument says (word ∷ more) = says word

-- the first argument, if there is one, names a command
abbrev pub known_of : List (List ℕ) → Option Bool
known_of words = first_argument (λ word. Some (is_some (named word))) words

-- the size of a board with this number, if a board may have it
abbrev pub size_of : ℕ → Option ℕ
size_of n = if nat_le smallest_size n && nat_le n largest_size then Some n else None

-- a colour and the target of its move on a board of size s, if the first two words say both
abbrev pub move_of : ℕ → List (List ℕ) → Option (Colour × Option ℕ)
move_of s (colour ∷ target ∷ more) =
    option_and_then (λ c. option_map (λ at. (c, at)) (target_of s target)) (colour_of colour)
move_of s _ = None

-- the number that a word writes, if it is at least low and at most high
abbrev pub number_between : ℕ → ℕ → List ℕ → Option ℕ
number_between low high word =
    option_and_then (λ n. if nat_le low n && nat_le n high then Some n else None) (number_of word)

-- the greatest code that a reading answers
abbrev pub greatest_code : ℕ
greatest_code = 3

-- the plies and the wide plies of readings, if the first two words write both
abbrev pub depths_of : List (List ℕ) → Option (ℕ × ℕ)
depths_of (plies ∷ wide ∷ more) =
    option_and_then (λ n. option_map (λ k. (n, k)) (number_between 0 most_wide wide))
    (number_between least_plies most_plies plies)
depths_of _ = None

-- a proof is of an attack if the word is `attack`, and of a defence if the word is `defend`
abbrev pub is_attack_of : List ℕ → Option Bool
is_attack_of word =
    if bytes_eq word (codes "attack") then Some true
    else if bytes_eq word (codes "defend") then Some false
    else None

-- the code that a word writes: one digit, from 0 to 3
abbrev pub code_of : List ℕ → Option ℕ
code_of word = if length word == 1 then number_between 0 greatest_code word else None

-- what a proof claims to show on a board of size s, if the first three words say it
abbrev pub claim_of : ℕ → List (List ℕ) → Option Claim
claim_of s (kind ∷ target ∷ code ∷ more) =
    option_and_then (λ attack. option_and_then (λ at. option_map
    (λ c. record { attack = attack; target = at; code = c }) (code_of code)) (vertex_of s target)) (is_attack_of kind)
claim_of s _ = None

-- two points of a board of size s, if the first two words name both
abbrev pub points_of : ℕ → List (List ℕ) → Option (ℕ × ℕ)
points_of s (first ∷ second ∷ more) =
    option_and_then (λ p. option_map (λ q. (p, q)) (vertex_of s second)) (vertex_of s first)
points_of s _ = None

-- the command with this name and these words after it, which stand at these spans, on a board of size s; None if an
-- argument is missing or malformed
abbrev pub command_of : CommandName → ℕ → List (List ℕ) → List Span → Option Command
command_of name.ProtocolVersion s words spans = Some command.ProtocolVersion
command_of name.Name s words spans = Some command.Name
command_of name.Version s words spans = Some command.Version
command_of name.KnownCommand s words spans = option_map command.KnownCommand (known_of words)
command_of name.ListCommands s words spans = Some command.ListCommands
command_of name.Quit s words spans = Some command.Quit
command_of name.BoardSize s words spans = option_map (λ n. command.BoardSize (size_of n))
    (first_argument number_of words)
command_of name.ClearBoard s words spans = Some command.ClearBoard
command_of name.Komi s words spans = option_map command.Komi (first_argument komi_of words)
command_of name.GetKomi s words spans = Some command.GetKomi
command_of name.Play s words spans = option_map (λ m. command.Play m.0 m.1) (move_of s words)
command_of name.Undo s words spans = Some command.Undo
command_of name.ShowBoard s words spans = Some command.ShowBoard
command_of name.IsLegal s words spans = option_map (λ m. command.IsLegal m.0 m.1) (move_of s words)
command_of name.AllLegal s words spans = option_map command.AllLegal (first_argument colour_of words)
command_of name.CountLib s words spans = option_map command.CountLib (first_argument (vertex_of s) words)
command_of name.FindLib s words spans = option_map command.FindLib (first_argument (vertex_of s) words)
command_of name.Captures s words spans = option_map command.Captures (first_argument colour_of words)
command_of name.Attack s words spans = option_map command.Attack (first_argument (vertex_of s) words)
command_of name.Defend s words spans = option_map command.Defend (first_argument (vertex_of s) words)
command_of name.Depths s words spans = option_map (λ d. command.Depths d.0 d.1) (depths_of words)
command_of name.MatchPatterns s words spans = option_map command.MatchPatterns (first_argument colour_of words)
command_of name.ListPatterns s words spans = Some command.ListPatterns
command_of name.LoadSgf s words spans = option_map command.LoadSgf (first_span spans)
command_of name.AttackProof s words spans = option_map command.AttackProof (first_argument (vertex_of s) words)
command_of name.DefendProof s words spans = option_map command.DefendProof (first_argument (vertex_of s) words)
command_of name.CheckProof s words spans =
    option_map (λ q. command.CheckProof q.attack q.target q.code (whole_span (drop 3 spans))) (claim_of s words)
command_of name.Connect s words spans = option_map (λ m. command.Connect m.0 m.1) (points_of s words)
command_of name.Disconnect s words spans = option_map (λ m. command.Disconnect m.0 m.1) (points_of s words)
command_of name.GenMove s words spans = option_map command.GenMove (first_argument colour_of words)
command_of name.RegGenMove s words spans = option_map command.RegGenMove (first_argument colour_of words)
command_of name.HelperOff s words spans = option_map command.HelperOff (first_span spans)
command_of name.HelperCalls s words spans = option_map command.HelperCalls (first_span spans)
command_of name.HelperDrop s words spans = option_map command.HelperDrop (first_span spans)

-- the command, or a refusal if its arguments are missing or malformed
abbrev pub asked : Option ℕ → Option Command → Parsed
asked id None = parsed.Refused id SyntaxError
asked id (Some c) = parsed.Command id c

-- what the words after a name say, which stand at these spans; a refusal if no command has the name
abbrev pub called : Option ℕ → ℕ → Option CommandName → List (List ℕ) → List Span → Parsed
called id s None words spans = parsed.Refused id UnknownCommand
called id s (Some n) words spans = asked id (command_of n s words spans)

-- what the words after the id say, which stand at these spans; without a word, no command is named
abbrev pub said : Option ℕ → ℕ → List (List ℕ) → List Span → Parsed
said id s [] spans = parsed.Refused id UnknownCommand
said id s (word ∷ words) spans = called id s (named word) words (drop 1 spans)

-- what the words of a line say, which stand at these spans, if the first word was read as an id or found to be none
abbrev pub said_with : Option ℕ → ℕ → List ℕ → List (List ℕ) → List Span → Parsed
said_with None s first more spans = said None s (first ∷ more) spans
said_with (Some id) s first more spans = said (Some id) s more (drop 1 spans)

-- what the words of a line say, which stand at these spans; the first word may be an id
abbrev pub parsed_words : ℕ → List (List ℕ) → List Span → Parsed
parsed_words s [] spans = parsed.Nothing
parsed_words s (first ∷ more) spans = said_with (id_of first) s first more spans

-- what a line says to a machine whose board has size s
unfoldable pub parsed_of : List ℕ → ℕ → Parsed
parsed_of line s = parsed_words s (words_of (cleaned line)) (spans_of line)
