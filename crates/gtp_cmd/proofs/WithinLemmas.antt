-- The points that a line names lie on the board of the machine that reads it, and its depths in their ranges.
use Rattle.std.proofs.Common.{◌≡◌, ℕ, ◌-◌, ◌*◌, ◌<◌, ◌≤◌, Bool, true, false, cond, ltb, leb, ◌&&◌, List}
use Rattle.std.proofs.Common.{[], ◌∷◌, Option, Some, None, IfSome, arith, drop}
use Rattle.std.specs.Option.{option_map, option_and_then}
use Rattle.std.specs.Str.{bytes_eq, str_to_ascii_lowercase}
use Rattle.std.specs.Prelude.{codes}
use Rattle.std.proofs.lemmas.Nat.{mul-add-lt}
use Rattle.std.proofs.lemmas.Bool.Decides.{nat_tests}
use Rattle.go_rules.specs.declared.Colour.{Colour}
use Rattle.go_rules.specs.Board.{point_at}
use Rattle.read_rules.specs.Ranges.{least_plies, most_plies, most_wide, AreDepths}
use Rattle.gtp_cmd.specs.Vertices.{vertex_of, point_of, column_named, row_number_of, target_of}
use Rattle.gtp_cmd.specs.declared.arguments.Claim.{Claim}
use Rattle.gtp_cmd.specs.declared.spans.Span.{Span}
use Rattle.gtp_cmd.specs.Commands.{first_argument, move_of, number_between}
use Rattle.gtp_cmd.specs.Commands.{depths_of, command_of, named, asked, called, said, is_attack_of, code_of, claim_of}
use Rattle.gtp_cmd.specs.Commands.{greatest_code, points_of}
use Rattle.gtp_cmd.specs.declared.commands.CommandName.{CommandName}
use Rattle.gtp_cmd.specs.declared.commands.CommandName.TheVariants as name
use Rattle.gtp_cmd.specs.declared.commands.Command.{Command}
use Rattle.gtp_cmd.specs.declared.commands.Command.TheVariants as command
use Rattle.gtp_cmd.specs.Within.{IsPointOf, IsWithin, SaysWithin}

-- where a fact of a value gives one of what is made of it, it does so too where the value may be missing
pub if_some-map : {X Y : Type 0} (f : X → Y) (P : X → Type 0) (Q : Y → Type 0) (o : Option X)
    → ((x : X) → P x → Q (f x)) → IfSome o P → IfSome (option_map f o) Q
if_some-map f P Q None keeps h = tt
if_some-map f P Q (Some x) keeps h = keeps x h

-- a fact of whatever is made of a value holds where the value may be missing
pub if_some-any : {X Y : Type 0} (f : X → Y) (Q : Y → Type 0) (o : Option X) → ((x : X) → Q (f x))
    → IfSome (option_map f o) Q
if_some-any f Q None keeps = tt
if_some-any f Q (Some x) keeps = keeps x

-- a column of the board and the number of a row of it have a point of the board
point_below : (s number column : ℕ) → 1 ≤ number → number ≤ s → column < s → point_at s (s - number, column) < s * s
point_below s number column some within on_board = mul-add-lt (s - number) s column s (omega arith) on_board

-- the point of a column and of a row's number, where a test finds both on the board, is on the board
point_of-tested : (s column number : ℕ) (b : Bool) → (ltb column s && (leb 1 number && leb number s)) ≡ b
    → IsPointOf s (cond b (Some (point_at s (s - number, column))) None)
point_of-tested s column number false test = tt
point_of-tested s column number true test = grind (arith, point_below s number column)

-- the point of a column and a row number is on the board
point_of-within : (s : ℕ) (column number : Option ℕ) → IsPointOf s (point_of s column number)
point_of-within s None number = tt
point_of-within s (Some column) None = tt
point_of-within s (Some column) (Some number) = grind (arith, point_of-tested)

-- a vertex is on the board
vertex_of-within : (s : ℕ) (word : List ℕ) → IsPointOf s (vertex_of s word)
vertex_of-within s [] = tt
vertex_of-within s (letter ∷ digits) = point_of-within s (column_named letter) (row_number_of digits)

-- a first argument that is a vertex is on the board
first_vertex-within : (s : ℕ) (words : List (List ℕ)) → IsPointOf s (first_argument (vertex_of s) words)
first_vertex-within s [] = tt
first_vertex-within s (word ∷ more) = vertex_of-within s word

-- the goal of a move is on the board
target_of-within : (s : ℕ) (word : List ℕ) → IfSome (target_of s word) (IsPointOf s)
target_of-within s word =
    elim (bytes_eq (str_to_ascii_lowercase word) (codes "pass"))
    as (λ b. IfSome (cond b (Some None) (option_map Some (vertex_of s word))) (IsPointOf s)) [
      | true ↦ tt
      | false ↦ if_some-map Some (λ p. p < s * s) (IsPointOf s) (vertex_of s word) (λ p below. below)
          (vertex_of-within s word)
    ]

-- a colour with the goal of its move
abbrev with_colour : Colour → Option ℕ → Colour × Option ℕ
with_colour c at = (c, at)

-- a move that words say goes to a point of the board, or is a pass
move_of-within : (s : ℕ) (words : List (List ℕ)) → IfSome (move_of s words) (λ m. IsPointOf s m.1)
move_of-within s [] = tt
move_of-within s (colour ∷ []) = tt
move_of-within s (colour ∷ target ∷ more) = grind (arith, target_of-within s target, if_some-map)

-- a number that passes the test for two bounds lies between them
between-tested : (low high n : ℕ) (b : Bool) → (leb low n && leb n high) ≡ b
    → IfSome (cond b (Some n) None) (λ k. (low ≤ k) × (k ≤ high))
between-tested low high n false test = tt
between-tested low high n true test = (grind (arith, nat_tests), grind (arith, nat_tests))

-- a number that a word writes between two lies between them
between-within : (low high : ℕ) (word : List ℕ) → IfSome (number_between low high word) (λ k. (low ≤ k) × (k ≤ high))
between-within low high word = grind (arith, between-tested)

-- two numbers in their ranges are depths
both-within : (plies wide : Option ℕ) → IfSome plies (λ n. (least_plies ≤ n) × (n ≤ most_plies))
    → IfSome wide (λ k. (0 ≤ k) × (k ≤ most_wide))
    → IfSome {T = ℕ × ℕ} (option_and_then (λ n. option_map (λ k. (n, k)) wide) plies) (λ d. AreDepths d.0 d.1)
both-within None wide some few = tt
both-within (Some n) None some few = tt
both-within (Some n) (Some k) some few = (some.0, some.1, few.1)

-- depths lie in their ranges
depths_of-within : (words : List (List ℕ)) → IfSome (depths_of words) (λ d. AreDepths d.0 d.1)
depths_of-within [] = tt
depths_of-within (plies ∷ []) = tt
depths_of-within (plies ∷ wide ∷ more) =
    both-within (number_between least_plies most_plies plies) (number_between 0 most_wide wide)
    (between-within least_plies most_plies plies) (between-within 0 most_wide wide)

-- a claim is of a point of the board and of a code
abbrev ClaimWithin : ℕ → Claim → Type 0
ClaimWithin s claim = (claim.target < s * s) × (claim.code ≤ greatest_code)

-- a code is at most the greatest
code_of-within : (word : List ℕ) → IfSome (code_of word) (λ code. code ≤ greatest_code)
code_of-within word = grind (arith, between-within)

-- what words claim is within, if the point and the code are
claim-within : (s : ℕ) (attack : Option Bool) (target code : Option ℕ) → IsPointOf s target
    → IfSome code (λ c. c ≤ greatest_code)
    → IfSome {T = Claim} (option_and_then (λ a. option_and_then (λ at. option_map (λ c. record {
      attack = a;
      target = at;
      code = c;
    }) code) target) attack) (ClaimWithin s)
claim-within s None target code below few = tt
claim-within s (Some a) None code below few = tt
claim-within s (Some a) (Some at) None below few = tt
claim-within s (Some a) (Some at) (Some c) below few = (below, few)

-- what words claim is of a point of the board and of a code
claim_of-within : (s : ℕ) (words : List (List ℕ)) → IfSome (claim_of s words) (ClaimWithin s)
claim_of-within s [] = tt
claim_of-within s (kind ∷ []) = tt
claim_of-within s (kind ∷ target ∷ []) = tt
claim_of-within s (kind ∷ target ∷ code ∷ more) =
    claim-within s (is_attack_of kind) (vertex_of s target) (code_of code) (vertex_of-within s target)
    (code_of-within code)

-- two points of the board are both on it
points-within : (s : ℕ) (first second : Option ℕ) → IsPointOf s first → IsPointOf s second
    → IfSome {T = ℕ × ℕ} (option_and_then (λ p. option_map (λ q. (p, q)) second) first)
    (λ m. (m.0 < s * s) × (m.1 < s * s))
points-within s None second some below = tt
points-within s (Some p) None some below = tt
points-within s (Some p) (Some q) some below = (some, below)

-- the points that words name are on the board
points_of-within : (s : ℕ) (words : List (List ℕ)) → IfSome (points_of s words) (λ m. (m.0 < s * s) × (m.1 < s * s))
points_of-within s [] = tt
points_of-within s (first ∷ []) = tt
points_of-within s (first ∷ second ∷ more) =
    points-within s (vertex_of s first) (vertex_of s second) (vertex_of-within s first) (vertex_of-within s second)

-- a command of one point is within where its point is on the board
of_point : (s : ℕ) (words : List (List ℕ)) (make : ℕ → Command) → ((p : ℕ) → p < s * s → IsWithin s (make p))
    → IfSome (option_map make (first_argument (vertex_of s) words)) (IsWithin s)
of_point s words make keeps = grind (arith, if_some-map make, first_vertex-within s words)

-- a command of a move is within if the move's point is on the board
of_move : (s : ℕ) (words : List (List ℕ)) (make : Colour × Option ℕ → Command)
    → ((m : Colour × Option ℕ) → IsPointOf s m.1 → IsWithin s (make m))
    → IfSome (option_map make (move_of s words)) (IsWithin s)
of_move s words make keeps = grind (arith, if_some-map make, move_of-within s words)

-- a command of two points is within if both are on the board
of_points : (s : ℕ) (words : List (List ℕ)) (make : ℕ × ℕ → Command)
    → ((m : ℕ × ℕ) → (m.0 < s * s) × (m.1 < s * s) → IsWithin s (make m))
    → IfSome (option_map make (points_of s words)) (IsWithin s)
of_points s words make keeps = grind (arith, if_some-map make, points_of-within s words)

-- a command of depths is within if both are in their ranges
of_depths : (s : ℕ) (words : List (List ℕ)) (make : ℕ × ℕ → Command)
    → ((d : ℕ × ℕ) → AreDepths d.0 d.1 → IsWithin s (make d)) → IfSome (option_map make (depths_of words)) (IsWithin s)
of_depths s words make keeps = grind (arith, if_some-map make, depths_of-within words)

-- a command of a claim is within where its point is on the board and its code in its range
of_claim : (s : ℕ) (words : List (List ℕ)) (make : Claim → Command)
    → ((q : Claim) → ClaimWithin s q → IsWithin s (make q)) → IfSome (option_map make (claim_of s words)) (IsWithin s)
of_claim s words make keeps =
    if_some-map make (ClaimWithin s) (IsWithin s) (claim_of s words)
    keeps (claim_of-within s words)

-- the arguments of a command name points of the board, and depths in their ranges
command_of-within : (n : CommandName) (s : ℕ) (words : List (List ℕ)) (spans : List Span)
    → IfSome (command_of n s words spans) (IsWithin s)
command_of-within name.Depths s words spans = of_depths s words (λ d. command.Depths d.0 d.1) (λ d within. within)
command_of-within name.CheckProof s words spans = grind (arith, of_claim)
command_of-within _ s words spans = search (if_some-any, of_point, of_move, of_points)

-- a line whose command is within says nothing off the board
asked-within : (id : Option ℕ) (s : ℕ) (o : Option Command) → IfSome o (IsWithin s) → SaysWithin s (asked id o)
asked-within id s None h = tt
asked-within id s (Some c) h = h

-- the words after a name say nothing off the board
called-within : (id : Option ℕ) (s : ℕ) (n : Option CommandName) (words : List (List ℕ)) (spans : List Span)
    → SaysWithin s (called id s n words spans)
called-within id s None words spans = tt
called-within id s (Some n) words spans =
    asked-within id s (command_of n s words spans) (command_of-within n s words spans)

-- the words behind the id, or of a line without one, say nothing off the board
pub said-within : (id : Option ℕ) (s : ℕ) (words : List (List ℕ)) (spans : List Span)
    → SaysWithin s (said id s words spans)
said-within id s [] spans = tt
said-within id s (word ∷ words) spans = called-within id s (named word) words (drop 1 spans)
