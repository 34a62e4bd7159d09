-- The definitions computed on small texts: a table of texts, given by their lines, with the line and the kind of the
-- first fault of each.
use Rattle.std.proofs.Common.{◌≡◌, ℕ, List, [], ◌∷◌, ◌++◌, map, Option, Some, None, refl}
use Rattle.std.specs.Prelude.{codes}
use Rattle.cons_parse.specs.Tokens.{token_at, tokens_after}
use Rattle.cons_parse.specs.Calls.{listed_at, arguments_at, items_after}
use Rattle.cons_parse.specs.Faults.{fault_of}
use Rattle.cons_parse.specs.Scan.{scanned_from}
use Rattle.cons_parse.specs.Building.{run}
use Rattle.cons_parse.specs.Reading.{expression_in, fault_in}
use Rattle.db_lex.specs.Lines.{lines_of, kept_if, kept_from, kind_of}
use Rattle.db_rules.specs.declared.fault.Fault.{Fault}
use Rattle.db_rules.specs.Diagram.{is_edge_line, is_row, shape_of, wanted, is_misplaced, diagram_fault}
use Rattle.db_rules.specs.Colon.{split_at_commas, fields_fault}
use Rattle.db_rules.specs.Labels.{labels_under, constraint_fault, labels_closing_fault}
use Rattle.db_rules.specs.Blocks.{after_line, so_far}
use Rattle.db_rules.specs.Faults.{pattern_fault, found, found_at_end, least_fault, first_fault}

-- the text of some lines, each with its line feed
abbrev text_of : List (List ℕ) → List ℕ
text_of [] = []
text_of (line ∷ lines) = line ++ 10 ∷ text_of lines

-- the first faults of these texts, if no helper is handed in
abbrev faults_in : List (List (List ℕ)) → List (Option Fault)
faults_in texts = map (λ lines. first_fault [] (text_of lines)) texts

-- a fault of this kind at this line
abbrev fault : ℕ → ℕ → Option Fault
fault line kind = Some (record { line = line; kind = kind })

-- one text for each kind of fault of lines, Pattern lines and diagrams
faults_of_diagrams : faults_in (
    (codes ":8" ∷ [])
    ∷ (codes "Pattern" ∷ [])
    ∷ (codes "Pattern A" ∷ codes ":8" ∷ [])
    ∷ (codes "Pattern A" ∷ codes "O*" ∷ codes "O" ∷ [])
    ∷ (codes "Pattern A" ∷ codes "O!*" ∷ [])
    ∷ (codes "Pattern A" ∷ codes "|O*" ∷ codes "O*" ∷ [])
    ∷ (codes "Pattern A" ∷ codes ".........................." ∷ [])
    ∷ (codes "Pattern A" ∷ codes "O*" ∷ [])
    ∷ [])
    ≡ fault 1 2 ∷ fault 1 3 ∷ fault 2 4 ∷ fault 3 5 ∷ fault 2 6 ∷ fault 3 8 ∷ fault 2 9 ∷ fault 3 10 ∷ []
unfolding lines_of kept_if kept_from kind_of is_edge_line is_row shape_of wanted is_misplaced diagram_fault
    split_at_commas fields_fault labels_under constraint_fault labels_closing_fault after_line so_far pattern_fault
    found found_at_end least_fault first_fault
faults_of_diagrams = refl

-- one text for each kind of fault of colon lines
faults_of_colon_lines : faults_in (
    (codes "Pattern A" ∷ codes "OX" ∷ codes ":8" ∷ [])
    ∷ (codes "Pattern A" ∷ codes "O*" ∷ codes ":7" ∷ [])
    ∷ (codes "Pattern A" ∷ codes "O*" ∷ codes ":8,s1" ∷ [])
    ∷ (codes "Pattern A" ∷ codes "O*" ∷ codes ":8,s,value(" ∷ [])
    ∷ (codes "Pattern A" ∷ codes "O*" ∷ codes ":8,s,NULL,far" ∷ [])
    ∷ [])
    ≡ fault 3 7 ∷ fault 3 11 ∷ fault 3 12 ∷ fault 3 13 ∷ fault 3 17 ∷ []
unfolding lines_of kept_if kept_from kind_of is_edge_line is_row shape_of wanted is_misplaced diagram_fault
    split_at_commas fields_fault labels_under constraint_fault labels_closing_fault after_line so_far pattern_fault
    found found_at_end least_fault first_fault
faults_of_colon_lines = refl

-- constraint diagrams and expressions: what a line leaves is at fault before the line itself, an expression at its
-- first line
faults_of_constraints : faults_in (
    (codes "Pattern A" ∷ codes "O*" ∷ codes ":8,s" ∷ codes "AA" ∷ [])
    ∷ (codes "Pattern A" ∷ codes "O*" ∷ codes ".." ∷ codes ":8,s" ∷ codes "A*" ∷ [])
    ∷ (codes "Pattern A" ∷ codes "O*" ∷ codes ".." ∷ codes ":8,s" ∷ codes "A*" ∷ codes ":8" ∷ [])
    ∷ (codes "Pattern A" ∷ codes "O*" ∷ codes ":8" ∷ codes ";1" ∷ codes ";2" ∷ codes ">x" ∷ [])
    ∷ (codes "Pattern A" ∷ codes "O*" ∷ codes ":8" ∷ codes "A*" ∷ codes ";lib(B)" ∷ [])
    ∷ (codes "Pattern A" ∷ codes "O*" ∷ codes ":8" ∷ codes "A*" ∷ codes ";lib(A)" ∷ codes ";>0" ∷ codes ":8" ∷ [])
    ∷ [])
    ≡ fault 4 14 ∷ fault 6 14 ∷ fault 6 14 ∷ fault 4 15 ∷ fault 5 16 ∷ fault 7 2 ∷ []
unfolding lines_of kept_if kept_from kind_of is_edge_line is_row shape_of wanted is_misplaced diagram_fault
    split_at_commas fields_fault labels_under constraint_fault labels_closing_fault fault_in expression_in items_after
    tokens_after token_at listed_at arguments_at scanned_from run fault_of after_line so_far pattern_fault found
    found_at_end least_fault first_fault
faults_of_constraints = refl

-- a text with passed lines, side text, edges, labels, an expression and actions has no fault
no_fault : faults_in (
    (codes "# c" ∷ codes "attr x" ∷ [] ∷ codes "Pattern A  x" ∷ [] ∷ codes "?O?  side" ∷ codes "OX*" ∷ codes "?.?" ∷ []
    ∷ codes ":8,s-X,value(20, 3)" ∷ [] ∷ codes "?O?" ∷ codes "OA*" ∷ codes "?.?" ∷ codes ";lib(A)==2"
    ∷ codes "> test" ∷ [])
    ∷ (codes "Pattern B" ∷ codes "+--+" ∷ codes "|O*|" ∷ codes "+--+" ∷ codes ":O" ∷ [])
    ∷ [])
    ≡ None ∷ None ∷ []
unfolding lines_of kept_if kept_from kind_of is_edge_line is_row shape_of wanted is_misplaced diagram_fault
    split_at_commas fields_fault labels_under constraint_fault labels_closing_fault fault_in expression_in items_after
    tokens_after token_at listed_at arguments_at scanned_from run fault_of after_line so_far pattern_fault found
    found_at_end least_fault first_fault
no_fault = refl
