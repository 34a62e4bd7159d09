-- The entries of a database: the pattern of each block.
use Rattle.std.specs.Prelude.{ℕ, ◌/◌, ◌%◌, Bool, false, List, [], ◌∷◌, length, map, Option, unwrap_or}
use Rattle.std.specs.List.{position_or_len}
use Rattle.std.specs.Option.{option_map}
use Rattle.pat_types.specs.declared.letter.Letter.{Letter}
use Rattle.pat_types.specs.declared.mark.Mark.{Mark}
use Rattle.pat_types.specs.declared.mark.Mark.TheVariants.{Oh}
use Rattle.pat_types.specs.declared.pattern.Item.{Item}
use Rattle.pat_types.specs.declared.pattern.LabelAt.{LabelAt}
use Rattle.pat_types.specs.declared.pattern.Pattern.{Pattern}
use Rattle.cons_parse.specs.Trees.{Tree, tree_of}
use Rattle.pat_types.specs.Diagrams.{is_star}
use Rattle.db_lex.specs.Lines.{KeptLine, word_of, rest_of, trimmed}
use Rattle.db_rules.specs.declared.shape.Shape.{Shape}
use Rattle.db_rules.specs.Diagram.{rows_of, wanted, has_top, has_bottom, letters_of}
use Rattle.db_rules.specs.Colon.{fields_of, mark_of, class_field, class_letters, further, item_of}
use Rattle.db_rules.specs.Labels.{labels_of}
use Rattle.db_rules.specs.Expressions.{expression_on}
use Rattle.db_rules.specs.Blocks.{Block, words_in}

-- an entry of a database: a pattern as its block spells it
pub record Entry : Type 0 where
  pub name : List ℕ
  pub rows : ℕ
  pub cols : ℕ
  pub letters : List Letter
  pub top : Bool
  pub bottom : Bool
  pub left : Bool
  pub right : Bool
  pub star : ℕ × ℕ
  pub mark : Mark
  pub classes : List ℕ
  pub items : List Item
  pub labels : List LabelAt
  pub constraint : Option Tree

-- the entry that a pattern spells
abbrev pub entry_of : Pattern → Entry
entry_of p = record {
  name = p.name;
  rows = p.rows;
  cols = p.cols;
  letters = p.letters;
  top = p.top;
  bottom = p.bottom;
  left = p.left;
  right = p.right;
  star = p.star;
  mark = p.mark;
  classes = p.classes;
  items = p.items;
  labels = p.labels;
  constraint = option_map tree_of p.constraint;
}

-- the name on a Pattern line: the first word of what follows `Pattern`
abbrev pub name_on : List ℕ → List ℕ
name_on line = word_of (trimmed (rest_of line))

-- the bytes of the first of these lines, which is the colon line
abbrev pub colon_bytes : List KeptLine → List ℕ
colon_bytes [] = []
colon_bytes (line ∷ more) = line.bytes

-- the row and the column of the first star, if a row has cols letters
abbrev pub star_place : ℕ → List Letter → ℕ × ℕ
star_place cols letters = (position_or_len is_star letters / cols, position_or_len is_star letters % cols)

-- the shape of the rows of a diagram
abbrev pub shape_in : List (List ℕ) → Shape
shape_in diagram = unwrap_or (wanted diagram) (record { left = false; right = false; width = 0 })

-- the entry of a block
abbrev pub entry_of_block : Block → Entry
entry_of_block b =
    let diagram = words_in b.diagram in
    let shape = shape_in diagram in
    let fields = fields_of (colon_bytes b.colon) in
    record {
      name = name_on b.head.bytes;
      rows = length (rows_of diagram);
      cols = shape.width;
      letters = letters_of diagram;
      top = has_top diagram;
      bottom = has_bottom diagram;
      left = shape.left;
      right = shape.right;
      star = star_place shape.width (letters_of diagram);
      mark = unwrap_or (mark_of fields) Oh;
      classes = class_letters (class_field fields);
      items = map item_of (further fields);
      labels = labels_of diagram (words_in b.constraint);
      constraint = expression_on b.expression;
    }
