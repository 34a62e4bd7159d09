-- Of a colon line with too many fields the first 19 show the fault.
use Rattle.std.proofs.Common.{◌≡◌, ℕ, ◌<◌, ◌≤◌, Bool, true, false, List, [], ◌∷◌, ◌++◌, length, map, take, drop, None}
use Rattle.std.proofs.Common.{refl, sym, ap, subst, ◌∙◌, arith}
use Rattle.std.specs.Prelude.{nat_lt}
use Rattle.std.proofs.lemmas.Bool.{lt-ltb, ltb-false, cases_lt, or_parts, true≢false}
use Rattle.std.proofs.Math.Seq.{take-append_seam}
use Rattle.std.proofs.lemmas.List.{length-append, length-take, length-drop, take_all}
use Rattle.db_lex.specs.Lines.{trimmed}
use Rattle.db_rules.specs.declared.kind.FaultKind.{FaultKind}
use Rattle.db_rules.specs.declared.kind.FaultKind.TheVariants.{NoDiagram, MoveCount, BadMark, BadClass, BadItem}
use Rattle.db_rules.specs.declared.kind.FaultKind.TheVariants.{UnknownHelper}
use Rattle.db_rules.specs.Kinds.{first_of}
use Rattle.db_rules.specs.Colon.{mark_of, further, fields_fault}
use Rattle.db_entry.specs.Says.{most_fields}

-- the first field alone decides the mark
mark_of_first : (mark : List ℕ) (more other : List (List ℕ)) → mark_of (mark ∷ more) ≡ mark_of (mark ∷ other)
mark_of_first [] more other = refl
mark_of_first (b ∷ []) more other = refl
mark_of_first (b ∷ c ∷ bs) more other = refl

-- more fields than are looked at have the fault that those have
faults_of_many : (helpers diagram all : List (List ℕ)) → most_fields ≤ length all
    → fields_fault helpers diagram (take most_fields all) ≡ fields_fault helpers diagram all
unfolding fields_fault
faults_of_many helpers diagram [] many = absurd (omega (arith, many))
faults_of_many helpers diagram (mark ∷ []) many = absurd (omega (arith, many))
faults_of_many helpers diagram (mark ∷ class ∷ more) many =
    let too_many : nat_lt 16 (length more) ≡ true = lt-ltb 16 (length more) (omega (arith, many)) in
    let still : nat_lt 16 (length (take 17 more)) ≡ true =
    lt-ltb 16 (length (take 17 more)) (omega (arith, many, length-take 17 more)) in
    rw (too_many, still, mark_of_first mark (class ∷ take 17 more) (class ∷ more)) refl

-- the fields that are looked at have the fault of all of them
pub faults_of_few : (helpers diagram all : List (List ℕ))
    → fields_fault helpers diagram (take most_fields all) ≡ fields_fault helpers diagram all
faults_of_few helpers diagram all = grind (arith, take_all, faults_of_many, cases_lt)

-- of six tests of which none passes the fifth does not
fifth_of_six : (a b c d e f : Bool) (k l m n o p : FaultKind)
    → first_of ((a, k) ∷ (b, l) ∷ (c, m) ∷ (d, n) ∷ (e, o) ∷ (f, p) ∷ []) ≡ None → e ≡ false
fifth_of_six true b c d e f k l m n o p none = absurd cc
fifth_of_six false true c d e f k l m n o p none = absurd cc
fifth_of_six false false true d e f k l m n o p none = absurd cc
fifth_of_six false false false true e f k l m n o p none = absurd cc
fifth_of_six false false false false true f k l m n o p none = absurd cc
fifth_of_six false false false false false f k l m n o p none = refl

-- of six tests of which none passes the third does not
third_of_six : (a b c d e f : Bool) (k l m n o p : FaultKind)
    → first_of ((a, k) ∷ (b, l) ∷ (c, m) ∷ (d, n) ∷ (e, o) ∷ (f, p) ∷ []) ≡ None → c ≡ false
third_of_six true b c d e f k l m n o p none = absurd cc
third_of_six false true c d e f k l m n o p none = absurd cc
third_of_six false false true d e f k l m n o p none = absurd cc
third_of_six false false false d e f k l m n o p none = refl

-- fields without a fault begin with a mark
pub mark_is_there : (helpers diagram fields : List (List ℕ)) → fields_fault helpers diagram fields ≡ None
    → mark_of fields ≡ None → ⊥
unfolding fields_fault
mark_is_there helpers diagram fields none no_mark = grind (arith, true≢false, third_of_six)

-- where the fields that are looked at have no fault they are all
pub few_are_all : (helpers diagram all : List (List ℕ)) → fields_fault helpers diagram (take most_fields all) ≡ None
    → take most_fields all ≡ all
unfolding fields_fault
few_are_all helpers diagram all none =
    let few = or_parts (nat_lt 16 (length (further (take most_fields all)))) _
    (fifth_of_six _ _ _ _ _ _ NoDiagram MoveCount BadMark BadClass BadItem UnknownHelper none) in
    let further_few : length (drop 2 (take most_fields all)) ≤ 16 =
    ltb-false 16 (length (drop 2 (take most_fields all))) few.0 in
    take_all most_fields all
    (omega (arith, further_few, length-drop 2 (take most_fields all), length-take most_fields all))

-- if the last part of a line is read, the fields that are read are the first of all
pub whole_line_read : (old new parts all : List (List ℕ)) (part : List ℕ) → old ++ map trimmed parts ≡ all
    → parts ≡ part ∷ [] → new ≡ old ++ trimmed part ∷ [] → length old < most_fields → new ≡ take most_fields all
whole_line_read old new parts all part whole last read few =
    let new_is_all : new ≡ all = read ∙ ap (λ p. old ++ map trimmed p) (sym last) ∙ whole in
    let new_is_few : length new ≤ most_fields =
    subst (λ l. length l ≤ most_fields) (sym read) (omega (arith, few, length-append old (trimmed part ∷ []))) in
    sym (take_all most_fields new new_is_few) ∙ ap (take most_fields) new_is_all

-- where as many fields are read as are looked at, they are the first of all
pub enough_read : (read more all : List (List ℕ)) → read ++ more ≡ all → length read ≡ most_fields
    → read ≡ take most_fields all
enough_read read more all whole enough = grind (arith, take-append_seam read more)
