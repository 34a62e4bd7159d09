-- A text spells one expression at most, and the computation finds it.
use Rattle.std.proofs.Common.{◌≡◌, ℕ, Bool, List, Option, Some, None, refl, ap, sym, ◌∙◌, arith}
use Rattle.std.proofs.lemmas.Option.{same_Some}
use Rattle.std.specs.Option.{option_map, option_and_then}
use Rattle.pat_types.specs.declared.pattern.LabelAt.{LabelAt}
use Rattle.pat_types.specs.declared.expr.Expr.{Expr}
use Rattle.cons_parse.specs.declared.error.ConsError.{ConsError}
use Rattle.cons_parse.specs.declared.error.ConsError.TheVariants.{Syntax, TooDeep, UnknownFunction, Arity, UnknownLabel}
use Rattle.cons_parse.specs.declared.error.ConsError.TheVariants.{NoMemory}
use Rattle.cons_parse.specs.declared.calls.Item.{Item}
use Rattle.cons_parse.specs.Grammar.{Written, Num, Call, Parens, Not, Neg, Bin, IsWell, spelling, Writes}
use Rattle.cons_parse.specs.Scan.{scanned}
use Rattle.cons_parse.specs.Trees.{tree_of, meaning_of}
use Rattle.cons_parse.specs.Building.{built, valued}
use Rattle.cons_parse.specs.Parsing.{items_within, HasFirstFault, Spells, Refuses}
use Rattle.cons_parse.specs.Reading.{as_written, written_of, expression_in, fault_of_reading, fault_in, Blames}
use Rattle.cons_parse.proofs.SpellingScans.{scanned_spelling}
use Rattle.cons_parse.proofs.Spellings.{built_spelling}
use Rattle.cons_parse.proofs.ParseAnswers.{told, written_within}

-- made of its parts again, an expression is the same
valued_written : (w : Written) → valued as_written w ≡ w
valued_written (Num n) = refl
valued_written (Call name args) = refl
valued_written (Parens e) = ap Parens (valued_written e)
valued_written (Not e) = ap Not (valued_written e)
valued_written (Neg e) = ap Neg (valued_written e)
valued_written (Bin op a b) = let p = valued_written a in let q = valued_written b in cc

-- the items of an expression build it again
built_written : (w : Written) → IsWell w → built as_written (spelling w) ≡ w
built_written w v = built_spelling as_written w v ∙ valued_written w

-- what a text spells is found
pub is_found : (text : List ℕ) (w : Written) → Writes text w → expression_in text ≡ Some w
unfolding expression_in
is_found text w h = grind (arith, written_within, scanned_spelling, built_written)

-- a text writes one expression at most
pub is_only : (text : List ℕ) (v w : Written) → Writes text v → Writes text w → v ≡ w
is_only text v w h k = same_Some v w (sym (is_found text v h) ∙ is_found text w k)

-- what is built of items in the grammar is spelled by the text
items_found : (text : List ℕ) (w : Written) (is : List Item) (d : Option Bool) → items_within text ≡ Some is
    → scanned is ≡ d
    → option_map (λ deep. built as_written is) d ≡ Some w → Writes text w
items_found text w is None i s h = cc
items_found text w is (Some d) i s h = grind (arith, told text is d i s, same_Some (built as_written is), built_written)

-- what is built of the items of a text is spelled by it
text_found : (text : List ℕ) (w : Written) (i : Option (List Item)) → items_within text ≡ i
    → option_and_then written_of i ≡ Some w → Writes text w
text_found text w None e h = cc
text_found text w (Some is) e h = items_found text w is (scanned is) e refl h

-- what is found is spelled
pub is_spelled : (text : List ℕ) (w : Written) → expression_in text ≡ Some w → Writes text w
unfolding expression_in
is_spelled text w h = text_found text w (items_within text) refl h

-- an expression without faults, by the computations
pub spells_fault : (labels : List LabelAt) (text : List ℕ) (e : Expr) → Spells labels text e
    → fault_in labels text ≡ None
unfolding fault_in
spells_fault labels text e s = ap (fault_of_reading labels) (is_found text s.written s.writes) ∙ s.faultless

-- the expression that a text spells without faults is the computed one
pub spells_tree : (labels : List LabelAt) (text : List ℕ) (e : Expr) → Spells labels text e
    → option_map meaning_of (expression_in text) ≡ Some (tree_of e)
spells_tree labels text e s = grind (arith, is_found)

-- the first fault of what a text spells is the computed one
tells_fault : (labels : List LabelAt) (text : List ℕ) (f : Option ConsError) → HasFirstFault labels text f
    → fault_in labels text ≡ f
unfolding fault_in
tells_fault labels text f t = ap (fault_of_reading labels) (is_found text t.written t.writes) ∙ t.first

-- where a text spells nothing, nothing is computed
none_found : (text : List ℕ) (e : Option Written) → expression_in text ≡ e → ((w : Written) → Writes text w → ⊥)
    → e ≡ None
none_found text None h f = refl
none_found text (Some w) h f = absurd (f w (is_spelled text w h))

-- an error that is right is the computed fault
pub refuses_fault : (labels : List LabelAt) (text : List ℕ) (e : ConsError) → Refuses labels text e
    → Blames e (fault_in labels text)
unfolding fault_in
refuses_fault labels text Syntax r = ap (fault_of_reading labels) (none_found text (expression_in text) refl r)
refuses_fault labels text TooDeep r = tells_fault labels text (Some TooDeep) r
refuses_fault labels text UnknownFunction r = tells_fault labels text (Some UnknownFunction) r
refuses_fault labels text Arity r = tells_fault labels text (Some Arity) r
refuses_fault labels text UnknownLabel r = tells_fault labels text (Some UnknownLabel) r
refuses_fault labels text NoMemory r = tt
