-- The run over the items that spell an expression builds its form.
use Rattle.std.proofs.Common.{◌≡◌, ℕ, ◌<◌, ◌≤◌, List, [], ◌∷◌, ◌++◌, drop, Some, refl, ap, sym, ◌∙◌, arith}
use Rattle.std.proofs.Common.{append_assoc}
use Rattle.std.proofs.lemmas.List.{append-nil}
use Rattle.std.proofs.lemmas.Bool.{le-leb, lt-leb}
use Rattle.pat_types.specs.declared.expr.Op.{Op}
use Rattle.cons_parse.specs.declared.calls.Item.{Item}
use Rattle.cons_parse.specs.Grammar.{Written, Num, Call, Parens, Not, Neg, Bin, level_of_op, level_of, IsWell, spelling}
use Rattle.cons_parse.specs.Trees.{meaning_of, NotTree, NegTree}
use Rattle.cons_parse.specs.Building.{Forms, Pending, OpenNot, OpenNeg, OpenParens, OpenLeft, Standing, State}
use Rattle.cons_parse.specs.Building.{settled_in, joined_in, standing, waiting, operated, closed_in, run, built}
use Rattle.cons_parse.specs.Building.{finished, valued, trees}
use Rattle.cons_parse.proofs.SpellingScans.{op_level}

-- no sign is open at the top, and no operator as tight as this level
abbrev pub IsLoose : {P : Type 0} → ℕ → List (Pending P) → Type 0
IsLoose k [] = Unit {0}
IsLoose k (OpenNot ∷ ps) = ⊥
IsLoose k (OpenNeg ∷ ps) = ⊥
IsLoose k (OpenParens ∷ ps) = Unit {0}
IsLoose k (OpenLeft op a ∷ ps) = level_of_op op < k

-- what is looser than a level is looser than a tighter one
looser : {P : Type 0} (k j : ℕ) (ps : List (Pending P)) → k ≤ j → IsLoose k ps → IsLoose j ps
looser k j [] l h = tt
looser k j (OpenNot ∷ ps) l h = h
looser k j (OpenNeg ∷ ps) l h = h
looser k j (OpenParens ∷ ps) l h = tt
looser k j (OpenLeft op a ∷ ps) l h = omega arith

-- an operand closes nothing of what is loose
loose_settled : {P : Type 0} (f : Forms P) (k : ℕ) (ps : List (Pending P)) (e : P) → IsLoose k ps
    → settled_in f ps e ≡ (ps, e)
loose_settled f k [] e h = refl
loose_settled f k (OpenNot ∷ ps) e h = absurd h
loose_settled f k (OpenNeg ∷ ps) e h = absurd h
loose_settled f k (OpenParens ∷ ps) e h = refl
loose_settled f k (OpenLeft op a ∷ ps) e h = refl

-- an operand joins nothing of what is loose
loose_joined : {P : Type 0} (f : Forms P) (k : ℕ) (ps : List (Pending P)) (e : P) → IsLoose k ps
    → joined_in f k ps e ≡ (ps, e)
loose_joined f k [] e h = refl
loose_joined f k (OpenNot ∷ ps) e h = absurd h
loose_joined f k (OpenNeg ∷ ps) e h = absurd h
loose_joined f k (OpenParens ∷ ps) e h = refl
loose_joined f k (OpenLeft op a ∷ ps) e h = grind (arith, lt-leb)

-- joining at a level from a pair
abbrev pub joins : {P : Type 0} → Forms P → ℕ → Standing P → Standing P
joins f k s = joined_in f k s.0 s.1

-- what the run over an expression leaves open, with an operand: the same as the whole expression behind what was open
-- before, at each level that the expression has room for
pub record Reads {P : Type 0} (f : Forms P) (w : Written) (ps : List (Pending P)) : Type 0 where
  pub left : Standing P
  pub runs : (is : List Item) → run f (waiting ps) (spelling w ++ is) ≡ run f (standing left) is
  pub joined_as : (k : ℕ) → k ≤ level_of w → joins f k left ≡ joins f k (settled_in f ps (valued f w))
  pub exact : 5 ≤ level_of w → left ≡ settled_in f ps (valued f w)

-- behind an operator
operator_behind : {P : Type 0} (f : Forms P) (op : Op) (s : Standing P) (ps : List (Pending P)) (e : P)
    → joins f (level_of_op op) s ≡ (ps, e) → operated f s.0 (Some s.1) op ≡ waiting (OpenLeft op e ∷ ps)
operator_behind {P = P} f op s ps e h = ap (λ (t : Standing P). waiting (OpenLeft op t.1 ∷ t.0)) h

-- behind a closing parenthesis
close_behind : {P : Type 0} (f : Forms P) (s : Standing P) (ps : List (Pending P)) (e : P)
    → joins f 0 s ≡ (OpenParens ∷ ps, e) → closed_in f s.0 (Some s.1) ≡ standing (settled_in f ps (f.parens e))
close_behind {P = P} f s ps e h = ap (λ (t : Standing P). standing (settled_in f (drop 1 t.0) (f.parens t.1))) h

-- items that lead at once to an operand leave this one open
reads_operand : {P : Type 0} (f : Forms P) (w : Written) (ps : List (Pending P))
    → ((is : List Item) → run f (waiting ps) (spelling w ++ is) ≡ run f (standing (settled_in f ps (valued f w))) is)
    → Reads f w ps
reads_operand f w ps runs =
    record { left = settled_in f ps (valued f w); runs = runs; joined_as = λ k l. refl; exact = λ l. refl }

-- the closing parenthesis behind an expression leads to the expression in parentheses
runs_parens : {P : Type 0} (f : Forms P) (e : Written) (ps : List (Pending P)) → Reads f e (OpenParens ∷ ps)
    → (is : List Item)
    → run f (waiting ps) (spelling (Parens e) ++ is) ≡ run f (standing (settled_in f ps (f.parens (valued f e)))) is
unfolding run
runs_parens {P = P} f e ps s is = grind (arith, append_assoc, close_behind)

-- what an expression behind a sign leaves open, the sign with it leaves open, where an operand closes the sign
reads_sign : {P : Type 0} (f : Forms P) (e w : Written) (p : Pending P) (ps : List (Pending P)) → 5 ≤ level_of e
    → settled_in f (p ∷ ps) (valued f e) ≡ settled_in f ps (valued f w)
    → ((is : List Item) → run f (waiting ps) (spelling w ++ is) ≡ run f (waiting (p ∷ ps)) (spelling e ++ is))
    → Reads f e (p ∷ ps) → Reads f w ps
reads_sign f e w p ps tight same signs s = record {
  left = s.left;
  runs = λ is. signs is ∙ s.runs is;
  joined_as = λ k l. ap (joins f k) (s.exact tight ∙ same);
  exact = λ l. s.exact tight ∙ same;
}

-- at the level of an operator what its left side leaves open is the left side, behind what was open
left_side : {P : Type 0} (f : Forms P) (op : Op) (a : Written) (ps : List (Pending P)) → level_of_op op ≤ level_of a
    → IsLoose (level_of_op op) ps → (s : Reads f a ps) → joins f (level_of_op op) s.left ≡ (ps, valued f a)
left_side f op a ps room h s = grind (arith, loose_settled, loose_joined)

-- the items of both sides with the operator between them lead to what the right side leaves open
runs_sides : {P : Type 0} (f : Forms P) (op : Op) (a b : Written) (ps : List (Pending P)) (s : Reads f a ps)
    (t : Reads f b (OpenLeft op (valued f a) ∷ ps)) → joins f (level_of_op op) s.left ≡ (ps, valued f a)
    → (is : List Item) → run f (waiting ps) (spelling (Bin op a b) ++ is) ≡ run f (standing t.left) is
unfolding run
runs_sides {P = P} f op a b ps s t left_is is = grind (arith, append_assoc, operator_behind)

-- at each level up to that of an operator, what its right side leaves open is both sides joined, behind what was open
joined_sides : {P : Type 0} (f : Forms P) (op : Op) (a b : Written) (ps : List (Pending P))
    → IsLoose (level_of_op op) ps → level_of_op op < level_of b → (t : Reads f b (OpenLeft op (valued f a) ∷ ps))
    → (k : ℕ) → k ≤ level_of_op op
    → joins f k t.left ≡ joins f k (settled_in f ps (f.joined op (valued f a) (valued f b)))
joined_sides f op a b ps h tighter t k l = grind (arith, le-leb, loose_settled)

-- both sides of an operator lead to what they leave open together
reads_sides : {P : Type 0} (f : Forms P) (op : Op) (a b : Written) (ps : List (Pending P)) → IsWell (Bin op a b)
    → IsLoose (level_of_op op) ps → Reads f a ps → Reads f b (OpenLeft op (valued f a) ∷ ps)
    → Reads f (Bin op a b) ps
reads_sides f op a b ps v h s t = record {
  left = t.left;
  runs = runs_sides f op a b ps s t (left_side f op a ps v.0 h s);
  joined_as = joined_sides f op a b ps h v.1 t;
  exact = λ l. absurd (omega (arith, op_level op));
}

-- the items of an expression lead to what it leaves open
pub reads : {P : Type 0} (f : Forms P) (w : Written) (ps : List (Pending P)) → IsWell w
    → (level_of w < 5 → IsLoose (level_of w) ps) → Reads f w ps
unfolding run
reads f (Num n) ps v r = reads_operand f (Num n) ps (λ is. refl)
reads f (Call name args) ps v r = reads_operand f (Call name args) ps (λ is. refl)
reads f (Parens e) ps v r =
    reads_operand f (Parens e) ps (runs_parens f e ps (reads f e (OpenParens ∷ ps) v (λ l. tt)))
reads f (Not e) ps v r = reads_sign f e (Not e) OpenNot ps v.0 refl (λ is. refl)
    (reads f e (OpenNot ∷ ps) v.1 (λ l. absurd (omega (arith, v.0))))
reads f (Neg e) ps v r = reads_sign f e (Neg e) OpenNeg ps v.0 refl (λ is. refl)
    (reads f e (OpenNeg ∷ ps) v.1 (λ l. absurd (omega (arith, v.0))))
reads f (Bin op a b) ps v r =
    let h : IsLoose (level_of_op op) ps = r (omega (arith, op_level op)) in
    reads_sides f op a b ps v h (reads f a ps v.2 (λ l. looser (level_of_op op) (level_of a) ps v.0 h))
    (reads f b (OpenLeft op (valued f a) ∷ ps) v.3 (λ l. v.1))

-- the whole run
pub built_spelling : {P : Type 0} (f : Forms P) (w : Written) → IsWell w → built f (spelling w) ≡ valued f w
unfolding run
built_spelling {P = P} f w v =
    let s = reads f w [] v (λ l. tt) in
    let e : run f (waiting []) (spelling w) ≡ standing s.left =
    ap (run f (waiting [])) (sym (append-nil (spelling w))) ∙ s.runs [] in
    ap (λ (t : State P). finished f t.pending t.now) e ∙ ap (λ (t : Standing P). t.1) (s.joined_as 0 (omega arith))

-- as a tree an expression is what it says
pub tree_is_meaning : (w : Written) → valued trees w ≡ meaning_of w
tree_is_meaning (Num n) = refl
tree_is_meaning (Call name args) = refl
tree_is_meaning (Parens e) = tree_is_meaning e
tree_is_meaning (Not e) = ap NotTree (tree_is_meaning e)
tree_is_meaning (Neg e) = ap NegTree (tree_is_meaning e)
tree_is_meaning (Bin op a b) = let p = tree_is_meaning a in let q = tree_is_meaning b in cc
