-- What reading a play with fewer plies first leaves open, and why its looks stay in the active area: the nodes of a
-- question with fewer plies are among those of the question.
use Rattle.std.proofs.Common.{◌≡◌, ℕ, suc, ◌-◌, ◌+◌, ◌≤◌, Bool, true, false, not, Option, Some, None, if◌then◌else◌}
use Rattle.std.proofs.Common.{refl, sym, ap, subst, arith}
use Rattle.std.proofs.lemmas.Bool.{both_ways, cases_Bool}
use Rattle.go_rules.specs.Position.{BoardState}
use Rattle.go_base.specs.Facts.{Fact}
use Rattle.read_rules.specs.declared.node.Node.{Node}
use Rattle.read_rules.specs.declared.turn.Turn.{Turn}
use Rattle.read_rules.specs.declared.question.ReadingQuestion.{ReadingQuestion}
use Rattle.read_rules.specs.ActiveArea.{IsNodeOf, first, by_play, by_pass, by_taking_back, InActiveArea, AddsNear}
use Rattle.read_rules.specs.GameTree.{suits, succeeds}
use Rattle.read_rules.proofs.AreaLemmas.{AddsNear-mono}
use Rattle.read_rules.proofs.PlyLaws.{one_more}
use Rattle.read_tree.specs.declared.allowances.Allowances.{Allowances}
use Rattle.read_tree.specs.Allowances.{Ko, under, has, has_some, without, IsFiltered}
use Rattle.read_tree.specs.Deepening.{IsLeftOpen}
use Rattle.read_tree.specs.Steps.{AreNodesOf}
use Rattle.read_tree.proofs.AllowanceLemmas.{has-without, none_of}
use Rattle.read_tree.proofs.KnownPliesLemmas.{with_more}

-- the question with fewer plies
abbrev fewer_plies : ReadingQuestion → ℕ → ReadingQuestion
fewer_plies q d = record {
  tree = q.tree;
  size = q.size;
  kind = q.kind;
  target = q.target;
  colour = q.colour;
  plies = q.plies - d;
  wide = q.wide;
}

-- the same node, with as many plies left written otherwise
moved : {q : ReadingQuestion} {root : BoardState} {a b : ℕ} {node : Node} {here : BoardState} → a ≡ b
    → IsNodeOf q root a node here → IsNodeOf q root b node here
moved {q} {root} {a} {b} {node} {here} e t = subst (λ (m : ℕ). IsNodeOf q root m node here) e t

-- with fewer plies, a node with enough plies left is one of the question with as many fewer
sooner : {q : ReadingQuestion} {root : BoardState} (d : ℕ) {n : ℕ} {node : Node} {here : BoardState}
    → IsNodeOf q root n node here → d ≤ n → IsNodeOf (fewer_plies q d) root (n - d) node here
sooner {q} {root} d (first code low high) few = first code low high
sooner {q} {root} d {n} (by_play before und p candidate next new child) few =
    let one : suc n - d ≡ suc (n - d) = omega (arith, few) in
    let less : d ≤ suc n = omega (arith, few) in
    by_play (moved one (sooner d before less)) und p candidate next
    new child
sooner {q} {root} d {n} (by_pass before und defends) few =
    let one : suc n - d ≡ suc (n - d) = omega (arith, few) in
    let less : d ≤ suc n = omega (arith, few) in
    by_pass (moved one (sooner d before less)) und defends
sooner {q} {root} d {n} (by_taking_back before next new back) few =
    let one : suc n - d ≡ suc (n - d) = omega (arith, few) in
    let less : d ≤ suc n = omega (arith, few) in
    by_taking_back (moved one (sooner d before less)) next new back

-- a node of the question with fewer plies is one of the question, with as many more
later : {q : ReadingQuestion} {root : BoardState} (d : ℕ) → d ≤ q.plies → {n : ℕ} {node : Node} {here : BoardState}
    → IsNodeOf (fewer_plies q d) root n node here → IsNodeOf q root (n + d) node here
later {q} {root} d few (first code low high) =
    let all : q.plies - d + d ≡ q.plies = omega (arith, few) in
    moved (sym all) (first code low high)
later {q} {root} d few {n} (by_play before und p candidate next new child) =
    let one : suc n + d ≡ suc (n + d) = omega arith in
    by_play (moved one (later d few before)) und p candidate next new child
later {q} {root} d few {n} (by_pass before und defends) =
    let one : suc n + d ≡ suc (n + d) = omega arith in
    by_pass (moved one (later d few before)) und defends
later {q} {root} d few {n} (by_taking_back before next new back) =
    let one : suc n + d ≡ suc (n + d) = omega arith in
    by_taking_back (moved one (later d few before)) next new back

-- a node has no more plies left than the question
left_at_most : {q : ReadingQuestion} {root : BoardState} {n : ℕ} {node : Node} {here : BoardState}
    → IsNodeOf q root n node here → n ≤ q.plies
left_at_most (first code low high) = omega arith
left_at_most {q} {root} {n} (by_play before und p candidate next new child) = omega (arith, left_at_most before)
left_at_most {q} {root} {n} (by_pass before und defends) = omega (arith, left_at_most before)
left_at_most {q} {root} {n} (by_taking_back before next new back) = omega (arith, left_at_most before)

-- the active area of the question with fewer plies lies in that of the question
area_later : {q : ReadingQuestion} {root : BoardState} (d : ℕ) → d ≤ q.plies → (p : ℕ)
    → InActiveArea (fewer_plies q d) root p → InActiveArea q root p
area_later d few p area = grind (arith, later)

-- where there are some allowances, one is among them
some_ko : (set : Allowances) → has_some set ≡ true → (ko : Ko) × (has set ko ≡ true)
some_ko set h = grind (arith, cases_Bool)

-- looks near the nodes with fewer plies left, of each question, lie in the active area of a question of the nodes with
-- all of them
pub one_near : {q : ReadingQuestion} {root here : BoardState} {turn : Turn} {asked left : Allowances}
    {before now : Fact → Bool} (fewer plies : ℕ) → fewer ≤ plies → AreNodesOf q root (suc plies) turn asked here
    → has_some asked ≡ true → ((ko : Ko) → has left ko ≡ true → has asked ko ≡ true)
    → ((less : ReadingQuestion) → AreNodesOf less root (suc fewer) turn left here
    → AddsNear before now (InActiveArea less root))
    → AddsNear before now (InActiveArea q root)
one_near {q} {root} {here} {turn} {asked} {left} fewer plies few tree some less near =
    let w = some_ko asked some in
    let most : suc plies ≤ q.plies = left_at_most (tree.each w.0 w.1) in
    let within : plies - fewer ≤ q.plies = omega (arith, most) in
    let enough : plies - fewer ≤ suc plies = omega arith in
    let same : suc plies - (plies - fewer) ≡ suc fewer = omega (arith, few) in
    AddsNear-mono (InActiveArea (fewer_plies q (plies - fewer)) root) (InActiveArea q root)
    (near (fewer_plies q (plies - fewer)) (record {
      each = λ ko h. moved same (sooner (plies - fewer) (tree.each ko (less ko h)) enough);
    }))
    (area_later (plies - fewer) within)

-- at first all that is asked is open
pub open_first : (n : ℕ) (turn : Turn) (here : BoardState) (p : ℕ) (asked : Allowances)
    → IsLeftOpen n turn here p asked asked
open_first n turn here p asked = grind (arith, both_ways)

-- what the attacker has with fewer plies left he has with more, by his play or against the defender's
by_side : (b : Bool) (n fewer : ℕ) (child : Option (Node × BoardState)) → fewer ≤ n → suits fewer b child ≡ b
    → suits n b child ≡ b
by_side true n fewer child few h = with_more (record { more = more child }) n fewer few h
  where
    more : (c : Option (Node × BoardState)) (m : ℕ) → suits m true c ≡ true → suits (suc m) true c ≡ true
    more None m h = h
    more (Some c) m h = one_more m c.0 c.1 h
by_side false n fewer None few h = refl
by_side false n fewer (Some c) few h =
    ap not (with_more (record { more = λ m w. one_more m c.0 c.1 w }) n fewer few (not_false _ h))
  where
    not_false : (w : Bool) → not w ≡ false → w ≡ true
    not_false true h = refl
    not_false false h = cc

-- an allowance in one of two sets
has_by : (b : Bool) (x y : Allowances) (ko : Ko) → has (if b then x else y) ko ≡ (if b then has x ko else has y ko)
has_by true x y ko = refl
has_by false x y ko = refl

-- what was found of the open ones closes those under which the attacker has his way
pub open_next : {n : ℕ} {turn : Turn} {here : BoardState} {p : ℕ} {asked left : Allowances} (fewer : ℕ)
    (good next : Allowances) → fewer ≤ n → IsLeftOpen n turn here p asked left
    → IsFiltered left good (λ ko. succeeds fewer (under turn ko) here p)
    → next ≡ without left (if turn.attacker_to_play then good else without left good)
    → IsLeftOpen n turn here p asked next
open_next {n} {turn} {here} {p} {asked} {left} fewer good next few before tells is =
    grind (arith, cases_Bool, by_side, has-without, has_by)

-- what was found with all plies of the open ones, with what is closed, tells of all that was asked
pub closed_tells : {n : ℕ} {turn : Turn} {here : BoardState} {p : ℕ} {asked left : Allowances}
    (good found : Allowances) → IsLeftOpen n turn here p asked left
    → IsFiltered left good (λ ko. succeeds n (under turn ko) here p)
    → found ≡ (if turn.attacker_to_play then without asked (without left good) else good)
    → IsFiltered asked found (λ ko. succeeds n (under turn ko) here p)
closed_tells {n} {turn} {here} {p} {asked} {left} good found before tells is =
    grind (arith, has_by, has-without, both_ways)

-- of no allowance, none is found
pub none_tells : (left : Allowances) (test : Ko → Bool) → has_some left ≡ false → IsFiltered left left test
none_tells left test none = grind (arith, none_of)
