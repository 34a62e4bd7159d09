-- Candidates of the attacker on boards that agree on the target, on a string next to it, and on their neighbours.
use Rattle.std.proofs.Common.{◌≡◌, ◌∙◌, ℕ, ◌*◌, ◌<◌, ◌≤◌, ◌&&◌, Bool, true, false, cond, List, Option, Some, None}
use Rattle.std.proofs.Common.{refl, sym, ap, subst, arith, inl, inr, ltb}
use Rattle.std.proofs.lemmas.Bool.{cases_eq, and_parts, ltb-true}
use Rattle.go_rules.specs.declared.Cell.{Cell}
use Rattle.go_rules.specs.declared.Cell.TheVariants.{Empty, Black, White}
use Rattle.go_rules.specs.BesideStrings.{is_enemy}
use Rattle.go_rules.specs.Strings.{cell_at, is_stone, is_liberty, liberties, IsInString, IsLiberty}
use Rattle.go_rules.specs.Position.{BoardState}
use Rattle.go_rules.proofs.Counts.{first_below_gives}
use Rattle.go_rules.proofs.InWords.{string_itself}
use Rattle.go_rules.proofs.Links.{liberties_from}
use Rattle.go_rules.proofs.Paths.{IsLiberty-from_test, is_liberty-from_fact}
use Rattle.wider_rules.specs.Further.{is_weak_enemy, is_linked}
use Rattle.wider_rules.specs.FurtherInWords.{IsEnemyBeside, IsWeakEnemy, IsLinkedAt, strengthens, nets}
use Rattle.wider_rules.proofs.FurtherLaws.{weak_gives, linked_gives}
use Rattle.read_rules.specs.Candidates.{is_candidate, IsEmptyNeighbour, looks_wide, takes, goes_further}
use Rattle.read_rules.specs.declared.tree.Tree.{Tree}
use Rattle.read_rules.specs.declared.tree.Tree.TheVariants.{Stated, Wider}
use Rattle.read_rules.specs.declared.turn.Turn.{Turn}
use Rattle.read_rules.specs.Trees.{is_wider}
use Rattle.read_rules.proofs.CandidateLaws.{candidate_from}
use Rattle.sure_proof.specs.Rests.{close_to, most_wide, most_of_enemy, weak_enemy_at, linked_at, else_point, shown_at}
use Rattle.sure_proof.proofs.ShownLemmas.{SameOn, close_string, close_beside, string_kept, string_back_here}
use Rattle.sure_proof.proofs.SoundLemmas.{liberties_same, count_same}

-- an enemy of a stone is a stone
pub enemy_stands : (own there : Cell) → is_enemy own there ≡ true → is_stone there ≡ true
enemy_stands Black White h = refl
enemy_stands White Black h = refl
enemy_stands Black Black h = absurd (let wrong = h in cc)
enemy_stands Black Empty h = absurd (let wrong = h in cc)
enemy_stands White White h = absurd (let wrong = h in cc)
enemy_stands White Empty h = absurd (let wrong = h in cc)
enemy_stands Empty there h = absurd (let wrong = h in cc)

-- the stone that is found is a weak enemy, and p is a liberty of its string
pub weak_given : (most s : ℕ) (cells : List Cell) (target p q : ℕ) → weak_enemy_at most s cells target p ≡ Some q
    → (q < s * s) × ((is_weak_enemy most s cells target q && is_liberty s cells q p) ≡ true)
unfolding weak_enemy_at
weak_given most s cells target p q is =
    first_below_gives (s * s) (λ r. is_weak_enemy most s cells target r && is_liberty s cells r p) q is

-- Two boards that agree on the string of the target and on that of q, each with all its neighbours.
module _ (s : ℕ) (a b : List Cell) (target q : ℕ) where
  -- an enemy next to the target's string is one on the other board
  pub enemy_kept : target < s * s → SameOn (close_to s a target) a b → cell_at a q ≡ cell_at b q
      → IsEnemyBeside s a target q → IsEnemyBeside s b target q
  enemy_kept on agree here w =
      let stones : (x : ℕ) → IsInString s a target x → cell_at a x ≡ cell_at b x = λ x inside.
      agree x (close_string s a target on x inside) in
      let itself = stones target (string_itself s a target w.beside.1.stone) in
      record {
        on_board = w.on_board;
        enemy = subst (λ k. is_enemy k (cell_at b q) ≡ true) itself
            (subst (λ k. is_enemy (cell_at a target) k ≡ true) here w.enemy);
        beside = (w.beside.0, string_kept s a b target stones w.beside.0 w.beside.1, w.beside.2);
      }

  -- a weak enemy is one on the other board, and its string has the same liberties there
  pub weak_kept : (most : ℕ) → target < s * s → SameOn (close_to s a target) a b → SameOn (close_to s a q) a b
      → IsWeakEnemy most s a target q
      → IsWeakEnemy most s b target q × ((l : ℕ) → is_liberty s a q l ≡ is_liberty s b q l)
  weak_kept most on agree near w =
      let stone = enemy_stands (cell_at a target) (cell_at a q) w.enemy.enemy in
      let same = liberties_same s a b q w.enemy.on_board stone near in
      let here = near q (close_string s a q w.enemy.on_board q (string_itself s a q stone)) in (
        record {
          enemy = enemy_kept on agree here w.enemy;
          few = subst (λ n. n ≤ most) (count_same s a b q same) w.few;
        },
        same,
      )

-- A string linked to the target that stands, on two boards that agree on both strings, each with all its neighbours.
module _ (s : ℕ) (a b : List Cell) (target q most l : ℕ) where
  -- it is linked on the other board, and has the same liberties there
  pub link_kept : target < s * s → SameOn (close_to s a target) a b → is_stone (cell_at a target) ≡ true
      → SameOn (close_to s a q) a b → IsLinkedAt most s a target l q
      → IsLinkedAt most s b target l q × ((k : ℕ) → is_liberty s a q k ≡ is_liberty s b q k)
  link_kept on agree stone near w =
      let stands = ap is_stone w.same ∙ stone in
      let its = liberties_same s a b q w.on_board stands near in
      let here = near q (close_string s a q w.on_board q (string_itself s a q stands)) in
      let itself = agree target (close_string s a target on target (string_itself s a target stone)) in
      let liberty = is_liberty-from_fact s a target l on w.liberty in (
        record {
          liberty = IsLiberty-from_test s b target l (sym (liberties_same s a b target on stone agree l) ∙ liberty);
          on_board = w.on_board;
          beside = w.beside;
          same = sym here ∙ w.same ∙ itself;
          other = λ inside. w.other (string_back_here s a b target stone
              (λ x i. agree x (close_string s a target on x i))
              (λ x y i y_on next. agree y (close_beside s a target on x y i y_on next)) q inside);
          few = subst (λ n. n ≤ most) (count_same s a b q its) w.few;
        },
        its,
      )

-- how the string of q shows that p is a candidate of the attacker
pub data ShowsCandidate (turn : Turn) (s : ℕ) (cells : List Cell) (p q : ℕ) : Type 0 where
  is_weak : IsWeakEnemy (most_of_enemy turn.tree) s cells turn.target q → IsLiberty s cells q p
      → ShowsCandidate turn s cells p q
  is_link : ltb 0 turn.wide ≡ true → turn.tree ≡ Wider → (l : ℕ) → IsLinkedAt 2 s cells turn.target l q
      → IsLiberty s cells q p → ShowsCandidate turn s cells p q

-- the wider tree is the one that says so
wider_is : (tree : Tree) → is_wider tree ≡ true → tree ≡ Wider
wider_is Stated h = absurd (let wrong = h in cc)
wider_is Wider h = refl

-- a linked string that is found has p for a liberty
link_given : (turn : Turn) (s : ℕ) (cells : List Cell) (p q : ℕ) → turn.target < s * s
    → (ltb 0 turn.wide && is_wider turn.tree) ≡ true → linked_at s cells turn.target p ≡ Some q
    → ShowsCandidate turn s cells p q
unfolding linked_at
link_given turn s cells p q on wide is =
    let found = first_below_gives (s * s) (λ r. is_linked 2 s cells turn.target r && is_liberty s cells r p) q is in
    let both = and_parts _ _ found.1 in
    let link = linked_gives s cells turn.target 2 q on found.0 both.0 in
    let two = and_parts _ _ wide in
    is_link two.0 (wider_is turn.tree two.1) link.0 link.1 (IsLiberty-from_test s cells q p both.1)

-- the stone that is found shows that p is a candidate
pub other_given : (turn : Turn) (s : ℕ) (cells : List Cell) (p q : ℕ) → turn.target < s * s
    → shown_at turn s cells p ≡ Some q → ShowsCandidate turn s cells p q
unfolding shown_at
other_given turn s cells p q on is = by (weak_enemy_at (most_of_enemy turn.tree) s cells turn.target p) refl is
  where
    by_link : (b : Bool) → (ltb 0 turn.wide && is_wider turn.tree) ≡ b
        → cond b (linked_at s cells turn.target p) None ≡ Some q → ShowsCandidate turn s cells p q
    by_link true wide e = link_given turn s cells p q on wide e
    by_link false wide e = absurd (let wrong = e in cc)

    by : (o : Option ℕ) → weak_enemy_at (most_of_enemy turn.tree) s cells turn.target p ≡ o
        → else_point o (cond (ltb 0 turn.wide && is_wider turn.tree) (linked_at s cells turn.target p) None) ≡ Some q
        → ShowsCandidate turn s cells p q
    by None none e = by_link (ltb 0 turn.wide && is_wider turn.tree) refl e
    by (Some r) found e =
        let given = weak_given (most_of_enemy turn.tree) s cells turn.target p q (found ∙ e) in
        let both = and_parts (is_weak_enemy (most_of_enemy turn.tree) s cells turn.target q) (is_liberty s cells q p) given.1 in
        is_weak (weak_gives s cells turn.target (most_of_enemy turn.tree) q given.0 both.0)
        (IsLiberty-from_test s cells q p both.1)

-- a string that has a liberty and at most one has one
one_liberty : (s : ℕ) (cells : List Cell) (q p : ℕ) → q < s * s → IsLiberty s cells q p → liberties s cells q ≤ 1
    → liberties s cells q ≡ 1
one_liberty s cells q p on lib few = let some = liberties_from s cells q p on lib in omega (arith, some, few)

-- a liberty of a weak enemy is a candidate of the attacker
pub weak_candidate : (turn : Turn) (pos : BoardState) (p : ℕ) → turn.target < pos.size * pos.size
    → turn.attacker_to_play ≡ true → (q : ℕ) → IsWeakEnemy (most_of_enemy turn.tree) pos.size pos.cells turn.target q
    → IsLiberty pos.size pos.cells q p → is_candidate turn pos p ≡ true
weak_candidate turn pos p on attacks q weak lib = by turn.tree refl
  where
    by : (tree : Tree) → turn.tree ≡ tree → is_candidate turn pos p ≡ true
    by Stated is = candidate_from turn pos p on (takes q (record {
      on_board = weak.enemy.on_board;
      enemy = weak.enemy.enemy;
      beside = weak.enemy.beside;
      in_atari = one_liberty pos.size pos.cells q p weak.enemy.on_board lib
          (subst (λ t. liberties pos.size pos.cells q ≤ most_of_enemy t) is weak.few);
      last = lib;
    }))
    by Wider is = candidate_from turn pos p on (goes_further is (strengthens attacks q
        (subst (λ t. IsWeakEnemy (most_of_enemy t) pos.size pos.cells turn.target q) is weak) lib))

-- an empty neighbour of a liberty of a target with few is a candidate of the attacker if a wide ply is left
pub wide_candidate : (turn : Turn) (pos : BoardState) (p : ℕ) → turn.target < pos.size * pos.size
    → turn.attacker_to_play ≡ true → ltb 0 turn.wide ≡ true
    → liberties pos.size pos.cells turn.target ≤ most_wide turn.tree → (l : ℕ)
    → IsLiberty pos.size pos.cells turn.target l → IsEmptyNeighbour pos.size pos.cells l p
    → is_candidate turn pos p ≡ true
wide_candidate turn pos p on attacks wide few l lib near = by turn.tree refl
  where
    wide_few : liberties pos.size pos.cells turn.target ≤ 2 → is_candidate turn pos p ≡ true
    wide_few less = candidate_from turn pos p on (looks_wide (ltb-true 0 turn.wide wide) less l lib near)

    by : (tree : Tree) → turn.tree ≡ tree → is_candidate turn pos p ≡ true
    by Stated is = wide_few (subst (λ t. liberties pos.size pos.cells turn.target ≤ most_wide t) is few)
    by Wider is = elim (cases_eq (liberties pos.size pos.cells turn.target) 3) [
      | inl three ↦ candidate_from turn pos p on (goes_further is (nets wide attacks l (record {
        three = three;
        liberty = lib;
        on_board = near.on_board;
        is_empty = near.is_empty;
        beside = near.beside;
      })))
      | inr other ↦ grind (arith, wide_few)
    ]
