-- A play on two boards that show the same of the neighbours of its point: it can be made on both or on neither, captures
-- the same, and leaves the same ban.
use Rattle.std.proofs.Common.{◌≡◌, ◌≢◌, ◌∙◌, ◌⊎◌, ℕ, ◌-◌, ◌*◌, ◌<◌, true, false, cond, List, length, set, Option}
use Rattle.std.proofs.Common.{Some, None, Ok, refl, sym, ap, subst, inl, inr, arith}
use Rattle.std.proofs.lemmas.Bool.{cases_eq, cases_Bool, both_ways}
use Rattle.go_rules.specs.declared.Cell.{Cell}
use Rattle.go_rules.specs.declared.Cell.TheVariants.{Empty}
use Rattle.go_rules.specs.declared.Colour.{Colour}
use Rattle.go_rules.specs.Board.{are_neighbours}
use Rattle.go_rules.specs.Strings.{cell_at, is_stone, Path, start, step, IsInString, IsLiberty}
use Rattle.go_rules.specs.Position.{BoardState, IsPosition, board_of, other, stone_of}
use Rattle.go_rules.specs.Play.{play_free, is_taken, cells_after}
use Rattle.go_rules.specs.Rules.{IsOnlyLiberty, LeavesBan}
use Rattle.go_rules.proofs.BanLaws.{ban_parts, ban_means, ban_from}
use Rattle.go_rules.proofs.InWords.{string_itself}
use Rattle.go_rules.proofs.Links.{path_keeps, path_same, liberty_moves, liberties_some, not_its_own}
use Rattle.go_rules.proofs.OnlyLiberties.{stone_not_empty, only_liberty_captures}
use Rattle.go_rules.proofs.Plays.{stone_is, enemy_differs, at_put_same, at_put_other, at_after, taken_parts, own_not_taken}
use Rattle.go_rules.proofs.Plays.{taken_whole, taken_beside}
use Rattle.go_rules.proofs.PlayLaws.{captured_from, removes, free_follows, taken_by_words, done_state, answered}
use Rattle.read_rules.proofs.AfterPlays.{put_liberty, after_liberty}
use Rattle.sure_proof.proofs.ShownLemmas.{IsShown, IsShown-sym, has_two, all_same}

-- of the neighbours that hold stones of c, the boards show the same
abbrev pub OwnShown : ℕ → List Cell → List Cell → Colour → ℕ → Type 0
OwnShown s a b c p = (q : ℕ) → q < s * s → are_neighbours s p q ≡ true → cell_at a q ≡ stone_of c → IsShown s a b q

-- the point p has an empty neighbour
abbrev pub HasRoom : ℕ → List Cell → ℕ → Type 0
HasRoom s a p = (q : ℕ) × (q < s * s) × (are_neighbours s p q ≡ true) × (cell_at a q ≡ Empty)

-- the point p is empty on both boards, they have the same on its neighbours, and they show the same of the enemies of c
-- among these; p has an empty neighbour, or they show the same of the neighbours of c too
pub record LooksSame (s : ℕ) (a b : List Cell) (c : Colour) (p : ℕ) : Type 0 where
  pub first : IsPosition (board_of s a)
  pub second : IsPosition (board_of s b)
  pub on_board : p < s * s
  pub empty_first : cell_at a p ≡ Empty
  pub empty_second : cell_at b p ≡ Empty
  pub beside : (q : ℕ) → q < s * s → are_neighbours s p q ≡ true → cell_at a q ≡ cell_at b q
  pub enemies : OwnShown s a b (other c) p
  pub room : HasRoom s a p ⊎ OwnShown s a b c p

-- which of the boards is the first does not matter
pub LooksSame-sym : {s : ℕ} {a b : List Cell} {c : Colour} {p : ℕ} → LooksSame s a b c p → LooksSame s b a c p
LooksSame-sym h = record {
  first = h.second;
  second = h.first;
  on_board = h.on_board;
  empty_first = h.empty_second;
  empty_second = h.empty_first;
  beside = λ q on near. sym (h.beside q on near);
  enemies = λ q on near stone. IsShown-sym (h.enemies q on near (h.beside q on near ∙ stone));
  room = elim h.room [
    | inl free ↦ inl (free.0, free.1, free.2, sym (h.beside free.0 free.1 free.2) ∙ free.3)
    | inr own ↦ inr (λ q on near stone. IsShown-sym (own q on near (h.beside q on near ∙ stone)))
  ];
}

-- a neighbour of a point is another point
apart : (s p q : ℕ) → are_neighbours s p q ≡ true → q ≢ p
apart s p q near e = not_its_own s p (subst (λ x. are_neighbours s p x ≡ true) e near)

-- The play of c at an empty point p of a whole board.
module _ (s : ℕ) (cells : List Cell) (c : Colour) (p : ℕ) (on : p < s * s) (whole : length cells ≡ s * s) where
  -- the cells with the stone put
  abbrev pub put : List Cell
  put = set cells p (stone_of c)

  -- the cells after the play
  abbrev pub after : List Cell
  after = cells_after s put c

  -- the stone is put
  pub put_here : cell_at put p ≡ stone_of c
  put_here = at_put_same cells p (stone_of c) (subst (λ n. p < n) (sym whole) on)

  -- a stone of c stays
  pub own_stays : (q : ℕ) → q < s * s → cell_at put q ≡ stone_of c → cell_at after q ≡ stone_of c
  own_stays q q_on own =
      at_after s put c q q_on ∙ ap (λ v. cond v Empty (cell_at put q)) (own_not_taken s put c q own) ∙ own

  -- the stone that was played stands
  pub played_stands : cell_at after p ≡ stone_of c
  played_stands = own_stays p on put_here

  -- a point that is not taken keeps its cell
  pub kept : (q : ℕ) → q < s * s → is_taken s put c q ≡ false → cell_at after q ≡ cell_at put q
  kept q q_on f = at_after s put c q q_on ∙ ap (λ v. cond v Empty (cell_at put q)) f

  -- a point that is taken is empty
  pub gone : (q : ℕ) → q < s * s → is_taken s put c q ≡ true → cell_at after q ≡ Empty
  gone q q_on t = at_after s put c q q_on ∙ ap (λ v. cond v Empty (cell_at put q)) t

  -- another stone of c stood before the play
  own_before : (q : ℕ) → q < s * s → q ≢ p → cell_at after q ≡ stone_of c → cell_at cells q ≡ stone_of c
  own_before q q_on ne own = elim (cases_Bool (is_taken s put c q)) [
    | inl t ↦ absurd (stone_not_empty c (sym own ∙ gone q q_on t))
    | inr f ↦ sym (at_put_other cells p q (stone_of c) ne) ∙ sym (kept q q_on f) ∙ own
  ]

  -- a stone of the string of the played stone is this stone, or of the string of a neighbour of c before the play
  pub own_path : {y : ℕ} → Path s after p y
      → (y ≡ p) ⊎ ((x : ℕ) × (x < s * s) × (are_neighbours s p x ≡ true) × (cell_at cells x ≡ stone_of c)
      × IsInString s cells x y)
  own_path start = inl refl
  own_path (step {q = z} {r} path r_on near e) = elim (cases_eq r p) [
    | inl at_p ↦ inl at_p
    | inr ne ↦
        let own : cell_at cells r ≡ stone_of c = own_before r r_on ne (e ∙ played_stands) in
        elim (own_path path) [
          | inl z_is ↦ inr (
            r,
            r_on,
            subst (λ v. are_neighbours s v r ≡ true) z_is near,
            own,
            string_itself s cells r (ap is_stone own ∙ stone_is c),
          )
          | inr w ↦ inr (
            w.0,
            w.1,
            w.2,
            w.3,
            record { stone = w.4.stone; path = step w.4.path r_on near (own ∙ sym w.3) },
          )
        ]
  ]

  -- a neighbour of c before the play is of the string of the played stone after it
  pub joins : (x : ℕ) → x < s * s → are_neighbours s p x ≡ true → cell_at cells x ≡ stone_of c
      → IsInString s after p x
  joins x x_on near own = record {
    stone = ap is_stone played_stands ∙ stone_is c;
    path = step start x_on near (own_stays x x_on (at_put_other cells p x (stone_of c) (apart s p x near) ∙ own)
        ∙ sym played_stands);
  }

  -- so a liberty of it, elsewhere than at p, is one of the played stone's string
  pub joined_liberty : cell_at cells p ≡ Empty → (x : ℕ) → x < s * s → are_neighbours s p x ≡ true
      → cell_at cells x ≡ stone_of c → (l : ℕ) → IsLiberty s cells x l → l ≢ p → IsLiberty s after p l
  joined_liberty empty x x_on near own l lib ne =
      liberty_moves s after p x l on (joins x x_on near own) (after_liberty s cells c p empty x x_on l lib ne)

  -- an empty neighbour after the play is a liberty of the played stone
  pub beside_liberty : (l : ℕ) → l < s * s → are_neighbours s p l ≡ true → cell_at after l ≡ Empty
      → IsLiberty s after p l
  beside_liberty l l_on near empty = record {
    on_board = l_on;
    is_empty = empty;
    beside = (p, string_itself s after p (ap is_stone played_stands ∙ stone_is c), near);
  }

-- The play of c at p on two boards that look the same there.
module _ (s : ℕ) (p : ℕ) (c : Colour) where
  -- a stone of an enemy's string that is captured on the first board is of that string on the second, before the stones
  -- are taken
  same_string : (a b : List Cell) → LooksSame s a b c p → (x q : ℕ) → x ≢ p
      → cell_at (set a p (stone_of c)) x ≡ stone_of (other c) → cell_at b x ≡ stone_of (other c)
      → ((y : ℕ) → IsInString s a x y → IsInString s b x y)
      → Path s (set a p (stone_of c)) x q → Path s (set b p (stone_of c)) x q
  same_string a b h x q ne enemy enemy_b strings path =
      let old : cell_at a x ≡ stone_of (other c) = sym (at_put_other a p x (stone_of c) ne) ∙ enemy in
      let there : Path s a x q = path_keeps s (set a p (stone_of c)) a x (λ y v.
      sym (at_put_other a p y (stone_of c) (λ e. enemy_differs c (sym (path_same s (set a p (stone_of c)) x v ∙ enemy)
      ∙ ap (cell_at (set a p (stone_of c))) e ∙ put_here s a c p h.on_board h.first.cells)))) path in
      let inside = strings q (record { stone = ap is_stone old ∙ stone_is (other c); path = there }) in
      path_keeps s b (set b p (stone_of c)) x (λ y v. at_put_other b p y (stone_of c)
      (λ e. stone_not_empty (other c) (sym (path_same s b x v ∙ enemy_b) ∙ ap (cell_at b) e ∙ h.empty_second)))
      inside.path

  -- what is taken on the first board is taken on the second
  pub taken_on : (a b : List Cell) → LooksSame s a b c p → (q : ℕ) → q < s * s
      → is_taken s (set a p (stone_of c)) c q ≡ true → is_taken s (set b p (stone_of c)) c q ≡ true
  taken_on a b h q q_on t =
      let w = taken_beside (board_of s a) h.first c p h.on_board h.empty_first q q_on t in
      let x = w.0 in
      let parts = taken_parts s (set a p (stone_of c)) c x w.3 in
      let ne = apart s p x w.2 in
      let old : cell_at a x ≡ stone_of (other c) = sym (at_put_other a p x (stone_of c) ne) ∙ parts.0 in
      let old_b : cell_at b x ≡ stone_of (other c) = sym (h.beside x w.1 w.2) ∙ old in
      let dead = (captured_from s (set a p (stone_of c)) c x w.1 w.3).dead in
      elim (h.enemies x w.1 w.2 old) [
        | has_two l k lk la ka lb kb ↦ absurd (elim (cases_eq l p) [
          | inl e ↦ dead k (put_liberty s a c p h.empty_first x w.1 k ka (λ f. lk (e ∙ sym f)))
          | inr l_not ↦ dead l (put_liberty s a c p h.empty_first x w.1 l la l_not)
        ])
        | all_same sa sb la lb ↦
            let only : (k : ℕ) → IsLiberty s a x k → k ≡ p = λ k lib. elim (cases_eq k p) [
              | inl e ↦ e
              | inr k_not ↦ absurd (dead k (put_liberty s a c p h.empty_first x w.1 k lib k_not))
            ] in
            let some = liberties_some s a x (h.first.alive x w.1 (ap is_stone old ∙ stone_is (other c))) in
            let one : IsOnlyLiberty s b x p = record {
              its = la p (subst (IsLiberty s a x) (only some.0 some.1) some.1);
              only = λ k lib. only k (lb k lib);
            } in
            let captured = only_liberty_captures s b c p x h.second.cells one old_b in
            taken_whole s (set b p (stone_of c)) c x q w.1 (taken_by_words s (set b p (stone_of c)) c x captured)
            (same_string a b h x q ne parts.0 old_b sa w.4)
      ]

  -- the same is taken on both
  pub taken_same : (a b : List Cell) → LooksSame s a b c p → (q : ℕ) → q < s * s
      → is_taken s (set a p (stone_of c)) c q ≡ is_taken s (set b p (stone_of c)) c q
  taken_same a b h q on = elim (cases_Bool (is_taken s (set a p (stone_of c)) c q)) [
    | inl t ↦ t ∙ sym (taken_on a b h q on t)
    | inr f ↦ elim (cases_Bool (is_taken s (set b p (stone_of c)) c q)) [
      | inl t ↦ absurd (both_ways (is_taken s (set a p (stone_of c)) c q) f (taken_on b a (LooksSame-sym h) q on t))
      | inr g ↦ f ∙ sym g
    ]
  ]

  -- where the cells are the same before the play they are the same after it
  pub after_same : (a b : List Cell) → LooksSame s a b c p → (q : ℕ) → q < s * s → cell_at a q ≡ cell_at b q
      → cell_at (cells_after s (set a p (stone_of c)) c) q ≡ cell_at (cells_after s (set b p (stone_of c)) c) q
  after_same a b h q on e =
      at_after s (set a p (stone_of c)) c q on
      ∙ ap (λ v. cond v Empty (cell_at (set a p (stone_of c)) q)) (taken_same a b h q on)
      ∙ ap (cond (is_taken s (set b p (stone_of c)) c q) Empty) puts
      ∙ sym (at_after s (set b p (stone_of c)) c q on)
    where
      puts : cell_at (set a p (stone_of c)) q ≡ cell_at (set b p (stone_of c)) q
      puts = elim (cases_eq q p) [
        | inl is ↦ ap (cell_at (set a p (stone_of c))) is ∙ put_here s a c p h.on_board h.first.cells
            ∙ sym (ap (cell_at (set b p (stone_of c))) is ∙ put_here s b c p h.on_board h.second.cells)
        | inr ne ↦ at_put_other a p q (stone_of c) ne ∙ e ∙ sym (at_put_other b p q (stone_of c) ne)
      ]

  -- an empty neighbour after the play on the first board is a liberty of the played stone on the second
  beside_on : (a b : List Cell) → LooksSame s a b c p → (l : ℕ) → l < s * s → are_neighbours s p l ≡ true
      → cell_at (cells_after s (set a p (stone_of c)) c) l ≡ Empty
      → IsLiberty s (cells_after s (set b p (stone_of c)) c) p l
  beside_on a b h l on near empty = beside_liberty s b c p h.on_board h.second.cells l on near
      (sym (after_same a b h l on (h.beside l on near)) ∙ empty)

  -- an empty neighbour before the play is a liberty of the played stone after it
  room_lives : (a b : List Cell) → LooksSame s a b c p → HasRoom s a p
      → (k : ℕ) × IsLiberty s (cells_after s (set b p (stone_of c)) c) p k
  room_lives a b h free =
      let q = free.0 in
      let put_empty : cell_at (set b p (stone_of c)) q ≡ Empty
      = at_put_other b p q (stone_of c) (apart s p q free.2) ∙ sym (h.beside q free.1 free.2) ∙ free.3 in
      let empty : cell_at (cells_after s (set b p (stone_of c)) c) q ≡ Empty
      = elim (cases_Bool (is_taken s (set b p (stone_of c)) c q)) [
        | inl t ↦ gone s b c p h.on_board h.second.cells q free.1 t
        | inr f ↦ kept s b c p h.on_board h.second.cells q free.1 f ∙ put_empty
      ] in
      (q, beside_liberty s b c p h.on_board h.second.cells q free.1 free.2 empty)

  -- if the played stone lives on the first board by the string of a neighbour of c, and the boards show the same of this
  -- string, it lives on the second board
  own_lives : (a b : List Cell) → LooksSame s a b c p → (l : ℕ)
      → IsLiberty s (cells_after s (set a p (stone_of c)) c) p l → (x y : ℕ) → x < s * s → are_neighbours s p x ≡ true
      → cell_at a x ≡ stone_of c → IsInString s a x y → are_neighbours s y l ≡ true → IsShown s a b x
      → (k : ℕ) × IsLiberty s (cells_after s (set b p (stone_of c)) c) p k
  own_lives a b h l lib x y x_on near own inside beside same =
      let own_b : cell_at b x ≡ stone_of c = sym (h.beside x x_on near) ∙ own in
      let joined = joined_liberty s b c p h.on_board h.second.cells h.empty_second x x_on near own_b in
      elim same [
        | has_two m k mk ma ka mb kb ↦ elim (cases_eq m p) [
          | inl e ↦ (k, joined k kb (λ f. mk (e ∙ sym f)))
          | inr m_not ↦ (m, joined m mb m_not)
        ]
        | all_same sa sb la lb ↦ elim (cases_Bool (is_taken s (set a p (stone_of c)) c l)) [
          | inl t ↦
              let z = taken_beside (board_of s a) h.first c p h.on_board h.empty_first l lib.on_board t in (
                z.0,
                beside_liberty s b c p h.on_board h.second.cells z.0 z.1 z.2
                    (gone s b c p h.on_board h.second.cells z.0 z.1 (taken_on a b h z.0 z.1 z.3)),
              )
          | inr f ↦
              let put_empty = sym (kept s a c p h.on_board h.first.cells l lib.on_board f) ∙ lib.is_empty in
              let l_not : l ≢ p = λ e. stone_not_empty c (sym (put_here s a c p h.on_board h.first.cells)
              ∙ ap (cell_at (set a p (stone_of c))) (sym e) ∙ put_empty) in
              let before : IsLiberty s a x l = record {
                on_board = lib.on_board;
                is_empty = sym (at_put_other a p l (stone_of c) l_not) ∙ put_empty;
                beside = (y, inside, beside);
              } in
              (l, joined l (la l before) l_not)
        ]
      ]

  -- if the played stone lives on the first board it lives on the second
  pub alive_on : (a b : List Cell) → LooksSame s a b c p → (l : ℕ)
      → IsLiberty s (cells_after s (set a p (stone_of c)) c) p l
      → (k : ℕ) × IsLiberty s (cells_after s (set b p (stone_of c)) c) p k
  alive_on a b h l lib = elim h.room [
    | inl free ↦ room_lives a b h free
    | inr shows ↦ elim (own_path s a c p h.on_board h.first.cells lib.beside.1.path) [
      | inl y_is ↦ (
        l,
        beside_on a b h l lib.on_board (subst (λ v. are_neighbours s v l ≡ true) y_is lib.beside.2) lib.is_empty,
      )
      | inr w ↦ own_lives a b h l lib w.0 lib.beside.0 w.1 w.2 w.3 w.4 lib.beside.2 (shows w.0 w.1 w.2 w.3)
    ]
  ]

  -- if the played stone is alone on the first board it is alone on the second
  alone_on : (a b : List Cell) → LooksSame s a b c p
      → ((r : ℕ) → IsInString s (cells_after s (set a p (stone_of c)) c) p r → r ≡ p)
      → (r : ℕ) → IsInString s (cells_after s (set b p (stone_of c)) c) p r → r ≡ p
  alone_on a b h alone r inside = elim (own_path s b c p h.on_board h.second.cells inside.path) [
    | inl e ↦ e
    | inr w ↦ absurd (apart s p w.0 w.2 (alone w.0 (joins s a c p h.on_board h.first.cells w.0 w.1 w.2
        (h.beside w.0 w.1 w.2 ∙ w.3))))
  ]

  -- a liberty of a stone that is alone on the first board is one on the second
  lone_liberty : (a b : List Cell) → LooksSame s a b c p
      → ((r : ℕ) → IsInString s (cells_after s (set a p (stone_of c)) c) p r → r ≡ p) → (l : ℕ)
      → IsLiberty s (cells_after s (set a p (stone_of c)) c) p l
      → IsLiberty s (cells_after s (set b p (stone_of c)) c) p l
  lone_liberty a b h alone l lib = beside_on a b h l lib.on_board
      (subst (λ v. are_neighbours s v l ≡ true) (alone lib.beside.0 lib.beside.1) lib.beside.2) lib.is_empty

  -- the ban that the play leaves on the first board it leaves on the second
  leaves_on : (a b : List Cell) → LooksSame s a b c p → (q : ℕ)
      → LeavesBan (board_of s a) c p (cells_after s (set a p (stone_of c)) c) q
      → LeavesBan (board_of s b) c p (cells_after s (set b p (stone_of c)) c) q
  leaves_on a b h q w =
      let back = LooksSame-sym h in
      let alone = alone_on a b h w.stone_alone in
      record {
        on_board = w.on_board;
        taken = captured_from s (set b p (stone_of c)) c q w.on_board
            (taken_on a b h q w.on_board (taken_by_words s (set a p (stone_of c)) c q w.taken));
        one_taken = λ r r_on t. w.one_taken r r_on (captured_from s (set a p (stone_of c)) c r r_on
            (taken_on b a back r r_on (taken_by_words s (set b p (stone_of c)) c r t)));
        stone_alone = alone;
        one_liberty = (
          w.one_liberty.0,
          record {
            its = lone_liberty a b h w.stone_alone w.one_liberty.0 w.one_liberty.1.its;
            only = λ k lib. w.one_liberty.1.only k (lone_liberty b a back alone k lib);
          },
        );
      }

-- these cells and this ban on a board of s rows
abbrev pub state : ℕ → List Cell → Option (ℕ × Colour) → BoardState
state s cells ban = record { size = s; cells = cells; ban = ban }

-- the ban that a play leaves on the first board it leaves on the second
ban_on : (s : ℕ) (a b : List Cell) (x y : Option (ℕ × Colour)) (c : Colour) (p : ℕ) → LooksSame s a b c p
    → (first second : BoardState) → play_free (state s a x) c p ≡ Ok first → play_free (state s b y) c p ≡ Ok second
    → (q : ℕ) (k : Colour) → first.ban ≡ Some (q, k) → second.ban ≡ Some (q, k)
ban_on s a b x y c p h first second played_a played_b q k e =
    let parts = ban_parts (state s a x) c p first h.on_board played_a q k e in
    let means = ban_means (state s a x) c p first h.on_board played_a q (e ∙ ap (λ (j : Colour). Some (q, j)) parts.0) in
    let cells_a = ap (λ (v : BoardState). v.cells) (done_state (state s a x) c p first played_a).1 in
    let cells_b = ap (λ (v : BoardState). v.cells) (done_state (state s b y) c p second played_b).1 in
    let leaves = leaves_on s p c a b h q (words a x (subst (λ cells. LeavesBan (state s a x) c p cells q) cells_a means)) in
    ban_from (state s b y) c p second h.on_board played_b q
    (subst (λ cells. LeavesBan (state s b y) c p cells q) (sym cells_b) (of b y leaves))
    ∙ ap (λ (j : Colour). Some (q, j)) (sym parts.0)
  where
    words : (cells : List Cell) (ban : Option (ℕ × Colour)) → {after : List Cell}
        → LeavesBan (state s cells ban) c p after q → LeavesBan (board_of s cells) c p after q
    words cells ban w = grind arith

    of : (cells : List Cell) (ban : Option (ℕ × Colour)) → {after : List Cell}
        → LeavesBan (board_of s cells) c p after q → LeavesBan (state s cells ban) c p after q
    of cells ban w = grind arith

-- two bans are the same if each that is on the first board is on the second, and back
same_ban : (a b : Option (ℕ × Colour)) → ((q : ℕ) (k : Colour) → a ≡ Some (q, k) → b ≡ Some (q, k))
    → ((q : ℕ) (k : Colour) → b ≡ Some (q, k) → a ≡ Some (q, k)) → b ≡ a
same_ban None None there back = refl
same_ban (Some w) b there back = there w.0 w.1 refl
same_ban None (Some w) there back = sym (back w.0 w.1 refl)

-- after a play on both boards the sizes and the bans are the same, and so are the cells wherever they were before
pub record IsSamePlay (s : ℕ) (a b : List Cell) (first second : BoardState) : Type 0 where
  pub size_first : first.size ≡ s
  pub size_second : second.size ≡ s
  pub bans : second.ban ≡ first.ban
  pub cells : (q : ℕ) → q < s * s → cell_at a q ≡ cell_at b q → cell_at first.cells q ≡ cell_at second.cells q

-- a play that can be made on the first board, with no regard to the ban, can be made on the second
pub done_on : (s : ℕ) (a b : List Cell) (x y : Option (ℕ × Colour)) (c : Colour) (p : ℕ) → LooksSame s a b c p
    → (first : BoardState) → play_free (state s a x) c p ≡ Ok first
    → (second : BoardState) × (play_free (state s b y) c p ≡ Ok second) × IsSamePlay s a b first second
done_on s a b x y c p h first played =
    let done_a = (done_state (state s a x) c p first played).1 in
    let alive_a = (free_follows (state s a x) c p first h.on_board played).alive in
    let alive = alive_on s p c a b h alive_a.0
    (subst (λ cells. IsLiberty s cells p alive_a.0) (ap (λ (v : BoardState). v.cells) done_a) alive_a.1) in
    let next = state s (cells_after s (set b p (stone_of c)) c) None in
    let made = answered (state s b y) c p next h.on_board (record {
      was_empty = h.empty_second;
      size = refl;
      cells = removes s (set b p (stone_of c)) c;
      alive = alive;
    }) in
    let done_b = (done_state (state s b y) c p made.0 made.1).1 in (
      made.0,
      made.1,
      record {
        size_first = ap (λ (v : BoardState). v.size) done_a;
        size_second = ap (λ (v : BoardState). v.size) done_b;
        bans = same_ban first.ban made.0.ban (ban_on s a b x y c p h first made.0 played made.1)
            (ban_on s b a y x c p (LooksSame-sym h) made.0 first made.1 played);
        cells = λ q on e. ap (λ (v : BoardState). cell_at v.cells q) done_a ∙ after_same s p c a b h q on e
            ∙ sym (ap (λ (v : BoardState). cell_at v.cells q) done_b);
      },
    )
