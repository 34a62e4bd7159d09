-- Ko allowances: which side may ignore the ko ban once; sets of ko allowances, and a node under one of them.
use Rattle.std.specs.Prelude.{◌≡◌, ℕ, Bool, true, false, not, ◌&&◌, ◌||◌, nat_lt, if◌then◌else◌}
use Rattle.read_rules.specs.declared.node.Node.{Node}
use Rattle.read_rules.specs.declared.turn.Turn.{Turn}
use Rattle.read_tree.specs.declared.allowances.Allowances.{Allowances}

-- a ko allowance: which side may play once although the ban forbids it
pub data Ko : Type 0 where
  defender_may : Ko
  neither_may : Ko
  attacker_may : Ko

-- the allowance is in the set
abbrev pub has : Allowances → Ko → Bool
has set defender_may = set.defender
has set neither_may = set.neither
has set attacker_may = set.attacker

-- how often the attacker may ignore the ban under an allowance
abbrev pub attacker_ko_of : Ko → ℕ
attacker_ko_of defender_may = 0
attacker_ko_of neither_may = 0
attacker_ko_of attacker_may = 1

-- how often the defender may ignore the ban under an allowance
abbrev pub defender_ko_of : Ko → ℕ
defender_ko_of defender_may = 1
defender_ko_of neither_may = 0
defender_ko_of attacker_may = 0

-- the allowance of one side: of the attacker if true, of the defender if false
abbrev pub own_ko : Bool → Ko
own_ko true = attacker_may
own_ko false = defender_may

-- the node of this turn under an allowance
abbrev pub under : Turn → Ko → Node
under turn ko = record { turn = turn; attacker_ko = attacker_ko_of ko; defender_ko = defender_ko_of ko }

-- the set has an allowance
abbrev pub has_some : Allowances → Bool
has_some set = set.defender || set.neither || set.attacker

-- the allowances of a that are not in b
abbrev pub without : Allowances → Allowances → Allowances
without a b = record {
  defender = a.defender && not b.defender;
  neither = a.neither && not b.neither;
  attacker = a.attacker && not b.attacker;
}

-- the allowances that are in both sets
abbrev pub both : Allowances → Allowances → Allowances
both a b = record {
  defender = a.defender && b.defender;
  neither = a.neither && b.neither;
  attacker = a.attacker && b.attacker;
}

-- the allowances that are in one of the sets
abbrev pub either : Allowances → Allowances → Allowances
either a b = record {
  defender = a.defender || b.defender;
  neither = a.neither || b.neither;
  attacker = a.attacker || b.attacker;
}

-- each of the three allowances
abbrev pub all_three : Allowances
all_three = record { defender = true; neither = true; attacker = true }

-- the allowance of one side if there is true, else none: of the attacker if attacker is true, of the defender if not
abbrev pub own_where : Bool → Bool → Allowances
own_where attacker there = record { defender = not attacker && there; neither = false; attacker = attacker && there }

-- the allowance of a code from 1 to 3, for a question of this kind: under code 3 the other side may ignore the ban,
-- under code 2 neither side, under code 1 the side that is asked about
abbrev pub ko_of : Bool → ℕ → Ko
ko_of attack code = if nat_lt 2 code then own_ko (not attack) else if nat_lt 1 code then neither_may else own_ko attack

-- the allowances of the codes above this code
abbrev pub codes_above : ℕ → Bool → Allowances
codes_above code attack = record {
  defender = if attack then nat_lt code 3 else nat_lt code 1;
  neither = nat_lt code 2;
  attacker = if attack then nat_lt code 1 else nat_lt code 3;
}

-- the greatest code whose allowance is in the set, or else this code
abbrev pub best_code : Allowances → ℕ → Bool → ℕ
best_code set code attack =
    if has set (own_ko (not attack)) then 3 else if set.neither then 2 else if has set (own_ko attack) then 1 else code

-- found has exactly the allowances of asked that pass the test
pub record IsFiltered (asked found : Allowances) (test : Ko → Bool) : Type 0 where
  pub each : (ko : Ko) → has found ko ≡ (has asked ko && test ko)
