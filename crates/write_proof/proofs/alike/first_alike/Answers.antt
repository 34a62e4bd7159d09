use Rattle.std.proofs.Common.{arith}
use Rattle.read_tree.proofs.NodeLemmas.{first_pass}
use Rattle.read_tree.proofs.ReadyLemmas.{point_after, liberties_after}
use Rattle.read_tree.proofs.TableLemmas.{table_more}
use Rattle.write_proof.proofs.WriteLemmas.{here_stays}
use Rattle.write_proof.proofs.AlikeLemmas.{after_pass}
use Rattle.write_proof.proofs.alike.first_alike.Goals as goal

-- the liberties of the target were found
pub pass_success-requires : goal.pass_success-requires
pass_success-requires g c =
    let found = c.liberties-known.ensures in
    record {
      room = rw found.stays.moves c.requires.room;
      target = point_after found.stays c.args.turn.target c.requires.target;
      some = c.requires.some;
      liberties = λ pos a. rw found.stays.moves (found.over pos a);
      table = table_more c.requires.table found.stays.grows;
    }

-- and are the same after the pass
pub first_point-requires : goal.first_point-requires
first_point-requires g c = grind (arith, point_after, liberties_after)

-- the pass comes first
pub returns-in-Always-clause-first : goal.returns-in-Always-clause-first
returns-in-Always-clause-first g c = grind (arith, here_stays, first_pass)

-- of one allowance it is not told that it differs
pub returns-in-Differs-clause-one : goal.returns-in-Differs-clause-one
returns-in-Differs-clause-one g c = λ one e. c.pass_success.ensures.one one c.in-Differs.is

-- else the first point
pub returns-in-Never-clause-first : goal.returns-in-Never-clause-first
returns-in-Never-clause-first g c = grind (arith, here_stays, after_pass)
