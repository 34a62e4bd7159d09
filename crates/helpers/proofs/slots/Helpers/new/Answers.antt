use Rattle.std.proofs.Common.{true}
use Rattle.helpers.proofs.Places.{seen-made}
use Rattle.helpers.proofs.slots.Helpers.new.Goals as goal

-- each place has its helper, and is on
pub returns-in-Ok-clause-states : goal.returns-in-Ok-clause-states
returns-in-Ok-clause-states g c =
    seen-made _ (λ b. record { helper = b; on = true }) c.args.list.items c.in-Ok.helpers.slots.items c.in-Ok.ensures
