use Rattle.blz_bundle.proofs.OpeningCauses.{are_default}
use Rattle.blz_bundle.proofs.owned_bundle.OwnedBundle.open.Goals as goal

pub returns-clause-opened : goal.returns-clause-opened
returns-clause-opened g c = rw (← are_default c.in_ok-from_str.field-0 c.in_ok-from_str-2.field-0 c.in_ok-from_str.ensures.ok c.in_ok-from_str-2.ensures.ok) c.open_with_debug_dirs.ensures.opened
