use Rattle.std.proofs.Common.{sym}
use Rattle.blz_error.proofs.CauseLemmas.{causes_of-contexts}
use Rattle.blz_error.proofs.cause.Cause.source.Goals as goal

pub returns-in-len1-up : goal.returns-in-len1-up
returns-in-len1-up c = rw (← c.self.view_is) (sym (causes_of-contexts _ _ c.in-len1-up.len_at_least))
