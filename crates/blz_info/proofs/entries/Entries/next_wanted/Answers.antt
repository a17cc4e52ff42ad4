use Rattle.blz_info.proofs.WantedSteps.{wanted_step, left_of}
use Rattle.blz_info.proofs.entries.Entries.next_wanted.Goals as goal

pub returns-then-met-eq0-clause-value : goal.returns-then-met-eq0-clause-value
returns-then-met-eq0-clause-value c = rw (← c.self.view_is) (wanted_step _ c.in_ok-met.met c.in_ok-met.ensures.value)

pub returns-then-met-eq0-clause-left : goal.returns-then-met-eq0-clause-left
returns-then-met-eq0-clause-left c = rw (← c.self.view_is) (left_of c.in_ok-met.met.found c.in_ok-met.met.count _ c.in_ok-met.ensures.counted c.in_ok-met.ensures.some)

pub returns-clause-value : goal.returns-clause-value
returns-clause-value c = rw (← c.self.view_is) (wanted_step _ c.in_ok-met.met c.in_ok-met.ensures.value)

pub returns-clause-left : goal.returns-clause-left
returns-clause-left c = rw (← c.self.view_is) (left_of c.in_ok-met.met.found c.in_ok-met.met.count _ c.in_ok-met.ensures.counted c.in_ok-met.ensures.some)
