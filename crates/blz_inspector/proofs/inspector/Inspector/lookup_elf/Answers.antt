use Rattle.std.proofs.Common.{inl}
use Rattle.blz_inspector.specs.Names.{found_in}
use Rattle.blz_inspector.proofs.UseSteps.{gives_at}
use Rattle.blz_inspector.proofs.inspector.Inspector.lookup_elf.Goals as goal

pub returns-clause-outcome : goal.returns-clause-outcome
returns-clause-outcome g c = inl (gives_at (λ f. f) c.lookup_at.result (λ d i. found_in d c.args.names.now i) _ _ _ _ _ _ c.in_ok-at.ensures.used c.lookup_at.ensures.same c.lookup_at.ensures.value)
