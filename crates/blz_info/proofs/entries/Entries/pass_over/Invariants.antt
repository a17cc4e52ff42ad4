use Rattle.std.proofs.Common.{◌≡◌, ◌≤◌, ◌-◌, ℕ, [], Some}
use Rattle.blz_info.specs.Passing.{past}
use Rattle.blz_info.proofs.entries.Entries.pass_over.Given as goal

abbrev pub invariant-loop-next : goal.invariant-loop-next
invariant-loop-next l = record {
  low : l.depth ≤ l.place;
  ahead : l.fn.self.place ≤ l.place;
  passed : (n : ℕ) × (past n l.passing l.tag l.fn.self ≡ Some (record { source = l.fn.self.source; place = l.place; pending = []; depth = l.depth }));
}

abbrev pub decreases-loop-next : goal.decreases-loop-next
decreases-loop-next l = l.fn.self.source.end - l.place
