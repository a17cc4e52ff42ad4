use Rattle.std.proofs.Common.{◌≡◌, None, length}
use Rattle.blz_functions.specs.Naming.{told_name, visit_from}
use Rattle.blz_functions.specs.Opened.{open_view}
use Rattle.blz_functions.proofs.referred.visit_attributes.Given as goal

abbrev pub invariant-loop-found : goal.invariant-loop-found
invariant-loop-found l = record {
  source : l.entries.source ≡ l.initial.entries.source;
  rest : visit_from (open_view l.unit) l.entries.pending (told_name (open_view l.unit) l.last l.name) l.link l.entries.place ≡ visit_from (open_view l.unit) l.initial.entries.pending None None l.initial.entries.place;
}

abbrev pub decreases-loop-found : goal.decreases-loop-found
decreases-loop-found l = length l.entries.pending
