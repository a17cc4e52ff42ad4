use Rattle.std.proofs.Common.{◌≡◌, ◌≤◌, ◌-◌, length}
use denote.Shadow.{shadow}
use denote.Text.{Utf8}
use Rattle.blz_links.specs.Paths.{pieces_from}
use Rattle.blz_links.proofs.path_pieces.first_component.Given as goal

abbrev pub invariant-loop-rest : goal.invariant-loop-rest
invariant-loop-rest l = record {
  text : shadow (Utf8 l.rest);
  within : length l.rest ≤ l.len;
  same : pieces_from (l.len - length l.rest) l.rest ≡ pieces_from (l.len - length l.initial.rest) l.initial.rest;
}

abbrev pub decreases-loop-rest : goal.decreases-loop-rest
decreases-loop-rest l = length l.rest
