use Rattle.std.proofs.Common.{rules, ◌≡◌, ◌∙◌, length, map, ap, sym}
use Rattle.std.proofs.lemmas.List.{nil_from_length}
use Rattle.blz_reader.specs.SiteViews.{inlined_view}
use Rattle.blz_line.specs.Lookups.{location_view}
use Rattle.blz_resolver.proofs.MovedCalls.{frames_of_none}
use Rattle.blz_resolver.proofs.answers.call_places.CallPlaces.frames.Goals as goal

pub returns-then-is_empty : goal.returns-then-is_empty
returns-then-is_empty c =
    let none : length c.into_vec-calls.result.items ≡ 0 = search rules in
    c.one.ensures ∙ sym (frames_of_none (location_view c.args.direct) c.args.calls (sym c.into_vec-calls.ensures ∙ ap (map inlined_view) (nil_from_length c.into_vec-calls.result.items none)))
