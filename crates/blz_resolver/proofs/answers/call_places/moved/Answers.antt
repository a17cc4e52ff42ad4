use Rattle.std.proofs.Common.{◌≡◌, ◌++◌, ◌∷◌, ◌∙◌, List, [], Option, map, option_map, sym, ap, rules, length, reverse}
use Rattle.std.proofs.lemmas.List.{map_push, nil_from_length}
use Rattle.blz_model.specs.Answers.{Site, Inlined}
use Rattle.blz_elf.specs.CallViews as shown
use Rattle.blz_line.specs.Lookups.{location_view}
use Rattle.blz_reader.specs.SiteViews.{inlined_view}
use Rattle.blz_resolver.specs.CallFrames.{site_of_next, moved}
use Rattle.blz_resolver.proofs.MovedCalls.{next_of_last, moved_on, last_call, map_reverse, moved_all}
use Rattle.blz_resolver.proofs.answers.call_places.moved.Goals as goal

pub loop-call-preserved : goal.loop-call-preserved
loop-call-preserved c =
    let site = option_map location_view c.loop-call.site in
    let call = inlined_view c.in-Some.call in
    let popped : map inlined_view c.loop-call.rest.items ≡ map inlined_view c.pop.new.self.items ++ call ∷ [] = rw c.in-Some.ensures.items (map_push inlined_view c.pop.new.self.items c.in-Some.call) in
    let pushed : map shown.inlined_view c.push.new.self.items ≡ map shown.inlined_view c.loop-call.inlined.items ++ last_call call site ∷ [] =
    rw c.in_ok-push.ensures.items (map_push shown.inlined_view c.loop-call.inlined.items _
    ∙ ap (λ (s : Option Site). map shown.inlined_view c.loop-call.inlined.items ++ record { name = call.name; site = s } ∷ []) c.code_info_if.ensures) in
    record {
      first = sym (next_of_last (map inlined_view c.pop.new.self.items) call site) ∙ ap (λ (xs : List Inlined). site_of_next xs site) (sym popped) ∙ c.loop-call.invariant.first;
      inlined = rw pushed (moved_on (map inlined_view c.pop.new.self.items) call site (map shown.inlined_view c.loop-call.inlined.items) (moved (map inlined_view c.args.calls.items) (option_map location_view c.args.last)) (ap (λ (xs : List Inlined). moved xs site ++ reverse (map shown.inlined_view c.loop-call.inlined.items)) (sym popped) ∙ c.loop-call.invariant.inlined));
    }

pub returns-clause-inlined : goal.returns-clause-inlined
returns-clause-inlined c =
    let none : length c.loop-call.rest.items ≡ 0 = search rules in
    rw c.reverse.ensures.items (map_reverse shown.inlined_view c.loop-call.inlined.items ∙ moved_all (map inlined_view c.loop-call.rest.items) (option_map location_view c.loop-call.site) (map shown.inlined_view c.loop-call.inlined.items) (moved (map inlined_view c.args.calls.items) (option_map location_view c.args.last)) (ap (map inlined_view) (nil_from_length c.loop-call.rest.items none)) c.loop-call.invariant.inlined)
