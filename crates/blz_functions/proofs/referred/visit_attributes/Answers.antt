use Rattle.std.proofs.Common.{sym, ap, ◌∙◌}
use Rattle.blz_model.specs.Part.{Good}
use Rattle.blz_info.specs.Marks.{or_invalid}
use Rattle.blz_functions.specs.Naming.{told_name}
use Rattle.blz_functions.specs.Opened.{open_view}
use Rattle.blz_info.proofs.Marked.{marks}
use Rattle.blz_functions.proofs.DescriptionSteps.{read_one, read_none, visit_more, visit_found, visit_none, visit_over, name_told, name_kept}
use Rattle.blz_functions.proofs.referred.visit_attributes.Goals as goal

pub returns-in-None : goal.returns-in-None
returns-in-None c =
    let k = c.loop-found.invariant in
    let u = open_view c.args.unit.now in
    marks _ _ (sym k.rest ∙ visit_none u c.loop-found.entries.pending _ _ c.loop-found.entries.place (read_none u c.loop-found.entries (k.source ∙ c.requires) c.in-None.ensures.value.0)) c.no_attribute.ensures

pub returns-in-Some-None : goal.returns-in-Some-None
returns-in-Some-None c =
    let k = c.loop-found.invariant in
    let u = open_view c.args.unit.now in
    ap or_invalid (sym k.rest ∙ visit_over u c.loop-found.entries.pending _ _ _ c.loop-found.entries.place _ (read_one u _ c.loop-found.entries c.next_wanted.new.self (k.source ∙ c.requires) (rw c.in-Some-None.field-0-is at c.in-Some-None.ensures.value))) ∙ ap (λ v. Good v) (rw (← c.in_ok-name-in-Some-None.ensures) (sym c.visit_end.ensures))

pub returns-in-Some : goal.returns-in-Some
returns-in-Some c =
    let k = c.loop-found.invariant in
    let u = open_view c.args.unit.now in
    let read = read_one u _ c.loop-found.entries c.next_wanted.new.self (k.source ∙ c.requires) (rw c.in-Some-Some.field-0-is at c.in-Some-Some.ensures.value) in
    ap or_invalid (sym k.rest ∙ visit_found u c.loop-found.entries.pending _ _ _ c.loop-found.entries.place _ _ _ c.in-Some.linkage read (sym c.in_ok-linkage.ensures ∙ c.in-Some.is))

pub loop-found-preserved-then-is_name : goal.loop-found-preserved-then-is_name
loop-found-preserved-then-is_name c =
    let k = c.loop-found.invariant in
    let u = open_view c.args.unit.now in
    let read = read_one u _ c.loop-found.entries c.next_wanted.new.self (k.source ∙ c.requires) (rw c.in-Some-Some.field-0-is at c.in-Some-Some.ensures.value) in
    let old = told_name u c.loop-found.last c.loop-found.name in
    let named = name_told u c.in-Some-Some.found.0 c.in-Some-Some.found.1 old (sym c.is_name.ensures ∙ c.if-is_name.true) in
    rw (c.in_ok-name-in-None-2.ensures, c.link_behind-link.ensures) (record {
      source = c.next_wanted.ensures.source ∙ k.source;
      rest = rw (← named) (sym (visit_more u c.loop-found.entries.pending _ _ _ c.loop-found.entries.place _ _ _ read (sym c.in_ok-linkage.ensures ∙ c.in-None-2.is)) ∙ k.rest);
    })

pub loop-found-preserved : goal.loop-found-preserved
loop-found-preserved c =
    let k = c.loop-found.invariant in
    let u = open_view c.args.unit.now in
    let read = read_one u _ c.loop-found.entries c.next_wanted.new.self (k.source ∙ c.requires) (rw c.in-Some-Some.field-0-is at c.in-Some-Some.ensures.value) in
    let old = told_name u c.loop-found.last c.loop-found.name in
    let kept = name_kept u c.in-Some-Some.found.0 c.in-Some-Some.found.1 old (sym c.is_name.ensures ∙ c.if-is_name.false) in
    rw c.link_behind-link.ensures (record {
      source = c.next_wanted.ensures.source ∙ k.source;
      rest = rw kept at (sym (visit_more u c.loop-found.entries.pending _ _ _ c.loop-found.entries.place _ _ _ read (sym c.in_ok-linkage.ensures ∙ c.in-None-2.is)) ∙ k.rest);
    })
