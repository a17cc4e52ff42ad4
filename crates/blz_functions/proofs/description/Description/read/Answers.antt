use Rattle.std.proofs.Common.{sym, ap, ◌∙◌, arith, refl}
use Rattle.blz_info.specs.Marks.{or_invalid}
use Rattle.blz_info.proofs.Marked.{marks, marks_on}
use Rattle.blz_functions.specs.Opened.{open_view}
use Rattle.blz_functions.proofs.DescriptionSteps.{read_one, read_none, described_more, described_none, described_fails, described_over, site_alone}
use Rattle.blz_functions.proofs.description.Description.read.Goals as goal

pub returns-in-Some-None-clause-value : goal.returns-in-Some-None-clause-value
returns-in-Some-None-clause-value g c =
    let k = c.loop-found.invariant in
    let u = open_view c.args.unit.now in
    ap or_invalid (sym k.rest ∙ described_over _ u c.loop-found.description c.loop-found.entries.pending _ c.loop-found.entries.place _ (read_one u _ c.loop-found.entries c.next_wanted.new.self (k.source ∙ c.requires) (rw c.in-Some-None.field-0-is at c.in-Some-None.ensures.value)))

pub returns-in-None-clause-value : goal.returns-in-None-clause-value
returns-in-None-clause-value g c =
    let k = c.loop-found.invariant in
    let u = open_view c.args.unit.now in
    marks _ _ (sym k.rest ∙ described_none _ u c.loop-found.description c.loop-found.entries.pending c.loop-found.entries.place (read_none u c.loop-found.entries (k.source ∙ c.requires) c.in-None.ensures.value.0)) c.no_attribute.ensures

pub returns-in-Err-clause-value : goal.returns-in-Err-clause-value
returns-in-Err-clause-value g c =
    let k = c.loop-found.invariant in
    let u = open_view c.args.unit.now in
    let read = read_one u _ c.loop-found.entries c.next_wanted.new.self (k.source ∙ c.requires) (rw c.in-Some-Some.field-0-is at c.in-Some-Some.ensures.value) in
    marks_on _ _ _ c.in-Err.ensures.value (λ fails. sym k.rest ∙ described_fails _ u c.loop-found.description c.loop-found.entries.pending _ c.loop-found.entries.place _ _ _ read (rw k.same at fails))

pub loop-found-preserved : goal.loop-found-preserved
loop-found-preserved g c =
    let k = c.loop-found.invariant in
    let u = open_view c.args.unit.now in
    let read = read_one u _ c.loop-found.entries c.next_wanted.new.self (k.source ∙ c.requires) (rw c.in-Some-Some.field-0-is at c.in-Some-Some.ensures.value) in
    record {
      source = c.next_wanted.ensures.source ∙ k.source;
      depth = c.next_wanted.ensures.depth ∙ k.depth;
      ahead = omega arith;
      same = c.add.ensures.same ∙ k.same;
      rest = sym (described_more _ u c.loop-found.description _ c.loop-found.entries.pending _ c.loop-found.entries.place _ _ _ read (rw k.same at c.in-Ok.ensures.value)) ∙ k.rest;
    }

pub loop-found-preserved-then-tells_site : goal.loop-found-preserved-then-tells_site
loop-found-preserved-then-tells_site g c =
    let k = c.loop-found.invariant in
    let refer = g.F.Links.refer (g.F.Links.linkage c.args.links.now) in
    let u = open_view c.args.unit.now in
    let d = c.loop-found.description in
    let read = read_one u _ c.loop-found.entries c.next_wanted.new.self (k.source ∙ c.requires) (rw c.in-Some-Some.field-0-is at c.in-Some-Some.ensures.value) in
    let step = site_alone refer u d _ _ (sym c.tells_site.ensures ∙ c.if-tells_site.true) ∙ rw c.with-description.ensures refl in
    record {
      source = c.next_wanted.ensures.source ∙ k.source;
      depth = c.next_wanted.ensures.depth ∙ k.depth;
      ahead = omega arith;
      same = k.same;
      rest = sym (described_more refer u d _ c.loop-found.entries.pending _ c.loop-found.entries.place _ _ _ read step) ∙ k.rest;
    }
