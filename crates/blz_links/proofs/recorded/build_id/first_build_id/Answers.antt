use Rattle.std.proofs.Common.{◌≡◌, Some, None, sym, ap, ◌∙◌}
use Rattle.std.specs.Option.{option_map}
use Rattle.blz_model.specs.Part.{Good}
use Rattle.blz_links.specs.BuildIds.{extent_build_id}
use Rattle.blz_links.proofs.BuildIdLemmas.{first_build_id-broken, first_build_id-found, first_build_id-later, first_build_id-none}
use Rattle.blz_links.proofs.recorded.build_id.first_build_id.Goals as goal

pub loop-record-preserved : goal.loop-record-preserved
loop-record-preserved g c =
    sym (first_build_id-later g.T.HasNotes.notes c.args.order c.args.image.now c.loop-record.record-iterator c.next.new.self c.in-Some.record c.in-Some.ensures.steps (sym (ap (extent_build_id c.args.order c.args.image.now) c.notes.ensures) ∙ c.in-Ok-None.ensures ∙ ap (λ o. Good (option_map (λ id. id.now) o)) (let e : c.in-Ok-None.field-0 ≡ None = cc in e)))
    ∙ c.loop-record.invariant

pub returns-in-Ok-Some : goal.returns-in-Ok-Some
returns-in-Ok-Some g c =
    sym c.loop-record.invariant
    ∙ first_build_id-found g.T.HasNotes.notes c.args.order c.args.image.now c.loop-record.record-iterator c.next.new.self c.in-Some.record c.in-Ok-Some.id.now c.in-Some.ensures.steps (sym (ap (extent_build_id c.args.order c.args.image.now) c.notes.ensures) ∙ c.in-Ok-Some.ensures ∙ ap (λ o. Good (option_map (λ id. id.now) o)) (let e : c.in-Ok-Some.field-0 ≡ Some c.in-Ok-Some.id = cc in e))

pub returns-in-Err : goal.returns-in-Err
returns-in-Err g c = (
  sym c.loop-record.invariant
      ∙ first_build_id-broken g.T.HasNotes.notes c.args.order c.args.image.now c.loop-record.record-iterator c.next.new.self c.in-Some.record c.in-Err.e.kind c.in-Some.ensures.steps (sym (ap (extent_build_id c.args.order c.args.image.now) c.notes.ensures) ∙ c.in-Err.ensures.0),
  c.in-Err.ensures.1,
)

pub returns : goal.returns
returns g c = sym c.loop-record.invariant ∙ first_build_id-none g.T.HasNotes.notes c.args.order c.args.image.now c.loop-record.record-iterator c.in-None.ensures.steps.0
