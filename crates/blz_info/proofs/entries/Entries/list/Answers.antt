use Rattle.std.proofs.Common.{ap, ◌∙◌, arith}
use Rattle.std.proofs.lemmas.Bool.{ne_eqb, eq-eqb}
use Rattle.std.proofs.lemmas.List.{map_push}
use Rattle.std.proofs.lemmas.Result.{err_from_is_err_and}
use Rattle.blz_info.specs.Listing.{listed_view}
use Rattle.blz_info.specs.Marks.{or_invalid}
use Rattle.blz_info.proofs.Marked.{marks, marks_on, good_some}
use Rattle.blz_info.proofs.WalkSteps.{passes_over, keeps, unread, no_step, all_given}
use Rattle.blz_info.proofs.entries.Entries.list.Goals as goal

pub returns-in_err-entry : goal.returns-in_err-entry
returns-in_err-entry c =
    let p = err_from_is_err_and c.from_residual.result c.from_residual.ensures.1 in
    rw (p.1, p.2) (marks _ _ (no_step _ c.loop-listed.self _ c.in_err-entry.ensures.cut c.in_err-entry.ensures.value.0 c.loop-listed.invariant.rest) c.in_err-entry.ensures.value.1)

pub returns-in_err-attributes : goal.returns-in_err-attributes
returns-in_err-attributes c =
    let p = err_from_is_err_and c.from_residual-in_err-attributes.result c.from_residual-in_err-attributes.ensures.1 in
    let read = rw c.pending-specs.ensures at c.in_err-attributes.ensures.value in
    rw (p.1, p.2) (marks_on _ _ _ read (λ none. unread _ c.in-Some.entry c.loop-listed.self c.next_entry.new.self c.in_ok-entry.field-0 _ c.in_ok-entry.ensures.cut c.in_ok-entry.ensures.value c.in-Some.is (ne_eqb _ _ (omega arith)) c.loop-listed.invariant.rest none))

pub loop-listed-preserved-then-entry-eq0 : goal.loop-listed-preserved-then-entry-eq0
loop-listed-preserved-then-entry-eq0 c = record {
  source = c.in_ok-entry.ensures.source ∙ c.loop-listed.invariant.source;
  rest = passes_over _ c.in-Some.entry c.loop-listed.self c.next_entry.new.self c.in_ok-entry.field-0 _ c.in_ok-entry.ensures.cut c.in_ok-entry.ensures.value c.in-Some.is (eq-eqb _ _ (omega arith)) c.loop-listed.invariant.rest;
}

pub loop-listed-preserved : goal.loop-listed-preserved
loop-listed-preserved c =
    let read = good_some _ _ (rw c.pending-specs.ensures at c.in_ok-attributes.ensures.value) in
    record {
      source = c.in_ok-attributes.ensures.source ∙ c.in_ok-entry.ensures.source ∙ c.loop-listed.invariant.source;
      rest = rw (c.in_ok-push.ensures.items, map_push listed_view c.loop-listed.listed.items (record { entry = c.in-Some.entry; attributes = c.in_ok-attributes.attributes })) (keeps _ c.in-Some.entry c.loop-listed.self c.next_entry.new.self c.read_attributes.new.entries c.in_ok-entry.field-0 c.in_ok-attributes.attributes.items _ c.in_ok-entry.ensures.cut c.in_ok-entry.ensures.value c.in-Some.is (ne_eqb _ _ (omega arith)) read c.in_ok-attributes.ensures.all c.in_ok-attributes.ensures.source c.in_ok-attributes.ensures.depth c.loop-listed.invariant.rest);
    }

pub returns : goal.returns
returns c = ap or_invalid (all_given _ c.loop-listed.self c.next_entry.new.self c.in_ok-entry.field-0 _ c.in_ok-entry.ensures.cut c.in_ok-entry.ensures.value c.in_default.is c.loop-listed.invariant.rest)
