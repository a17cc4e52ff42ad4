use Rattle.std.proofs.Common.{◌≡◌, ◌-◌, ◌+◌, length, arith, sym, ap, ◌∙◌, ◌++◌, ◌∷◌, []}
use Rattle.std.proofs.lemmas.Bool.{ne_eqb, eq-eqb}
use Rattle.std.proofs.lemmas.Result.{err_from_is_err_and}
use Rattle.blz_info.specs.Marks.{or_invalid}
use Rattle.blz_info.specs.AbbreviationTables.{abbreviations, table_in}
use Rattle.blz_info.proofs.Marked.{marks, marks_on, good_some, is_none}
use Rattle.blz_info.proofs.AbbreviationSteps.{table_more, table_last, table_none, table_again, table_stops, table_end, past_the_end}
use Rattle.blz_info.proofs.abbreviations.Abbreviations.parse_for.Goals as goal

pub returns-then-at-abbrev : goal.returns-then-at-abbrev
unfolding abbreviations
returns-then-at-abbrev c = marks _ _ (past_the_end _ _ _ _ (omega arith)) c.invalid.ensures

pub loop-init : goal.loop-init
unfolding abbreviations
loop-init c = rw c.empty-table.ensures (ap (λ n. table_in n [] c.args.abbrev.now c.args.at) (omega arith))

pub returns-in_default : goal.returns-in_default
returns-in_default c =
    marks _ _ (sym c.loop.invariant ∙ table_none _ (length c.args.abbrev.now - (c.loop.counter + 1)) _ _ _ (omega arith) (sym c.in_default.ensures.value)) c.invalid-in_default.ensures

pub returns-then-code-eq0 : goal.returns-then-code-eq0
returns-then-code-eq0 c =
    ap or_invalid (sym c.loop.invariant ∙ table_last _ (length c.args.abbrev.now - (c.loop.counter + 1)) _ _ _ _ c.in-Some.next (omega arith) (sym c.in-Some.ensures.value) (eq-eqb _ _ (omega arith)))

pub returns-then-has : goal.returns-then-has
returns-then-has c =
    marks _ _ (sym c.loop.invariant ∙ table_again _ (length c.args.abbrev.now - (c.loop.counter + 1)) _ _ _ _ c.in-Some.next (omega arith) (sym c.in-Some.ensures.value) (ne_eqb _ _ (omega arith)) (sym c.if-has.ensures)) c.invalid-then-has.ensures

pub returns-in_err-abbreviation : goal.returns-in_err-abbreviation
returns-in_err-abbreviation c =
    let p = err_from_is_err_and c.from_residual-in_err-abbreviation.result c.from_residual-in_err-abbreviation.ensures.1 in
    rw (p.1, p.2) (marks_on _ _ _ c.in_err-abbreviation.ensures.value (λ none. sym c.loop.invariant ∙ table_stops _ (length c.args.abbrev.now - (c.loop.counter + 1)) _ _ _ _ c.in-Some.next (omega arith) (sym c.in-Some.ensures.value) (ne_eqb _ _ (omega arith)) (sym c.if-has.ensures) none))

pub add-requires : goal.add-requires
add-requires c = rw c.in_ok-abbreviation.ensures.code (is_none _ (sym c.if-has.ensures))

pub loop-preserved : goal.loop-preserved
loop-preserved c =
    let after : c.add.new.self ≡ c.loop.table ++ c.in_ok-abbreviation.abbreviation ∷ [] = c.in_ok-add.ensures.ok in
    rw after (sym (table_more _ (length c.args.abbrev.now - (c.loop.counter + 1)) _ _ _ _ c.in-Some.next _ c.in_ok-abbreviation.abbreviation (omega arith) (sym c.in-Some.ensures.value) (ne_eqb _ _ (omega arith)) (sym c.if-has.ensures) (good_some _ _ c.in_ok-abbreviation.ensures.value)) ∙ c.loop.invariant)

pub returns : goal.returns
returns c = marks _ _ (sym c.loop.invariant ∙ table_end _ _ _ _ (omega arith)) c.invalid-2.ensures
