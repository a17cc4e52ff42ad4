use Rattle.std.proofs.Common.{is_some, slice_get, ap, sym, ◌∙◌}
use Rattle.std.specs.Option.{option_map}
use Rattle.blz_cover.specs.Answers.{source_line}
use Rattle.blz_cover.specs.Coverage.{CountedLine}
use Rattle.blz_cover.specs.Covers.{Cover, covered}
use Rattle.blz_cover.specs.SourceLines.{SourceLine}
use Rattle.blz_cover.specs.LineViews.{line_view}
use Rattle.blz_cover.proofs.CoverSteps.{line_there, no_line_there}
use Rattle.blz_cover.proofs.Faults.{is_answered-line}
use Rattle.blz_cover.proofs.cover.Cover.line_at.Goals as goal

pub returns-in_err-counted : goal.returns-in_err-counted
returns-in_err-counted c =
    let none = no_line_there _ _ _ _ _ _ _ c.args.place c.self.invariant.stands c.in_err-counted.ensures in
    ap (option_map line_view) c.from_residual.ensures ∙ sym none ∙ ap (λ (v : Cover). slice_get (covered v.images v.changes) c.args.place) c.self.view_is

pub line_known-line-requires-clause-line : goal.line_known-line-requires-clause-line
line_known-line-requires-clause-line c =
    let line = line_there _ _ _ _ _ _ _ c.args.place _ c.self.invariant.stands c.in_ok-counted.ensures in
    rw (← c.self.view_is) (ap is_some line.has)

pub line_known-line-requires-clause-answered : goal.line_known-line-requires-clause-answered
line_known-line-requires-clause-answered c =
    let line = line_there _ _ _ _ _ _ _ c.args.place _ c.self.invariant.stands c.in_ok-counted.ensures in
    rw (← c.self.view_is) (is_answered-line _ c.in_ok-counted.counted.addr (ap is_some line.has))

pub returns : goal.returns
returns c =
    let line = line_there _ _ _ _ _ _ _ c.args.place _ c.self.invariant.stands c.in_ok-counted.ensures in
    let images = ap (λ (v : Cover). source_line v.images c.in_ok-counted.counted.addr) c.self.view_is in
    let same = sym line.has ∙ images ∙ c.line_known-line.ensures in
    let with_count : SourceLine → CountedLine = λ l. record { dir = l.dir; file = l.file; line = l.line; count = c.in_ok-counted.counted.count } in
    sym (sym (ap (λ (v : Cover). slice_get (covered v.images v.changes) c.args.place) c.self.view_is) ∙ line.there ∙ ap (option_map with_count) same)
