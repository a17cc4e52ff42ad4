use Rattle.std.proofs.Common.{ap, ◌∙◌, Option, option_map}
use Rattle.std.proofs.lemmas.Result.{err_from_is_err_and}
use Rattle.blz_model.specs.Part.{Part, Good, ◌>>=◌}
use Rattle.blz_line.specs.UnitLines.{LineTable}
use Rattle.blz_units.specs.BuiltUnits.{files_view}
use Rattle.blz_bundle.specs.BundleViews.{bundle_view}
use Rattle.blz_resolver.specs.UnitRowsRead.{rows_with}
use Rattle.blz_resolver.proofs.ReadBooks.{rows_read, rows_given, lines_fit}
use Rattle.blz_resolver.proofs.debug.debug_info.DebugInfo.rows.Goals as goal

pub returns-in_err-lines : goal.returns-in_err-lines
returns-in_err-lines c =
    let p = err_from_is_err_and c.from_residual.result c.from_residual.ensures.1 in
    let h = c.in_err-lines.ensures.value (files_view c.dwarf-dwarf.result) (lines_fit (bundle_view c.args.bundle.now) c.args.self.now c.dwarf-dwarf.result c.requires.fits c.dwarf-dwarf.ensures.view) in
    rw (p.1, p.2) (
      rows_read (bundle_view c.args.bundle.now) c.args.self.now c.dwarf-dwarf.result c.args.unit c.requires.fits c.dwarf-dwarf.ensures.view c.dwarf-dwarf.ensures.readable
          ∙ ap (λ (q : Part (Option LineTable)). q >>= λ lines. Good (option_map (rows_with c.dwarf-dwarf.result.texts) lines)) h.0,
      h.1,
    )

pub returns : goal.returns
returns c =
    rows_read (bundle_view c.args.bundle.now) c.args.self.now c.dwarf-dwarf.result c.args.unit c.requires.fits c.dwarf-dwarf.ensures.view c.dwarf-dwarf.ensures.readable
    ∙ rows_given c.dwarf-dwarf.result.texts _ c.in_ok-lines.lines _ (c.in_ok-lines.ensures.value (files_view c.dwarf-dwarf.result) (lines_fit (bundle_view c.args.bundle.now) c.args.self.now c.dwarf-dwarf.result c.requires.fits c.dwarf-dwarf.ensures.view)) c.with_texts.ensures
