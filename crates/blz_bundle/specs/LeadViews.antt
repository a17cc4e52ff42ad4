-- What a lead of the code stands for.
use Rattle.std.specs.Option.{option_map}
use Rattle.blz_bundle.specs.Alternative.{has_build_id}
use Rattle.blz_bundle.specs.Following.{Lead}
use Rattle.blz_bundle.specs.Linked.{has_checksum}
use Rattle.blz_bundle.specs.OpenFiles.{FileAt}
use Rattle.blz_bundle.specs.Opened.{Opened}
use Rattle.blz_bundle.specs.Supplementary.{is_supplementary}
use Rattle.blz_bundle.specs.declared.lead.FileLead.{FileLead}
use Rattle.blz_bundle.specs.declared.lead.Mark.{Mark}
use Rattle.blz_bundle.specs.declared.lead.Mark.TheVariants.{Checksum, BuildId, Supplementary}

-- the check by what was recorded
abbrev pub passes : Mark → FileAt → Opened (Unit {0})
passes (Checksum recorded) = has_checksum recorded
passes (BuildId recorded) = has_build_id recorded.now
passes (Supplementary recorded) = is_supplementary recorded.now

abbrev pub lead_view : FileLead → Lead
lead_view l = record { target = l.target.now; build_id = option_map (λ id. id.now) l.build_id; passes = passes l.mark }
