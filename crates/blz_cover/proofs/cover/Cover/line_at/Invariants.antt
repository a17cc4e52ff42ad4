use Rattle.blz_cover.proofs.cover.Cover.line_at.Given as goal

abbrev pub ghosts-line_known : goal.ghosts-line_known
ghosts-line_known a = record { name = a.blank.name; parts = a.blank.parts }
