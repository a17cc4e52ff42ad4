use Rattle.std.proofs.Common.{◌∙◌}
use Rattle.blz_image.proofs.ReadRuns.{rela_read, rel_read}
use Rattle.blz_image.proofs.relocations.target.put_section.Goals as goal

pub returns-in-Rela-clause-read : goal.returns-in-Rela-clause-read
returns-in-Rela-clause-read c = rela_read c.put_table.result c.args.format c.args.image.now c.args.gathered.now.map c.put_table.new.map c.in-Ok.table c.args.gathered.now.read c.put_table.new.read (c.in-Ok.ensures.kind ∙ c.in-Rela.is) c.in-Ok.ensures.format c.requires.read c.put_table.ensures.value c.put_table.ensures.read

pub returns-in-Rel-clause-read : goal.returns-in-Rel-clause-read
returns-in-Rel-clause-read c = rel_read c.put_table-in-Rel.result c.args.format c.args.image.now c.args.gathered.now.map c.put_table-in-Rel.new.map c.in-Ok.table c.args.gathered.now.read c.put_table-in-Rel.new.read (c.in-Ok.ensures.kind ∙ c.in-Rel.is) c.in-Ok.ensures.format c.requires.read c.put_table-in-Rel.ensures.value c.put_table-in-Rel.ensures.read
