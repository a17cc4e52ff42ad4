use Rattle.std.proofs.Common.{subst}
use Rattle.blz_error.specs.Texts.{Bytes}
use Rattle.blz_inspector.specs.SourceViews.{elf_asked}
use Rattle.blz_inspector.specs.Uses.{IsStampOf, told_by}
use Rattle.blz_inspector.proofs.UseSteps.{stamp_told, used_kept}
use Rattle.blz_inspector.proofs.inspector.Inspector.used.Goals as goal

pub returns-in-Some-clause-used : goal.returns-in-Some-clause-used
returns-in-Some-clause-used g c =
    let told = told_by (g.F.Files.contents c.args.files.now) (g.F.Files.stamps c.args.files.now) in
    let P : Bytes → Type 0 = λ path. IsStampOf told path c.in_ok-stamp.stamp in
    used_kept told (elf_asked c.args.elf.now) c.in_ok-stamp.stamp c.args.self.now c.in-Some.at (subst P c.as_str.ensures.value (stamp_told _ _ _ c.in_ok-stamp.ensures.told)) c.in-Some.ensures
