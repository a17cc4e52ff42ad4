use Rattle.std.proofs.Common.{refl}
use Rattle.blz_bundle.proofs.Findings.{read_finds, read_refuses, refused_by}
use Rattle.blz_bundle.proofs.open_file.OpenFile.read.Goals as goal

pub returns-in_err-image-clause-value : goal.returns-in_err-image-clause-value
returns-in_err-image-clause-value g c =
    refused_by _ c.from_residual.result _ _ _ c.from_residual.ensures.1
    (read_refuses _ _ _ c.in_err-image.field-0.0 _ _ _ c.deref.ensures c.in_err-image.ensures.told c.in_err-image.ensures.cause (λ a e. rw e refl))

pub returns-clause-value : goal.returns-clause-value
returns-clause-value g c = read_finds _ _ _ c.in_ok-image.image _ _ c.deref.ensures c.in_ok-image.ensures.told (λ a e. rw e refl)
