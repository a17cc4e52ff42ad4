use Rattle.std.proofs.Common.{ap, ap₂, ◌∙◌}
use Rattle.std.proofs.lemmas.Result.{IfOk-weaker}
use Rattle.blz_tool.specs.DemoImage.{demo, file_of, with_length}
use Rattle.blz_tool.proofs.demo_file.demo_image.Goals as goal

pub returns : goal.returns
unfolding demo
returns c =
    let info = c.deref-3.ensures.value ∙ c.in_ok-info.ensures.value ∙ ap with_length (c.deref.ensures.value ∙ c.in_ok-unit.ensures.value) in
    let line = c.deref-4.ensures.value ∙ c.in_ok-line.ensures.value ∙ ap with_length (c.deref-2.ensures.value ∙ c.in_ok-line_program.ensures.value) in
    IfOk-weaker c.file_of.result _ _ (λ v h. h ∙ ap₂ file_of info line) c.file_of.ensures
