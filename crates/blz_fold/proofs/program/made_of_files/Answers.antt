use Rattle.std.proofs.Common.{◌∙◌, ap, Global}
use Rattle.blz_model.specs.Part.{Broken}
use Rattle.blz_program.specs.Outcomes.{refusal_of}
use Rattle.blz_resolver.specs.Counts.{Rose}
use Rattle.blz_resolver.specs.Opening.{Opens, default_dirs}
use Rattle.blz_fold.specs.Questions.{asked_by}
use Rattle.blz_fold.specs.Runs.{FindsFolded}
use Rattle.blz_program.specs.Runs.{Mark}
use Rattle.blz_fold.proofs.MadeTexts.{cause_of, opening_found, refused_by}
use Rattle.blz_fold.proofs.program.made_of_files.Goals as goal

pub returns-in-Err-clause-made : goal.returns-in-Err-clause-made
returns-in-Err-clause-made g c =
    let contents = g.F.Files.contents c.args.files.now in
    let question = asked_by c.args.question.now in
    let k = c.in-Err.error.kind in
    let F = Rose (g.F.Files.faults c.args.files.now) (g.F.Files.faults c.open.new.files) in
    refused_by Global c.refusal.result k (FindsFolded contents question) F (c.refusal.ensures ∙ ap refusal_of c.kind.ensures)
    (cause_of k F (Opens contents question.image default_dirs (Broken k)) F (FindsFolded contents question (Mark k)) (λ f. f) (opening_found contents question k) c.in-Err.ensures.opened.mark)
