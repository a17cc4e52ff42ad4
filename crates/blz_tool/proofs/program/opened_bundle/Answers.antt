use Rattle.std.proofs.Common.{◌≡◌, ◌⊎◌, IfErr, map, option_map, string_bytes, unwrap_or, sym, ap, ◌∙◌, subst}
use Rattle.blz_error.specs.declared.kind.ErrorKind.TheVariants as kind
use Rattle.blz_model.specs.Part.{Broken}
use Rattle.blz_resolver.specs.Counts.{Rose}
use Rattle.blz_resolver.specs.Opening.{Opens, default_dirs}
use Rattle.blz_resolver.specs.Outcomes.{HasKindCause}
use Rattle.blz_tool.specs.Requests.{question_view}
use Rattle.blz_tool.specs.Runs.{dirs_of}
use Rattle.blz_tool.proofs.program.opened_bundle.Goals as goal

pub returns-in-Some-clause-mark : goal.returns-in-Some-clause-mark
returns-in-Some-clause-mark g c =
    let same : map string_bytes c.deref.result.now ≡ dirs_of (question_view c.args.question.now) =
    ap (map string_bytes) c.deref.ensures.value
    ∙ sym (ap (λ given. unwrap_or (option_map (λ dirs. map string_bytes dirs.items) given) default_dirs) c.in-Some.is) in
    subst (λ dirs. IfErr c.open_with_debug_dirs.result (λ e. (e.kind ≡ kind.OutOfMemory) ⊎ HasKindCause e.kind
    (Rose (g.F.Files.faults c.args.files.now) (g.F.Files.faults c.open_with_debug_dirs.new.files))
    (Opens (g.F.Files.contents c.args.files.now) c.args.question.now.path.now dirs (Broken e.kind)))) same c.open_with_debug_dirs.ensures.opened.mark
