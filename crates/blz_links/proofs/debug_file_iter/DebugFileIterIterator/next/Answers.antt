use Rattle.std.proofs.Common.{◌≡◌, true, false, [], Some, sym, ap, subst, ◌∙◌}
use Rattle.blz_links.specs.Searches.{Search, left_of}
use Rattle.blz_links.specs.Stages.{FindsOther, is_end, linker_of, others_at, paths_at}
use Rattle.blz_links.proofs.SearchLemmas.{answers_left-ended, is_end-other, others_at-ended, paths_at-ended}
use Rattle.blz_links.proofs.debug_file_iter.DebugFileIterIterator.next.Goals as goal

pub returns-in-Ended-clause-steps : goal.returns-in-Ended-clause-steps
returns-in-Ended-clause-steps c =
    let none : left_of c.args.self.now ≡ [] = ap left_of (sym c.self.view_is) ∙ others_at-ended c.self.inside.link c.self.inside.stage c.in-Ended.is in
    let ended : c.args.self.now.has_ended ≡ true = ap (λ s. s.has_ended) (sym c.self.view_is) ∙ ap is_end c.in-Ended.is in
    (none, (none, ended))

pub returns-in-Ok-None-clause-steps : goal.returns-in-Ok-None-clause-steps
returns-in-Ok-None-clause-steps c =
    let link = c.self.inside.link in
    let none : others_at link c.replace-stage.result ≡ [] = subst (λ o. FindsOther link c.replace-stage.result o) c.in-Ok-None.field-0-is c.in-Ok-None.ensures.found in (
      ap left_of (sym c.self.view_is) ∙ ap (others_at link) (sym c.replace-stage.ensures.value) ∙ none,
      (others_at-ended link c.replace-stage.new.dest c.replace-stage.ensures.after, ap is_end c.replace-stage.ensures.after),
    )

pub returns-in-Ok-Some-clause-steps : goal.returns-in-Ok-Some-clause-steps
returns-in-Ok-Some-clause-steps c =
    let link = c.self.inside.link in
    let goes_on : c.args.self.now.has_ended ≡ false = ap (λ s. s.has_ended) (sym c.self.view_is) ∙ is_end-other c.self.inside.stage c.in_default.not-Ended in
    let first : FindsOther link c.replace-stage.result (Some c.in-Ok-Some.found) = subst (λ o. FindsOther link c.replace-stage.result o) c.in-Ok-Some.field-0-is c.in-Ok-Some.ensures.found in
    (goes_on, ap left_of (sym c.self.view_is) ∙ ap (others_at link) (sym c.replace-stage.ensures.value) ∙ first)

pub returns-in-Err-clause-steps : goal.returns-in-Err-clause-steps
returns-in-Err-clause-steps c =
    let goes_on : c.args.self.now.has_ended ≡ false = ap (λ s. s.has_ended) (sym c.self.view_is) ∙ is_end-other c.self.inside.stage c.in_default.not-Ended in
    (goes_on, (others_at-ended c.self.inside.link c.replace-stage.new.dest c.replace-stage.ensures.after, ap is_end c.replace-stage.ensures.after))

pub returns-in-Err-clause-goes : goal.returns-in-Err-clause-goes
returns-in-Err-clause-goes c =
    let old = c.args.self.now in
    let goes_on : old.has_ended ≡ false = ap (λ s. s.has_ended) (sym c.self.view_is) ∙ is_end-other c.self.inside.stage c.in_default.not-Ended in
    let new : Search = record { paths = paths_at c.self.inside.link c.replace-stage.new.dest; linker = linker_of c.self.inside.link; has_ended = is_end c.replace-stage.new.dest } in
    let lt = answers_left-ended old new goes_on (paths_at-ended c.self.inside.link c.replace-stage.new.dest c.replace-stage.ensures.after) (ap is_end c.replace-stage.ensures.after) in
    record { on = λ finite. (tt, tt, lt); keeps = tt; rests = λ finite. tt }
