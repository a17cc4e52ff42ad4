use Rattle.std.proofs.Common.{Option, subst}
use Rattle.blz_model.specs.Part.{Gives}
use Rattle.blz_info.specs.Marks.{or_invalid}
use Rattle.blz_info.specs.declared.text.StrPlace.{StrPlace}
use Rattle.blz_reader.proofs.Followed.{name_in}
use Rattle.blz_reader.proofs.references.ReferencesLinks.follow.Goals as goal

pub returns-clause-name : goal.returns-clause-name
returns-clause-name c = subst (λ (o : Option (Option StrPlace)). Gives (λ n. n) c.name_of.result (or_invalid o)) (rw c.is_sup-sup.ensures (name_in c.args.self.now c.args.value)) c.name_of.ensures.value
