use Rattle.std.proofs.Common.{ap, refl, rules, ◌∙◌, Option, Some}
use Rattle.std.specs.Option.{unwrap_or}
use Rattle.std.specs.FinMap.{empty}
use Rattle.blz_relocations.specs.Relocations.{OffsetMap}
use Rattle.blz_relocations.proofs.TreeMaps.{kept-tree}
use Rattle.blz_relocations.proofs.SectionMaps.{with_relocation-tree}
use Rattle.blz_relocations.proofs.relocation.SectionRelocations.insert.Goals as goal

pub returns-in-Some-clause-ok : goal.returns-in-Some-clause-ok
returns-in-Some-clause-ok c =
    let found = c.in-Some.ensures.value in
    let written = (c.get_mut.follows.holds c.insert.new.self).3 (rw (← found) refl) in
    rw (← c.self.view_is) (with_relocation-tree _ _ _ _ _ c.in-Some.map.now c.insert.new.self (ap (λ (o : Option OffsetMap). unwrap_or o empty) found) c.in_ok-insert.ensures.ok written.0)

pub returns-in_err-insert-clause-err : goal.returns-in_err-insert-clause-err
returns-in_err-insert-clause-err c =
    let found = c.in-Some.ensures.value in
    let written = (c.get_mut.follows.holds c.insert.new.self).3 (rw (← found) refl) in
    let same = kept-tree _ (c.get_mut.follows.lender c.insert.new.self).entries c.args.target_idx c.insert.new.self (ap Some c.in_err-insert.ensures.err ∙ found) written.0 ∙ c.self.view_is in
    search rules

pub returns-clause-ok : goal.returns-clause-ok
returns-clause-ok c =
    let absent = ap (λ (o : Option OffsetMap). unwrap_or o empty) c.in_default.ensures.value in
    let updates = c.in_ok-insert-3.ensures.updates.0 in
    rw (← c.self.view_is) (with_relocation-tree _ _ _ _ _ empty c.insert-2.new.self absent (rw c.new-map.ensures at c.in_ok-insert-2.ensures.ok) (rw c.get_mut.follows.holds-at-none at updates))
