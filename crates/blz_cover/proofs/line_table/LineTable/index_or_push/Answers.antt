use Rattle.std.proofs.Common.{refl, sym, ap, ◌∙◌, map}
use Rattle.indexmap.proofs.CallerLemmas.{insert_entry-new}
use Rattle.blz_cover.specs.LineEntries.{found_or_last, met}
use Rattle.blz_cover.specs.LineKeys.{entry_view}
use Rattle.blz_cover.proofs.Entries.{found_entry, new_entry, met_entry, met_new_entry, none_unless}
use Rattle.blz_cover.proofs.line_table.LineTable.index_or_push.Goals as goal

pub returns-in-Some-clause-index : goal.returns-in-Some-clause-index
returns-in-Some-clause-index c = found_entry _ c.args.key.path.items c.args.key.line c.in-Some.index c.self.inside.entries.entries (λ k v. refl) c.in-Some.ensures.index ∙ ap (found_or_last c.args.key.path.items c.args.key.line) c.self.view_is

pub returns-in-Some-clause-lines : goal.returns-in-Some-clause-lines
returns-in-Some-clause-lines c =
    let there = met_entry _ c.args.key.path.items c.args.key.line c.args.addr c.self.inside.entries.entries (λ k v. refl) (sym c.in-Some.ensures.found) in
    rw (← c.self.view_is) there

pub returns-in_ok-insert-in-None-clause-index : goal.returns-in_ok-insert-in-None-clause-index
returns-in_ok-insert-in-None-clause-index c =
    let new = new_entry _ c.args.key.path.items c.args.key.line c.self.inside.entries.entries (λ k v. refl) (none_unless _ c.in-None.ensures.found) in
    c.len-index.ensures.len ∙ new ∙ ap (found_or_last c.args.key.path.items c.args.key.line) c.self.view_is

pub returns-in_ok-insert-in-None-clause-lines : goal.returns-in_ok-insert-in-None-clause-lines
returns-in_ok-insert-in-None-clause-lines c =
    let none = none_unless _ c.in-None.ensures.found in
    let pushed = c.in_ok-insert-in-None.ensures.entries ∙ insert_entry-new _ c.self.inside.entries c.args.key _ none in
    ap (map entry_view) pushed ∙ met_new_entry _ c.args.key _ c.self.inside.entries.entries (λ k v. refl) none refl ∙ ap (met c.args.key.path.items c.args.key.line c.args.addr) c.self.view_is
