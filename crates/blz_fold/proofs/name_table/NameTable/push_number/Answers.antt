use Rattle.std.proofs.Common.{◌≡◌, ◌∷◌, ◌++◌, [], Some, sym, subst, slice_get}
use Rattle.blz_fold.specs.Naming.{shown}
use Rattle.blz_fold.specs.Numbered.{Spells}
use Rattle.blz_fold.proofs.Spelling.{now_of, table_grows, spells_grown, number_stands, zip_push}
use Rattle.std.proofs.Common.{map}
use Rattle.blz_fold.proofs.name_table.NameTable.push_number.Goals as goal

pub returns-clause-grown : goal.returns-clause-grown
returns-clause-grown c = table_grows c.self.inside.names.keys c.insert_full.new.self.keys c.shown.result c.args.self.now (shown c.args.name.now) c.self.view_is c.shown.ensures c.in_ok-number.ensures.keys

pub returns-clause-spelled : goal.returns-clause-spelled
returns-clause-spelled c = λ names s.
    let table = map now_of c.insert_full.new.self.keys in
    let name = shown c.args.name.now in
    let grown = table_grows c.self.inside.names.keys c.insert_full.new.self.keys c.shown.result c.args.self.now name c.self.view_is c.shown.ensures c.in_ok-number.ensures.keys in
    let stored = c.in_ok-number.ensures.stored in
    let stands = number_stands c.insert_full.new.self.keys c.in_ok-number.number c.shown.result stored.0 name c.shown.ensures stored.1 stored.2 in
    subst (λ z. Spells table z (names ++ name ∷ [])) (sym c.in_ok-push.ensures.items) (zip_push (λ number name. slice_get table number ≡ Some name) c.args.numbers.now.items names c.in_ok-number.number name (spells_grown c.args.self.now table c.args.numbers.now.items names grown s) stands)
