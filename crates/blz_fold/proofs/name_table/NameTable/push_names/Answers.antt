use Rattle.std.proofs.Common.{◌≡◌, ◌∷◌, ◌++◌, [], ◌∙◌, ap, subst, map, append_assoc}
use Rattle.blz_elf.specs.AnswerView.{answer_view}
use Rattle.blz_fold.specs.Naming.{names_of, shown}
use Rattle.blz_fold.specs.Numbered.{Spells}
use Rattle.blz_fold.proofs.Namings.{on_ok_map, symbol_names}
use Rattle.blz_fold.proofs.name_table.NameTable.push_names.Goals as goal

pub returns-in_ok-push_number-in-Sym-clause-spelled :
    goal.returns-in_ok-push_number-in-Sym-clause-spelled
returns-in_ok-push_number-in-Sym-clause-spelled c = on_ok_map c.push_calls.result
    (λ further names s.
    let name = shown c.in-Sym.symbol.name.now in
    let calls = map (λ call. shown call.name.now) c.as_slice.result.now in
    let same : (names ++ name ∷ []) ++ calls ≡ names ++ names_of (answer_view c.args.answer.now) = append_assoc names (name ∷ []) calls ∙ ap (λ z. names ++ z) (symbol_names c.args.answer.now c.in-Sym.symbol c.as_slice.result.now c.in-Sym.is c.as_slice.ensures) in
    subst (λ z. Spells c.push_calls.new.self c.push_calls.new.numbers.items z) same (further (names ++ name ∷ []) (c.in_ok-push_number-in-Sym.ensures.spelled names s)))
    c.push_calls.ensures.spelled
