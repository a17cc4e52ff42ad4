use Rattle.std.proofs.Common.{ℕ, List, map, filter, arith, ◌∙◌, ap}
use Rattle.std.specs.Option.{option_map}
use Rattle.std.proofs.lemmas.Result.{err_from_is_err_and}
use Rattle.blz_model.specs.Part.{Good, all_good}
use Rattle.blz_model.proofs.PartLemmas.{all_start}
use Rattle.blz_symbols.specs.NameOrders.{named_in}
use Rattle.blz_symbols.specs.NameRule.{is_asked, read_name, asked_names}
use Rattle.blz_image.specs.Places.{span_in, symbols_in}
use Rattle.blz_symbols.specs.Tables.{table_view}
use Rattle.blz_symbols.proofs.NameScans.{reading_on, reading_break, reading_end}
use Rattle.blz_symbols.proofs.names.asked_names.Goals as goal

pub loop-i-init : goal.loop-i-init
unfolding asked_names
loop-i-init c =
    let asked = is_asked (option_map (λ t. table_view c.args.image.now t.now) c.args.symtab) in
    rw (c.new-names.ensures.items, c.open-symbols.ensures, c.strings_in-strings.ensures) (all_start (all_good (map (read_name (span_in c.args.image.now c.args.table.now.strings)) (filter asked (symbols_in c.args.image.now c.args.table.now.symbols)))))

pub loop-i-preserved : goal.loop-i-preserved
loop-i-preserved c = reading_on (is_asked (option_map (λ t. table_view c.args.image.now t.now) c.args.symtab)) c.strings_in-strings.result.now _ _ c.open-symbols.result c.loop-i.i _ _ (omega (arith, c.len-i-end.ensures)) c.at.ensures c.in_ok-ask_symbol.ensures c.loop-i.invariant

pub returns-in_err-ask_symbol : goal.returns-in_err-ask_symbol
returns-in_err-ask_symbol c =
    let p = err_from_is_err_and c.from_residual.result c.from_residual.ensures.1 in
    rw (p.1, p.2) (λ ne. reading_break (is_asked (option_map (λ t. table_view c.args.image.now t.now) c.args.symtab)) c.strings_in-strings.result.now _ c.open-symbols.result c.loop-i.i _ _ _ (omega (arith, c.len-i-end.ensures)) c.at.ensures (c.in_err-ask_symbol.ensures ne) c.loop-i.invariant)

pub returns : goal.returns
returns c =
    reading_end (is_asked (option_map (λ t. table_view c.args.image.now t.now) c.args.symtab)) c.strings_in-strings.result.now _ c.open-symbols.result c.loop-i.i _ (omega (arith, c.len-i-end.ensures)) c.loop-i.invariant
    ∙ ap (λ (strings : List ℕ). Good (named_in strings c.loop-i.names.items)) c.strings_in-strings.ensures
