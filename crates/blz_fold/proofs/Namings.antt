-- The names of an answer of the code.
use Rattle.std.proofs.Common.{◌≡◌, List, ◌∷◌, map, sym, ap, ◌∙◌, Result, Ok, Err, OnOk}
use Rattle.blz_elf.specs.AnswerView.{answer_view}
use Rattle.blz_elf.specs.CallViews.{inlined_view}
use Rattle.blz_elf.specs.declared.answer.Answer.{Answer}
use Rattle.blz_elf.specs.declared.answer.Answer.TheVariants.{Sym}
use Rattle.blz_elf.specs.declared.answer.InlinedFn.{InlinedFn}
use Rattle.blz_elf.specs.declared.answer.ResolvedSym.{ResolvedSym}
use Rattle.blz_fold.specs.Naming.{names_of, shown}
use Rattle.blz_fold.proofs.SumLemmas.{map_map}

pub on_ok_map : {X Y : Type 0} {P Q : Type 0} (r : Result X Y) → (P → Q) → OnOk r P → OnOk r Q
on_ok_map (Ok x) f h = f h
on_ok_map (Err y) f h = tt

pub symbol_names : (answer : Answer) (symbol : ResolvedSym) (calls : List InlinedFn) → answer ≡ Sym symbol → map inlined_view calls ≡ symbol.inlined → shown symbol.name.now ∷ map (λ call. shown call.name.now) calls ≡ names_of (answer_view answer)
symbol_names answer symbol calls is are =
    ap (λ z. shown symbol.name.now ∷ z) (sym (map_map (λ call. shown call.name) inlined_view calls) ∙ ap (λ z. map (λ call. shown call.name) z) are)
    ∙ ap (λ a. names_of (answer_view a)) (sym is)
