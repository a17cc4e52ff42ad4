-- Counting stack after stack.
use Rattle.std.proofs.Common.{◌≡◌, ◌<◌, ◌+◌, ◌^◌, ℕ, List, [], ◌∷◌, ◌++◌, length, map, take, get_or, sym, ap, ◌∙◌, nat_eq, arith}
use Rattle.std.specs.List.{flat_map}
use Rattle.std.proofs.lemmas.Bool.Decides.{Decides-eqb}
use Rattle.std.proofs.lemmas.List.{take_more, map_push}
use Rattle.std.proofs.lemmas.List.Sums.{sum_by_more_le}
use Rattle.blz_fold.specs.AddressStacks.{count_total}
use Rattle.blz_fold.specs.Adding.{line_added}
use Rattle.blz_fold.specs.Counted.{Counted, count_in, lines_of, total}
use Rattle.blz_fold.specs.Numbered.{list_at, numbered}
use Rattle.blz_fold.specs.declared.stack_list.Stack.{Stack}
use Rattle.blz_fold.proofs.LineLemmas.{lines_push, total_stays}
use Rattle.blz_fold.proofs.SumLemmas.{sum_map}

module _ (addresses : List ℕ) (lists : List (List ℕ)) (stacks : List Stack) (i : ℕ) (stack : Stack) (inside : i < length stacks) (is : stack ≡ get_or stacks i stack) (lines : List (Counted ℕ)) (done : lines ≡ lines_of nat_eq (map (numbered addresses lists) (take i stacks))) where
  pub count_fits_there : count_total stacks < 2 ^ 64 → total lines + stack.count < 2 ^ 64
  count_fits_there small =
      let stacks_done = map (numbered addresses lists) (take i stacks) in
      let kept : total lines ≡ total stacks_done = ap (λ z. total z) done ∙ total_stays nat_eq Decides-eqb stacks_done in
      let same : total stacks_done ≡ count_total (take i stacks) = sum_map count_in (numbered addresses lists) (take i stacks) in
      let here : stack.count ≡ (get_or stacks i stack).count = ap (λ (s : Stack). s.count) is in
      omega (arith, kept, same, here, sum_by_more_le (λ (s : Stack). s.count) stacks i stack inside, small)

  pub counted_further : (names : List ℕ) → names ≡ flat_map (list_at addresses lists) stack.addresses → line_added nat_eq lines names stack.count ≡ lines_of nat_eq (map (numbered addresses lists) (take (i + 1) stacks))
  counted_further names joined =
      let stacks_done = map (numbered addresses lists) (take i stacks) in
      let more : take (i + 1) stacks ≡ take i stacks ++ stack ∷ [] = take_more stacks i stack inside ∙ ap (λ z. take i stacks ++ z ∷ []) (sym is) in
      (λ j. line_added nat_eq (done j) (joined j) stack.count)
      ∙ lines_push nat_eq Decides-eqb stacks_done (numbered addresses lists stack)
      ∙ ap (λ z. lines_of nat_eq z) (sym (ap (λ z. map (numbered addresses lists) z) more ∙ map_push (numbered addresses lists) (take i stacks) stack))
