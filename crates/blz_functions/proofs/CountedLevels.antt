-- No more calls stand above the entries of a level than levels are open around it.
use Rattle.std.proofs.Common.{◌≡◌, ℕ, zero, suc, ◌+◌, ◌-◌, ◌≤◌, List, [], ◌∷◌, ◌++◌, length, take, Some, sym, ap, subst, arith, inl, inr}
use Rattle.std.proofs.lemmas.Bool.{cases_Bool}
use Rattle.std.proofs.lemmas.Option.{slice_get_within}
use Rattle.blz_functions.specs.declared.levels.Above.{Above}
use Rattle.blz_functions.specs.declared.levels.Above.TheVariants.{Calls, AnotherFunction}
use Rattle.blz_functions.specs.CallTree.{is_call_tag}
use Rattle.blz_functions.specs.CallWalk.{IsCounted, depth_of, below_tag, innermost, opened_by, opened_level}
use Rattle.blz_functions.specs.FunctionList.{is_function_tag}
use Rattle.blz_ranges.proofs.ListEnds.{in_take, last_or}

pub counted_start : IsCounted (Calls 0 ∷ [])
counted_start zero x h = let e : Calls 0 ≡ x = cc in subst (λ (y : Above). depth_of y ≤ 0) e (omega arith)
counted_start (suc k) x h = absurd cc

pub counted_take : (levels : List Above) (n : ℕ) → IsCounted levels → IsCounted (take n levels)
counted_take levels n counted = λ k x h. counted k x (in_take levels n k x h)

below_depth : (x : Above) (tag : ℕ) → depth_of (below_tag x tag) ≤ depth_of x + 1
below_depth AnotherFunction tag = omega arith
below_depth (Calls depth) tag =
    elim (cases_Bool (is_call_tag tag)) [
      | inl t ↦ rw t (omega arith)
      | inr f ↦ elim (cases_Bool (is_function_tag tag)) [ inl t ↦ rw (f, t) (omega arith) | inr g ↦ rw (f, g) (omega arith) ]
    ]

-- what stands above the innermost level
pub innermost_depth : (levels : List Above) (x : Above) → IsCounted levels → innermost levels ≡ Some x → depth_of x + 1 ≤ length levels
innermost_depth levels x counted is =
    let b = counted (length levels - 1) x is in
    let l = slice_get_within levels (length levels - 1) x is in
    omega arith

pub counted_push : (levels : List Above) (x : Above) (tag : ℕ) → IsCounted levels → innermost levels ≡ Some x → IsCounted (levels ++ below_tag x tag ∷ [])
counted_push levels x tag counted is = λ k y h.
    elim (last_or levels (below_tag x tag) k y h) [
      | inl p ↦ counted k y p
      | inr p ↦
          let b = innermost_depth levels x counted is in
          let c = below_depth x tag in
          let e : depth_of (below_tag x tag) ≡ depth_of y = ap depth_of p.1 in
          let n = p.0 in
          omega arith
    ]

pub opened_is : (levels : List Above) (x : Above) (tag : ℕ) → innermost levels ≡ Some x → levels ++ below_tag x tag ∷ [] ≡ opened_level levels tag
opened_is levels x tag is = sym (ap (opened_by levels tag) is)
