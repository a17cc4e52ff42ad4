-- The calls of a function, by its number in a unit, make a tree.
use Rattle.std.proofs.Common.{◌≡◌, ℕ, List, map, Option, Some, None, refl, subst}
use Rattle.blz_model.specs.Reads.{◌>>=◌}
use Rattle.blz_units.specs.BuiltUnits.{Files}
use Rattle.blz_functions.specs.CallTree.{CallLists, IsTreeOf, RangedCall, calls_of, calls_with, no_calls, tree_call, unit_calls}
use Rattle.blz_functions.specs.Describing.{Refer}
use Rattle.blz_functions.specs.Leaves.{UnitParts}
use Rattle.blz_functions.specs.References.{refer_from}
use Rattle.blz_index.specs.FunctionTrees.{HasTree}
use Rattle.blz_units.specs.UnitAnswers.{read_unit, calls_in, place_calls, function_place, function_calls}
use Rattle.blz_units.specs.UnitTables.{UnitTable, reach_of}
use Rattle.blz_functions.proofs.CallsTree.{calls_are_tree}

-- the value of the first of two steps, where both have one
record Through {A B : Type 0} (f : A → Option B) (y : B) : Type 0 where
  pub value : A
  pub gives : f value ≡ Some y

through : {A B : Type 0} (o : Option A) (f : A → Option B) (y : B) → (o >>= f) ≡ Some y → Through f y
through None f y e = absurd cc
through (Some x) f y e = record { value = x; gives = e }

by_calls : (refer : Refer) (u : UnitParts) (place : ℕ) (o : Option (List RangedCall)) (lists : CallLists) → calls_of refer u place ≡ o → (o >>= λ (calls : List RangedCall). Some (calls_with no_calls calls)) ≡ Some lists → HasTree lists
by_calls refer u place None lists is e = absurd cc
by_calls refer u place (Some ks) lists is e =
    let same : calls_with no_calls ks ≡ lists = cc in
    record { tree = map tree_call ks; is = subst (λ (l : CallLists). IsTreeOf l (map tree_call ks)) same (calls_are_tree refer u place ks is) }

unit_calls_have_tree : (refer : Refer) (u : UnitParts) (place : ℕ) (lists : CallLists) → unit_calls refer u place ≡ Some lists → HasTree lists
unit_calls_have_tree refer u place lists e = by_calls refer u place (calls_of refer u place) lists refl e

place_calls_have_tree : (f : Files) (t : UnitTable) (k place : ℕ) (lists : CallLists) → place_calls f t k place ≡ Some lists → HasTree lists
unfolding place_calls
place_calls_have_tree f t k place lists e =
    let s = through (read_unit f t k) (calls_in f t place) lists e in
    unit_calls_have_tree (refer_from (reach_of f t) s.value) s.value place lists s.gives

pub function_calls_have_tree : (f : Files) (t : UnitTable) (k n : ℕ) (lists : CallLists) → function_calls f t k n ≡ Some lists → HasTree lists
unfolding function_calls
function_calls_have_tree f t k n lists e =
    let s = through (function_place f t k n) (place_calls f t k) lists e in
    place_calls_have_tree f t k s.value lists s.gives
