-- References that lead to the same, lead there among the same units.
use Rattle.std.proofs.Common.{◌≡◌, ℕ, Result, subst}
use Rattle.blz_error.specs.Fault.{Fault}
use Rattle.blz_model.specs.Part.{Gives}
use Rattle.blz_info.specs.Marks.{or_invalid}
use Rattle.blz_units.specs.BuiltUnits.{Files}
use Rattle.blz_functions.specs.CallTree.{CallLists, unit_calls}
use Rattle.blz_functions.specs.FunctionList.{Lists, unit_lists}
use Rattle.blz_functions.specs.Leaves.{UnitParts}
use Rattle.blz_reader.specs.Linkage.{Linked, refer_in}
use Rattle.blz_units.specs.UnitAnswers.{lists_in, calls_in}
use Rattle.blz_units.specs.UnitTables.{UnitTable}

abbrev linked : Files → UnitTable → UnitParts → Linked
linked f t u = record { files = f; table = t; unit = u }

lists_by : {X : Type 0} (view : X → Lists) (r : Result X Fault) (f : Files) (t : UnitTable) (u : UnitParts) → Gives view r (or_invalid (unit_lists (refer_in (linked f t u)) u)) → Gives view r (or_invalid (lists_in f t u))
unfolding refer_in
lists_by view r f t u h = h

-- the functions of a unit whose references lead among the units of its files
pub lists_among : {X : Type 0} (view : X → Lists) (r : Result X Fault) (l : Linked) (u v : UnitParts) (f : Files) (t : UnitTable) → l ≡ linked f t u → u ≡ v → Gives view r (or_invalid (unit_lists (refer_in l) u)) → Gives view r (or_invalid (lists_in f t v))
lists_among view r l u v f t is same h =
    subst (λ (w : UnitParts). Gives view r (or_invalid (lists_in f t w))) same (lists_by view r f t u (subst (λ (m : Linked). Gives view r (or_invalid (unit_lists (refer_in m) u))) is h))

calls_by : {X : Type 0} (view : X → CallLists) (r : Result X Fault) (f : Files) (t : UnitTable) (u : UnitParts) (place : ℕ) → Gives view r (or_invalid (unit_calls (refer_in (linked f t u)) u place)) → Gives view r (or_invalid (calls_in f t place u))
unfolding refer_in
calls_by view r f t u place h = h

-- the same of the calls of a function
pub calls_among : {X : Type 0} (view : X → CallLists) (r : Result X Fault) (l : Linked) (u v : UnitParts) (f : Files) (t : UnitTable) (place : ℕ) → l ≡ linked f t u → u ≡ v → Gives view r (or_invalid (unit_calls (refer_in l) u place)) → Gives view r (or_invalid (calls_in f t place v))
calls_among view r l u v f t place is same h =
    subst (λ (w : UnitParts). Gives view r (or_invalid (calls_in f t place w))) same (calls_by view r f t u place (subst (λ (m : Linked). Gives view r (or_invalid (unit_calls (refer_in m) u place))) is h))
