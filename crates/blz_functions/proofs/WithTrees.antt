-- The lists with the calls of trees, entry by entry.
use Rattle.std.proofs.Common.{◌≡◌, ℕ, ◌+◌, List, [], ◌∷◌, ◌++◌, length, Option, Some, None, refl, sym, ap, ◌∙◌, inl, inr}
use Rattle.std.specs.Prelude.{is_some}
use Rattle.std.proofs.lemmas.Bool.{cases_Bool}
use Rattle.blz_model.specs.Reads.{◌>>=◌}
use Rattle.blz_entry.specs.Folds.{fold_maybe}
use Rattle.blz_info.specs.Forest.{Info, Forest, Empty, Node}
use Rattle.blz_ranges.specs.declared.span.Span.{Span}
use Rattle.blz_functions.specs.declared.description.Description.{Description}
use Rattle.blz_functions.specs.declared.levels.Above.{Above}
use Rattle.blz_functions.specs.declared.levels.Above.TheVariants.{Calls, AnotherFunction}
use Rattle.blz_functions.specs.CallTree.{CallEntry, CallLists, RangedCall, is_call, calls_in, call_by, call_of, all_calls, with_call, calls_with, call_added}
use Rattle.blz_functions.specs.CallWalk.{below_tag, call_depth, call_behind}
use Rattle.blz_functions.specs.Describing.{Refer, undescribed, description_step}
use Rattle.blz_functions.specs.FunctionList.{is_function}
use Rattle.blz_functions.specs.Leaves.{UnitParts, ranges_in}
use Rattle.blz_functions.proofs.Binds.{bind_same, bind_bind}
use Rattle.blz_functions.proofs.MetEntries.{description_if}

-- the lists with the call that an entry is, if it is one, by its attributes
abbrev pub entry_adds : Refer → UnitParts → Option ℕ → CallLists → Info → Option CallLists
entry_adds refer u None l e = Some l
entry_adds refer u (Some depth) l e = fold_maybe (description_step refer u) undescribed e.attributes >>= call_added u l depth

abbrev pub told : ℕ → CallLists → Option (CallLists × ℕ)
told at l = Some (l, at)

described_adds : (u : UnitParts) (depth n : ℕ) (l : CallLists) (o : Option Description) → ((o >>= λ (d : Description). Some (Some d, n)) >>= call_behind u l (Some depth)) ≡ ((o >>= call_added u l depth) >>= told n)
described_adds u depth n l None = refl
described_adds u depth n l (Some d) = refl

-- what an entry adds by its description
pub met_adds : (refer : Refer) (u : UnitParts) (depth : Option ℕ) (l : CallLists) (i : Info) (n : ℕ) → (description_if refer u (is_some depth) i n >>= call_behind u l depth) ≡ (entry_adds refer u depth l i >>= told n)
met_adds refer u None l i n = refl
met_adds refer u (Some depth) l i n = described_adds u depth n l (fold_maybe (description_step refer u) undescribed i.attributes)

-- the lists with the calls of trees, by what stands above them
unfoldable pub with_trees : Refer → UnitParts → Above → CallLists → Forest → Option CallLists
with_trees refer u above l Empty = Some l
with_trees refer u above l (Node e closed children beside) =
    entry_adds refer u (call_depth (Some above) e.tag) l e >>= λ (m : CallLists). with_trees refer u (below_tag above e.tag) m children >>= λ (k : CallLists). with_trees refer u above k beside

-- ---- below another function

outside : (refer : Refer) (u : UnitParts) (l : CallLists) (f : Forest) → with_trees refer u AnotherFunction l f ≡ Some l
unfolding with_trees
outside refer u l Empty = refl
outside refer u l (Node e closed children beside) =
    ap (λ (o : Option CallLists). o >>= λ (k : CallLists). with_trees refer u AnotherFunction k beside) (outside refer u l children) ∙ outside refer u l beside

-- ---- the same by the calls of the trees

abbrev pub added : Refer → UnitParts → CallLists → List CallEntry → Option CallLists
added refer u l calls = all_calls refer u calls >>= λ (cs : List RangedCall). Some (calls_with l cs)

abbrev with_ranged : CallLists → RangedCall → CallLists
with_ranged l c = with_call l c.call c.depth c.ranges

one_added : (l : CallLists) (c : RangedCall) (o : Option (List RangedCall)) → ((o >>= λ (cs : List RangedCall). Some (c ∷ cs)) >>= λ (cs : List RangedCall). Some (calls_with l cs)) ≡ (o >>= λ (cs : List RangedCall). Some (calls_with (with_ranged l c) cs))
one_added l c None = refl
one_added l c (Some cs) = refl

added_cons : (refer : Refer) (u : UnitParts) (l : CallLists) (c : CallEntry) (rest : List CallEntry) → added refer u l (c ∷ rest) ≡ (call_of refer u c >>= λ (k : RangedCall). added refer u (with_ranged l k) rest)
unfolding all_calls
added_cons refer u l c rest =
    bind_bind (call_of refer u c) (λ (k : RangedCall). all_calls refer u rest >>= λ (cs : List RangedCall). Some (k ∷ cs)) (λ (cs : List RangedCall). Some (calls_with l cs))
    ∙ bind_same (call_of refer u c) _ _ (λ (k : RangedCall). one_added l k (all_calls refer u rest))

added_append : (refer : Refer) (u : UnitParts) (l : CallLists) (xs ys : List CallEntry) → added refer u l (xs ++ ys) ≡ (added refer u l xs >>= λ (m : CallLists). added refer u m ys)
unfolding all_calls
added_append refer u l [] ys = refl
added_append refer u l (x ∷ xs) ys =
    let go = λ (k : RangedCall). added refer u (with_ranged l k) xs in
    let on = λ (m : CallLists). added refer u m ys in
    added_cons refer u l x (xs ++ ys)
    ∙ (bind_same (call_of refer u x) _ _ (λ (k : RangedCall). added_append refer u (with_ranged l k) xs ys)
    ∙ (sym (bind_bind (call_of refer u x) go on) ∙ ap (λ (o : Option CallLists). o >>= on) (sym (added_cons refer u l x xs))))

ranged_is : (u : UnitParts) (l : CallLists) (c : CallEntry) (d : Description) (go : CallLists → Option CallLists) (o : Option (List Span))
    → ((o >>= λ (ranges : List Span). Some (record { call = call_by d; depth = c.depth; parent = c.parent; ranges = ranges })) >>= λ (k : RangedCall). go (with_ranged l k)) ≡ ((o >>= λ (ranges : List Span). Some (with_call l (call_by d) c.depth ranges)) >>= go)
ranged_is u l c d go None = refl
ranged_is u l c d go (Some rs) = refl

read_is : (refer : Refer) (u : UnitParts) (l : CallLists) (c : CallEntry) (go : CallLists → Option CallLists) (o : Option Description)
    → ((o >>= λ (d : Description). ranges_in u d.ranges >>= λ (ranges : List Span). Some (record { call = call_by d; depth = c.depth; parent = c.parent; ranges = ranges })) >>= λ (k : RangedCall). go (with_ranged l k)) ≡ ((o >>= call_added u l c.depth) >>= go)
unfolding call_added
read_is refer u l c go None = refl
read_is refer u l c go (Some d) = ranged_is u l c d go (ranges_in u d.ranges)

-- a call by its attributes
call_is : (refer : Refer) (u : UnitParts) (l : CallLists) (c : CallEntry) (go : CallLists → Option CallLists) → (call_of refer u c >>= λ (k : RangedCall). go (with_ranged l k)) ≡ (entry_adds refer u (Some c.depth) l c.entry >>= go)
unfolding call_of
call_is refer u l c go = read_is refer u l c go (fold_maybe (description_step refer u) undescribed c.entry.attributes)

both : (refer : Refer) (u : UnitParts) (above below : Above) (children beside : Forest) (inner outer : List CallEntry) (m : CallLists)
    → ((l : CallLists) → with_trees refer u below l children ≡ added refer u l inner) → ((l : CallLists) → with_trees refer u above l beside ≡ added refer u l outer)
    → (with_trees refer u below m children >>= λ (k : CallLists). with_trees refer u above k beside) ≡ added refer u m (inner ++ outer)
both refer u above below children beside inner outer m h k =
    ap (λ (o : Option CallLists). o >>= λ (x : CallLists). with_trees refer u above x beside) (h m)
    ∙ (bind_same (added refer u m inner) _ _ (λ (x : CallLists). k x) ∙ sym (added_append refer u m inner outer))

pub trees_are : (refer : Refer) (u : UnitParts) (f : Forest) (depth n : ℕ) (parent : Option ℕ) (l : CallLists) → with_trees refer u (Calls depth) l f ≡ added refer u l (calls_in depth parent n f)
unfolding with_trees calls_in all_calls
trees_are refer u Empty depth n parent l = refl
trees_are refer u (Node e closed children beside) depth n parent l =
    elim (cases_Bool (is_call e)) [
      | inl t ↦
          let c : CallEntry = record { entry = e; depth = depth; parent = parent } in
          let inner : List CallEntry = calls_in (depth + 1) (Some n) (n + 1) children in
          let outer : List CallEntry = calls_in depth parent (n + 1 + length inner) beside in
          let go = λ (m : CallLists). added refer u m (inner ++ outer) in
          let on : (m : CallLists) → (with_trees refer u (Calls (depth + 1)) m children >>= λ (k : CallLists). with_trees refer u (Calls depth) k beside) ≡ go m =
          λ m. both refer u (Calls depth) (Calls (depth + 1)) children beside inner outer m (λ x. trees_are refer u children (depth + 1) (n + 1) (Some n) x) (λ x. trees_are refer u beside depth (n + 1 + length inner) parent x) in
          rw t (bind_same (entry_adds refer u (Some depth) l e) _ _ on ∙ sym (added_cons refer u l c (inner ++ outer) ∙ call_is refer u l c go))
      | inr g ↦ elim (cases_Bool (is_function e)) [
        | inl t ↦ rw (g, t) (ap (λ (o : Option CallLists). o >>= λ (k : CallLists). with_trees refer u (Calls depth) k beside) (outside refer u l children) ∙ trees_are refer u beside depth n parent l)
        | inr h ↦
            let inner : List CallEntry = calls_in depth parent n children in
            let outer : List CallEntry = calls_in depth parent (n + length inner) beside in
            rw (g, h) (both refer u (Calls depth) (Calls depth) children beside inner outer l (λ x. trees_are refer u children depth n parent x) (λ x. trees_are refer u beside depth (n + length inner) parent x))
      ]
    ]
