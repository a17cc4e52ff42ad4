-- Entries that were passed over change neither the functions of a unit nor the calls of a function.
use Rattle.std.proofs.Common.{◌≡◌, ℕ, zero, suc, ◌<◌, Bool, true, false, eqb, List, [], length, Option, Some, None, refl, sym, ap, ◌∙◌, inl, inr}
use Rattle.std.specs.Prelude.{not, ◌&&◌, ◌||◌}
use Rattle.std.proofs.lemmas.Bool.{cases_Bool}
use Rattle.blz_model.specs.Reads.{◌>>=◌}
use Rattle.blz_info.specs.Passing.{is_leaf, past, past_one}
use Rattle.blz_info.specs.Walks.{Walk, next_of, skipped_of}
use Rattle.blz_info.specs.Wanted.{any_placing}
use Rattle.blz_info.specs.declared.entries.Entry.{Entry}
use Rattle.blz_info.specs.declared.walking.passing.Passing.{Passing}
use Rattle.blz_info.specs.declared.walking.passing.Passing.TheVariants.{Leaves, Unplaced}
use Rattle.blz_info.proofs.PassingSteps.{passed_entry, behind_skipped}
use Rattle.blz_functions.specs.CallTree.{CallLists, is_call_tag}
use Rattle.blz_functions.specs.CallWalk.{innermost, levels_behind, call_depth, call_met}
use Rattle.blz_functions.specs.declared.levels.Above.{Above}
use Rattle.blz_functions.specs.declared.levels.Above.TheVariants.{Calls, AnotherFunction}
use Rattle.blz_functions.specs.Describing.{Refer, described_if}
use Rattle.blz_functions.specs.FunctionList.{Lists, is_function_tag, lists_from, entry_met}
use Rattle.blz_functions.specs.Leaves.{UnitParts, source_in}
use Rattle.blz_functions.proofs.CallSteps.{calls_rest, first, one_more as call_more}
use Rattle.blz_functions.proofs.FunctionSteps.{lists_behind, one_more as function_more}
use Rattle.blz_functions.proofs.MetEntries.{met_next}
use Rattle.blz_functions.proofs.UnplacedEntries.{unplaced}

not_true : (b : Bool) → not b ≡ true → b ≡ false
not_true true h = absurd cc
not_true false h = refl

both_true : (a b : Bool) → (a && b) ≡ true → (a ≡ true) × (b ≡ true)
both_true true true h = (refl, refl)
both_true true false h = absurd cc
both_true false b h = absurd cc

-- a walk that met an entry reads the same unit
source_met : (u : UnitParts) (w m : Walk) (e : Entry) → w.pending ≡ [] → w.source ≡ source_in u → next_of w ≡ Some (Some e, m) → m.source ≡ source_in u
source_met u w m e p s n = elim (met_next u w m e p s n) [
  | inl k ↦ k.source_is
  | inr k ↦ k.source_is
]

-- a walk between two entries of a unit
record IsBetween (u : UnitParts) (w : Walk) : Type 0 where
  pub pending : w.pending ≡ []
  pub source : w.source ≡ source_in u

between_on : (u : UnitParts) (p : Passing) (tag : ℕ) (w v : Walk) → IsBetween u w → past_one p tag w ≡ Some v → IsBetween u v
between_on u p tag w v b h =
    let k = passed_entry p tag w v h in
    let f = behind_skipped k.met v k.skipped in
    record { pending = f.pending; source = f.source ∙ source_met u w k.met k.entry b.pending b.source k.next }

-- ---- functions

unlisted : (refer : Refer) (u : UnitParts) (l : Lists) (e : Entry) (m v : Walk) → is_function_tag e.tag ≡ false → skipped_of m ≡ Some (tt {0}, v) → entry_met refer u l e m ≡ Some (l, v.place)
unfolding entry_met described_if
unlisted refer u l e m v t s = rw (t, s) refl

-- a zero is no function
unclosed : (refer : Refer) (u : UnitParts) (l : Lists) (e : Entry) (m v : Walk) → is_function_tag e.tag ≡ true → e.code ≡ 0 → skipped_of m ≡ Some (tt {0}, v) → entry_met refer u l e m ≡ Some (l, v.place)
unfolding entry_met described_if
unclosed refer u l e m v t z s = rw (t, z, s) refl

unadded : (refer : Refer) (u : UnitParts) (l : Lists) (w m v : Walk) (e : Entry) → IsBetween u w → next_of w ≡ Some (Some e, m) → (not (is_function_tag e.tag) || not (any_placing m.pending)) ≡ true → skipped_of m ≡ Some (tt {0}, v) → entry_met refer u l e m ≡ Some (l, v.place)
unadded refer u l w m v e b n h s =
    elim (cases_Bool (is_function_tag e.tag)) [
      | inl t ↦ elim (met_next u w m e b.pending b.source n) [
        | inl z ↦ unclosed refer u l e m v t z.code_is s
        | inr k ↦ unplaced refer u l w.depth w.place e m v k t (not_true _ (rw t at h)) s
      ]
      | inr f ↦ unlisted refer u l e m v f s
    ]

lists_one : (refer : Refer) (u : UnitParts) (l : Lists) (w v : Walk) → IsBetween u w → past_one Unplaced 0x2e w ≡ Some v → lists_from refer u l w.depth w.place ≡ lists_from refer u l v.depth v.place
lists_one refer u l w v b h =
    let k = passed_entry Unplaced 0x2e w v h in
    let f = behind_skipped k.met v k.skipped in
    let met = unadded refer u l w k.met v k.entry b k.next k.other k.skipped in
    function_more refer u l w k.met k.entry b.pending b.source k.next
    ∙ (ap (λ (o : Option (Lists × ℕ)). o >>= lists_behind refer u k.met.depth) met ∙ ap (λ (d : ℕ). lists_from refer u l d v.place) (sym f.depth))

lists_then : (refer : Refer) (u : UnitParts) (l : Lists) (n : ℕ) (w v : Walk) (o : Option Walk) → IsBetween u w → past_one Unplaced 0x2e w ≡ o → (o >>= past n Unplaced 0x2e) ≡ Some v
    → ((x : Walk) → IsBetween u x → past n Unplaced 0x2e x ≡ Some v → lists_from refer u l x.depth x.place ≡ lists_from refer u l v.depth v.place)
    → lists_from refer u l w.depth w.place ≡ lists_from refer u l v.depth v.place
lists_then refer u l n w v None b is h rest = absurd cc
lists_then refer u l n w v (Some x) b is h rest = lists_one refer u l w x b is ∙ rest x (between_on u Unplaced 0x2e w x b is) h

lists_on : (refer : Refer) (u : UnitParts) (l : Lists) (n : ℕ) (w v : Walk) → IsBetween u w → past n Unplaced 0x2e w ≡ Some v → lists_from refer u l w.depth w.place ≡ lists_from refer u l v.depth v.place
unfolding past
lists_on refer u l zero w v b h = let e : w ≡ v = cc in ap (λ (x : Walk). lists_from refer u l x.depth x.place) e
lists_on refer u l (suc n) w v b h = lists_then refer u l n w v (past_one Unplaced 0x2e w) b refl h (λ x c k. lists_on refer u l n x v c k)

pub lists_behind_passed : (refer : Refer) (u : UnitParts) (l : Lists) (n : ℕ) (w v : Walk) (all : Option Lists) → w.pending ≡ [] → w.source ≡ source_in u → past n Unplaced 0x2e w ≡ Some v
    → lists_from refer u l w.depth w.place ≡ all → lists_from refer u l v.depth v.place ≡ all
lists_behind_passed refer u l n w v all p s h rest = sym (lists_on refer u l n w v (record { pending = p; source = s }) h) ∙ rest

-- ---- calls

no_depth : (o : Option Above) (tag : ℕ) → is_call_tag tag ≡ false → call_depth o tag ≡ None
no_depth None tag h = refl
no_depth (Some (Calls depth)) tag h = rw h refl
no_depth (Some AnotherFunction) tag h = refl

uncalled : (refer : Refer) (u : UnitParts) (l : CallLists) (e : Entry) (m v : Walk) → skipped_of m ≡ Some (tt {0}, v) → call_met refer u l None e m ≡ Some (l, v.place)
unfolding call_met described_if
uncalled refer u l e m v s = rw s refl

leaf_levels : (levels : List Above) (e : Entry) → is_leaf e ≡ true → levels_behind levels e ≡ levels
leaf_levels levels e h =
    let b = both_true (not (eqb e.code 0)) (not e.children) h in
    rw (not_true _ b.0, not_true _ b.1) refl

module _ (refer : Refer) (u : UnitParts) (levels : List Above) (l : CallLists) (lt : 0 < length levels) where
  calls_one : (w v : Walk) → IsBetween u w → past_one Leaves 0x1d w ≡ Some v → calls_rest refer u levels (l, w.place) ≡ calls_rest refer u levels (l, v.place)
  calls_one w v b h =
      let k = passed_entry Leaves 0x1d w v h in
      let other = both_true (not (eqb k.entry.tag 0x1d)) (is_leaf k.entry) k.other in
      let depth = no_depth (innermost levels) k.entry.tag (not_true _ other.0) in
      let met = uncalled refer u l k.entry k.met v k.skipped in
      call_more refer u levels l w lt b.pending b.source k.met k.entry k.next ∙ rw (depth, met, leaf_levels levels k.entry other.1) refl

  calls_then : (n : ℕ) (w v : Walk) (o : Option Walk) → IsBetween u w → past_one Leaves 0x1d w ≡ o → (o >>= past n Leaves 0x1d) ≡ Some v
      → ((x : Walk) → IsBetween u x → past n Leaves 0x1d x ≡ Some v → calls_rest refer u levels (l, x.place) ≡ calls_rest refer u levels (l, v.place))
      → calls_rest refer u levels (l, w.place) ≡ calls_rest refer u levels (l, v.place)
  calls_then n w v None b is h rest = absurd cc
  calls_then n w v (Some x) b is h rest = calls_one w x b is ∙ rest x (between_on u Leaves 0x1d w x b is) h

  calls_on : (n : ℕ) (w v : Walk) → IsBetween u w → past n Leaves 0x1d w ≡ Some v → calls_rest refer u levels (l, w.place) ≡ calls_rest refer u levels (l, v.place)
  unfolding past
  calls_on zero w v b h = let e : w ≡ v = cc in ap (λ (x : Walk). calls_rest refer u levels (l, x.place)) e
  calls_on (suc n) w v b h = calls_then n w v (past_one Leaves 0x1d w) b refl h (λ x c k. calls_on n x v c k)

pub calls_behind_passed : (refer : Refer) (u : UnitParts) (levels : List Above) (l : CallLists) (n : ℕ) (w v : Walk) (all : Option CallLists) → 0 < length levels → w.pending ≡ [] → w.source ≡ source_in u → past n Leaves 0x1d w ≡ Some v
    → (calls_rest refer u levels (l, w.place) >>= first) ≡ all → (calls_rest refer u levels (l, v.place) >>= first) ≡ all
calls_behind_passed refer u levels l n w v all lt p s h rest =
    ap (λ (o : Option (CallLists × ℕ)). o >>= first) (sym (calls_on refer u levels l lt n w v (record { pending = p; source = s }) h)) ∙ rest
