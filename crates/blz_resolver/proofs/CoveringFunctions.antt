-- The function that answers an address covers it.
use Rattle.std.proofs.Common.{◌≡◌, ℕ, ◌<◌, true, length, List, [], ◌∷◌, Option, Some, None, option_map, refl, sym, ap, ◌∙◌}
use Rattle.std.specs.List.{slice_get}
use Rattle.std.proofs.lemmas.Option.{slice_get-map, slice_get_within}
use Rattle.blz_ranges.specs.declared.span.Span.{Span}
use Rattle.blz_model.specs.Reads.{◌>>=◌}
use Rattle.blz_ranges.specs.Best.{best, covers, IsBest}
use Rattle.blz_info.specs.declared.units.UnitHeader.{UnitHeader}
use Rattle.blz_units.specs.BuiltUnits.{Files, reading}
use Rattle.blz_functions.specs.FunctionList.{Lists}
use Rattle.blz_ranges.specs.Owned.{Owned, items_of}
use Rattle.blz_ranges.specs.Ranges.{owner_of, best_owner}
use Rattle.blz_units.specs.UnitAnswers.{lists_in, read_unit, unit_functions, best_of, best_function, found_or, first_function, function_at}
use Rattle.blz_units.specs.UnitTables.{UnitTable, announcing}
use Rattle.blz_ranges.proofs.Backward.{passing_covers}
use Rattle.blz_ranges.proofs.BestOf.{best_is_best}
use Rattle.blz_resolver.specs.AnswerLaws.{HasRange, IsCovered}

at_place : (lists : Lists) (a n p : ℕ) (span : Span) (o : Option (Owned Span)) → slice_get lists.ranges p ≡ o → option_map (λ (x : Owned Span). x.item) o ≡ Some span → option_map (λ (x : Owned Span). x.owner) o ≡ Some n → covers span a ≡ true → HasRange lists n a
at_place lists a n p span None is item owner e = absurd cc
at_place lists a n p span (Some x) is item owner e = record {
  place = p;
  range = x;
  there = is;
  owner = (let same : x.owner ≡ n = cc in same);
  covers = (let same : x.item ≡ span = cc in passing_covers a None 0 x.item (ap (λ (s : Span). covers s a) same ∙ e));
}

at_best : (lists : Lists) (a n : ℕ) (r : Option ℕ) → IsBest (λ at s. covers s a) (items_of lists.ranges) r → owner_of lists.ranges r ≡ Some n → HasRange lists n a
at_best lists a n None best owner = absurd cc
at_best lists a n (Some p) best owner = at_place lists a n p best.span (slice_get lists.ranges p) refl (sym (slice_get-map (λ (x : Owned Span). x.item) lists.ranges p) ∙ best.at) owner best.passes

some_pair : (x y : ℕ × ℕ) → Some (Some x) ≡ Some (Some y) → x ≡ y
some_pair x y e = cc

module _ (f : Files) (t : UnitTable) (a k n : ℕ) where
  by_owner : (j : ℕ) (lists : Lists) → unit_functions f t j ≡ Some lists → (o : Option ℕ) → best_owner lists.ranges a ≡ o → (rest : Option (Option (ℕ × ℕ))) → (rest ≡ Some (Some (k, n)) → IsCovered f t a k n) → found_or j o rest ≡ Some (Some (k, n)) → IsCovered f t a k n
  by_owner j lists is None same rest later e = later e
  by_owner j lists is (Some m) same rest later e =
      let both : (j, m) ≡ (k, n) = some_pair (j, m) (k, n) e in
      let unit : j ≡ k = ap (λ (x : ℕ × ℕ). x.0) both in
      let number : m ≡ n = ap (λ (x : ℕ × ℕ). x.1) both in
      record {
        lists = lists;
        read = ap (unit_functions f t) (sym unit) ∙ is;
        range = at_best lists a n (best (items_of lists.ranges) a) (best_is_best (λ at s. covers s a) (items_of lists.ranges)) (same ∙ ap Some number);
      }

  by_unit : (j : ℕ) (o : Option Lists) → unit_functions f t j ≡ o → (rest : Option (Option (ℕ × ℕ))) → (rest ≡ Some (Some (k, n)) → IsCovered f t a k n) → (o >>= best_of a >>= λ m. found_or j m rest) ≡ Some (Some (k, n)) → IsCovered f t a k n
  by_unit j None is rest later e = absurd cc
  by_unit j (Some lists) is rest later e = by_owner j lists is (best_owner lists.ranges a) refl rest later e

  first_covers : (units : List ℕ) → first_function f t a units ≡ Some (Some (k, n)) → IsCovered f t a k n
  unfolding first_function best_function
  first_covers [] e = absurd cc
  first_covers (j ∷ units) e = by_unit j (unit_functions f t j) refl (first_function f t a units) (first_covers units) e

  pub at_covers : function_at f t a ≡ Some (Some (k, n)) → IsCovered f t a k n
  unfolding function_at
  at_covers e = first_covers (announcing t a) e

-- ---- a unit that is read is one of the table

within_by : (f : Files) (t : UnitTable) (k : ℕ) (lists : Lists) (o : Option UnitHeader) → slice_get t.kept k ≡ o → (o >>= reading f >>= lists_in f t) ≡ Some lists → k < length t.kept
within_by f t k lists None is e = absurd cc
within_by f t k lists (Some header) is e = slice_get_within t.kept k header is

pub unit_within : (f : Files) (t : UnitTable) (k : ℕ) (lists : Lists) → unit_functions f t k ≡ Some lists → k < length t.kept
unfolding unit_functions read_unit
unit_within f t k lists e = within_by f t k lists (slice_get t.kept k) refl e
