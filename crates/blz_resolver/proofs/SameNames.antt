-- Functions of a name, and listings, that name texts that lie elsewhere in memory.
use Rattle.std.proofs.Common.{◌≡◌, ℕ, zero, suc, ◌+◌, Bool, cond, not, nat_lt, length, List, [], ◌∷◌, Option, Some, None, option_and_then, refl, ap, ◌∙◌}
use Rattle.std.specs.List.{position, prefix_len}
use Rattle.std.specs.Str.{bytes_eq}
use Rattle.blz_model.specs.Part.{Part, Good, Broken, ◌>>=◌, all_good}
use Rattle.blz_elf.specs.Infos.{Info}
use Rattle.blz_elf.specs.Listings.{Listing, listing_of, listing_if, then_list}
use Rattle.blz_info.specs.Marks.{or_invalid}
use Rattle.blz_info.specs.declared.text.StrPlace.{StrPlace}
use Rattle.blz_info.specs.declared.text.Texts.{Texts}
use Rattle.blz_units.specs.BuiltUnits.{Files}
use Rattle.blz_functions.specs.FunctionList.{Lists}
use Rattle.blz_units.specs.UnitAnswers.{unit_functions, is_called, first_called, with_called, called_from, functions_named}
use Rattle.blz_units.specs.UnitTables.{UnitTable}
use Rattle.blz_functions.specs.declared.functions.Function.{Function}
use Rattle.blz_resolver.specs.AddressAnswers.{function_numbered}
use Rattle.blz_resolver.specs.Books.{Book}
use Rattle.blz_resolver.specs.FunctionNames.{info_named, function_info, numbered_info, infos_or_symbols, addresses_in, named_only, unit_listing, units_listing}
use Rattle.blz_bundle.specs.Images.{ImageSet}
use Rattle.blz_resolver.proofs.SameTexts.{SameTexts, same_bind, same_map, same_text, same_name}

same_then : {A B : Type 0} (o : Option A) (f g : A → Option B) → ((x : A) → f x ≡ g x) → option_and_then f o ≡ option_and_then g o
same_then None f g same = refl
same_then (Some x) f g same = same x

same_prefix : {A : Type 0} (p q : A → Bool) (xs : List A) → ((x : A) → p x ≡ q x) → prefix_len p xs ≡ prefix_len q xs
same_prefix p q [] same = refl
same_prefix p q (x ∷ xs) same = ap (λ b. cond b (1 + prefix_len p xs) 0) (same x) ∙ ap (λ n. cond (q x) (1 + n) 0) (same_prefix p q xs same)

same_position : {A : Type 0} (p q : A → Bool) (xs : List A) → ((x : A) → p x ≡ q x) → position p xs ≡ position q xs
same_position p q xs same = ap (λ n. cond (nat_lt n (length xs)) (Some n) None) (same_prefix (λ x. not (p x)) (λ x. not (q x)) xs (λ x. ap not (same x)))

same_listing : {A : Type 0} (p : Part A) (f g : A → Listing) → ((x : A) → f x ≡ g x) → listing_if f p ≡ listing_if g p
same_listing (Good x) f g same = same x
same_listing (Broken k) f g same = refl

module _ (t u : Texts) (s : SameTexts t u) where
  same_called : (name : List ℕ) (o : Option StrPlace) → is_called t name o ≡ is_called u name o
  same_called name None = refl
  same_called name (Some place) = ap (λ (text : List ℕ). bytes_eq text name) (same_text t u s place)

  same_first : (name : List ℕ) (l : Lists) → first_called t name l ≡ first_called u name l
  same_first name l = same_position (λ (function : Function). is_called t name function.name) (λ (function : Function). is_called u name function.name) l.functions (λ function. same_called name function.name)

  same_called_from : (f : Files) (table : UnitTable) (name : List ℕ) (k n : ℕ) → called_from t f table name k n ≡ called_from u f table name k n
  unfolding called_from
  same_called_from f table name k zero = refl
  same_called_from f table name k (suc n) = same_then (unit_functions f table k) _ _ (λ l.
      ap (option_and_then (λ rest. Some (with_called k (first_called t name l) rest))) (same_called_from f table name (k + 1) n)
      ∙ same_then (called_from u f table name (k + 1) n) _ _ (λ rest. ap (λ (o : Option ℕ). Some (with_called k o rest)) (same_first name l)))

  same_named : (f : Files) (table : UnitTable) (name : List ℕ) → functions_named t f table name ≡ functions_named u f table name
  unfolding functions_named
  same_named f table name = same_called_from f table name 0 _

  pub same_info : (images : ImageSet) (asked : Bool) (function : Function) → function_info t images asked function ≡ function_info u images asked function
  unfolding function_info
  same_info images asked function = ap (λ (p : Part (List ℕ)). p >>= info_named images asked function) (same_name t u s function.name)

  same_numbered : (b : Book) (asked : Bool) (at : ℕ × ℕ) → numbered_info t b asked at ≡ numbered_info u b asked at
  unfolding numbered_info
  same_numbered b asked at = same_bind (function_numbered b at) _ _ (same_info b.images asked)

  same_infos : (b : Book) (name : List ℕ) (asked : Bool) (found : List (ℕ × ℕ)) → infos_or_symbols t b name asked found ≡ infos_or_symbols u b name asked found
  unfolding infos_or_symbols
  same_infos b name asked [] = refl
  same_infos b name asked (at ∷ rest) = ap (λ (ps : List (Part Info)). all_good ps) (same_map (numbered_info t b asked) (numbered_info u b asked) (at ∷ rest) (same_numbered b asked))

  pub same_addresses : (b : Book) (name : List ℕ) (asked : Bool) → addresses_in t b name asked ≡ addresses_in u b name asked
  unfolding addresses_in
  same_addresses b name asked =
      ap (λ (o : Option (List (ℕ × ℕ))). or_invalid o >>= infos_or_symbols t b name asked) (same_named b.files b.table name)
      ∙ same_bind (or_invalid (functions_named u b.files b.table name)) _ _ (same_infos b name asked)

  same_unit_listing : (b : Book) (asked : Bool) (k : ℕ) → unit_listing t b asked k ≡ unit_listing u b asked k
  same_unit_listing b asked k = same_listing (or_invalid (unit_functions b.files b.table k)) _ _ (λ lists.
      ap (λ (ps : List (Part Info)). listing_of ps) (same_map (function_info t b.images asked) (function_info u b.images asked) (named_only lists.functions) (same_info b.images asked)))

  pub same_units_listing : (b : Book) (asked : Bool) (k n : ℕ) → units_listing t b asked k n ≡ units_listing u b asked k n
  unfolding units_listing
  same_units_listing b asked k zero = refl
  same_units_listing b asked k (suc n) =
      ap (λ (l : Listing). then_list l (units_listing t b asked (k + 1) n)) (same_unit_listing b asked k)
      ∙ ap (then_list (unit_listing u b asked k)) (same_units_listing b asked (k + 1) n)
