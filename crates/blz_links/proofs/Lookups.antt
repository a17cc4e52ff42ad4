-- What the files in memory hold at a path is the last put on it.
use Rattle.std.proofs.Common.{◌≡◌, ℕ, Bool, true, false, cond, List, [], ◌∷◌, Option, Some, None, option_map, map, find, refl, sym, ◌∙◌, ap, length, filter, suc, Vec, String, Bor, string_bytes}
use Rattle.std.specs.Ordering.{nat_cmp}
use Rattle.std.proofs.lemmas.Cmp.{nat_list_cmp_total}
use Rattle.std.specs.Cmp.Lexicographic.{slice_cmp}
use Rattle.std.specs.FinMap as maps
use Rattle.std.specs.Str.{bytes_eq}
use Rattle.std.specs.Option.{option_copied}
use Rattle.std.proofs.lemmas.Map.Text.{is_eq-slice_cmp}
use Rattle.std.proofs.lemmas.Slice.Eq.{bytes_eq-Decides}
use Rattle.blz_error.specs.Texts.{Bytes}
use Rattle.blz_links.specs.MemoryPuts.{MemoryValue, contents_of, stamps_of, find_put, puts_on, stamp_entries}
use Rattle.blz_links.specs.declared.files.stamp.Stamp.{Stamp}

chosen : {X : Type 0} (b : Bool) (e : Bytes × X) (x : Option X) (y : Option (Bytes × X)) → x ≡ option_map (λ e. e.1) y → cond b (Some e.1) x ≡ option_map (λ e. e.1) (cond b (Some e) y)
chosen true e x y h = refl
chosen false e x y h = h

found : {X : Type 0} (path : Bytes) (es : List (Bytes × X)) → maps.find (slice_cmp nat_cmp) path es ≡ option_map (λ e. e.1) (find (λ e. bytes_eq path e.0) es)
found path [] = refl
found path (e ∷ es) =
    ap (λ b. cond b (Some e.1) (maps.find (slice_cmp nat_cmp) path es)) (is_eq-slice_cmp path e.0)
    ∙ chosen (bytes_eq path e.0) e _ _ (found path es)

pub get-contents : (m : MemoryValue) (path : Bytes) → maps.get (contents_of m) path ≡ find_put path m.puts
get-contents m path = maps.get-from_entries nat_list_cmp_total m.puts path ∙ found path m.puts

abbrev stamp_at : Bytes → List (Bytes × Bytes) → Bytes → Stamp
stamp_at path es bytes = record { size = length bytes; changed = puts_on path es }

-- what is found, by whether the front is at the path
at_front : (b : Bool) (path : Bytes) (e : Bytes × Bytes) (es : List (Bytes × Bytes)) → bytes_eq path e.0 ≡ b
    → option_map (λ e. e.1) (find (λ e. bytes_eq path e.0) (stamp_entries es)) ≡ option_map (stamp_at path es) (find_put path es)
    → option_map (λ e. e.1) (cond b (Some (e.0, stamp_at e.0 (e ∷ es) e.1)) (find (λ e. bytes_eq path e.0) (stamp_entries es)))
    ≡ option_map (λ bytes. record { size = length bytes; changed = length (cond b (e ∷ filter (λ e. bytes_eq path e.0) es) (filter (λ e. bytes_eq path e.0) es)) }) (option_map (λ e. e.1) (cond b (Some e) (find (λ e. bytes_eq path e.0) es)))
at_front true path e es is rest =
    let same : path ≡ e.0 = (bytes_eq-Decides path e.0).0 is in
    ap (λ p. Some (stamp_at p (e ∷ es) e.1)) (sym same) ∙ ap (λ b. Some (record { size = length e.1; changed = length (cond b (e ∷ filter (λ e. bytes_eq path e.0) es) (filter (λ e. bytes_eq path e.0) es)) })) is
at_front false path e es is rest = rest

stamped : (path : Bytes) (es : List (Bytes × Bytes)) → option_map (λ e. e.1) (find (λ e. bytes_eq path e.0) (stamp_entries es)) ≡ option_map (stamp_at path es) (find_put path es)
stamped path [] = refl
stamped path (e ∷ es) = at_front (bytes_eq path e.0) path e es refl (stamped path es)

pub get-stamps : (m : MemoryValue) (path : Bytes) → maps.get (stamps_of m) path ≡ option_map (stamp_at path m.puts) (find_put path m.puts)
get-stamps m path = maps.get-from_entries nat_list_cmp_total (stamp_entries m.puts) path ∙ found path (stamp_entries m.puts) ∙ stamped path m.puts

-- the list behind the references
pub find_mapped : {A B : Type 0} (f : A → B) (p : B → Bool) (xs : List A) → find p (map f xs) ≡ option_map f (find (λ x. p (f x)) xs)
find_mapped f p [] = refl
find_mapped f p (x ∷ xs) = elim (p (f x)) as (λ b. cond b (Some (f x)) (find p (map f xs)) ≡ option_map f (cond b (Some x) (find (λ x. p (f x)) xs))) [ true ↦ refl | false ↦ find_mapped f p xs ]

pub filter_mapped : {A B : Type 0} (f : A → B) (p : B → Bool) (xs : List A) → length (filter p (map f xs)) ≡ length (filter (λ x. p (f x)) xs)
filter_mapped f p [] = refl
filter_mapped f p (x ∷ xs) = elim (p (f x)) as (λ b. length (cond b (f x ∷ filter p (map f xs)) (filter p (map f xs))) ≡ length (cond b (x ∷ filter (λ x. p (f x)) xs) (filter (λ x. p (f x)) xs))) [ true ↦ ap suc (filter_mapped f p xs) | false ↦ filter_mapped f p xs ]

module _ {Z : Type 0} where
  abbrev pair_of : String Z × Vec ℕ Z → Bytes × Bytes
  pair_of e = (string_bytes e.0, e.1.items)

  abbrev raw_find : Bytes → List (String Z × Vec ℕ Z) → Option (Vec ℕ Z)
  raw_find path puts = option_map (λ e. e.1) (find (λ e. bytes_eq path (string_bytes e.0)) puts)

  abbrev raw_count : Bytes → List (String Z × Vec ℕ Z) → ℕ
  raw_count path puts = length (filter (λ e. bytes_eq path (string_bytes e.0)) puts)

  paired : (o : Option (String Z × Vec ℕ Z)) → option_map (λ e. e.1) (option_map pair_of o) ≡ option_map (λ v. v.items) (option_map (λ e. e.1) o)
  paired None = refl
  paired (Some e) = refl

  put_found : (path : Bytes) (puts : List (String Z × Vec ℕ Z)) → find_put path (map pair_of puts) ≡ option_map (λ v. v.items) (raw_find path puts)
  put_found path puts = ap (option_map (λ e. e.1)) (find_mapped pair_of (λ e. bytes_eq path e.0) puts) ∙ paired _

  copied : (r : Option (Bor (Vec ℕ Z))) → option_map (λ v. v.now.items) r ≡ option_map (λ v. v.items) (option_copied r)
  copied None = refl
  copied (Some v) = refl

  pub held_at : (m : MemoryValue) (path : Bytes) (puts : List (String Z × Vec ℕ Z)) (r : Option (Bor (Vec ℕ Z))) → m.puts ≡ map pair_of puts
      → option_copied r ≡ raw_find path puts → option_map (λ v. v.now.items) r ≡ maps.get (contents_of m) path
  held_at m path puts r is_puts is_found = copied r ∙ ap (option_map (λ v. v.items)) is_found ∙ sym (put_found path puts)
      ∙ ap (find_put path) (sym is_puts) ∙ sym (get-contents m path)

  pub stamp_is : (m : MemoryValue) (path : Bytes) (puts : List (String Z × Vec ℕ Z)) → m.puts ≡ map pair_of puts
      → maps.get (stamps_of m) path ≡ option_map (λ v. record { size = length v.items; changed = raw_count path puts }) (raw_find path puts)
  stamp_is m path puts is_puts =
      get-stamps m path
      ∙ ap (λ l. option_map (stamp_at path l) (find_put path l)) is_puts
      ∙ ap (option_map (stamp_at path (map pair_of puts))) (put_found path puts)
      ∙ ap (λ n. option_map (λ bytes. record { size = length bytes; changed = n }) (option_map (λ v. v.items) (raw_find path puts))) (filter_mapped pair_of (λ e. bytes_eq path e.0) puts)
      ∙ fused (raw_find path puts)
    where
      fused : (o : Option (Vec ℕ Z)) → option_map (λ bytes. let s : Stamp = record { size = length bytes; changed = raw_count path puts } in s) (option_map (λ v. v.items) o) ≡ option_map (λ v. record { size = length v.items; changed = raw_count path puts }) o
      fused None = refl
      fused (Some v) = refl
