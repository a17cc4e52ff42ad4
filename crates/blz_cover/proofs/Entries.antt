-- A table of lines as a plain list.
use Rattle.std.proofs.Common.{◌≡◌, ◌≢◌, ℕ, ◌+◌, ◌||◌, zero, suc, Bool, true, false, cond, List, [], ◌∷◌, ◌++◌, length, map, slice_get, refl, ap, ◌∙◌, Option, Some, None, is_some, not, arith}
use Rattle.std.specs.Prelude.{nat_lt}
use Rattle.std.specs.List.{list_any, position, position_or_len}
use Rattle.std.proofs.lemmas.List.{map-append}
use Rattle.std.specs.Map.{lookup, keys_of, values_of}
use Rattle.indexmap.specs.IndexMap.{set_value_at}
use Rattle.blz_error.specs.Texts.{Bytes}
use Rattle.blz_cover.specs.LineEntries.{LineEntry, is_entry_of, found_or_last, met, recount}
use Rattle.blz_cover.specs.LineKeys.{entry_view}
use Rattle.blz_cover.specs.declared.line_table.LineKey.{LineKey}
use Rattle.blz_cover.specs.declared.line_table.LineCount.{LineCount}

-- a test of the keys that tells whether an entry stands for a line of a path
abbrev pub Tells : (LineKey → Bool) → Bytes → ℕ → Type 0
Tells test path line = (k : LineKey) (v : LineCount) → test k ≡ is_entry_of path line (entry_view (k, v))

module _ (test : LineKey → Bool) (path : Bytes) (line : ℕ) (tells : Tells test path line) where
  position_or_len-keys : (es : List (LineKey × LineCount)) → position_or_len test (keys_of es) ≡ position_or_len (is_entry_of path line) (map entry_view es)
  position_or_len-keys [] = refl
  position_or_len-keys (e ∷ es) = rw (← tells e.0 e.1) (ap (λ n. cond (not (test e.0)) (1 + n) 0) (position_or_len-keys es))

  length-keys : (es : List (LineKey × LineCount)) → length (keys_of es) ≡ length (map entry_view es)
  length-keys [] = refl
  length-keys (e ∷ es) = ap suc (length-keys es)

  list_any-keys : (es : List (LineKey × LineCount)) → list_any (is_entry_of path line) (map entry_view es) ≡ is_some (lookup test es)
  list_any-keys [] = refl
  list_any-keys (e ∷ es) = rw (← tells e.0 e.1) (at_first (test e.0) es (list_any-keys es))
    where
      at_first : (b : Bool) (es : List (LineKey × LineCount)) → list_any (is_entry_of path line) (map entry_view es) ≡ is_some (lookup test es)
          → (b || list_any (is_entry_of path line) (map entry_view es)) ≡ is_some (cond b (Some e.1) (lookup test es))
      at_first true es h = refl
      at_first false es h = h

-- ---- another count

pub recount-set_value_at : (f : ℕ → ℕ) (es : List (LineKey × LineCount)) (i : ℕ) (v : LineCount) → slice_get (values_of es) i ≡ Some v
    → map entry_view (set_value_at es i (record { addr = v.addr; count = f v.count })) ≡ recount f (map entry_view es) i
recount-set_value_at f [] i v at = refl
recount-set_value_at f (e ∷ es) zero v at = let is : e.1 ≡ v = cc in rw (← is) refl
recount-set_value_at f (e ∷ es) (suc i) v at = ap (λ xs. entry_view e ∷ xs) (recount-set_value_at f es i v at)

-- the entry of a value
pub entry_at : (es : List (LineKey × LineCount)) (i : ℕ) (v : LineCount) → slice_get (values_of es) i ≡ Some v → (k : LineKey) × (slice_get (map entry_view es) i ≡ Some (entry_view (k, v)))
entry_at [] i v at = cc
entry_at (e ∷ es) zero v at = let is : e.1 ≡ v = cc in (e.0, rw (← is) refl)
entry_at (e ∷ es) (suc i) v at = entry_at es i v at

pub none_at : (es : List (LineKey × LineCount)) (i : ℕ) → slice_get (values_of es) i ≡ None → slice_get (map entry_view es) i ≡ None
none_at [] i none = refl
none_at (e ∷ es) zero none = cc
none_at (e ∷ es) (suc i) none = none_at es i none

pub recount-past : (f : ℕ → ℕ) (es : List LineEntry) (i : ℕ) → slice_get es i ≡ None → recount f es i ≡ es
recount-past f [] i past = refl
recount-past f (e ∷ es) zero past = cc
recount-past f (e ∷ es) (suc i) past = ap (λ xs. e ∷ xs) (recount-past f es i past)

-- the entry that is counted, and another
pub slice_get-recount_here : (f : ℕ → ℕ) (es : List LineEntry) (i : ℕ) (e : LineEntry) → slice_get es i ≡ Some e → slice_get (recount f es i) i ≡ Some (record e { count = f e.count })
slice_get-recount_here f [] i e at = cc
slice_get-recount_here f (x ∷ es) zero e at = let is : x ≡ e = cc in rw is refl
slice_get-recount_here f (x ∷ es) (suc i) e at = slice_get-recount_here f es i e at

pub slice_get-recount_other : (f : ℕ → ℕ) (es : List LineEntry) (i k : ℕ) → k ≢ i → slice_get (recount f es i) k ≡ slice_get es k
slice_get-recount_other f [] i k apart = refl
slice_get-recount_other f (x ∷ es) zero zero apart = absurd (apart refl)
slice_get-recount_other f (x ∷ es) zero (suc k) apart = refl
slice_get-recount_other f (x ∷ es) (suc i) zero apart = refl
slice_get-recount_other f (x ∷ es) (suc i) (suc k) apart = slice_get-recount_other f es i k (λ e. apart (ap suc e))

pub length-recount : (f : ℕ → ℕ) (es : List LineEntry) (i : ℕ) → length (recount f es i) ≡ length es
length-recount f [] i = refl
length-recount f (x ∷ es) zero = refl
length-recount f (x ∷ es) (suc i) = ap suc (length-recount f es i)

-- ---- as the table has it

at_position : (p l i : ℕ) (b : Bool) → Some i ≡ cond b (Some p) None → i ≡ p
at_position p l i true at = cc
at_position p l i false at = cc

-- a place that is there
pub found_entry : (test : LineKey → Bool) (path : Bytes) (line i : ℕ) (es : List (LineKey × LineCount)) → Tells test path line → Some i ≡ position test (keys_of es) → i ≡ found_or_last path line (map entry_view es)
found_entry test path line i es tells at =
    at_position _ (length (keys_of es)) i (nat_lt (position_or_len test (keys_of es)) (length (keys_of es))) at ∙ position_or_len-keys test path line tells es

-- and one that is not
last_key : (test : LineKey → Bool) (b : Bool) (v : LineCount) (es : List (LineKey × LineCount)) → cond b (Some v) (lookup test es) ≡ None → (lookup test es ≡ None → length es ≡ position_or_len test (keys_of es))
    → suc (length es) ≡ cond (not b) (1 + position_or_len test (keys_of es)) 0
last_key test true v es none rest = cc
last_key test false v es none rest = omega (arith, rest none)

length-of_new : (test : LineKey → Bool) (es : List (LineKey × LineCount)) → lookup test es ≡ None → length es ≡ position_or_len test (keys_of es)
length-of_new test [] none = refl
length-of_new test (e ∷ es) none = last_key test (test e.0) e.1 es none (length-of_new test es)

pub new_entry : (test : LineKey → Bool) (path : Bytes) (line : ℕ) (es : List (LineKey × LineCount)) → Tells test path line → lookup test es ≡ None → length es ≡ found_or_last path line (map entry_view es)
new_entry test path line es tells none = length-of_new test es none ∙ position_or_len-keys test path line tells es

-- the lines after a place was asked for
pub met_entry : (test : LineKey → Bool) (path : Bytes) (line addr : ℕ) (es : List (LineKey × LineCount)) → Tells test path line → is_some (lookup test es) ≡ true → map entry_view es ≡ met path line addr (map entry_view es)
met_entry test path line addr es tells some = rw (list_any-keys test path line tells es, some) refl

pub met_new_entry : (test : LineKey → Bool) (k : LineKey) (v : LineCount) (es : List (LineKey × LineCount)) → Tells test k.path.items k.line → lookup test es ≡ None → v.count ≡ 0
    → map entry_view (es ++ (k, v) ∷ []) ≡ met k.path.items k.line v.addr (map entry_view es)
met_new_entry test k v es tells none count = rw (list_any-keys test k.path.items k.line tells es, none, map-append, count) refl

pub none_unless : {X : Type 0} (o : Option X) → false ≡ is_some o → o ≡ None
none_unless None h = refl
none_unless (Some x) h = cc
