-- Entries that are passed over, one after the other.
use Rattle.std.proofs.Common.{◌≡◌, ℕ, zero, suc, length, true, List, [], ◌∷◌, Option, Some, None, refl, sym, ap, inl, inr, arith}
use Rattle.std.specs.Prelude.{IfSome}
use Rattle.std.proofs.lemmas.Bool.{cases_Bool}
use Rattle.blz_model.specs.Reads.{◌>>=◌}
use Rattle.blz_info.specs.AttributeRuns.{passed_by}
use Rattle.blz_info.specs.Attributes.{passed}
use Rattle.blz_info.specs.Contents.{Contents}
use Rattle.blz_info.specs.Passing.{is_leaf, is_passed, behind_entry, past, past_one}
use Rattle.blz_info.specs.Sizes.{over}
use Rattle.blz_info.specs.Walks.{Walk, next_of, skipped_of}
use Rattle.blz_info.specs.Wanted.{any_placing}
use Rattle.blz_info.specs.declared.encoding.Encoding.{Encoding}
use Rattle.blz_info.specs.declared.entries.Entry.{Entry}
use Rattle.blz_info.specs.declared.walking.passing.Passing.{Passing}
use Rattle.blz_info.specs.declared.walking.runs.Run.{Run}

one_behind : (p : Passing) (tag n : ℕ) (o : Option Walk) (v x : Walk) → ((u : Walk) → past n p tag u ≡ Some v → past (suc n) p tag u ≡ Some x) → (o >>= past n p tag) ≡ Some v → (o >>= past (suc n) p tag) ≡ Some x
one_behind p tag n None v x step h = absurd cc
one_behind p tag n (Some u) v x step h = step u h

-- one more behind those that were passed
pub past_more : (p : Passing) (tag n : ℕ) (w v x : Walk) → past n p tag w ≡ Some v → past_one p tag v ≡ Some x → past (suc n) p tag w ≡ Some x
unfolding past
past_more p tag zero w v x h one =
    let e : w ≡ v = cc in
    rw (e, one) refl
past_more p tag (suc n) w v x h one = one_behind p tag n (past_one p tag w) v x (λ u k. past_more p tag n u v x k one) h

-- ---- an entry that is passed over

-- what it is, and the walk behind its code
pub record IsPassed (p : Passing) (tag : ℕ) (w v : Walk) : Type 0 where
  pub entry : Entry
  pub met : Walk
  pub next : next_of w ≡ Some (Some entry, met)
  pub other : is_passed p tag entry.tag (is_leaf entry) (any_placing met.pending) ≡ true
  pub skipped : skipped_of met ≡ Some (tt {0}, v)

skipped_to : (o : Option (Unit {0} × Walk)) (v : Walk) → (o >>= λ (r : Unit {0} × Walk). Some r.1) ≡ Some v → o ≡ Some (tt {0}, v)
skipped_to None v h = absurd cc
skipped_to (Some r) v h = let e : r.1 ≡ v = cc in ap (λ (x : Walk). Some (tt {0}, x)) e

entry_by : (p : Passing) (tag : ℕ) (w v : Walk) (o : Option (Option Entry × Walk)) → next_of w ≡ o → (o >>= behind_entry p tag) ≡ Some v → IsPassed p tag w v
entry_by p tag w v None is h = absurd cc
entry_by p tag w v (Some (None, m)) is h = absurd cc
entry_by p tag w v (Some (Some e, m)) is h =
    elim (cases_Bool (is_passed p tag e.tag (is_leaf e) (any_placing m.pending))) [
      | inl t ↦ record { entry = e; met = m; next = is; other = t; skipped = skipped_to (skipped_of m) v (rw t at h) }
      | inr f ↦ let none : None ≡ Some v = rw f at h in absurd cc
    ]

pub passed_entry : (p : Passing) (tag : ℕ) (w v : Walk) → past_one p tag w ≡ Some v → IsPassed p tag w v
unfolding past_one
passed_entry p tag w v h = entry_by p tag w v (next_of w) refl h

-- the walk behind attributes that were passed over
pub record IsBehind (w v : Walk) : Type 0 where
  pub source : v.source ≡ w.source
  pub pending : v.pending ≡ []
  pub depth : v.depth ≡ w.depth

abbrev at_place : Walk → ℕ → Option (Unit {0} × Walk)
at_place w at = Some (tt, record { source = w.source; place = at; pending = []; depth = w.depth })

abbrev skipped : Walk → Option (Unit {0} × Walk)
skipped v = Some (tt, v)

walk_in : Walk → Option (Unit {0} × Walk) → Walk
walk_in z None = z
walk_in z (Some r) = r.1

behind_by : (w v : Walk) (o : Option ℕ) → (o >>= at_place w) ≡ skipped v → IsBehind w v
unfolding walk_in
behind_by w v None h = absurd cc
behind_by w v (Some at) h =
    let e : record { source = w.source; place = at; pending = []; depth = w.depth } ≡ v = ap (walk_in v) h in
    record { source = sym (ap (λ (x : Walk). x.source) e); pending = sym (ap (λ (x : Walk). x.pending) e); depth = sym (ap (λ (x : Walk). x.depth) e) }

pub behind_skipped : (w v : Walk) → skipped_of w ≡ Some (tt {0}, v) → IsBehind w v
unfolding skipped_of
behind_skipped w v h = behind_by w v (passed w.pending w.source.encoding w.source.base w.source.section w.place) h

-- ---- an entry without runs

pub no_runs : (runs : List Run) (tail : ℕ) (e : Encoding) (s : Contents) (at : ℕ) → length runs ≡ 0 → passed_by runs tail e s at ≡ over tail s.bytes at
unfolding passed_by
no_runs [] tail e s at h = refl
no_runs (r ∷ rest) tail e s at h = absurd (omega arith)

pub some_of : (o p : Option ℕ) → o ≡ p → IfSome o (λ n. p ≡ Some n)
some_of None p h = tt
some_of (Some n) p h = sym h

-- ---- a walk before anything is passed

pub none_past : (p : Passing) (tag d at : ℕ) (w : Walk) → w.pending ≡ [] → w.place ≡ at → w.depth ≡ d → past zero p tag w ≡ Some (record { source = w.source; place = at; pending = []; depth = d })
unfolding past
none_past p tag d at w e f g = rw (← f, ← g, ← e) refl
