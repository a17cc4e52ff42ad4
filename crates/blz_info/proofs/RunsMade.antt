-- The runs that a loop makes of attributes are those attributes.
use Rattle.std.proofs.Common.{◌≡◌, ◌∙◌, ℕ, ◌+◌, ◌<◌, ◌≤◌, Bool, false, List, [], ◌∷◌, ◌++◌, length, get_or, take, drop, Some, refl, sym, ap, subst, inl, inr, arith}
use Rattle.std.specs.Prelude.{slice_get}
use Rattle.std.proofs.lemmas.Bool.{cases_Bool}
use Rattle.std.proofs.lemmas.List.{take-append-le, drop-append-le, length_push, length-drop, take_more, take_all}
use Rattle.std.proofs.lemmas.Option.{slice_get_within, slice_get-get_or}
use Rattle.std.proofs.Math.ListN.{get_or-append, drop_of_length-le}
use Rattle.std.proofs.Math.Seq.{take-append_seam, get_or-append_seam}
use Rattle.blz_info.specs.Sizes.{attribute_size, size_together}
use Rattle.blz_info.specs.AttributeRuns.{wants, skipped_size, any_wanted, AreSkipped, IsLookedAt, AreRuns, run_of}
use Rattle.blz_info.specs.declared.abbreviations.AttrSpec.{AttrSpec}
use Rattle.blz_info.specs.declared.encoding.Encoding.{Encoding}
use Rattle.blz_info.specs.declared.walking.runs.Run.{Run}
use Rattle.blz_info.proofs.Together.{together_more}

-- runs, and behind them so many bytes of so many attributes
abbrev pub AreMade : Bool → Encoding → List Run → ℕ → ℕ → List AttrSpec → Type 0
AreMade reading e [] tail count specs = AreSkipped reading e tail specs × (count ≡ length specs)
AreMade reading e (r ∷ rest) tail count specs =
    AreSkipped reading e r.skip (take r.count specs) × (IsLookedAt reading e r (slice_get specs r.count) × AreMade reading e rest tail count (drop (r.count + 1) specs))

pub made_runs : (reading : Bool) (e : Encoding) (runs : List Run) (tail count : ℕ) (specs : List AttrSpec) → AreMade reading e runs tail count specs → AreRuns reading e runs tail specs
made_runs reading e [] tail count specs h = h.0
made_runs reading e (r ∷ rest) tail count specs h = (h.0, (h.1.0, made_runs reading e rest tail count (drop (r.count + 1) specs) h.1.1))

pub made_few : (reading : Bool) (e : Encoding) (runs : List Run) (tail count : ℕ) (specs : List AttrSpec) → AreMade reading e runs tail count specs → count ≤ length specs
made_few reading e [] tail count specs h = omega (arith, h.1)
made_few reading e (r ∷ rest) tail count specs h = omega (arith, made_few reading e rest tail count (drop (r.count + 1) specs) h.1.1, length-drop (r.count + 1) specs)

skips_none : (reading : Bool) (e : Encoding) → AreSkipped reading e 0 []
unfolding size_together
skips_none reading e = record { bytes = refl; unwanted = refl }

pub made_none : (reading : Bool) (e : Encoding) → AreMade reading e [] 0 0 []
made_none reading e = (skips_none reading e, refl)

-- ---- one attribute more that is passed over

not_wanted : (reading : Bool) (a : AttrSpec) (e : Encoding) (n : ℕ) → skipped_size reading a e ≡ Some n → (wants reading a ≡ false) × (attribute_size a e ≡ Some n)
not_wanted reading a e n h = elim (cases_Bool (wants reading a)) [
  | inl wanted ↦ absurd (let k = rw wanted at h in cc)
  | inr other ↦ let k = rw other at h in (other, k)
]

unwanted_more : (reading : Bool) (specs : List AttrSpec) (a : AttrSpec) → any_wanted reading specs ≡ false → wants reading a ≡ false → any_wanted reading (specs ++ a ∷ []) ≡ false
unwanted_more reading [] a h k = rw k refl
unwanted_more reading (x ∷ rest) a h k = elim (cases_Bool (wants reading x)) [
  | inl wanted ↦ absurd (let q = rw wanted at h in cc)
  | inr other ↦ let q = rw other at h in rw other (unwanted_more reading rest a q k)
]

skips_more : (reading : Bool) (e : Encoding) (n m : ℕ) (specs : List AttrSpec) (a : AttrSpec) → AreSkipped reading e n specs → skipped_size reading a e ≡ Some m → AreSkipped reading e (n + m) (specs ++ a ∷ [])
skips_more reading e n m specs a h k =
    let p = not_wanted reading a e m k in
    record { bytes = together_more specs a e n m h.bytes p.1; unwanted = unwanted_more reading specs a h.unwanted p.0 }

-- what a run says of attributes it says of these and others behind them
front_stays : (specs : List AttrSpec) (a : AttrSpec) (i : ℕ) (x : AttrSpec) → slice_get specs i ≡ Some x → (take i (specs ++ a ∷ []) ≡ take i specs) × (slice_get (specs ++ a ∷ []) i ≡ slice_get specs i) × (drop (i + 1) (specs ++ a ∷ []) ≡ drop (i + 1) specs ++ a ∷ [])
front_stays specs a i x h =
    let lt = slice_get_within specs i x h in
    let longer : i < length (specs ++ a ∷ []) = omega (arith, length_push specs a) in
    (take-append-le i specs (a ∷ []) (omega arith), slice_get-get_or (specs ++ a ∷ []) i a longer ∙ ap (λ (y : AttrSpec). Some y) (get_or-append specs (a ∷ []) a i lt) ∙ sym (slice_get-get_or specs i a lt), drop-append-le (i + 1) specs (a ∷ []) (omega arith))

-- the same of a run and what is behind it
kept_front : (reading : Bool) (e : Encoding) (r : Run) (specs : List AttrSpec) (a : AttrSpec) (P : List AttrSpec → Type 0) → AreSkipped reading e r.skip (take r.count specs) → IsLookedAt reading e r (slice_get specs r.count) → P (drop (r.count + 1) specs ++ a ∷ []) → AreSkipped reading e r.skip (take r.count (specs ++ a ∷ [])) × (IsLookedAt reading e r (slice_get (specs ++ a ∷ []) r.count) × P (drop (r.count + 1) (specs ++ a ∷ [])))
kept_front reading e r specs a P skipped looked rest =
    let same = front_stays specs a r.count r.spec looked.there in
    (subst (AreSkipped reading e r.skip) (sym same.0) skipped, (subst (IsLookedAt reading e r) (sym same.1) looked, subst P (sym same.2) rest))

passed_more : (reading : Bool) (e : Encoding) (runs : List Run) (tail count size : ℕ) (specs : List AttrSpec) (a : AttrSpec) → AreMade reading e runs tail count specs → skipped_size reading a e ≡ Some size → AreMade reading e runs (tail + size) (count + 1) (specs ++ a ∷ [])
passed_more reading e [] tail count size specs a h k = (skips_more reading e tail size specs a h.0 k, omega (arith, h.1, length_push specs a))
passed_more reading e (r ∷ rest) tail count size specs a h k =
    kept_front reading e r specs a (AreMade reading e rest (tail + size) (count + 1)) h.0 h.1.0 (passed_more reading e rest tail count size (drop (r.count + 1) specs) a h.1.1 k)

run_ends : (reading : Bool) (e : Encoding) (r : Run) (specs : List AttrSpec) (a : AttrSpec) → AreSkipped reading e r.skip specs → r.count ≡ length specs → r.spec ≡ a → IsLookedAt reading e r (Some a) → AreMade reading e (r ∷ []) 0 0 (specs ++ a ∷ [])
run_ends reading e r specs a skipped count spec looked =
    let there : slice_get (specs ++ a ∷ []) (length specs) ≡ Some a = slice_get-get_or (specs ++ a ∷ []) (length specs) a (omega (arith, length_push specs a)) ∙ ap (λ (y : AttrSpec). Some y) (get_or-append_seam specs a [] a) in
    let behind : drop (length specs + 1) (specs ++ a ∷ []) ≡ [] = drop_of_length-le (specs ++ a ∷ []) {i = length specs + 1} (omega (arith, length_push specs a)) in
    let P : ℕ → Type 0 = λ n. AreSkipped reading e r.skip (take n (specs ++ a ∷ [])) × (IsLookedAt reading e r (slice_get (specs ++ a ∷ []) n) × AreMade reading e [] 0 0 (drop (n + 1) (specs ++ a ∷ []))) in
    subst P (sym count) (subst (AreSkipped reading e r.skip) (sym (take-append_seam specs (a ∷ []))) skipped, (subst (IsLookedAt reading e r) (sym there) looked, subst (AreMade reading e [] 0 0) (sym behind) (made_none reading e)))

run_more : (reading : Bool) (e : Encoding) (runs : List Run) (tail count : ℕ) (specs : List AttrSpec) (a : AttrSpec) (r : Run) → AreMade reading e runs tail count specs → r.skip ≡ tail → r.count ≡ count → r.spec ≡ a → IsLookedAt reading e r (Some a) → AreMade reading e (runs ++ r ∷ []) 0 0 (specs ++ a ∷ [])
run_more reading e [] tail count specs a r h skip many spec looked =
    run_ends reading e r specs a (subst (λ (n : ℕ). AreSkipped reading e n specs) (sym skip) h.0) (many ∙ h.1) spec looked
run_more reading e (x ∷ rest) tail count specs a r h skip many spec looked =
    kept_front reading e x specs a (AreMade reading e (rest ++ r ∷ []) 0 0) h.0 h.1.0 (run_more reading e rest tail count (drop (x.count + 1) specs) a r h.1.1 skip many spec looked)

-- ---- by the index of the attribute

pub made_passes : (reading : Bool) (e : Encoding) (runs : List Run) (tail count size more : ℕ) (specs : List AttrSpec) (i : ℕ) (d : AttrSpec) → i < length specs → AreMade reading e runs tail count (take i specs) → Some size ≡ skipped_size reading (get_or specs i d) e → more ≡ tail + size → AreMade reading e runs more (count + 1) (take (i + 1) specs)
made_passes reading e runs tail count size more specs i d lt h k is =
    rw (take_more specs i d lt, is) (passed_more reading e runs tail count size (take i specs) (get_or specs i d) h (sym k))

pub made_more : (reading : Bool) (e : Encoding) (runs : List Run) (tail count : ℕ) (specs : List AttrSpec) (i : ℕ) (d : AttrSpec) (r : Run) → i < length specs → AreMade reading e runs tail count (take i specs) → r ≡ run_of reading e tail count (get_or specs i d) → AreMade reading e (runs ++ r ∷ []) 0 0 (take (i + 1) specs)
made_more reading e runs tail count specs i d r lt h is =
    let a = get_or specs i d in
    let made : Run = run_of reading e tail count a in
    let looked : IsLookedAt reading e made (Some a) = record { there = refl; form = refl; wanted = refl } in
    let all : AreMade reading e (runs ++ made ∷ []) 0 0 (take i specs ++ a ∷ []) = run_more reading e runs tail count (take i specs) a made h refl refl refl looked in
    subst (λ (x : Run). AreMade reading e (runs ++ x ∷ []) 0 0 (take (i + 1) specs)) (sym is) (subst (AreMade reading e (runs ++ made ∷ []) 0 0) (sym (take_more specs i d lt)) all)

pub all_made : (reading : Bool) (e : Encoding) (runs : List Run) (tail count : ℕ) (specs : List AttrSpec) (i : ℕ) → length specs ≤ i → AreMade reading e runs tail count (take i specs) → AreRuns reading e runs tail specs
all_made reading e runs tail count specs i le h =
    made_runs reading e runs tail count specs (subst (AreMade reading e runs tail count) (take_all i specs le) h)
