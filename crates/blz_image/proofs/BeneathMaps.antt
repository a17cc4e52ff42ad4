-- Entries that are put from the last to the first, each where its offset has none, are the entries in their order.
use Rattle.std.proofs.Common.{◌≡◌, ℕ, zero, suc, ◌==◌, ◌+◌, ◌<◌, ◌≤◌, Bool, true, false, cond, List, [], ◌∷◌, length, get_or, drop, Option, Some, None, refl, sym, ap, ◌∙◌, arith, eq-eqb}
use Rattle.std.specs.FinMap.{contains_key, empty, get, insert, get-empty}
use Rattle.std.specs.List.{fold}
use Rattle.std.specs.Option.{is_some}
use Rattle.std.specs.Ordering.{nat_cmp}
use Rattle.std.proofs.lemmas.List.{at_drop_more}
use Rattle.blz_image.specs.RelocationTables.{Entry, effect_of, put_entry, value_at}
use Rattle.blz_image.specs.TargetTables.{beneath, put_absent}
use Rattle.blz_image.specs.declared.symbols.Symbol.{Symbol}
use Rattle.blz_relocations.specs.declared.relocation.Relocation.{Relocation}
use Rattle.blz_relocations.specs.Relocations.{OffsetMap, SectionMap, section_map}
use Rattle.blz_image.proofs.MapLooks.{first, first-none, first-first, given, get-insert-first, get-with_absent, section_map-with_relocation}

abbrev effect : List Symbol → Entry → Relocation
effect symbols e = effect_of (value_at symbols e.symbol) e.addend

-- an entry in a map of offsets
abbrev pub put_at : List Symbol → OffsetMap → Entry → OffsetMap
put_at symbols m e = insert m e.offset (effect symbols e)

-- what entries alone give
abbrev pub alone : List Symbol → List Entry → OffsetMap
alone symbols es = fold (put_at symbols) empty es

push_first : {X : Type 0} (a one g : Option X) → first a (first one g) ≡ first (first a (first one None)) g
push_first a one g = sym (first-first a (first one None) g ∙ ap (first a) (first-first one None g))

-- entries after a map
pub get-fold : (symbols : List Symbol) (es : List Entry) (m : OffsetMap) (q : ℕ) → get (fold (put_at symbols) m es) q ≡ first (get (alone symbols es) q) (get m q)
get-fold symbols [] m q = rw (get-empty nat_cmp q) refl
get-fold symbols (e ∷ es) m q =
    let one : Option Relocation = given e.offset (effect symbols e) q in
    let rest : Option Relocation = get (alone symbols es) q in
    get-fold symbols es (put_at symbols m e) q ∙ ap (first rest) (get-insert-first m e.offset (effect symbols e) q)
    ∙ push_first rest one (get m q)
    ∙ ap (λ (o : Option Relocation). first (first rest (first one o)) (get m q)) (sym (get-empty nat_cmp q))
    ∙ ap (λ (o : Option Relocation). first (first rest o) (get m q)) (sym (get-insert-first empty e.offset (effect symbols e) q))
    ∙ ap (λ (o : Option Relocation). first o (get m q)) (sym (get-fold symbols es (put_at symbols empty e) q))

-- entries beneath a map
pub get-beneath : (symbols : List Symbol) (es : List Entry) (m : OffsetMap) (q : ℕ) → get (beneath symbols es m) q ≡ first (get m q) (get (alone symbols es) q)
get-beneath symbols [] m q = rw (get-empty nat_cmp q) (sym (first-none (get m q)))
get-beneath symbols (e ∷ es) m q =
    let one : Option Relocation = given e.offset (effect symbols e) q in
    let rest : Option Relocation = get (alone symbols es) q in
    get-with_absent (beneath symbols es m) e.offset (effect symbols e) q
    ∙ ap (λ (o : Option Relocation). first o one) (get-beneath symbols es m q)
    ∙ first-first (get m q) rest one
    ∙ ap (λ (o : Option Relocation). first (get m q) (first rest o)) (sym (get-insert-first empty e.offset (effect symbols e) q ∙ ap (first one) (get-empty nat_cmp q) ∙ first-none one))
    ∙ ap (first (get m q)) (sym (get-fold symbols es (put_at symbols empty e) q))

same_either : {X : Type 0} (b : Bool) (x : X) → x ≡ cond b x x
same_either true x = refl
same_either false x = refl

-- entries of a section, in the maps of all
pub section_map-fold : (symbols : List Symbol) (s t : ℕ) (es : List Entry) (all : SectionMap) → section_map (fold (put_entry symbols s) all es) t ≡ cond (s == t) (fold (put_at symbols) (section_map all t) es) (section_map all t)
section_map-fold symbols s t [] all = same_either (s == t) (section_map all t)
section_map-fold symbols s t (e ∷ es) all =
    section_map-fold symbols s t es (put_entry symbols s all e)
    ∙ ap (λ (m : OffsetMap). cond (s == t) (fold (put_at symbols) m es) m) (section_map-with_relocation all s t e.offset (effect symbols e))
    ∙ by (s == t)
  where
    by : (b : Bool) → cond b (fold (put_at symbols) (cond b (put_at symbols (section_map all t) e) (section_map all t)) es) (cond b (put_at symbols (section_map all t) e) (section_map all t)) ≡ cond b (fold (put_at symbols) (section_map all t) (e ∷ es)) (section_map all t)
    by true = refl
    by false = refl

-- ---- which offsets have one

still_some : {X : Type 0} (a b : Option X) → is_some a ≡ true → is_some (first a b) ≡ true
still_some None b e = absurd cc
still_some (Some x) b e = refl

-- what was there is there
pub known-beneath : (symbols : List Symbol) (es : List Entry) (m : OffsetMap) (q : ℕ) → contains_key m q ≡ true → contains_key (beneath symbols es m) q ≡ true
known-beneath symbols es m q e = ap is_some (get-beneath symbols es m q) ∙ still_some (get m q) (get (alone symbols es) q) e

second_some : {X : Type 0} (a : Option X) (x : X) → is_some (first a (Some x)) ≡ true
second_some None x = refl
second_some (Some y) x = refl

-- each entry that was put has its offset there
pub entry-beneath : (symbols : List Symbol) (es : List Entry) (m : OffsetMap) (k : ℕ) (d : Entry) → k < length es → contains_key (beneath symbols es m) (get_or es k d).offset ≡ true
entry-beneath symbols [] m k d lt = absurd (omega arith)
entry-beneath symbols (e ∷ es) m zero d lt =
    let same : (e.offset == e.offset) ≡ true = eq-eqb e.offset e.offset refl in
    ap is_some (get-with_absent (beneath symbols es m) e.offset (effect symbols e) e.offset ∙ rw same refl) ∙ second_some (get (beneath symbols es m) e.offset) (effect symbols e)
entry-beneath symbols (e ∷ es) m (suc k) d lt =
    let q = (get_or es k d).offset in
    ap is_some (get-with_absent (beneath symbols es m) e.offset (effect symbols e) q) ∙ still_some (get (beneath symbols es m) q) (given e.offset (effect symbols e) q) (entry-beneath symbols es m k d (omega arith))

-- entries whose offsets are known change nothing
pub beneath-known : (symbols : List Symbol) (es : List Entry) (m : OffsetMap) (lo n : ℕ) (d : Entry) → lo + n ≤ length es → ((k : ℕ) → lo ≤ k → k < lo + n → contains_key m (get_or es k d).offset ≡ true) → beneath symbols (drop lo es) m ≡ beneath symbols (drop (lo + n) es) m
beneath-known symbols es m lo zero d le known = let e : lo ≡ lo + zero = omega arith in ap (λ (i : ℕ). beneath symbols (drop i es) m) e
beneath-known symbols es m lo (suc n) d le known =
    let e : lo + 1 + n ≡ lo + suc n = omega arith in
    let lt : lo < length es = omega arith in
    let here = known-beneath symbols (drop (lo + 1) es) m (get_or es lo d).offset (known lo (omega arith) (omega arith)) in
    let step : beneath symbols (drop lo es) m ≡ put_absent symbols (beneath symbols (drop (lo + 1) es) m) (get_or es lo d) = at_drop_more (λ (ys : List Entry). beneath symbols ys m) es lo d lt in
    step ∙ rw here (beneath-known symbols es m (lo + 1) n d (omega arith) (λ k low high. known k (omega arith) (omega arith))) ∙ ap (λ (i : ℕ). beneath symbols (drop i es) m) e

-- one entry more, before those that were put
pub beneath_more : (symbols : List Symbol) (es : List Entry) (m old new : OffsetMap) (i : ℕ) (e : Entry) → i < length es → ((d : Entry) → get_or es i d ≡ e) → old ≡ beneath symbols (drop (i + 1) es) m → new ≡ put_absent symbols old e → new ≡ beneath symbols (drop i es) m
beneath_more symbols es m old new i e lt here so_far is =
    let step : beneath symbols (drop i es) m ≡ put_absent symbols (beneath symbols (drop (i + 1) es) m) (get_or es i e) = at_drop_more (λ (ys : List Entry). beneath symbols ys m) es i e lt in
    is ∙ ap (λ (o : OffsetMap). put_absent symbols o e) so_far ∙ sym (step ∙ ap (λ (x : Entry). put_absent symbols (beneath symbols (drop (i + 1) es) m) x) (here e))
