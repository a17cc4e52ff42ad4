-- The steps of a loop over the units that announce an address.
use Rattle.std.proofs.Common.{◌≡◌, ℕ, ◌<◌, List, [], ◌∷◌, length, drop, Option, Some, None, refl, ap, ◌∙◌, arith}
use Rattle.std.specs.List.{slice_get}
use Rattle.blz_error.specs.declared.kind.ErrorKind.{ErrorKind}
use Rattle.blz_model.specs.Answers.{Site}
use Rattle.blz_model.specs.Part.{Good, Broken}
use Rattle.blz_info.specs.declared.text.Texts.{Texts}
use Rattle.blz_units.specs.declared.caches.UnitCaches.{UnitCaches}
use Rattle.blz_units.specs.BuiltUnits.{Files}
use Rattle.blz_units.specs.KeptAnswers.{kept_best, kept_line, or_later, first_kept, first_kept_line}
use Rattle.blz_units.specs.UnitAnswers.{best_function, found_or, first_function}
use Rattle.blz_units.specs.UnitSites.{line_in, site_or, first_line}
use Rattle.blz_units.specs.UnitTables.{UnitTable}

front_some : (ks : List ℕ) (k : ℕ) → slice_get ks 0 ≡ Some k → ks ≡ k ∷ drop 1 ks
front_some [] k e = absurd cc
front_some (x ∷ ks) k e = let same : x ≡ k = cc in ap (λ (y : ℕ). y ∷ ks) same

front_none : (ks : List ℕ) → slice_get ks 0 ≡ None → ks ≡ []
front_none [] e = refl
front_none (x ∷ ks) e = absurd cc

pub shorter : (ks : List ℕ) (k : ℕ) → slice_get ks 0 ≡ Some k → length (drop 1 ks) < length ks
shorter [] k e = absurd cc
shorter (x ∷ ks) k e = omega arith

-- ---- functions

over_by : (f : Files) (t : UnitTable) (a : ℕ) → first_function f t a [] ≡ Some None
unfolding first_function
over_by f t a = refl

on_by : (f : Files) (t : UnitTable) (a k : ℕ) (ks : List ℕ) (n : Option ℕ) → best_function f t a k ≡ Some n → first_function f t a (k ∷ ks) ≡ found_or k n (first_function f t a ks)
unfolding first_function
on_by f t a k ks n e = rw e refl

fails_by : (f : Files) (t : UnitTable) (a k : ℕ) (ks : List ℕ) → best_function f t a k ≡ None → first_function f t a (k ∷ ks) ≡ None
unfolding first_function
fails_by f t a k ks e = rw e refl

pub function_over : (f : Files) (t : UnitTable) (a : ℕ) (ks : List ℕ) → slice_get ks 0 ≡ None → first_function f t a ks ≡ Some None
function_over f t a ks e = rw (front_none ks e) (over_by f t a)

pub function_on : (f : Files) (t : UnitTable) (a k : ℕ) (ks : List ℕ) (n : Option ℕ) → slice_get ks 0 ≡ Some k → best_function f t a k ≡ Some n → first_function f t a ks ≡ found_or k n (first_function f t a (drop 1 ks))
function_on f t a k ks n e best = ap (first_function f t a) (front_some ks k e) ∙ on_by f t a k (drop 1 ks) n best

pub function_fails : (f : Files) (t : UnitTable) (a k : ℕ) (ks : List ℕ) → slice_get ks 0 ≡ Some k → best_function f t a k ≡ None → first_function f t a ks ≡ None
function_fails f t a k ks e best = ap (first_function f t a) (front_some ks k e) ∙ fails_by f t a k (drop 1 ks) best

-- ---- lines

line_over_by : (texts : Texts) (f : Files) (t : UnitTable) (a : ℕ) → first_line texts f t a [] ≡ Good None
unfolding first_line
line_over_by texts f t a = refl

line_on_by : (texts : Texts) (f : Files) (t : UnitTable) (a k : ℕ) (ks : List ℕ) (site : Option Site) → line_in texts f t a k ≡ Good site → first_line texts f t a (k ∷ ks) ≡ site_or site (first_line texts f t a ks)
unfolding first_line
line_on_by texts f t a k ks site e = rw e refl

line_fails_by : (texts : Texts) (f : Files) (t : UnitTable) (a k : ℕ) (ks : List ℕ) (kind : ErrorKind) → line_in texts f t a k ≡ Broken kind → first_line texts f t a (k ∷ ks) ≡ Broken kind
unfolding first_line
line_fails_by texts f t a k ks kind e = rw e refl

pub line_over : (texts : Texts) (f : Files) (t : UnitTable) (a : ℕ) (ks : List ℕ) → slice_get ks 0 ≡ None → first_line texts f t a ks ≡ Good None
line_over texts f t a ks e = rw (front_none ks e) (line_over_by texts f t a)

pub line_on : (texts : Texts) (f : Files) (t : UnitTable) (a k : ℕ) (ks : List ℕ) (site : Option Site) → slice_get ks 0 ≡ Some k → line_in texts f t a k ≡ Good site → first_line texts f t a ks ≡ site_or site (first_line texts f t a (drop 1 ks))
line_on texts f t a k ks site e line = ap (first_line texts f t a) (front_some ks k e) ∙ line_on_by texts f t a k (drop 1 ks) site line

pub line_fails : (texts : Texts) (f : Files) (t : UnitTable) (a k : ℕ) (ks : List ℕ) (kind : ErrorKind) → slice_get ks 0 ≡ Some k → line_in texts f t a k ≡ Broken kind → first_line texts f t a ks ≡ Broken kind
line_fails texts f t a k ks kind e line = ap (first_line texts f t a) (front_some ks k e) ∙ line_fails_by texts f t a k (drop 1 ks) kind line

-- ---- the same by what is kept

kept_over_by : (units : List UnitCaches) (a : ℕ) → first_kept units a [] ≡ Good None
unfolding first_kept
kept_over_by units a = refl

kept_on_by : (units : List UnitCaches) (a k : ℕ) (ks : List ℕ) (n : Option ℕ) → kept_best units a k ≡ Good n → first_kept units a (k ∷ ks) ≡ or_later k n (first_kept units a ks)
unfolding first_kept
kept_on_by units a k ks n e = rw e refl

kept_fails_by : (units : List UnitCaches) (a k : ℕ) (ks : List ℕ) (kind : ErrorKind) → kept_best units a k ≡ Broken kind → first_kept units a (k ∷ ks) ≡ Broken kind
unfolding first_kept
kept_fails_by units a k ks kind e = rw e refl

pub kept_over : (units : List UnitCaches) (a : ℕ) (ks : List ℕ) → slice_get ks 0 ≡ None → first_kept units a ks ≡ Good None
kept_over units a ks e = rw (front_none ks e) (kept_over_by units a)

pub kept_on : (units : List UnitCaches) (a k : ℕ) (ks : List ℕ) (n : Option ℕ) → slice_get ks 0 ≡ Some k → kept_best units a k ≡ Good n → first_kept units a ks ≡ or_later k n (first_kept units a (drop 1 ks))
kept_on units a k ks n e best = ap (first_kept units a) (front_some ks k e) ∙ kept_on_by units a k (drop 1 ks) n best

pub kept_fails : (units : List UnitCaches) (a k : ℕ) (ks : List ℕ) (kind : ErrorKind) → slice_get ks 0 ≡ Some k → kept_best units a k ≡ Broken kind → first_kept units a ks ≡ Broken kind
kept_fails units a k ks kind e best = ap (first_kept units a) (front_some ks k e) ∙ kept_fails_by units a k (drop 1 ks) kind best

kept_line_over_by : (texts : Texts) (units : List UnitCaches) (a : ℕ) → first_kept_line texts units a [] ≡ Good None
unfolding first_kept_line
kept_line_over_by texts units a = refl

kept_line_on_by : (texts : Texts) (units : List UnitCaches) (a k : ℕ) (ks : List ℕ) (site : Option Site) → kept_line texts units a k ≡ Good site → first_kept_line texts units a (k ∷ ks) ≡ site_or site (first_kept_line texts units a ks)
unfolding first_kept_line
kept_line_on_by texts units a k ks site e = rw e refl

kept_line_fails_by : (texts : Texts) (units : List UnitCaches) (a k : ℕ) (ks : List ℕ) (kind : ErrorKind) → kept_line texts units a k ≡ Broken kind → first_kept_line texts units a (k ∷ ks) ≡ Broken kind
unfolding first_kept_line
kept_line_fails_by texts units a k ks kind e = rw e refl

pub kept_line_over : (texts : Texts) (units : List UnitCaches) (a : ℕ) (ks : List ℕ) → slice_get ks 0 ≡ None → first_kept_line texts units a ks ≡ Good None
kept_line_over texts units a ks e = rw (front_none ks e) (kept_line_over_by texts units a)

pub kept_line_on : (texts : Texts) (units : List UnitCaches) (a k : ℕ) (ks : List ℕ) (site : Option Site) → slice_get ks 0 ≡ Some k → kept_line texts units a k ≡ Good site → first_kept_line texts units a ks ≡ site_or site (first_kept_line texts units a (drop 1 ks))
kept_line_on texts units a k ks site e line = ap (first_kept_line texts units a) (front_some ks k e) ∙ kept_line_on_by texts units a k (drop 1 ks) site line

pub kept_line_fails : (texts : Texts) (units : List UnitCaches) (a k : ℕ) (ks : List ℕ) (kind : ErrorKind) → slice_get ks 0 ≡ Some k → kept_line texts units a k ≡ Broken kind → first_kept_line texts units a ks ≡ Broken kind
kept_line_fails texts units a k ks kind e line = ap (first_kept_line texts units a) (front_some ks k e) ∙ kept_line_fails_by texts units a k (drop 1 ks) kind line
