-- A name that is followed entry after entry is the one that a value refers to.
use Rattle.std.proofs.Common.{◌≡◌, ℕ, zero, suc, ◌+◌, ◌<◌, Bool, true, false, Option, Some, None, refl, arith}
use Rattle.std.specs.Option.{option_map}
use Rattle.std.specs.Prelude.{is_some, if◌then◌else◌}
use Rattle.blz_model.specs.Reads.{◌>>=◌}
use Rattle.blz_info.specs.declared.text.StrPlace.{StrPlace}
use Rattle.blz_info.specs.declared.forms.value.AttrValue.{AttrValue}
use Rattle.blz_info.specs.declared.forms.value.AttrValue.TheVariants.{Addr, AddrIndex, Const, Signed, Text, StrRef, LineStrRef, StrIndex, SupStr, UnitRef, InfoRef, SupRef, SecOffset, RangeIndex, Other}
use Rattle.blz_units.specs.declared.built_units.Side.{Side}
use Rattle.blz_units.specs.declared.built_units.Side.TheVariants.{File, Sup}
use Rattle.blz_reader.specs.declared.references.Standing.{Standing}
use Rattle.blz_reader.specs.declared.references.Standing.TheVariants.{Own, Numbered}
use Rattle.blz_reader.specs.declared.references.Reference.{Reference}
use Rattle.blz_reader.specs.declared.references.Followed.TheVariants.{Name, On}
use Rattle.blz_functions.specs.declared.referred.Visited.{Visited}
use Rattle.blz_functions.specs.declared.referred.Visited.TheVariants.{Named, Leads, Nameless}
use Rattle.blz_reader.specs.Following.{unit_in, placed_in, own_side, target_in, seen_by, given_by, told_by, entry_given, followed, step_of, going, name_over}
use Rattle.blz_units.specs.KeptParts.{unit_of, headers_of}
use Rattle.blz_reader.specs.Linkage.{Linked, refer_in}
use Rattle.blz_functions.specs.Leaves.{UnitParts}
use Rattle.blz_functions.specs.Naming.{visited}
use Rattle.blz_functions.specs.References.{entry_in, in_main, in_sup, target, go_on, visit_then, unit_at, referenced}
use Rattle.blz_units.specs.UnitTables.{reach_of}

abbrev Names : Type 0
Names = Option (Option StrPlace)

abbrev in_unit : Standing → Bool → AttrValue → Reference
in_unit at sup v = record { unit = at; sup = sup; value = v }

given_same : (at : Standing) (u : UnitParts) (go : Reference → Names) (follow : UnitParts → AttrValue → Names) (o : Option Visited) → ((v : AttrValue) → go (in_unit at u.sections.sup v) ≡ follow u v) → (((o >>= λ v. Some (seen_by u v)) >>= given_by at) >>= going go) ≡ (o >>= go_on follow u)
given_same at u go follow None h = refl
given_same at u go follow (Some (Named name)) h = refl
given_same at u go follow (Some Nameless) h = refl
given_same at u go follow (Some (Leads v)) h = h v

-- the entry at a distance from the start of a unit
at_entry : (l : Linked) (at : Standing) (distance : ℕ) (u : UnitParts) (go : Reference → Names) (follow : UnitParts → AttrValue → Names) → unit_in l at ≡ Some u → ((v : AttrValue) → go (in_unit at u.sections.sup v) ≡ follow u v) → (entry_given l at distance >>= going go) ≡ visit_then follow (Some (u, u.header.start + distance))
unfolding entry_given told_by
at_entry l at distance u go follow e h = rw e (given_same at u go follow (visited u (u.header.start + distance)) h)

no_entry : (l : Linked) (at : Standing) (distance : ℕ) (go : Reference → Names) → unit_in l at ≡ None → (entry_given l at distance >>= going go) ≡ None
unfolding entry_given told_by
no_entry l at distance go e = rw e refl

-- an entry of a unit by its number
by_number : (l : Linked) (side : Side) (k distance : ℕ) (o : Option UnitParts) (go : Reference → Names) (follow : UnitParts → AttrValue → Names) → unit_in l (Numbered side k) ≡ o → ((u : UnitParts) → unit_in l (Numbered side k) ≡ Some u → (v : AttrValue) → go (in_unit (Numbered side k) u.sections.sup v) ≡ follow u v) → (entry_given l (Numbered side k) distance >>= going go) ≡ ((o >>= λ u. Some (Some (u, u.header.start + distance))) >>= visit_then follow)
by_number l side k distance None go follow e h = no_entry l (Numbered side k) distance go e
by_number l side k distance (Some u) go follow e h = at_entry l (Numbered side k) distance u go follow e (h u e)

by_place : (l : Linked) (side : Side) (o : Option (ℕ × ℕ)) (go : Reference → Names) (follow : UnitParts → AttrValue → Names) → ((k : ℕ) (u : UnitParts) → unit_in l (Numbered side k) ≡ Some u → (v : AttrValue) → go (in_unit (Numbered side k) u.sections.sup v) ≡ follow u v) → ((option_map (placed_in side) o >>= followed l) >>= going go) ≡ (entry_in (λ k. unit_of l.files side (headers_of side l.table) k) o >>= visit_then follow)
by_place l side None go follow h = refl
by_place l side (Some p) go follow h = by_number l side p.0 p.1 (unit_of l.files side (headers_of side l.table) p.0) go follow refl (h p.0)

by_offset : (l : Linked) (sup : Bool) (offset : ℕ) (go : Reference → Names) (follow : UnitParts → AttrValue → Names) → ((side : Side) (k : ℕ) (u : UnitParts) → unit_in l (Numbered side k) ≡ Some u → (v : AttrValue) → go (in_unit (Numbered side k) u.sections.sup v) ≡ follow u v) → ((target_in l (own_side sup) offset >>= followed l) >>= going go) ≡ ((if sup then in_sup (reach_of l.files l.table) offset else in_main (reach_of l.files l.table) offset) >>= visit_then follow)
by_offset l true offset go follow h = by_place l Sup (unit_at l.table.sups offset) go follow (h Sup)
by_offset l false offset go follow h = by_place l File (unit_at l.table.kept offset) go follow (h File)

by_sup : (l : Linked) (sup has : Bool) (offset : ℕ) (go : Reference → Names) (follow : UnitParts → AttrValue → Names) → ((side : Side) (k : ℕ) (u : UnitParts) → unit_in l (Numbered side k) ≡ Some u → (v : AttrValue) → go (in_unit (Numbered side k) u.sections.sup v) ≡ follow u v) → (((if sup then Some None else (if has then target_in l Sup offset else Some None)) >>= followed l) >>= going go) ≡ ((if sup then Some None else (if has then in_sup (reach_of l.files l.table) offset else Some None)) >>= visit_then follow)
by_sup l true has offset go follow h = refl
by_sup l false false offset go follow h = refl
by_sup l false true offset go follow h = by_place l Sup (unit_at l.table.sups offset) go follow (h Sup)

pub name_is : (n : ℕ) (l : Linked) (at : Standing) (u : UnitParts) (v : AttrValue) → unit_in l at ≡ Some u → name_over n l (in_unit at u.sections.sup v) ≡ referenced n (reach_of l.files l.table) u v
unfolding name_over step_of referenced target
name_is zero l at u v e = refl
name_is (suc n) l at u (UnitRef distance) e = at_entry l at distance u (λ next. name_over n l next) (referenced n (reach_of l.files l.table)) e (λ v. name_is n l at u v e)
name_is (suc n) l at u (InfoRef offset) e = by_offset l u.sections.sup offset (λ next. name_over n l next) (referenced n (reach_of l.files l.table)) (λ side k w is v. name_is n l (Numbered side k) w v is)
name_is (suc n) l at u (SupRef offset) e = by_sup l u.sections.sup (is_some l.files.sup) offset (λ next. name_over n l next) (referenced n (reach_of l.files l.table)) (λ side k w is v. name_is n l (Numbered side k) w v is)
name_is (suc n) l at u (Addr x) e = refl
name_is (suc n) l at u (AddrIndex x) e = refl
name_is (suc n) l at u (Const x) e = refl
name_is (suc n) l at u (Signed x) e = refl
name_is (suc n) l at u (Text x) e = refl
name_is (suc n) l at u (StrRef x) e = refl
name_is (suc n) l at u (LineStrRef x) e = refl
name_is (suc n) l at u (StrIndex x) e = refl
name_is (suc n) l at u (SupStr x) e = refl
name_is (suc n) l at u (SecOffset x) e = refl
name_is (suc n) l at u (RangeIndex x) e = refl
name_is (suc n) l at u Other e = refl

-- the name that a value of the unit itself refers to
pub name_in : (l : Linked) (v : AttrValue) → name_over 16 l (in_unit Own l.unit.sections.sup v) ≡ refer_in l v
unfolding refer_in
name_in l v = name_is 16 l Own l.unit v refl

-- ---- the steps of a loop that follows a reference

pub ends_is : (n : ℕ) (l : Linked) (r : Reference) (name : Option StrPlace) → 0 < n → step_of l r ≡ Some (Name name) → name_over n l r ≡ Some name
unfolding name_over
ends_is zero l r name lt e = absurd (omega arith)
ends_is (suc n) l r name lt e = rw e refl

pub on_is : (n : ℕ) (l : Linked) (r next : Reference) (m : ℕ) → n ≡ suc m → step_of l r ≡ Some (On next) → name_over m l next ≡ name_over n l r
unfolding name_over
on_is n l r next m k e = rw (k, e) refl

pub fails_is : (n : ℕ) (l : Linked) (r : Reference) → 0 < n → step_of l r ≡ None → name_over n l r ≡ None
unfolding name_over
fails_is zero l r lt e = absurd (omega arith)
fails_is (suc n) l r lt e = rw e refl

over_is : (l : Linked) (r : Reference) → name_over 0 l r ≡ Some None
unfolding name_over
over_is l r = refl

pub over_at : (n : ℕ) (l : Linked) (r : Reference) → n ≡ 0 → name_over n l r ≡ Some None
over_at n l r e = rw e (over_is l r)
