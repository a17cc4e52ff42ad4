-- The kinds of the marks of parts and of steps: those for which a fact holds.
use Rattle.std.proofs.Common.{Bool, true, false, Option, Some, None}
use Rattle.std.specs.Prelude.{⊤, if◌then◌else◌}
use Rattle.blz_error.specs.declared.kind.ErrorKind.{ErrorKind}
use Rattle.blz_model.specs.Part as parts
use Rattle.blz_model.specs.Part.{Part, Good, Broken}
use Rattle.blz_bundle.specs.Opened.{Opened, Found, Refused, ◌>>=◌, of_part, or_refused}

-- ---- of a part

abbrev pub OnMark : {A : Type 0} → (ErrorKind → Type 0) → Part A → Type 0
OnMark K (Good x) = ⊤
OnMark K (Broken k) = K k

pub record Marks {A : Type 0} (K : ErrorKind → Type 0) (p : Part A) : Type 0 where
  pub kind : OnMark K p

pub marks_good : {A : Type 0} (K : ErrorKind → Type 0) (x : A) → Marks K (Good x)
marks_good K x = record { kind = tt }

pub marks_broken : {A : Type 0} (K : ErrorKind → Type 0) (k : ErrorKind) → K k → Marks {A = A} K (Broken k)
marks_broken K k is = record { kind = is }

pub marks_check : (K : ErrorKind → Type 0) (b : Bool) (k : ErrorKind) → K k → Marks K (parts.check b k)
marks_check K true k is = record { kind = tt }
marks_check K false k is = record { kind = is }

pub marks_bind : {A B : Type 0} (K : ErrorKind → Type 0) (p : Part A) (f : A → Part B) → Marks K p → ((x : A) → Marks K (f x)) → Marks K (parts.◌>>=◌ p f)
marks_bind K (Good x) f first others = others x
marks_bind K (Broken k) f first others = record { kind = first.kind }

pub marks_if : {A : Type 0} (K : ErrorKind → Type 0) (b : Bool) (p q : Part A) → Marks K p → Marks K q → Marks K (if b then p else q)
marks_if K true p q first second = first
marks_if K false p q first second = second

-- ---- of a step

abbrev pub OnRefused : {A : Type 0} → (ErrorKind → Type 0) → Opened A → Type 0
OnRefused K (Found x) = ⊤
OnRefused K (Refused k v) = K k

pub record Refuses {A : Type 0} (K : ErrorKind → Type 0) (o : Opened A) : Type 0 where
  pub kind : OnRefused K o

pub refuses_found : {A : Type 0} (K : ErrorKind → Type 0) (x : A) → Refuses K (Found x)
refuses_found K x = record { kind = tt }

pub refuses_part : {A : Type 0} (K : ErrorKind → Type 0) (p : Part A) → Marks K p → Refuses K (of_part p)
refuses_part K (Good x) marks = record { kind = tt }
refuses_part K (Broken k) marks = record { kind = marks.kind }

pub refuses_bind : {A B : Type 0} (K : ErrorKind → Type 0) (o : Opened A) (f : A → Opened B) → Refuses K o → ((x : A) → Refuses K (f x)) → Refuses K (o >>= f)
refuses_bind K (Found x) f first others = others x
refuses_bind K (Refused k v) f first others = record { kind = first.kind }

pub refuses_or : {A : Type 0} (K : ErrorKind → Type 0) (o : Option A) (k : ErrorKind) → K k → Refuses K (or_refused o k)
refuses_or K None k is = record { kind = is }
refuses_or K (Some x) k is = record { kind = tt }
