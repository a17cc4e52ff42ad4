-- What steps of opening find, over the answers of files.
use Rattle.std.proofs.Common.{◌≡◌, ◌≢◌, ◌≤◌, ℕ, false, Option, Some, None, Result, Ok, Err, Vec, refl, ap, ◌∙◌, sym, inl, inr, subst, arith}
use Rattle.std.specs.FinMap as map
use Rattle.std.specs.Option.{option_map}
use Rattle.std.specs.Result.{IsErrAnd}
use Rattle.blz_error.specs.Fault.{Fault}
use Rattle.blz_error.specs.Texts.{Bytes}
use Rattle.blz_error.specs.declared.kind.ErrorKind.{ErrorKind}
use Rattle.blz_error.specs.declared.kind.ErrorKind.TheVariants as kind
use Rattle.blz_links.specs.Contents.{Contents, PathMap}
use Rattle.blz_links.specs.Counts.{Rose}
use Rattle.blz_links.specs.FilesAnswers.{ReadTells, HasFilesCause}
use Rattle.blz_links.specs.FilesKinds.{error_from}
use Rattle.blz_links.specs.declared.files.stamp.Stamp.{Stamp}
use Rattle.blz_links.specs.declared.files.fault.FilesFault.{FilesFault}
use Rattle.blz_links.specs.declared.files.fault.FilesFault.TheVariants.{NotFound, Denied, Failed, Memory}
use Rattle.blz_bundle.specs.FileAnswers.{Answers, Finds, StepAnswers, StepsFind, told}
use Rattle.blz_bundle.specs.Opened.{Opened, Found, Refused}
use Rattle.blz_bundle.specs.Outcomes.{Concludes, FilesStay, IsRefusal}

-- answers of files that hold one thing everywhere
pub holding : Option Bytes → Answers
holding held = record { known_as = λ path. path; is_there = λ path. false; held = λ path. held }

-- ---- from one step to another

-- whatever was answered
pub finds_any : {A : Type 0} (contents : Option Contents) (step : Answers → Opened A) (found : Opened A) → ((a : Answers) → step a ≡ found) → Finds contents step found
finds_any None step found is = (holding None, is (holding None))
finds_any (Some c) step found is = is (told c)

-- by the same answers
pub finds_on : {A B : Type 0} (contents : Option Contents) (p : Answers → Opened A) (q : Answers → Opened B) (x : Opened A) (y : Opened B) → ((a : Answers) → p a ≡ x → q a ≡ y) → Finds contents p x → Finds contents q y
finds_on None p q x y on found = (found.0, on found.0 found.1)
finds_on (Some c) p q x y on found = on (told c) found

-- over the contents as they were
pub finds_before : {A : Type 0} (old new : Option Contents) (step : Answers → Opened A) (found : Opened A) → new ≡ old → Finds new step found → Finds old step found
finds_before old new step found same is = subst (λ contents. Finds contents step found) same is

pub steps_before : {A : Type 0} (old new : Option Contents) (steps : StepAnswers → Opened A) (found : Opened A) → new ≡ old → StepsFind new steps found → StepsFind old steps found
steps_before old new steps found same is = subst (λ contents. StepsFind contents steps found) same is

-- of what is there, or is not
pub finds_option : {X Y : Type 0} (contents : Option Contents) (step : Answers → Opened (Option Y)) (view : X → Y) (o known : Option X) → o ≡ known → Finds contents step (Found (option_map view o)) → Finds contents step (Found (option_map view known))
finds_option {X = X} contents step view o known same is = subst (λ (known : Option X). Finds contents step (Found (option_map view known))) same is

-- what a read at a path gives
pub read_finds : {A Z : Type 0} (contents : Option Contents) (asked path : Bytes) (v : Vec ℕ Z) (step : Answers → Opened A) (found : Opened A) → asked ≡ path → ReadTells contents asked (Ok v)
    → ((a : Answers) → a.held path ≡ Some v.items → step a ≡ found) → Finds contents step found
unfolding holding
read_finds None asked path v step found at tells is = (holding (Some v.items), is (holding (Some v.items)) refl)
read_finds (Some c) asked path v step found at tells is = is (told c) (ap (map.get c) (sym at) ∙ tells)

-- nothing is there
pub read_lacks : {A : Type 0} (Z : Type 0) (contents : Option Contents) (asked path : Bytes) (fault : FilesFault) (step : Answers → Opened A) (found : Opened A) → asked ≡ path → fault ≡ NotFound → ReadTells {Z = Z} contents asked (Err fault)
    → ((a : Answers) → a.held path ≡ None → step a ≡ found) → Finds contents step found
unfolding holding
read_lacks Z None asked path fault step found at not_found tells is = (holding None, is (holding None) refl)
read_lacks Z (Some c) asked path fault step found at not_found tells is =
    let P : FilesFault → Type 0 = λ fault. ReadTells {Z = Z} (Some c) asked (Err fault) in
    is (told c) (ap (map.get c) (sym at) ∙ subst P not_found tells)

-- ---- counts

pub rose_from : (b before now : ℕ) → b ≤ before → Rose before now → Rose b now
rose_from b before now low rose = omega arith

pub later_still : (a b c : ℕ) → a ≤ b → b ≤ c → a ≤ c
later_still a b c first then = omega arith

-- ---- refusals

pub found_is : {A : Type 0} {x y : A} → Found x ≡ Found y → x ≡ y
found_is e = cc

pub found_not_refused : {A : Type 0} {x : A} {k : ErrorKind} {v : Option (Bytes × Bytes)} → Found x ≡ Refused k v → ⊥
found_not_refused e = cc

-- An error that was converted is the one that it came from.
pub refused_by : {X A : Type 0} (view : X → A) (r : Result X Fault) (failed : Type 0) (P : Opened A → Type 0) (e : Fault) → IsErrAnd r (λ y. y ≡ e) → IsRefusal P failed e → Concludes view r failed P
refused_by view (Ok x) failed P e is refusal = absurd is
refused_by view (Err y) failed P e is refusal = subst (IsRefusal P failed) (sym is) refusal

-- a refusal of one step is one of another
pub refusal_on : {A B : Type 0} (P : Opened A → Type 0) (Q : Opened B → Type 0) (F G : Type 0) (e : Fault) → (F → G) → ((k : ErrorKind) (v : Option (Bytes × Bytes)) → P (Refused k v) → Q (Refused k v)) → IsRefusal P F e → IsRefusal Q G e
refusal_on P Q F G e rose on (inl memory) = inl memory
refusal_on P Q F G e rose on (inr (inl fault)) = inr (inl (record { kind = fault.kind; counted = rose fault.counted; no_values = fault.no_values }))
refusal_on P Q F G e rose on (inr (inr tells)) = inr (inr (record { values = tells.values; is_found = on e.kind tells.values tells.is_found; kept = tells.kept }))

-- a call that ends as another does
pub concludes_on : {X A B : Type 0} (view : X → A) (wider : A → B) (r : Result X Fault) (F G : Type 0) (P : Opened A → Type 0) (Q : Opened B → Type 0) → (F → G) → ((x : A) → P (Found x) → Q (Found (wider x))) → ((k : ErrorKind) (v : Option (Bytes × Bytes)) → P (Refused k v) → Q (Refused k v))
    → Concludes view r F P → Concludes (λ x. wider (view x)) r G Q
concludes_on view wider (Ok x) F G P Q rose on refused is = on (view x) is
concludes_on view wider (Err e) F G P Q rose on refused is = refusal_on P Q F G e rose refused is

-- what is found is refused, without values
pub refusal_tells : {A : Type 0} (P : Opened A → Type 0) (failed : Type 0) (e : Fault) → P (Refused e.kind None) → (e.kind ≡ kind.NotFound → e.mismatch ≡ None) → IsRefusal P failed e
refusal_tells P failed e is kept = inr (inr (record { values = None; is_found = is; kept = kept }))

-- a failed read
pub read_refuses : {A Z : Type 0} (contents : Option Contents) (asked path : Bytes) (fault : FilesFault) (before now : ℕ) (step : Answers → Opened A) → asked ≡ path → ReadTells {Z = Z} contents asked (Err fault) → HasFilesCause {T = Vec ℕ Z} before now (Err fault)
    → ((a : Answers) → a.held path ≡ None → step a ≡ Refused kind.NotFound None) → IsRefusal (Finds contents step) (Rose before now) (error_from fault)
read_refuses {Z = Z} contents asked path NotFound before now step at tells cause is = refusal_tells _ _ (error_from NotFound) (read_lacks Z contents asked path NotFound step _ at refl tells is) (λ missing. refl)
read_refuses contents asked path Denied before now step at tells cause is = inr (inl (record { kind = tt; counted = cause.counted; no_values = refl }))
read_refuses contents asked path Failed before now step at tells cause is = inr (inl (record { kind = tt; counted = cause.counted; no_values = refl }))
read_refuses contents asked path Memory before now step at tells cause is = inl refl

-- a failed call that never finds that nothing is there
pub fault_refuses : {A T : Type 0} (P : Opened A → Type 0) (fault : FilesFault) (before now : ℕ) → fault ≢ NotFound → HasFilesCause {T = T} before now (Err fault) → IsRefusal P (Rose before now) (error_from fault)
fault_refuses P NotFound before now never cause = absurd (never refl)
fault_refuses P Denied before now never cause = inr (inl (record { kind = tt; counted = cause.counted; no_values = refl }))
fault_refuses P Failed before now never cause = inr (inl (record { kind = tt; counted = cause.counted; no_values = refl }))
fault_refuses P Memory before now never cause = inl refl

-- the same, from an earlier count on
pub fault_from : {A T : Type 0} (P : Opened A → Type 0) (fault : FilesFault) (b before now : ℕ) → b ≤ before → fault ≢ NotFound → HasFilesCause {T = T} before now (Err fault) → IsRefusal P (Rose b now) (error_from fault)
fault_from P fault b before now earlier never cause = refusal_on P P _ _ (error_from fault) (rose_from b before now earlier) (λ k v is. is) (fault_refuses P fault before now never cause)

-- ---- frames

module _ {S : Type 0} (contents : S → Option Contents) (stamps : S → Option (PathMap Stamp)) (faults : S → ℕ) where
  pub stays : (files : S) → FilesStay contents stamps faults files files
  stays files = record { same_contents = refl; same_stamps = refl; later = omega arith }

  pub stays_then : (a b c : S) → FilesStay contents stamps faults a b → FilesStay contents stamps faults b c → FilesStay contents stamps faults a c
  stays_then a b c first then = record { same_contents = then.same_contents ∙ first.same_contents; same_stamps = then.same_stamps ∙ first.same_stamps; later = later_still (faults a) (faults b) (faults c) first.later then.later }
