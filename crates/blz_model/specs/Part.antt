-- Parts and marks: a part of a file is what is read there, or a mark, the kind of the first thing that is broken in it.
use Rattle.std.specs.Prelude.{◌≡◌, ◌≢◌, Bool, true, false, List, [], ◌∷◌, Option, Some, None, Result, Ok, Err}
use Rattle.blz_error.specs.declared.kind.ErrorKind.{ErrorKind}
use Rattle.blz_error.specs.declared.kind.ErrorKind.TheVariants.{OutOfMemory}
use Rattle.blz_error.specs.Fault.{Fault}

-- what is read of a file, or a mark: the kind of the first thing that is broken in it
pub data Part (A : Type 0) : Type 0 where
  Good : A → Part A
  Broken : ErrorKind → Part A

-- p, then q over its value
infixl 10 ◌>>=◌
abbrev pub ◌>>=◌ : {A B : Type 0} → Part A → (A → Part B) → Part B
(Good x) >>= f = f x
(Broken k) >>= f = Broken k

-- a value that has to be there
abbrev pub or_mark : {A : Type 0} → Option A → ErrorKind → Part A
or_mark None k = Broken k
or_mark (Some x) k = Good x

-- a test that has to pass
abbrev pub check : Bool → ErrorKind → Part (Unit {0})
check true k = Good tt
check false k = Broken k

-- Good where each is, else the first mark in list order
abbrev pub all_good : {A : Type 0} → List (Part A) → Part (List A)
all_good [] = Good []
all_good (p ∷ ps) = p >>= λ x. all_good ps >>= λ xs. Good (x ∷ xs)

-- A refusal has the kind of the mark, want of memory aside.
abbrev pub Fails : {Y : Type 0} → ErrorKind → Part Y → Type 0
Fails k p = k ≢ OutOfMemory → p ≡ Broken k

-- A call gives the part, want of memory aside.
abbrev pub Gives : {X Y : Type 0} → (X → Y) → Result X Fault → Part Y → Type 0
Gives view (Ok x) p = p ≡ Good (view x)
Gives view (Err e) p = Fails e.kind p

-- A call gives the part, with no exception: it takes no memory.
abbrev pub Exactly : {X Y : Type 0} → (X → Y) → Result X Fault → Part Y → Type 0
Exactly view (Ok x) p = p ≡ Good (view x)
Exactly view (Err e) p = (p ≡ Broken e.kind) × (e.kind ≢ OutOfMemory)
