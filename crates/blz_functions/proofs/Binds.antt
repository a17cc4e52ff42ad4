-- Steps that may fail, one after the other.
use Rattle.std.proofs.Common.{◌≡◌, Option, Some, None, refl}
use Rattle.blz_model.specs.Reads.{◌>>=◌}

pub bind_same : {A B : Type 0} (o : Option A) (f g : A → Option B) → ((x : A) → f x ≡ g x) → (o >>= f) ≡ (o >>= g)
bind_same None f g h = refl
bind_same (Some x) f g h = h x

pub bind_bind : {A B C : Type 0} (o : Option A) (f : A → Option B) (g : B → Option C) → ((o >>= f) >>= g) ≡ (o >>= λ (x : A). f x >>= g)
bind_bind None f g = refl
bind_bind (Some x) f g = refl

-- where each step fails
pub bind_fails : {A B : Type 0} (o : Option A) (f : A → Option B) → ((x : A) → f x ≡ None) → (o >>= f) ≡ None
bind_fails None f h = refl
bind_fails (Some x) f h = h x

pub bind_some : {A : Type 0} (o : Option A) → (o >>= λ (x : A). Some x) ≡ o
bind_some None = refl
bind_some (Some x) = refl
