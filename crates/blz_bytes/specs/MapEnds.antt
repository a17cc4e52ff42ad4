-- What a map is after a value of it was lent.
use Rattle.std.specs.Prelude.{◌≡◌, ⊤, List, Result, MatchResult}
use Rattle.std.specs.Borrow.{follows_so, MutBor, Bor, Fml, RattleType}
use Rattle.std.specs.HashMap.Lent.{HashMembers}
use mathlib.Core.Option.{none}
use Rattle.blz_bytes.specs.contracts.insert_map.InsertMap.{the_row}
use Rattle.blz_bytes.specs.Inserted.{put_absent}

-- it has the value that r shows where it had none, and at `Err` it stays as it is
abbrev pub EndsPut : {E : Type 0} → (K V : RattleType) → HashMembers K.Denot → MutBor (List (K.Denot × V.Denot)) → K.Denot → Result (Bor V.Denot) E → Fml
EndsPut K V members map key r =
    let row = the_row K V (record { eq = members.eq }) (record { hash_input = members.hash_input }) in
    follows_so row row map.ghost_name none (λ _ _. ⊤) (λ n. MatchResult r (λ x. n ≡ put_absent members.eq key x.now map.now) (λ _. n ≡ map.now))
