-- What a visitor was shown, and what the one that collects keeps.
use Rattle.std.specs.Prelude.{◌≡◌, ℕ, ◌+◌, ◌==◌, ⊤, Bool, true, false, List, [], ◌∷◌, ◌++◌, length, Option, Some, None}
use Rattle.blz_elf.specs.Infos.{Info}

-- where the infos shown are told, there is one more, unless they are told no longer, and then never again
abbrev pub ShowsOne : Option (List Info) → Option (List Info) → Info → Type 0
ShowsOne None None info = ⊤
ShowsOne None (Some more) info = ⊥
ShowsOne (Some infos) None info = ⊤
ShowsOne (Some infos) (Some more) info = more ≡ infos ++ info ∷ []

-- the infos that are kept, the number to stop after, whether memory ran out, and whether it has stopped
pub record Collected : Type 0 where
  pub infos : List Info
  pub stop_after : Option ℕ
  pub full : Bool
  pub stopped : Bool

-- the infos, while none was lost
abbrev pub told_unless : Bool → List Info → Option (List Info)
told_unless true infos = None
told_unless false infos = Some infos

-- the info of this number, counted from 1, is the last
abbrev pub is_last : Option ℕ → ℕ → Bool
is_last None number = false
is_last (Some last) number = number == last

-- with one info more
abbrev pub with_info : Collected → Info → Collected
with_info c info = record c { infos = c.infos ++ info ∷ []; stopped = is_last c.stop_after (length c.infos + 1) }

-- without it, for want of memory
abbrev pub without_info : Collected → Collected
without_info c = record c { full = true; stopped = true }
