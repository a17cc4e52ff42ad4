-- One more relocation, in the tree of sections.
use Rattle.std.proofs.Common.{◌≡◌, ℕ, List, Option, Some, cond, sym, ap, ◌∙◌}
use Rattle.std.specs.Option.{unwrap_or}
use Rattle.std.specs.Ordering.{nat_cmp}
use Rattle.std.specs.Map.{lookup}
use Rattle.std.specs.BTreeMap.{is_at}
use Rattle.std.specs.FinMap.{from_entries, insert, empty}
use Rattle.blz_relocations.specs.declared.relocation.Relocation.{Relocation}
use Rattle.blz_relocations.specs.Relocations.{OffsetMap, with_relocation}
use Rattle.blz_relocations.proofs.TreeMaps.{get-tree, insert-tree}

-- the section's map as it was, and as it is in the tree afterwards
pub with_relocation-tree : (es fs : List (ℕ × OffsetMap)) (target offset : ℕ) (relocation : Relocation) (here after : OffsetMap) → here ≡ unwrap_or (lookup (is_at (nat_cmp target)) es) empty → after ≡ insert here offset relocation
    → ((q : ℕ) → lookup (is_at (nat_cmp q)) fs ≡ cond (is_at (nat_cmp target) q) (Some after) (lookup (is_at (nat_cmp q)) es))
    → from_entries {R = nat_cmp} fs ≡ with_relocation (from_entries es) target offset relocation
with_relocation-tree es fs target offset relocation here after was is updates =
    insert-tree es fs target after updates
    ∙ ap (insert (from_entries {R = nat_cmp} es) target) (is ∙ ap (λ (m : OffsetMap). insert m offset relocation) (was ∙ ap (λ (o : Option OffsetMap). unwrap_or o empty) (sym (get-tree es target))))
