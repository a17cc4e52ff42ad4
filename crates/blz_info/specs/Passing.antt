-- Entries that a walk passes over without looking at them: those of other tags than one, or among these the leaves, or
-- with these those that cover no address and refer to no entry.
use Rattle.std.specs.Prelude.{ℕ, zero, suc, Bool, ◌&&◌, ◌||◌, not, Option, Some, None, ◌==◌, if◌then◌else◌}
use Rattle.blz_model.specs.Reads.{◌>>=◌}
use Rattle.blz_info.specs.Walks.{Walk, next_of, skipped_of}
use Rattle.blz_info.specs.Wanted.{any_placing}
use Rattle.blz_info.specs.declared.entries.Entry.{Entry}
use Rattle.blz_info.specs.declared.walking.passing.Passing.{Passing}
use Rattle.blz_info.specs.declared.walking.passing.Passing.TheVariants.{Others, Leaves, Unplaced}

-- an entry without children, and no zero
abbrev pub is_leaf : Entry → Bool
is_leaf e = not (e.code == 0) && not e.children

-- whether an entry of a tag is passed over, where a tag is sought
abbrev pub is_passed : Passing → ℕ → ℕ → Bool → Bool → Bool
is_passed Others sought tag leaf placing = not (tag == sought)
is_passed Leaves sought tag leaf placing = not (tag == sought) && leaf
is_passed Unplaced sought tag leaf placing = not (tag == sought) || not placing

-- the walk behind an entry and its attributes, where it is passed over
abbrev pub behind_entry : Passing → ℕ → Option Entry × Walk → Option Walk
behind_entry p sought (None, w) = None
behind_entry p sought (Some e, w) = if is_passed p sought e.tag (is_leaf e) (any_placing w.pending) then (skipped_of w >>= λ r. Some r.1) else None

-- the walk behind the next entry, where that one is passed over
unfoldable pub past_one : Passing → ℕ → Walk → Option Walk
past_one p sought w = next_of w >>= behind_entry p sought

-- the walk behind the next n entries, where they are passed over
unfoldable pub past : ℕ → Passing → ℕ → Walk → Option Walk
past zero p sought w = Some w
past (suc n) p sought w = past_one p sought w >>= past n p sought
