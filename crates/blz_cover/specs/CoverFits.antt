-- What holds of a cover.
use Rattle.std.specs.Prelude.{◌≡◌, ℕ, true, List, Option}
use Rattle.blz_resolver.specs.Resolver.{Resolver, has_debug}
use Rattle.blz_cover.specs.Answers.{is_answered, source_line}
use Rattle.blz_cover.specs.Kept.{Stands}
use Rattle.blz_cover.specs.LineEntries.{LineEntry}
use Rattle.blz_cover.specs.declared.change.Change.{Change}
use Rattle.blz_cover.specs.declared.tally.Tally.{Tally}

-- The resolver has read all of its debug information, and what is kept is that of the changes.
pub record CoverFits (r : Resolver) (changes : List Change) (tally_of : ℕ → Option Tally) (entries : List LineEntry) (rest total : ℕ) : Type 0 where
  pub has_debug : has_debug r ≡ true
  pub is_prepared : r.prepared ≡ true
  pub stands : Stands (source_line r.images) (is_answered r.images) changes tally_of entries rest total
