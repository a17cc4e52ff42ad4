use Rattle.std.proofs.Common.{◌≡◌, ◌<◌, Some, length, refl, sym, ◌∙◌}
use Rattle.std.specs.List.{slice_get}
use Rattle.std.proofs.lemmas.Option.{slice_get_read, slice_get_within}
use Rattle.blz_inspector.proofs.KeptEntries.{is_at_stamp, is_stale, stale_nowhere}
use Rattle.blz_inspector.proofs.inspector.Inspector.current.Goals as goal

pub returns-in_err-at : goal.returns-in_err-at
returns-in_err-at c = rw c.from_residual.ensures (stale_nowhere _ _ _ c.in_err-at.ensures)

pub index-requires : goal.index-requires
index-requires c =
    let within : c.in_ok-at.at < length c.self.inside.entries.items = rw c.self.view_is (slice_get_within _ _ _ c.in_ok-at.ensures.there) in
    rw c.self.inside.entries.ok.0 within

pub returns-then-is_at : goal.returns-then-is_at
returns-then-is_at c =
    let within : c.in_ok-at.at < length c.self.inside.entries.items = rw c.self.view_is (slice_get_within _ _ _ c.in_ok-at.ensures.there) in
    let there : slice_get c.args.self.now c.in_ok-at.at ≡ Some c.index.result.now = rw (← c.self.view_is) (slice_get_read c.self.inside.entries.items (length c.self.inside.entries.items) c.in_ok-at.at c.index.result.now refl within c.index.ensures) in
    is_at_stamp _ _ _ _ c.index.result.now c.in_ok-at.ensures there (sym c.is_at.ensures ∙ c.if-is_at.true)

pub returns-else-is_at : goal.returns-else-is_at
returns-else-is_at c =
    let within : c.in_ok-at.at < length c.self.inside.entries.items = rw c.self.view_is (slice_get_within _ _ _ c.in_ok-at.ensures.there) in
    let there : slice_get c.args.self.now c.in_ok-at.at ≡ Some c.index.result.now = rw (← c.self.view_is) (slice_get_read c.self.inside.entries.items (length c.self.inside.entries.items) c.in_ok-at.at c.index.result.now refl within c.index.ensures) in
    is_stale _ _ _ _ c.index.result.now c.in_ok-at.ensures there (sym c.is_at.ensures ∙ c.if-is_at.false)
