use Rattle.std.proofs.Common.{refl, sym, ◌∙◌, arith}
use Rattle.std.proofs.lemmas.Option.{slice_get_read}
use Rattle.blz_inspector.proofs.KeptEntries.{first_here, others_more}
use Rattle.blz_inspector.proofs.inspector.Inspector.find.Goals as goal

pub returns-then-is_of : goal.returns-then-is_of
returns-then-is_of c =
    let there = slice_get_read c.self.inside.entries.items _ c.loop-at.at _ refl (omega arith) c.index.ensures in
    rw (← c.self.view_is) (first_here _ _ _ _ there (sym c.is_of.ensures ∙ c.if-is_of.true) c.loop-at.invariant.others)

pub loop-at-preserved : goal.loop-at-preserved
loop-at-preserved c =
    let there = slice_get_read c.self.inside.entries.items _ c.loop-at.at _ refl (omega arith) c.index.ensures in
    record { others = others_more _ _ _ _ there (sym c.is_of.ensures ∙ c.if-is_of.false) c.loop-at.invariant.others }
