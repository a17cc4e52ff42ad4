use Rattle.std.proofs.Common.{◌-◌, ◌+◌, length, [], sym, ap, ◌∙◌, arith}
use Rattle.blz_line.specs.PathTables.{listed_at, listed_in}
use Rattle.blz_line.proofs.ProgramSteps.{fails_none}
use Rattle.blz_line.proofs.TableSteps.{listed_more, listed_last, listed_no_path, listed_no_entry, listed_end, or_mark_some}
use Rattle.blz_line.proofs.paths.listed_at.Goals as goal

pub loop-init : goal.loop-init
unfolding listed_at
loop-init c = rw c.new-table.ensures (ap (λ n. listed_in c.args.kind n [] c.args.bytes.now c.args.at) (omega arith))

pub returns-in_default : goal.returns-in_default
returns-in_default c = fails_none _ _ c.broken.ensures (sym c.loop.invariant ∙ listed_no_path _ _ (length c.args.bytes.now - (c.loop.counter + 1)) _ _ _ (omega arith) (sym c.in_default.ensures.value))

pub returns-then-is_empty : goal.returns-then-is_empty
returns-then-is_empty c = or_mark_some _ _ (sym c.loop.invariant ∙ listed_last _ _ (length c.args.bytes.now - (c.loop.counter + 1)) _ _ c.in-Some.path.now _ _ (omega arith) (sym c.in-Some.ensures.value) (sym c.if-is_empty.ensures))

pub returns-in_default-entry_behind : goal.returns-in_default-entry_behind
returns-in_default-entry_behind c = fails_none _ _ c.broken-in_default-entry_behind.ensures (sym c.loop.invariant ∙ listed_no_entry _ _ (length c.args.bytes.now - (c.loop.counter + 1)) _ _ c.in-Some.path.now _ _ (omega arith) (sym c.in-Some.ensures.value) (sym c.if-is_empty.ensures) (rw (← c.text_place.ensures) (sym c.in_default-entry_behind.ensures)))

pub loop-preserved : goal.loop-preserved
loop-preserved c = rw c.in_ok-push.ensures.added (sym (listed_more _ _ (length c.args.bytes.now - (c.loop.counter + 1)) _ _ c.in-Some.path.now _ _ _ c.in-Some-entry_behind.entry (omega arith) (sym c.in-Some.ensures.value) (sym c.if-is_empty.ensures) (rw (← c.text_place.ensures) (sym c.in-Some-entry_behind.ensures))) ∙ c.loop.invariant)

pub returns : goal.returns
returns c = fails_none _ _ c.broken-2.ensures (sym c.loop.invariant ∙ listed_end _ _ _ _ _ (omega arith))
