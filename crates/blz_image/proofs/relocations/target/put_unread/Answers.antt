use Rattle.std.proofs.Common.{◌≡◌, ◌+◌, ◌-◌, ◌*◌, List, length, drop, sym, ap, ◌∙◌, arith}
use Rattle.std.proofs.lemmas.List.{at_drop_all}
use Rattle.std.specs.BTreeMap.{get}
use Rattle.std.specs.Ordering.{nat_cmp}
use Rattle.blz_image.specs.EntryPlaces.{entries_in}
use Rattle.blz_image.specs.RelocationTables.{Entry, entry_size}
use Rattle.blz_image.specs.TargetTables.{beneath}
use Rattle.blz_image.proofs.BeneathMaps.{beneath_more}
use Rattle.blz_image.proofs.ReadRuns.{entries_count, run_passed}
use Rattle.blz_image.proofs.relocations.target.put_unread.Goals as goal

pub loop-end-init : goal.loop-end-init
loop-end-init c =
    let count : length c.open-entries.result ≡ c.args.table.now.entries.count = ap length c.open-entries.ensures ∙ entries_count c.args.table.now.kind c.args.image.now c.args.table.now.entries in
    (omega arith, sym (at_drop_all (λ (ys : List Entry). beneath c.open-symbols.result ys c.args.map.now) c.open-entries.result c.args.table.now.entries.count (omega (arith, count))))

pub loop-end-preserved-in-Some : goal.loop-end-preserved-in-Some
loop-end-preserved-in-Some c =
    let last : c.loop-end.end - 1 + 1 ≡ c.loop-end.end = omega (arith, c.loop-end-test.true) in
    let placed : c.place_of-at.result ≡ c.args.table.now.entries.at + entry_size c.args.table.now.kind c.args.table.now.entries.format.class * (c.loop-end.end - 1) =
    c.place_of-at.ensures.value ∙ ap (λ n. c.args.table.now.entries.at + n * (c.loop-end.end - 1)) c.entry_size-size.ensures.value in (
      omega (arith, c.saturating_sub-end.ensures, c.loop-end.invariant.0),
      c.loop-end.invariant.1
          ∙ rw (c.open-entries.ensures, c.saturating_sub-end.ensures)
          (ap (λ n. beneath c.open-symbols.result (drop n (entries_in c.args.table.now.kind c.args.image.now c.args.table.now.entries)) c.args.map.now) (sym last)
          ∙ sym (run_passed c.open-symbols.result c.args.table.now.kind c.args.image.now c.args.table.now.entries c.args.map.now c.args.read.now (c.loop-end.end - 1) c.in-Some.before.now c.requires.read (ap (λ n. get nat_cmp c.args.read.now n) (sym placed) ∙ sym c.in-Some.ensures.value) (omega (arith, c.loop-end-test.true, c.loop-end.invariant.0)))),
    )

pub at-requires : goal.at-requires
at-requires c =
    let count : length c.open-entries.result ≡ c.args.table.now.entries.count = ap length c.open-entries.ensures ∙ entries_count c.args.table.now.kind c.args.image.now c.args.table.now.entries in
    omega (arith, count, c.loop-end-test.true, c.loop-end.invariant.0)

pub loop-end-preserved : goal.loop-end-preserved
loop-end-preserved c =
    let count : length c.open-entries.result ≡ c.args.table.now.entries.count = ap length c.open-entries.ensures ∙ entries_count c.args.table.now.kind c.args.image.now c.args.table.now.entries in
    let last : c.loop-end.end ≡ c.loop-end.end - 1 + 1 = omega (arith, c.loop-end-test.true) in (
      omega (arith, c.loop-end.invariant.0),
      beneath_more c.open-symbols.result c.open-entries.result c.args.map.now c.loop-end.map _ (c.loop-end.end - 1) _ (omega (arith, count, c.loop-end-test.true, c.loop-end.invariant.0)) c.at.ensures
          (c.loop-end.invariant.1 ∙ ap (λ n. beneath c.open-symbols.result (drop n c.open-entries.result) c.args.map.now) last) c.in_ok-put_absent-in-None.ensures,
    )
