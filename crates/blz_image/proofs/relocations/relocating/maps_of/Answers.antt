use Rattle.std.proofs.Common.{◌≡◌, Option, None, List, ℕ, refl, sym, ap, ◌∙◌, arith}
use Rattle.std.proofs.lemmas.List.{take_all, get_or_default}
use Rattle.std.specs.FinMap.{empty}
use Rattle.blz_model.specs.Part.{Good}
use Rattle.blz_relocations.specs.Relocations.{maps_of, with_map}
use Rattle.blz_image.proofs.Folds.{fold_more}
use Rattle.blz_image.proofs.TargetMaps.{all_read, maps_of-more}
use Rattle.blz_image.proofs.relocations.relocating.maps_of.Goals as goal
use Rattle.blz_image.proofs.relocations.relocating.maps_of.Goals.{in-None, in-Some+in_ok-relocations_of-in-Some+in_ok-put-in-Some}

pub loop-i-preserved : goal.loop-i-preserved
loop-i-preserved c all is =
    elim c.match-targets-i.branch [
      | in-None w ↦ rw w.maps-is (fold_more (with_map all) empty c.args.targets.now c.loop-i.i None c.loop-i.maps c.loop-i.maps (omega arith) (λ d. get_or_default c.args.targets.now c.loop-i.i d _ (omega arith) ∙ w.in-None.is) (c.loop-i.invariant all is) refl)
      | in-Some+in_ok-relocations_of-in-Some+in_ok-put-in-Some w ↦ rw w.maps-is (maps_of-more c.args.format c.args.image.now c.args.sections.now c.args.targets.now c.loop-i.i w.in-Some.target all c.loop-i.maps w.put.new.self _ (omega arith) (λ d. get_or_default c.args.targets.now c.loop-i.i d _ (omega arith) ∙ w.in-Some.is) is w.in_ok-relocations_of-in-Some.ensures (c.loop-i.invariant all is) w.in_ok-put-in-Some.ensures.ok)
    ]

pub returns : goal.returns
returns c =
    let a = all_read c.args.format c.args.image.now c.args.sections.now c.requires in
    let done : c.loop-i.maps ≡ maps_of c.args.targets.now a.0 = c.loop-i.invariant a.0 a.1 ∙ ap (λ (ts : List (Option ℕ)). maps_of ts a.0) (take_all c.loop-i.i c.args.targets.now (omega arith)) in
    rw a.1 (ap Good (sym done))
