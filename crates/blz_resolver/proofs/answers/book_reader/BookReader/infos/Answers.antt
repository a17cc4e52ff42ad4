use Rattle.std.proofs.Common.{◌≡◌, ◌++◌, ◌∷◌, [], map, refl}
use Rattle.std.proofs.lemmas.List.{map_push, get_or_default}
use Rattle.std.proofs.lemmas.Option.{slice_get_read}
use Rattle.blz_model.proofs.PartLemmas.{all_on}
use Rattle.blz_elf.specs.Infos.{info_view}
use Rattle.blz_resolver.specs.FunctionNames.{numbered_info}
use Rattle.blz_resolver.specs.Reading.{book_of}
use Rattle.blz_resolver.proofs.answers.book_reader.BookReader.infos.Goals as goal

pub loop-at-preserved : goal.loop-at-preserved
loop-at-preserved c =
    let more : map info_view c.push.new.self.items ≡ map info_view c.loop-at.infos.items ++ info_view c.in_ok-numbered_info.field-0 ∷ [] = rw c.in_ok-push.ensures.items (map_push info_view c.loop-at.infos.items _) in
    rw more (all_on (numbered_info c.args.self.now.dwarf.texts (book_of c.args.self.now c.args.units.now) c.args.asked) c.args.found.now c.loop-at.at-index _ _ _ c.loop-at-test.true (get_or_default c.args.found.now c.loop-at.at-index (0, 0) _ c.loop-at-test.true) c.in_ok-numbered_info.ensures c.loop-at.invariant)

pub numbered_info-requires : goal.numbered_info-requires
numbered_info-requires c = record {
  reads = c.requires.reads;
  kept = c.requires.kept c.loop-at.at-index _ (slice_get_read c.args.found.now _ c.loop-at.at-index _ refl c.loop-at-test.true (get_or_default c.args.found.now c.loop-at.at-index (0, 0) _ c.loop-at-test.true));
}
