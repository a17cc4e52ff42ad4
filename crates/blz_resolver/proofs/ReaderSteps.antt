-- What a reader keeps of its units over calls on them.
use Rattle.blz_reader.specs.Growing.{Told}
use Rattle.blz_index.specs.UnitsWarm.{Leaves}
use Rattle.blz_index.specs.declared.units.Units.{Units}
use Rattle.blz_resolver.specs.Reading.{Reads, Keeps}
use Rattle.blz_resolver.specs.declared.answers.book_reader.BookReader.{BookReader}
use Rattle.blz_resolver.proofs.UnitsKept.{grows_stay, stay_same, stay_on}

pub keeps_same : (r : BookReader) (u : Units) → Reads r u → Keeps r u u
keeps_same r u reads = record { reads = reads; stay = stay_same u }

pub keeps_by : (told : Told) (r : BookReader) (old new : Units) → Leaves told r.dwarf old new → Keeps r old new
keeps_by told r old new leaves = record { reads = leaves.asked; stay = grows_stay told old new leaves.grows leaves.prepared }

pub keeps_on : (r : BookReader) (a b c : Units) → Keeps r a b → Keeps r b c → Keeps r a c
keeps_on r a b c first next = record { reads = next.reads; stay = stay_on a b c first.stay next.stay }
