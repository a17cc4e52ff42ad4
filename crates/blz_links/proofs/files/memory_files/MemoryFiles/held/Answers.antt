use Rattle.std.proofs.Common.{sym, ap}
use Rattle.blz_links.specs.MemoryPuts.{MemoryValue}
use Rattle.blz_links.proofs.Lookups.{held_at}
use Rattle.blz_links.proofs.files.memory_files.MemoryFiles.held.Goals as goal

pub returns : goal.returns
returns c = held_at c.args.self.now c.args.path.now c.self.inside.puts.items c.last_put.result (ap (λ (m : MemoryValue). m.puts) (sym c.self.view_is)) c.last_put.ensures
