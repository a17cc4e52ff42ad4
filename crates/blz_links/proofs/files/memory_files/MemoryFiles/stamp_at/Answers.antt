use Rattle.std.proofs.Common.{◌≡◌, ◌∙◌, rules, sym, ap, option_map, length, vec_len}
use Rattle.std.specs.Option.{option_copied}
use Rattle.blz_links.specs.MemoryPuts.{MemoryValue}
use Rattle.blz_links.proofs.Lookups.{stamp_is}
use Rattle.blz_links.proofs.files.memory_files.MemoryFiles.stamp_at.Goals as goal

pub returns-in-Some : goal.returns-in-Some
returns-in-Some c =
    let found = sym c.last_put.ensures ∙ ap option_copied c.in-Some.is in
    let size : vec_len c.in-Some.bytes.now ≡ length c.in-Some.bytes.now.items = search rules in
    rw (c.len.ensures, c.put_count.ensures, size)
    (sym (stamp_is c.args.self.now c.args.path.now c.self.inside.puts.items (ap (λ (m : MemoryValue). m.puts) (sym c.self.view_is)) ∙ ap (option_map _) found))

pub returns-in-None : goal.returns-in-None
returns-in-None c =
    let found = sym c.last_put.ensures ∙ ap option_copied c.in-None.is in
    sym (stamp_is c.args.self.now c.args.path.now c.self.inside.puts.items (ap (λ (m : MemoryValue). m.puts) (sym c.self.view_is)) ∙ ap (option_map _) found)
