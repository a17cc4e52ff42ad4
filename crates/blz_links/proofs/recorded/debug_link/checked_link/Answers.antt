use Rattle.std.proofs.Common.{ap, sym, ◌∙◌, arith}
use Rattle.blz_links.proofs.LinkLemmas.{debug_link_checks-padded, read_checksum}
use Rattle.blz_links.proofs.recorded.debug_link.checked_link.Goals as goal

pub returns-in_default-clause-text : goal.returns-in_default-clause-text
returns-in_default-clause-text c =
    let file = c.in_ok-file.file.now in
    let padded = debug_link_checks-padded c.args.order c.args.bytes.now file c.in_ok-file.next c.next_multiple_of-at.result c.in_ok-file.ensures.value c.if-is_empty.ensures c.next_multiple_of-at.ensures.value (omega arith) in
    rw c.invalid-in_default.ensures (sym (padded ∙ ap (λ read. read_checksum read file) (sym c.in_default.ensures.value)))

pub returns-clause-text : goal.returns-clause-text
returns-clause-text c =
    let file = c.in_ok-file.file.now in
    let padded = debug_link_checks-padded c.args.order c.args.bytes.now file c.in_ok-file.next c.next_multiple_of-at.result c.in_ok-file.ensures.value c.if-is_empty.ensures c.next_multiple_of-at.ensures.value (omega arith) in
    sym (padded ∙ ap (λ read. read_checksum read file) (sym c.in-Some.ensures.value))
