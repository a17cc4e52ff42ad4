use Rattle.std.proofs.Common.{◌≡◌, ◌≤◌, ◌+◌, ◌-◌, length, take, vec_len}
use Rattle.blz_entry.specs.RangeLists.{spans_in, spans_from, list_length}
use Rattle.blz_entry.proofs.range_list.append_list.Given as goal

abbrev pub invariant-loop : goal.invariant-loop
invariant-loop l = record {
  rest : spans_in l.sections l.header l.root (list_length l.sections l.header + 1 - l.counter) l.base l.out.items l.place ≡ spans_from l.fn.out.items l.sections l.header l.root l.offset;
  grown : length l.fn.out.items ≤ length l.out.items;
  front : take (vec_len l.fn.out) l.out.items ≡ l.fn.out.items;
}
