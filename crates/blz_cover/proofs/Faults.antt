-- When a change is refused.
use Rattle.std.proofs.Common.{◌≡◌, ℕ, ◌+◌, ◌-◌, ◌^◌, ◌<◌, ◌≤◌, Bool, true, false, nat_lt, refl, sym, ap, ◌∙◌, Some, None, is_some, arith}
use Rattle.std.proofs.lemmas.Bool.Decides.{nat_tests}
use Rattle.blz_model.specs.Answers.{Answer}
use Rattle.blz_model.specs.Part.{Part, Good, Broken}
use Rattle.blz_elf.specs.declared.opts.FindSymOpts.TheVariants.{CodeInfo}
use Rattle.blz_resolver.specs.AddressAnswers.{answer_of}
use Rattle.blz_resolver.specs.Images.{ImageSet}
use Rattle.blz_cover.specs.Answers.{answer_at, is_answered, is_good, line_if_good, line_in, source_line}
use Rattle.blz_cover.specs.Changes.{count_of, total_of}
use Rattle.blz_cover.specs.Covers.{Cover, hit_fault, mark_fault, unhit_fault}
use Rattle.blz_cover.specs.declared.fault.CoverFault.{CoverFault}
use Rattle.blz_cover.specs.declared.fault.CoverFault.TheVariants.{Missing}

below : (n m : ℕ) → m ≤ n → nat_lt n m ≡ false
below n m h = grind (arith, nat_tests)

above : (n m : ℕ) → n < m → nat_lt n m ≡ true
above n m h = grind (arith, nat_tests)

good_part : (p : Part Answer) → is_good p ≡ true → mark_fault p ≡ None
good_part (Good answer) is = refl
good_part (Broken k) is = cc

pub not_marked : (images : ImageSet) (addr : ℕ) → is_answered images addr ≡ true → mark_fault (answer_at images addr) ≡ None
unfolding is_answered
not_marked images addr is = good_part (answer_at images addr) is

-- a count that fits, at an address with an answer
pub hit_fault-none : (c : Cover) (addr count : ℕ) → total_of c.changes + count ≤ 2 ^ 64 - 1 → is_answered c.images addr ≡ true → hit_fault c addr count ≡ None
hit_fault-none c addr count fits is = rw (below (2 ^ 64 - 1) (total_of c.changes + count) fits) (not_marked c.images addr is)

-- a count that fits, at an address with a mark
pub hit_fault-mark : (c : Cover) (addr count : ℕ) (fault : CoverFault) → total_of c.changes + count ≤ 2 ^ 64 - 1 → mark_fault (answer_at c.images addr) ≡ Some fault → hit_fault c addr count ≡ Some fault
hit_fault-mark c addr count fault fits is = rw (below (2 ^ 64 - 1) (total_of c.changes + count) fits) is

-- a count that is there, at an address with an answer
pub unhit_fault-none : (c : Cover) (addr count : ℕ) → count ≤ count_of addr c.changes → is_answered c.images addr ≡ true → unhit_fault c addr count ≡ None
unhit_fault-none c addr count fits is = rw (below (count_of addr c.changes) count fits) (not_marked c.images addr is)

-- a count that is not there
pub unhit_fault-missing : (c : Cover) (addr count n : ℕ) → count_of addr c.changes ≡ n → n < count → unhit_fault c addr count ≡ Some (Missing n)
unhit_fault-missing c addr count n is fits = rw (is, above n count fits) refl

-- the answer of a resolver that has debug information tells the line
pub source_line-answer : (images : ImageSet) (has : Bool) (addr : ℕ) (answer : Answer) → has ≡ true → answer_of images has addr CodeInfo ≡ Good answer → source_line images addr ≡ line_in answer
unfolding source_line
source_line-answer images has addr answer some is = ap line_if_good (ap (λ b. answer_of images b addr CodeInfo) (sym some) ∙ is)

pub is_answered-answer : (images : ImageSet) (has : Bool) (addr : ℕ) (answer : Answer) → has ≡ true → answer_of images has addr CodeInfo ≡ Good answer → is_answered images addr ≡ true
unfolding is_answered
is_answered-answer images has addr answer some is = ap is_good (ap (λ b. answer_of images b addr CodeInfo) (sym some) ∙ is)

-- an address that stands at a line has an answer
answer_with_line : (p : Part Answer) → is_some (line_if_good p) ≡ true → is_good p ≡ true
answer_with_line (Good answer) is = refl
answer_with_line (Broken k) is = cc

pub is_answered-line : (images : ImageSet) (addr : ℕ) → is_some (source_line images addr) ≡ true → is_answered images addr ≡ true
unfolding source_line is_answered
is_answered-line images addr is = answer_with_line (answer_at images addr) is
