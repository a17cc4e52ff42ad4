use Rattle.std.proofs.Common.{◌≡◌, ◌-◌, refl, arith}
use Rattle.std.proofs.lemmas.Str.{IsCharBoundary-start, IsUtf8-from_is_utf8}
use Rattle.blz_model.specs.Part.{Good}
use Rattle.blz_model.specs.Texts.{name_at}
use Rattle.blz_image.proofs.TextLemmas.{name_utf8, tail_read}
use Rattle.blz_image.proofs.text.next_name.Goals as goal

pub returns-in-Some-clause-value : goal.returns-in-Some-clause-value
returns-in-Some-clause-value c =
    let known : name_at c.args.table.now c.in-Some.read.at ≡ Good c.in-Some.read.text.now = rw c.in-Some.is at c.requires in
    let tail = rw c.in-Some.read-is at c.if-has_tail.ensures in
    rw (tail_read c.args.table.now c.in-Some.read.text.now c.in-Some.read.at c.args.at known tail.0 tail.1) refl

-- a name that was read is a tail of itself
pub returns-in_ok-text-in_default-clause-tail : goal.returns-in_ok-text-in_default-clause-tail
returns-in_ok-text-in_default-clause-tail c =
    let text = c.in_ok-text-in_default.text.now in
    let utf8 = IsUtf8-from_is_utf8 text (name_utf8 c.args.table.now c.args.at text c.in_ok-text-in_default.ensures) in
    let none : c.args.at - c.args.at ≡ 0 = omega arith in
    (omega arith, rw none (IsCharBoundary-start text utf8))
