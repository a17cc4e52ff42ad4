use Rattle.std.proofs.Common.{◌≡◌, ◌∙◌, ap, sym, subst, map, nat_eq}
use Rattle.std.specs.List.{AllZip, IsDistinct}
use Rattle.std.specs.Str.{bytes_eq}
use Rattle.std.proofs.lemmas.Result.{err_from_is_err_and}
use Rattle.blz_model.specs.Part.{Broken, Good}
use Rattle.blz_elf.specs.AnswerView.{answer_view}
use Rattle.blz_elf.specs.declared.opts.FindSymOpts.TheVariants.{CodeInfoAndInlined}
use Rattle.blz_resolver.specs.BundleViews.{bundle_view}
use Rattle.blz_resolver.specs.Scan.{scan_of}
use Rattle.blz_fold.specs.AddressStacks.{addresses_in}
use Rattle.blz_fold.specs.Counted.{distinct, lines_of}
use Rattle.blz_fold.specs.Naming.{names_of}
use Rattle.blz_fold.specs.Numbered.{Spells, numbered}
use Rattle.blz_fold.proofs.Named.{lines_fit, lines_good, zip_mapped}
use Rattle.blz_fold.proofs.Scanning.{broken_lines}
use Rattle.blz_fold.proofs.named_lines.NamedLines.of.Goals as goal

pub returns-in_err-answers-clause-value : goal.returns-in_err-answers-clause-value
returns-in_err-answers-clause-value g c =
    let images = bundle_view c.args.bundle.now in
    let stacks = c.args.stacks.now in
    let p = err_from_is_err_and c.from_residual-in_err-answers.result c.from_residual-in_err-answers.ensures.1 in
    let are : c.as_slice-2.result.now ≡ distinct nat_eq (addresses_in stacks) = c.as_slice-2.ensures.keys ∙ c.in_ok-addresses.ensures ∙ ap (λ z. distinct nat_eq (addresses_in z)) c.as_slice.ensures in
    rw (p.1, p.2) (λ known. broken_lines images stacks c.in_err-answers.field-0.0.kind (subst (λ z. scan_of images z CodeInfoAndInlined ≡ Broken c.in_err-answers.field-0.0.kind) are (c.in_err-answers.ensures.value known)))

pub invariant_of-result : goal.invariant_of-result
unfolding IsDistinct
invariant_of-result g c =
    let images = bundle_view c.args.bundle.now in
    let stacks = c.args.stacks.now in
    let table = c.lists_of.new.self in
    let answers = c.in_ok-answers.answers.items in
    let lists = c.in_ok-lists.lists.items in
    let are : c.in_ok-addresses.addresses.keys ≡ distinct nat_eq (addresses_in stacks) = c.in_ok-addresses.ensures ∙ ap (λ z. distinct nat_eq (addresses_in z)) c.as_slice.ensures in
    let good = subst (λ z. scan_of images z CodeInfoAndInlined ≡ Good (map answer_view answers)) (c.as_slice-2.ensures.keys ∙ are) c.in_ok-answers.ensures.value in
    let zipped = zip_mapped (λ answer numbers. Spells table numbers (names_of answer)) answer_view (λ v. v.items) answers lists (subst (λ z. AllZip (λ answer numbers. Spells table numbers.items (names_of (answer_view answer))) z lists) c.deref.ensures.value c.in_ok-lists.ensures.spelled) in
    let apart = c.in_ok-lists.ensures.grown.apart (subst (λ z. IsDistinct bytes_eq z) (sym c.new-names.ensures) tt) in
    let lines = c.in_ok-lines.ensures ∙ (λ i. lines_of nat_eq (map (numbered (are i) (map (λ v. v.items) (c.deref-2.ensures.value i))) (c.as_slice-3.ensures i))) in
    lines_fit images stacks table answers (map (λ v. v.items) lists) good zipped apart c.in_ok-lines.lines lines c.requires

pub returns-clause-value : goal.returns-clause-value
unfolding IsDistinct
returns-clause-value g c =
    let images = bundle_view c.args.bundle.now in
    let stacks = c.args.stacks.now in
    let table = c.lists_of.new.self in
    let answers = c.in_ok-answers.answers.items in
    let lists = c.in_ok-lists.lists.items in
    let are : c.in_ok-addresses.addresses.keys ≡ distinct nat_eq (addresses_in stacks) = c.in_ok-addresses.ensures ∙ ap (λ z. distinct nat_eq (addresses_in z)) c.as_slice.ensures in
    let good = subst (λ z. scan_of images z CodeInfoAndInlined ≡ Good (map answer_view answers)) (c.as_slice-2.ensures.keys ∙ are) c.in_ok-answers.ensures.value in
    let zipped = zip_mapped (λ answer numbers. Spells table numbers (names_of answer)) answer_view (λ v. v.items) answers lists (subst (λ z. AllZip (λ answer numbers. Spells table numbers.items (names_of (answer_view answer))) z lists) c.deref.ensures.value c.in_ok-lists.ensures.spelled) in
    let apart = c.in_ok-lists.ensures.grown.apart (subst (λ z. IsDistinct bytes_eq z) (sym c.new-names.ensures) tt) in
    let lines = c.in_ok-lines.ensures ∙ (λ i. lines_of nat_eq (map (numbered (are i) (map (λ v. v.items) (c.deref-2.ensures.value i))) (c.as_slice-3.ensures i))) in
    lines_good images stacks table answers (map (λ v. v.items) lists) good zipped apart c.in_ok-lines.lines lines
