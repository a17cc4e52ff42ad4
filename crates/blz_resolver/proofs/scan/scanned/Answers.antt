use Rattle.std.proofs.Common.{◌≡◌, ℕ, true, List, map, refl, sym, subst}
use Rattle.blz_model.specs.Answers.{Answer}
use Rattle.blz_model.specs.Part.{Part, Good, Gives, ◌>>=◌, all_good}
use Rattle.blz_elf.specs.AnswerView.{answer_view}
use Rattle.blz_elf.specs.declared.opts.FindSymOpts.{FindSymOpts}
use Rattle.blz_bundle.specs.BundleViews.{bundle_view}
use Rattle.blz_bundle.specs.Images.{ImageSet}
use Rattle.blz_resolver.specs.Books.{Book, frame_of}
use Rattle.blz_resolver.specs.Scan.{answers_of, scan_of}
use Rattle.blz_resolver.proofs.scan.scanned.Goals as goal

read_first : (p : Part Book) (book : Book) (q : Part (List Answer)) → p ≡ Good book → (p >>= λ book. q) ≡ q
read_first p book q e = rw e refl

scan_is : (images : ImageSet) (book : Book) (addrs : List ℕ) (opts : FindSymOpts) → frame_of images ≡ Good book → scan_of images addrs opts ≡ all_good (map (answers_of images true opts) addrs)
unfolding scan_of
scan_is images book addrs opts read = read_first (frame_of images) book (all_good (map (answers_of images true opts) addrs)) read

pub returns-clause-value : goal.returns-clause-value
returns-clause-value g c =
    let P : Part (List Answer) → Type 0 = λ p. Gives (λ v. map answer_view v.items) c.find_syms.result p in
    subst P (sym (scan_is (bundle_view c.args.bundle.now) _ c.args.addrs.now c.args.opts.now c.in_ok-debug.ensures.frame)) c.find_syms.ensures.value
