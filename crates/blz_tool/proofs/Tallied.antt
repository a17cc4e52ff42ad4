-- The demo's addresses are asked one after the other.
use Rattle.std.proofs.Common.{◌≡◌, ℕ, suc, ◌+◌, ◌-◌, ◌<◌, ◌≤◌, Bool, true, List, ◌∷◌, map, refl, sym, ap, ◌∙◌, arith}
use Rattle.blz_error.specs.Texts.{Bytes}
use Rattle.std.specs.List.{range_with_len}
use Rattle.blz_error.specs.declared.kind.ErrorKind.{ErrorKind}
use Rattle.blz_model.specs.Answers.{Answer}
use Rattle.blz_model.specs.Part.{Part, Good, Broken, Fails, ◌>>=◌, all_good}
use Rattle.blz_elf.specs.declared.opts.FindSymOpts.TheVariants.{CodeInfo}
use Rattle.blz_resolver.proofs.DebugMarks.{marks_scan}
use Rattle.blz_resolver.proofs.FormatMarks.{Marks, marks_bind, marks_good}
use Rattle.blz_resolver.specs.Books.{Book, frame_of, framed}
use Rattle.blz_resolver.specs.Images.{ImageSet}
use Rattle.blz_resolver.specs.Scan.{answers_of, scan_of}
use Rattle.blz_tool.specs.DemoImage.{demo}
use Rattle.blz_tool.specs.Summary.{asked_addresses, asked_at, demo_images, summary, summary_text, tallied, tally_part}
use Rattle.blz_tool.specs.Tallies.{tally_from, tally_of, with_answer}
use Rattle.blz_tool.specs.declared.tally.Tally.{Tally}

-- the addresses from the one at j up to the one at m
abbrev pub rest_of : ℕ → ℕ → List ℕ
rest_of j m = map asked_at (range_with_len j (m - j))

-- what is counted, with some answers after those that were counted
abbrev pub counting : Tally → Part (List Answer) → Part Tally
counting so_far answers = answers >>= λ answers. Good (tally_from so_far answers)

more : (so_far : Tally) (answer : Answer) (rest : Part (List Answer)) → counting so_far (rest >>= λ answers. Good (answer ∷ answers)) ≡ counting (with_answer so_far answer) rest
more so_far answer (Good answers) = refl
more so_far answer (Broken k) = refl

-- the first of them is asked
ahead : (j m : ℕ) → j < m → range_with_len j (m - j) ≡ j ∷ range_with_len (j + 1) (m - (j + 1))
ahead j m h = let e : m - j ≡ suc (m - (j + 1)) = omega (arith, h) in ap (range_with_len j) e

pub counting-good : (f : ℕ → Part Answer) (so_far : Tally) (j m : ℕ) (answer : Answer) → j < m → f (asked_at j) ≡ Good answer
    → counting so_far (all_good (map f (rest_of j m))) ≡ counting (with_answer so_far answer) (all_good (map f (rest_of (j + 1) m)))
counting-good f so_far j m answer h is =
    ap (λ places. counting so_far (all_good (map f (map asked_at places)))) (ahead j m h)
    ∙ ap (λ (p : Part Answer). counting so_far (p >>= λ x. all_good (map f (rest_of (j + 1) m)) >>= λ xs. Good (x ∷ xs))) is
    ∙ more so_far answer (all_good (map f (rest_of (j + 1) m)))

pub counting-broken : (f : ℕ → Part Answer) (so_far : Tally) (j m : ℕ) (k : ErrorKind) → j < m → f (asked_at j) ≡ Broken k
    → counting so_far (all_good (map f (rest_of j m))) ≡ Broken k
counting-broken f so_far j m k h is =
    ap (λ places. counting so_far (all_good (map f (map asked_at places)))) (ahead j m h)
    ∙ ap (λ (p : Part Answer). counting so_far (p >>= λ x. all_good (map f (rest_of (j + 1) m)) >>= λ xs. Good (x ∷ xs))) is

pub counting-end : (f : ℕ → Part Answer) (so_far : Tally) (j m : ℕ) → m ≤ j → counting so_far (all_good (map f (rest_of j m))) ≡ Good so_far
counting-end f so_far j m h =
    let e : m - j ≡ 0 = omega (arith, h) in
    ap (λ n. counting so_far (all_good (map f (map asked_at (range_with_len j n))))) e

-- ---- the scan that counts

abbrev is_read : Part Book → Part (Unit {0})
is_read p = p >>= λ book. Good tt

read_first : (p : Part Book) (q : Part (List Answer)) → is_read p ≡ Good tt → (p >>= λ book. q) ≡ q
read_first (Good book) q e = refl
read_first (Broken k) q e = absurd cc

read_mark : (p : Part Book) (q : Part (List Answer)) (k : ErrorKind) → is_read p ≡ Broken k → (p >>= λ book. q) ≡ Broken k
read_mark (Good book) q k e = absurd cc
read_mark (Broken first) q k e = cc

-- the frame's mark is the one of what is counted
pub tallied-mark : (image : Bytes) (n : ℕ) (k : ErrorKind) → Fails k (framed (demo_images image)) → Fails k (tallied image n)
unfolding tallied scan_of
tallied-mark image n k fails other =
    ap tally_part (read_mark (frame_of (demo_images image)) (all_good (map (answers_of (demo_images image) true CodeInfo) (asked_addresses n))) k (fails other))

-- a resolver of the image has its answers
pub tallied-read : (image : Bytes) (n : ℕ) (images : ImageSet) (has : Bool) → framed (demo_images image) ≡ Good tt → images ≡ demo_images image → has ≡ true
    → tally_part (all_good (map (answers_of images has CodeInfo) (asked_addresses n))) ≡ tallied image n
unfolding tallied scan_of
tallied-read image n images has read same is =
    ap (λ (i : ImageSet). tally_part (all_good (map (answers_of i has CodeInfo) (asked_addresses n)))) same
    ∙ ap (λ (b : Bool). tally_part (all_good (map (answers_of (demo_images image) b CodeInfo) (asked_addresses n)))) is
    ∙ sym (ap tally_part (read_first (frame_of (demo_images image)) (all_good (map (answers_of (demo_images image) true CodeInfo) (asked_addresses n))) read))

pub marks_summary : (n : ℕ) → Marks (summary n)
unfolding summary tallied
marks_summary n =
    marks_bind (tallied (demo n) n) (λ tally. Good (summary_text n tally))
    (marks_bind (scan_of (demo_images (demo n)) (asked_addresses n) CodeInfo) (λ answers. Good (tally_of answers)) (marks_scan _ _ _) (λ answers. marks_good _))
    (λ tally. marks_good _)
