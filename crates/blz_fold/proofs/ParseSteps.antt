-- Reading stacks line by line, and addresses piece by piece.
use Rattle.std.proofs.Common.{◌≡◌, ◌<◌, ◌≤◌, ◌+◌, ◌-◌, ◌^◌, ◌==◌, ℕ, zero, suc, Bool, true, false, nat_lt, List, [], ◌∷◌, ◌++◌, length, take, drop, Option, Some, None, Ok, Err, refl, sym, ap, ◌∙◌, if◌then◌else◌, arith, append_assoc}
use Rattle.std.proofs.lemmas.Bool.Decides.{Decides-ltb}
use Rattle.std.proofs.lemmas.List.{append-nil}
use Rattle.std.proofs.lemmas.List.Sums.{sum_by-append, sum_by-cons}
use Rattle.blz_error.specs.Texts.{Bytes}
use Rattle.blz_program.specs.TextLines.{lines_of, with_first}
use Rattle.blz_program.specs.Words.{address_of, each_address, joined_option}
use Rattle.blz_program.specs.declared.outcome.LineFault.TheVariants.{BadForm, TooLarge}
use Rattle.blz_program.proofs.Cuts.{EndsAt}
use Rattle.blz_fold.specs.AddressStacks.{count_total}
use Rattle.blz_fold.specs.StackLines.{Parsed, counted_in, cut_at_blank, parsed_from, split, stack_of, with_front, with_stack}
use Rattle.blz_fold.specs.declared.stack_list.Stack.{Stack}

test_false : (t : Bool) → ¬ (t ≡ true) → t ≡ false
test_false true not = absurd (not refl)
test_false false not = refl

-- ---- cuts

pub cut_there : (line : Bytes) (n : ℕ) → n < length line → EndsAt 32 line n → ((k : ℕ) → k < n → ¬ (EndsAt 32 line k)) → cut_at_blank line ≡ Some (take n line, drop (n + 1) line)
cut_there [] n h at before = absurd (omega (arith, h))
cut_there (b ∷ bs) zero h at before = ap (λ t. if t then Some ([], bs) else with_front b (cut_at_blank bs)) at
cut_there (b ∷ bs) (suc n) h at before =
    let first = test_false (b == 32) (before 0 (omega arith)) in
    let rest = cut_there bs n (omega (arith, h)) at (λ k lt. before (suc k) (omega (arith, lt))) in
    let next : suc n + 1 ≡ suc (n + 1) = omega arith in
    ap (λ t. if t then Some ([], bs) else with_front b (cut_at_blank bs)) first ∙ ap (λ o. with_front b o) rest ∙ ap (λ m. Some (b ∷ take n bs, drop m (b ∷ bs))) (sym next)

pub cut_nowhere : (line : Bytes) → ((k : ℕ) → k < length line → ¬ (EndsAt 32 line k)) → cut_at_blank line ≡ None
cut_nowhere [] none = refl
cut_nowhere (b ∷ bs) none = ap (λ t. if t then Some ([], bs) else with_front b (cut_at_blank bs)) (test_false (b == 32) (none 0 (omega arith))) ∙ ap (λ o. with_front b o) (cut_nowhere bs (λ k lt. none (suc k) (omega (arith, lt))))

pub split_there : (text : Bytes) (n : ℕ) → n < length text → EndsAt 59 text n → ((k : ℕ) → k < n → ¬ (EndsAt 59 text k)) → split text ≡ take n text ∷ split (drop (n + 1) text)
split_there [] n h at before = absurd (omega (arith, h))
split_there (b ∷ bs) zero h at before = ap (λ t. if t then [] ∷ split bs else with_first b (split bs)) at
split_there (b ∷ bs) (suc n) h at before =
    let first = test_false (b == 59) (before 0 (omega arith)) in
    let rest = split_there bs n (omega (arith, h)) at (λ k lt. before (suc k) (omega (arith, lt))) in
    let next : suc n + 1 ≡ suc (n + 1) = omega arith in
    ap (λ t. if t then [] ∷ split bs else with_first b (split bs)) first ∙ ap (λ z. with_first b z) rest ∙ ap (λ m. (b ∷ take n bs) ∷ split (drop m (b ∷ bs))) (sym next)

pub split_nowhere : (text : Bytes) → ((k : ℕ) → k < length text → ¬ (EndsAt 59 text k)) → split text ≡ text ∷ []
split_nowhere [] none = refl
split_nowhere (b ∷ bs) none = ap (λ t. if t then [] ∷ split bs else with_first b (split bs)) (test_false (b == 59) (none 0 (omega arith))) ∙ ap (λ z. with_first b z) (split_nowhere bs (λ k lt. none (suc k) (omega (arith, lt))))

-- ---- addresses

abbrev pub behind_front : List ℕ → Option (List ℕ) → Option (List ℕ)
behind_front front None = None
behind_front front (Some rest) = Some (front ++ rest)

pub front_none : (o : Option (List ℕ)) → o ≡ behind_front [] o
front_none None = refl
front_none (Some rest) = refl

front_further : (front : List ℕ) (a : ℕ) (o : Option (List ℕ)) → behind_front front (joined_option (Some a) o) ≡ behind_front (front ++ a ∷ []) o
front_further front a None = refl
front_further front a (Some rest) = ap Some (sym (append_assoc front (a ∷ []) rest))

pub address_further : (whole : Option (List ℕ)) (front new : List ℕ) (a : ℕ) (piece : Bytes) (pieces rest : List Bytes) → pieces ≡ piece ∷ rest → address_of piece ≡ Some a → new ≡ front ++ a ∷ [] → whole ≡ behind_front front (each_address pieces) → whole ≡ behind_front new (each_address rest)
address_further whole front new a piece pieces rest cut is pushed so_far =
    so_far ∙ ap (λ z. behind_front front (each_address z)) cut ∙ ap (λ o. behind_front front (joined_option o (each_address rest))) is ∙ front_further front a (each_address rest) ∙ ap (λ z. behind_front z (each_address rest)) (sym pushed)

pub address_missing : (whole : Option (List ℕ)) (front : List ℕ) (piece : Bytes) (pieces rest : List Bytes) → pieces ≡ piece ∷ rest → address_of piece ≡ None → whole ≡ behind_front front (each_address pieces) → None ≡ whole
address_missing whole front piece pieces rest cut is so_far =
    sym (so_far ∙ ap (λ z. behind_front front (each_address z)) cut ∙ ap (λ o. behind_front front (joined_option o (each_address rest))) is)

pub addresses_whole : (whole : Option (List ℕ)) (front new : List ℕ) (a : ℕ) (piece : Bytes) (pieces : List Bytes) → pieces ≡ piece ∷ [] → address_of piece ≡ Some a → new ≡ front ++ a ∷ [] → whole ≡ behind_front front (each_address pieces) → Some new ≡ whole
addresses_whole whole front new a piece pieces cut is pushed so_far =
    sym (address_further whole front new a piece pieces [] cut is pushed so_far ∙ ap Some (append-nil new))

-- ---- lines

abbrev pub stacks_front : List Stack → Parsed → Parsed
stacks_front front (Ok stacks) = Ok (front ++ stacks)
stacks_front front (Err refused) = Err refused

pub stacks_none : (p : Parsed) → p ≡ stacks_front [] p
stacks_none (Ok stacks) = refl
stacks_none (Err refused) = refl

stack_behind : (front : List Stack) (s : Stack) (p : Parsed) → stacks_front front (with_stack s p) ≡ stacks_front (front ++ s ∷ []) p
stack_behind front s (Ok stacks) = ap Ok (sym (append_assoc front (s ∷ []) stacks))
stack_behind front s (Err refused) = refl

fits_test : (n : ℕ) → n < 2 ^ 64 → nat_lt n (2 ^ 64) ≡ true
fits_test n h = (Decides-ltb n (2 ^ 64)).1 h

passes_test : (n : ℕ) → 2 ^ 64 ≤ n → nat_lt n (2 ^ 64) ≡ false
passes_test n h = test_false (nat_lt n (2 ^ 64)) (λ t. let lt = (Decides-ltb n (2 ^ 64)).0 t in absurd (omega (arith, lt, h)))

module _ (whole : Parsed) (front : List Stack) (number total : ℕ) (line : Bytes) (rest behind : Bytes) (cut : lines_of rest ≡ line ∷ lines_of behind) (so_far : whole ≡ stacks_front front (parsed_from number total (lines_of rest))) where
  opened : whole ≡ stacks_front front (counted_in number total (stack_of line) (λ sum. parsed_from (number + 1) sum (lines_of behind)))
  opened = so_far ∙ ap (λ z. stacks_front front (parsed_from number total z)) cut

  pub line_further : (s : Stack) (new : List Stack) → stack_of line ≡ Some s → total + s.count < 2 ^ 64 → new ≡ front ++ s ∷ [] → whole ≡ stacks_front new (parsed_from (number + 1) (total + s.count) (lines_of behind))
  line_further s new is fits pushed =
      opened ∙ ap (λ o. stacks_front front (counted_in number total o (λ sum. parsed_from (number + 1) sum (lines_of behind)))) is
      ∙ ap (λ t. stacks_front front (if t then with_stack s (parsed_from (number + 1) (total + s.count) (lines_of behind)) else Err (number, TooLarge))) (fits_test (total + s.count) fits)
      ∙ stack_behind front s (parsed_from (number + 1) (total + s.count) (lines_of behind))
      ∙ ap (λ z. stacks_front z (parsed_from (number + 1) (total + s.count) (lines_of behind))) (sym pushed)

  pub line_bad : stack_of line ≡ None → whole ≡ Err (number, BadForm)
  line_bad is = opened ∙ ap (λ o. stacks_front front (counted_in number total o (λ sum. parsed_from (number + 1) sum (lines_of behind)))) is

  pub line_too_large : (s : Stack) → stack_of line ≡ Some s → 2 ^ 64 ≤ total + s.count → whole ≡ Err (number, TooLarge)
  line_too_large s is passes =
      opened ∙ ap (λ o. stacks_front front (counted_in number total o (λ sum. parsed_from (number + 1) sum (lines_of behind)))) is
      ∙ ap (λ t. stacks_front front (if t then with_stack s (parsed_from (number + 1) (total + s.count) (lines_of behind)) else Err (number, TooLarge))) (passes_test (total + s.count) passes)

pub lines_ended : (whole : Parsed) (front : List Stack) (number total : ℕ) (rest : Bytes) → rest ≡ [] → whole ≡ stacks_front front (parsed_from number total (lines_of rest)) → whole ≡ Ok front
lines_ended whole front number total rest empty so_far = so_far ∙ ap (λ z. stacks_front front (parsed_from number total (lines_of z))) empty ∙ ap Ok (append-nil front)

pub total_further : (front new : List Stack) (s : Stack) (total : ℕ) → total ≡ count_total front → new ≡ front ++ s ∷ [] → total + s.count ≡ count_total new
total_further front new s total is pushed =
    let joined : count_total new ≡ count_total (front ++ s ∷ []) = ap (λ z. count_total z) pushed in
    omega (arith, is, joined, sum_by-append (λ (t : Stack). t.count) front (s ∷ []), sum_by-cons (λ (t : Stack). t.count) s [])
