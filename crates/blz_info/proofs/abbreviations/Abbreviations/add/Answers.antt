use Rattle.std.proofs.Common.{◌≡◌, ◌+◌, ◌-◌, ◌∷◌, [], None, length, take, arith, rules, vec_len, length-append, sym, ap, ◌∙◌}
use Rattle.blz_info.specs.Abbrevs.{Abbrev, of_code}
use Rattle.blz_info.proofs.AbbreviationIndex.{front_more, map_more, index_stays, take_back}
use Rattle.blz_info.proofs.abbreviations.Abbreviations.add.Goals as goal

pub invariant_of-self-then-code-place : goal.invariant_of-self-then-code-place
invariant_of-self-then-code-place c =
    let len : c.len-place.result ≡ length c.self.inside.table.items = omega arith in
    let new : of_code c.args.abbreviation.code c.self.inside.table.items ≡ None = ap (of_code c.args.abbreviation.code) c.self.view_is ∙ c.requires in
    let code : c.args.abbreviation.code ≡ c.abbreviation.inside.code = ap (λ (a : Abbrev). a.code) (sym c.abbreviation.view_is) in
    rw (c.in_ok-push.ensures.items, len) (front_more c.self.inside.table.items c.args.abbreviation c.self.inside.ordered c.self.inside.others c.self.invariant new (omega arith) (omega arith))

pub invariant_of-self-in_default : goal.invariant_of-self-in_default
invariant_of-self-in_default c =
    let len : c.len-place.result ≡ length c.self.inside.table.items = omega arith in
    let new : of_code c.args.abbreviation.code c.self.inside.table.items ≡ None = ap (of_code c.args.abbreviation.code) c.self.view_is ∙ c.requires in
    let code : c.abbreviation.inside.code ≡ c.args.abbreviation.code = ap (λ (a : Abbrev). a.code) c.abbreviation.view_is in
    let updates = rw (code, len) at c.in_default.ensures.updates in
    rw c.in_ok-push.ensures.items (map_more c.self.inside.table.items c.args.abbreviation c.self.inside.ordered c.self.inside.others c.insert.new.self c.self.invariant new updates)

pub invariant_of-self-in-Err : goal.invariant_of-self-in-Err
invariant_of-self-in-Err c =
    let x = c.self.inside in
    let pushed = c.push.new.self in
    let len : vec_len pushed ≡ length pushed.items = search rules in
    let more : length pushed.items ≡ length x.table.items + 1 = ap length c.in_ok-push.ensures.items ∙ length-append x.table.items (c.args.abbreviation ∷ []) in
    let back : c.pop.new.self.items ≡ x.table.items = c.pop.ensures.rest ∙ ap (λ xs. take (vec_len pushed - 1) xs) c.in_ok-push.ensures.items ∙ take_back x.table.items c.args.abbreviation _ (len ∙ more) in
    rw back (index_stays x.table.items x.ordered x.others c.insert.new.self c.self.invariant c.in-Err.ensures.err)
