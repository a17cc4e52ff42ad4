use Rattle.std.proofs.Common.{ℕ, ◌≡◌, ◌+◌, ◌^◌, ◌<◌, true, false, IsOk, OnOk, Result, Ok, Err, Option, Some, cond, nat_eq, ap, sym, subst, ◌∙◌, arith}
use Rattle.blz_cover.specs.Answers.{is_answered, source_line}
use Rattle.blz_cover.specs.Changes.{total_of}
use Rattle.blz_cover.specs.Kept.{has_change}
use Rattle.blz_cover.specs.declared.tally.Home.{Home}
use Rattle.blz_cover.specs.declared.tally.Tally.{Tally}
use Rattle.blz_cover.proofs.CoverSteps.{stands_new, has_room_new}
use Rattle.blz_cover.proofs.cover.Cover.add_new.Goals as goal

-- what holds of a success, where it is one
when_ok : {A E : Type 0} (P : Type 0) (r : Result A E) → OnOk r P → IsOk r → P
when_ok P (Ok x) p is = p
when_ok P (Err e) p is = absurd (let h : false ≡ true = is in cc)

-- a map that was updated at a key, from one that was put in another order
updated : (old between new : ℕ → Option Tally) (a n : ℕ) (h k : Home) → h ≡ k → ((q : ℕ) → new q ≡ cond (nat_eq a q) (Some (record { count = n; home = h })) (between q)) → ((q : ℕ) → between q ≡ old q)
    → (q : ℕ) → new q ≡ cond (nat_eq a q) (Some (record { count = n; home = k })) (old q)
updated old between new a n h k same put kept q = rw (← same) (put q ∙ ap (cond (nat_eq a q) (Some (record { count = n; home = h }))) (kept q))

pub add_at-requires : goal.add_at-requires
add_at-requires c =
    let stand = c.self.invariant.stands in
    let room : total_of c.self.inside.changes.items + c.args.count < 2 ^ 64 = subst (λ cs. total_of cs + c.args.count < 2 ^ 64) (sym (ap (λ v. v.changes) c.self.view_is)) c.requires.room in
    rw (c.in_ok-home.ensures.home, c.in_ok-home.ensures.lines) (has_room_new _ _ _ _ _ _ _ c.args.addr c.args.count _ stand (omega (arith, room, stand.total_is)))

pub invariant_of-self-2 : goal.invariant_of-self-2
invariant_of-self-2 c =
    let spare = c.in_ok-reserve.ensures.ok in
    let put = when_ok _ c.insert.result c.insert.ensures.updates (c.insert.ensures.succeeds (omega (arith, spare))) in
    let changes = ap (λ v. v.changes) c.self.view_is in
    let images = ap (λ v. v.images) c.self.view_is in
    let unknown : has_change c.args.addr c.self.inside.changes.items ≡ false = subst (λ cs. has_change c.args.addr cs ≡ false) (sym changes) c.requires.unknown in
    let answered : is_answered c.self.inside.resolver.now.images c.args.addr ≡ true = subst (λ i. is_answered i c.args.addr ≡ true) (sym images) c.requires.answered in
    let line = ap (λ i. source_line i c.args.addr) images ∙ c.requires.line in
    rw (c.with-self-inside.ensures, c.added.ensures, c.add_at.ensures.lines, c.add_at.ensures.rest, c.in_ok-home.ensures.lines) (record {
      has_debug = c.self.invariant.has_debug;
      is_prepared = c.self.invariant.is_prepared;
      stands = rw c.in_ok-home.ensures.home (stands_new _ _ c.self.inside.changes.items c.args.addr c.args.count _ _ _ c.self.inside.lines c.self.inside.rest c.self.inside.total c.self.invariant.stands unknown line answered
          (updated _ _ _ c.args.addr c.args.count c.in_ok-home.home _ c.in_ok-home.ensures.home put.0 c.in_ok-reserve.ensures.entries.2));
    })
