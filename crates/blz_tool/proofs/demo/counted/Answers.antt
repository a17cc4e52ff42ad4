use Rattle.std.proofs.Common.{◌≡◌, ℕ, ◌*◌, ◌+◌, map, sym, ap, subst, ◌∙◌, arith}
use Rattle.blz_elf.specs.AnswerView.{answer_view}
use Rattle.blz_elf.specs.declared.opts.FindSymOpts.TheVariants.{CodeInfo}
use Rattle.blz_model.specs.Part.{Broken, Good, all_good}
use Rattle.blz_resolver.specs.Resolver.{has_debug}
use Rattle.blz_resolver.specs.Scan.{answers_of}
use Rattle.blz_tool.specs.declared.tally.Tally.{Tally}
use Rattle.blz_tool.proofs.Tallied.{counting, counting-broken, counting-end, counting-good, rest_of}
use Rattle.blz_tool.proofs.demo.counted.Goals as goal

pub loop-j-preserved : goal.loop-j-preserved
loop-j-preserved g c =
    let f = answers_of c.args.resolver.now.images (has_debug c.args.resolver.now) CodeInfo in
    record {
      same = ap (λ (t : Tally). counting t (all_good (map f (rest_of (c.loop-j.j + 1) (2 * c.args.n))))) c.with_answer-tally.ensures.value
          ∙ sym (counting-good f c.loop-j.tally c.loop-j.j (2 * c.args.n) (answer_view c.in-Ok.answer) (omega arith) (subst (λ (a : ℕ). f a ≡ Good (answer_view c.in-Ok.answer)) c.asked_at.ensures c.in-Ok.ensures.value))
          ∙ c.loop-j.invariant.same;
      found = omega (arith, c.with_answer-tally.ensures.found, c.loop-j.invariant.found);
      lines = omega (arith, c.with_answer-tally.ensures.lines, c.loop-j.invariant.lines);
    }

pub returns-in-Err : goal.returns-in-Err
returns-in-Err g c =
    let f = answers_of c.args.resolver.now.images (has_debug c.args.resolver.now) CodeInfo in (
      sym c.loop-j.invariant.same ∙ counting-broken f c.loop-j.tally c.loop-j.j (2 * c.args.n) c.in-Err.error.kind (omega arith) (subst (λ (a : ℕ). f a ≡ Broken c.in-Err.error.kind) c.asked_at.ensures c.in-Err.ensures.value.0),
      c.in-Err.ensures.value.1,
    )

pub returns : goal.returns
returns g c =
    let f = answers_of c.args.resolver.now.images (has_debug c.args.resolver.now) CodeInfo in
    sym c.loop-j.invariant.same ∙ counting-end f c.loop-j.tally c.loop-j.j (2 * c.args.n) (omega arith)
