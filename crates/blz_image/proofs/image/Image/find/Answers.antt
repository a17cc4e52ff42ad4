use Rattle.std.proofs.Common.{◌≡◌, ◌-◌, length, get_or, List, ℕ, [], Option, refl, ap, sym, ◌∙◌, arith}
use Rattle.std.specs.List.{position_from}
use Rattle.std.specs.Str.{bytes_eq}
use Rattle.std.proofs.lemmas.List.{at_drop_all}
use Rattle.blz_image.specs.Images.{Elf, section_named}
use Rattle.blz_image.specs.Names.{is_text, names_in}
use Rattle.blz_image.proofs.Naming.{name_there, position_here, position_on, length_names}
use Rattle.blz_image.proofs.image.Image.find.Goals as goal

pub returns-then-is_text_at : goal.returns-then-is_text_at
unfolding section_named
returns-then-is_text_at c =
    let names = c.args.self.now.names in
    let names-is : names_in c.self.inside.texts.now c.self.inside.sections ≡ names = ap (λ (e : Elf). e.names) c.self.view_is in
    let there = name_there c.self.inside.texts.now c.self.inside.sections names c.loop-i.i _ names-is c.self.invariant (omega arith) (omega (arith, c.len-i-end.ensures)) c.at.ensures in
    let tested = c.if-is_text_at.ensures ∙ ap (is_text _) c.as_bytes.ensures.value ∙ ap (λ (o : Option (List ℕ)). is_text o c.args.name.now) there.0 in
    position_here c.args.name.now (get_or names (c.loop-i.i - 1) []) names c.loop-i.i (omega arith) there.1 refl tested c.loop-i.invariant

pub loop-i-preserved : goal.loop-i-preserved
loop-i-preserved c =
    let names = c.args.self.now.names in
    let names-is : names_in c.self.inside.texts.now c.self.inside.sections ≡ names = ap (λ (e : Elf). e.names) c.self.view_is in
    let there = name_there c.self.inside.texts.now c.self.inside.sections names c.loop-i.i _ names-is c.self.invariant (omega arith) (omega (arith, c.len-i-end.ensures)) c.at.ensures in
    let tested = c.if-is_text_at.ensures ∙ ap (is_text _) c.as_bytes.ensures.value ∙ ap (λ (o : Option (List ℕ)). is_text o c.args.name.now) there.0 in
    position_on c.args.name.now (get_or names (c.loop-i.i - 1) []) names c.loop-i.i (omega arith) there.1 refl tested c.loop-i.invariant

pub returns : goal.returns
unfolding section_named
returns c =
    let names = c.args.self.now.names in
    let names-is : names_in c.self.inside.texts.now c.self.inside.sections ≡ names = ap (λ (e : Elf). e.names) c.self.view_is in
    let n = length_names c.self.inside.texts.now c.self.inside.sections in
    let m = ap length names-is in
    sym (at_drop_all (position_from (λ n. bytes_eq n c.args.name.now) c.loop-i.i) names (c.loop-i.i - 1) (omega (arith, n, m, c.len-i-end.ensures))) ∙ c.loop-i.invariant
