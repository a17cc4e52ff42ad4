use Rattle.std.proofs.Common.{◌≡◌, ◌∙◌, ap, codes, Some, None, Option, false}
use Rattle.std.specs.Option.{option_map_or}
use Rattle.std.specs.Str.{bytes_eq}
use Rattle.clap.specs.Words.{Text, found_of, first_of, rows_of}
use Rattle.clap.proofs.WalkLemmas.{first_value-rows}
use Rattle.blz_tool.proofs.command_line.flag.Goals as goal

pub returns-in-Some : goal.returns-in-Some
returns-in-Some c =
    let first : Some c.in-Some.text.now ≡ first_of c.args.id.now (rows_of (found_of c.args.matches.now)) = c.in-Some.ensures ∙ first_value-rows (found_of c.args.matches.now) c.args.id.now in
    let test : Option Text → _ = λ o. option_map_or (λ t. bytes_eq t (codes "true")) o false in
    c.eq.ensures ∙ ap test first

pub returns-in-None : goal.returns-in-None
returns-in-None c =
    let first : None ≡ first_of c.args.id.now (rows_of (found_of c.args.matches.now)) = c.in-None.ensures ∙ first_value-rows (found_of c.args.matches.now) c.args.id.now in
    let test : Option Text → _ = λ o. option_map_or (λ t. bytes_eq t (codes "true")) o false in
    ap test first
