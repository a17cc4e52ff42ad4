use Rattle.std.proofs.Common.{◌≡◌, drop}
use Rattle.blz_model.specs.Texts.{c_string}
use Rattle.blz_image.specs.Names.{is_text}
use Rattle.blz_image.proofs.text.is_text_at.Given as goal

abbrev pub invariant-loop-i : goal.invariant-loop-i
invariant-loop-i l = is_text (c_string (drop l.i l.rest)) (drop l.i l.name) ≡ is_text (c_string l.rest) l.name
