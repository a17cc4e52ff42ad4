use Rattle.std.proofs.Common.{◌≡◌, ◌-◌, drop}
use Rattle.std.specs.List.{position_from}
use Rattle.std.specs.Str.{bytes_eq}
use Rattle.blz_image.proofs.image.Image.find.Given as goal

abbrev pub invariant-loop-i : goal.invariant-loop-i
invariant-loop-i l = position_from (λ n. bytes_eq n l.name) l.i (drop (l.i - 1) l.self.names) ≡ position_from (λ n. bytes_eq n l.name) 1 l.self.names
