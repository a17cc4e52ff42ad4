-- What a hit of the code stands for.
use Rattle.std.specs.Prelude.{ℕ}
use Rattle.blz_cover.specs.declared.hit.Hit.{Hit}

abbrev pub hit_view : Hit → ℕ × ℕ
hit_view h = (h.addr, h.count)
