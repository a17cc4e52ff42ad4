-- What a program may count on of its header.
use Rattle.std.specs.Prelude.{ℕ, ◌<◌, ◌≤◌, ◌+◌, ◌-◌, List, length}
use Rattle.blz_line.specs.declared.rules.Rules.{Rules}
use Rattle.blz_line.specs.declared.header.LineHeader.{LineHeader}

-- what is divided by is not 0, and there is an opcode 0
pub record IsReady (r : Rules) : Type 0 where
  pub ops : 0 < r.max_ops
  pub range : 0 < r.line_range
  pub base : 0 < r.opcode_base

-- its offsets lie inside the section
pub record IsInside (h : LineHeader) (bytes : List ℕ) : Type 0 where
  pub counts_in : h.counts + (h.opcode_base - 1) ≤ length bytes
  pub program_in : h.program ≤ h.end
  pub end_in : h.end ≤ length bytes
