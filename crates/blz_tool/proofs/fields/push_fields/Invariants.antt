use Rattle.std.proofs.Common.{◌≡◌, ◌++◌, drop}
use Rattle.blz_tool.specs.Fields.{fields_bytes}
use Rattle.blz_tool.proofs.fields.push_fields.Given as goal

abbrev pub invariant-loop-field : goal.invariant-loop-field
invariant-loop-field l = l.out.items ++ fields_bytes (drop l.field-index l.fields) ≡ l.initial.out.items ++ fields_bytes l.fields
