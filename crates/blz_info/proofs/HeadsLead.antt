-- What stands at a place of a unit leads on, and not past the unit's end.
use Rattle.std.proofs.Common.{ℕ, ◌≤◌, ◌<◌, Bool, true, false, cond, eqb, List, length, Option, Some, None, arith}
use Rattle.blz_model.specs.LebNumbers.{uleb}
use Rattle.blz_model.specs.Reads.{Read, ◌>>=◌}
use Rattle.blz_info.specs.Abbrevs.{Abbrev, of_code}
use Rattle.blz_info.specs.Attributes.{attributes}
use Rattle.blz_info.specs.Forest.{Head, Close, Open, Leads, LeadsOn}
use Rattle.blz_info.specs.Walks.{Source, head_at}
use Rattle.blz_info.specs.declared.forms.value.AttrValue.{AttrValue}
use Rattle.blz_info.proofs.Ahead.{Ahead, Past, uleb_past, attributes_ahead}

-- the head that an abbreviation and the values of its attributes make
abbrev opened : ℕ → ℕ → Abbrev → Read (List (ℕ × AttrValue)) → Option Head
opened at code a o = o >>= λ values. Some (Open a.children (record { place = at; code = code; tag = a.tag; children = a.children; attributes = values.0 }) values.1)

abbrev found : Source → ℕ → ℕ × ℕ → Option Abbrev → Option Head
found u at code o = o >>= λ a. opened at code.0 a (attributes a.specs u.encoding u.base u.section code.1)

abbrev headed : Source → ℕ → Read ℕ → Option Head
headed u at o = o >>= λ code. cond (eqb code.0 0) (Some (Close code.1)) (found u at code (of_code code.0 u.table))

leads_values : (u : Source) (at code place : ℕ) (a : Abbrev) (o : Read (List (ℕ × AttrValue))) (next : ℕ) → at < place → Ahead u.section.bytes place o → Leads (opened at code a o) next → (at < next) × (next ≤ length u.section.bytes)
leads_values u at code place a None next lt h l = absurd l
leads_values u at code place a (Some v) next lt h l = (omega (arith, h, l), omega (arith, h, l))

leads_found : (u : Source) (at : ℕ) (code : ℕ × ℕ) (o : Option Abbrev) (next : ℕ) → at < code.1 → code.1 ≤ length u.section.bytes → Leads (found u at code o) next → (at < next) × (next ≤ length u.section.bytes)
leads_found u at code None next lt le l = absurd l
leads_found u at code (Some a) next lt le l = leads_values u at code.0 code.1 a (attributes a.specs u.encoding u.base u.section code.1) next lt (attributes_ahead a.specs u.encoding u.base u.section code.1 le) l

leads_code : (u : Source) (at : ℕ) (code : ℕ × ℕ) (b : Bool) (next : ℕ) → at < code.1 → code.1 ≤ length u.section.bytes → Leads (cond b (Some (Close code.1)) (found u at code (of_code code.0 u.table))) next → (at < next) × (next ≤ length u.section.bytes)
leads_code u at code true next lt le l = (omega (arith, l), omega (arith, l))
leads_code u at code false next lt le l = leads_found u at code (of_code code.0 u.table) next lt le l

leads_read : (u : Source) (at : ℕ) (o : Read ℕ) (next : ℕ) → Past u.section.bytes at o → Leads (headed u at o) next → (at < next) × (next ≤ length u.section.bytes)
leads_read u at None next h l = absurd l
leads_read u at (Some code) next h l = leads_code u at code (eqb code.0 0) next h.0 h.1 l

pub heads_lead_on : (u : Source) → length u.section.bytes ≤ u.end → LeadsOn (head_at u) u.end
unfolding head_at
heads_lead_on u cut at next lt l = let led = leads_read u at (uleb u.section.bytes at) next (uleb_past u.section.bytes at) l in (led.0, omega (arith, led))
