-- Files in memory, as the puts that were made on them, the newest first.
use Rattle.std.specs.Prelude.{ℕ, ◌==◌, Bool, true, false, List, [], ◌∷◌, length, Option, Some, None, Result, Ok, Err, find, option_map, filter}
use Rattle.std.specs.FinMap as maps
use Rattle.std.specs.Str.{bytes_eq}
use Rattle.blz_error.specs.Texts.{Bytes}
use Rattle.blz_links.specs.Counts.{one_more}
use Rattle.blz_links.specs.Contents.{Contents, PathMap}
use Rattle.blz_links.specs.declared.files.fault.FilesFault.{FilesFault}
use Rattle.blz_links.specs.declared.files.fault.FilesFault.TheVariants.{NotFound, Denied, Failed, Memory}
use Rattle.blz_links.specs.declared.files.stamp.Stamp.{Stamp}

pub record MemoryValue : Type 0 where
  pub puts : List (Bytes × Bytes)
  pub failing : List (ℕ × Bool)
  pub calls : ℕ
  pub faults : ℕ

-- the last put on each path
abbrev pub contents_of : MemoryValue → Contents
contents_of m = maps.from_entries m.puts

abbrev pub puts_on : Bytes → List (Bytes × Bytes) → ℕ
puts_on path puts = length (filter (λ e. bytes_eq path e.0) puts)

-- each put, with the stamp that it left
abbrev pub stamp_entries : List (Bytes × Bytes) → List (Bytes × Stamp)
stamp_entries [] = []
stamp_entries (e ∷ es) = (e.0, record { size = length e.1; changed = puts_on e.0 (e ∷ es) }) ∷ stamp_entries es

abbrev pub stamps_of : MemoryValue → PathMap Stamp
stamps_of m = maps.from_entries (stamp_entries m.puts)

abbrev pub find_put : Bytes → List (Bytes × Bytes) → Option Bytes
find_put path puts = option_map (λ e. e.1) (find (λ e. bytes_eq path e.0) puts)

-- whether the call with a number fails, and whether it is denied; the last that was listed for it decides
abbrev pub listed_at : ℕ → List (ℕ × Bool) → Option Bool
listed_at call failing = option_map (λ e. e.1) (find (λ e. e.0 == call) failing)

abbrev pub next_failure : MemoryValue → Option Bool
next_failure m = listed_at (one_more m.calls) m.failing

abbrev pub fault_of : Bool → FilesFault
fault_of true = Denied
fault_of false = Failed

abbrev pub outcome_of : Option Bool → Result Unit FilesFault
outcome_of None = Ok tt
outcome_of (Some denied) = Err (fault_of denied)

-- the failure that an answer is, and whether it is denied
abbrev pub failure_in : {T : Type 0} → Result T FilesFault → Option Bool
failure_in (Ok x) = None
failure_in (Err NotFound) = None
failure_in (Err Denied) = Some true
failure_in (Err Failed) = Some false
failure_in (Err Memory) = None

abbrev pub counted_by : Option Bool → MemoryValue → MemoryValue
counted_by None m = record m { calls = one_more m.calls }
counted_by (Some denied) m = record m { calls = one_more m.calls; faults = one_more m.faults }

-- the files after one more call
abbrev pub after_call : MemoryValue → MemoryValue
after_call m = counted_by (next_failure m) m
