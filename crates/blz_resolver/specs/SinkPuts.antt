-- What a sink in memory holds, and what a put on it does.
use Rattle.std.specs.Prelude.{ℕ, ◌-◌, ◌==◌, ◌&&◌, ◌||◌, not, nat_le, Bool, false, List, ◌++◌, length, take, min, Option, Some, None, Result, Ok, Err, if◌then◌else◌}
use Rattle.std.specs.Option.{option_map_or}
use Rattle.blz_links.specs.Counts.{one_more}
use Rattle.blz_resolver.specs.declared.outside.sink.SinkFault.{SinkFault}
use Rattle.blz_resolver.specs.declared.outside.sink.SinkFault.TheVariants.{Failed}

pub record SinkValue : Type 0 where
  pub bytes : List ℕ
  pub room : ℕ
  pub chunk : ℕ
  pub puts : ℕ
  pub failing : Option ℕ
  pub faults : ℕ

-- the least number from which the puts fail
abbrev pub earliest : Option ℕ → ℕ → ℕ
earliest None call = call
earliest (Some first) call = min first call

-- how many bytes a put that does not fail takes
abbrev pub count_taken : SinkValue → List ℕ → ℕ
count_taken s piece = min (length piece) (min s.chunk (s.room - length s.bytes))

-- the next put has a number from which the puts fail
abbrev pub is_failing : SinkValue → Bool
is_failing s = option_map_or (λ first. nat_le first (one_more s.puts)) s.failing false

-- there are bytes, and no room
abbrev pub is_full : SinkValue → List ℕ → Bool
is_full s piece = not (length piece == 0) && (s.room - length s.bytes == 0)

abbrev pub refuses : SinkValue → List ℕ → Bool
refuses s piece = is_failing s || is_full s piece

abbrev pub put_result : SinkValue → List ℕ → Result ℕ SinkFault
put_result s piece = if refuses s piece then Err Failed else Ok (count_taken s piece)

abbrev pub after_put : SinkValue → List ℕ → SinkValue
after_put s piece =
    if refuses s piece then record s { puts = one_more s.puts; faults = one_more s.faults }
    else record s { puts = one_more s.puts; bytes = s.bytes ++ take (count_taken s piece) piece }
