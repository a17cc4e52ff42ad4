-- What the lists of functions and of calls stand for: their ranges, and whether their order was accepted.
use Rattle.std.specs.Prelude.{Bool, List}
use Rattle.blz_ranges.specs.declared.grouped.Grouped.{Grouped}
use Rattle.blz_ranges.specs.declared.span.Span.{Span}
use Rattle.blz_ranges.specs.Owned.{Owned}
use Rattle.blz_functions.specs.declared.functions.Function.{Function}
use Rattle.blz_functions.specs.declared.inlined_functions.InlinedFunction.{InlinedFunction}

-- the functions of a unit, and their ranges, each with the number of its function
pub record FunctionRanges : Type 0 where
  pub functions : List Function
  pub ranges : List (Owned Span)
  pub ordered : Bool

-- the inlined calls of a function, and their ranges in groups by depth, each with the number of its call
pub record CallRanges : Type 0 where
  pub calls : List InlinedFunction
  pub ranges : List (Owned Grouped)
  pub ordered : Bool
