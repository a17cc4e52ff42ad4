use Rattle.std.proofs.Common.{◌∙◌}
use Rattle.blz_symbols.proofs.Search.{typed_filter, covering_typed}
use Rattle.blz_symbols.proofs.sorted.Sorted.covering.Goals as goal

pub search-requires-clause-typed : goal.search-requires-clause-typed
search-requires-clause-typed c = rw (c.deref.ensures.value) (typed_filter _ c.args.symbols.now c.requires.typed)

pub returns-in-Some : goal.returns-in-Some
returns-in-Some c = c.search.ensures ∙ rw (c.deref.ensures.value) (covering_typed _ c.args.symbols.now c.args.question.now c.requires.typed)
