use Rattle.std.proofs.Common.{rules}
use Rattle.blz_resolver.proofs.NumberedSections.{located_numbered}
use Rattle.blz_resolver.proofs.debug.debug_data.section_of.Goals as goal

pub returns-in_err-number-clause-value : goal.returns-in_err-number-clause-value
returns-in_err-number-clause-value c = rw (located_numbered c.args.parser.now.image c.args.section) (search rules)

pub returns-in_err-bytes-clause-value : goal.returns-in_err-bytes-clause-value
returns-in_err-bytes-clause-value c = rw (located_numbered c.args.parser.now.image c.args.section) (search rules)

pub returns-clause-value : goal.returns-clause-value
returns-clause-value c = rw (located_numbered c.args.parser.now.image c.args.section) (search rules)
