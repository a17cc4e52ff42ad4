use Rattle.std.proofs.Common.{map, string_bytes}
use Rattle.blz_program.proofs.Ends.{HasOutcome-finished, HasOutcome-known}
use Rattle.blz_program.specs.Outcomes.{line_for}
use Rattle.blz_program.specs.Runs.{TellsLine}
use Rattle.blz_program.specs.Runs as run
use Rattle.blz_resolver.specs.Counts.{Rose}
use Rattle.blz_tool.specs.CommandLine.{asked}
use Rattle.blz_tool.specs.Runs.{FilesFail, Finds, found_for, found_in, tool_texts}
use Rattle.blz_tool.specs.Summary.{summary}
use Rattle.blz_tool.proofs.Known.{demo_reads_none, known, known_demo, known_malformed, malformed_reads_none}
use Rattle.blz_tool.proofs.program.run.Goals as goal

pub returns-clause-caused : goal.returns-clause-caused
returns-clause-caused g c =
    HasOutcome-finished c.finish.result c.made_of_words-made.result (Finds (map string_bytes c.args.words.now) (g.F.Files.contents c.args.files.now))
    (g.S.Sink.taken c.args.out.now) (g.S.Sink.taken c.finish.new.out)
    (FilesFail (map string_bytes c.args.words.now) (Rose (g.F.Files.faults c.args.files.now) (g.F.Files.faults c.made_of_words-made.new.files)))
    (Rose (g.S.Sink.faults c.args.out.now) (g.S.Sink.faults c.finish.new.out))
    (Rose (g.E.Sink.faults c.args.err.now) (g.E.Sink.faults c.finish.new.err)) (g.E.Sink.taken c.args.err.now) (g.E.Sink.taken c.finish.new.err)
    _ tool_texts c.blz_tool.ensures c.made_of_words-made.ensures.made c.finish.ensures.ended

pub returns-clause-complete : goal.returns-clause-complete
returns-clause-complete g c taken contents is no_files no_out =
    HasOutcome-known c.finish.result (Finds (map string_bytes c.args.words.now) (g.F.Files.contents c.args.files.now)) (found_for contents (asked (map string_bytes c.args.words.now)))
    (g.S.Sink.taken c.args.out.now) (g.S.Sink.taken c.finish.new.out)
    (FilesFail (map string_bytes c.args.words.now) (Rose (g.F.Files.faults c.args.files.now) (g.F.Files.faults c.made_of_words-made.new.files)))
    (Rose (g.S.Sink.faults c.args.out.now) (g.S.Sink.faults c.finish.new.out))
    (λ o. TellsLine (Rose (g.E.Sink.faults c.args.err.now) (g.E.Sink.faults c.finish.new.err)) (g.E.Sink.taken c.args.err.now) (g.E.Sink.taken c.finish.new.err) (line_for tool_texts o))
    (returns-clause-caused g c)
    (λ found finds. known contents _ _ found is taken finds) (λ fails. no_files fails.counted) (λ failed. absurd (no_out failed))

pub returns-clause-demo : goal.returns-clause-demo
returns-clause-demo g c n asks taken out =
    HasOutcome-known c.finish.result (Finds (map string_bytes c.args.words.now) (g.F.Files.contents c.args.files.now)) (found_in (summary n))
    (g.S.Sink.taken c.args.out.now) (g.S.Sink.taken c.finish.new.out)
    (FilesFail (map string_bytes c.args.words.now) (Rose (g.F.Files.faults c.args.files.now) (g.F.Files.faults c.made_of_words-made.new.files)))
    (Rose (g.S.Sink.faults c.args.out.now) (g.S.Sink.faults c.finish.new.out))
    (λ o. TellsLine (Rose (g.E.Sink.faults c.args.err.now) (g.E.Sink.faults c.finish.new.err)) (g.E.Sink.taken c.args.err.now) (g.E.Sink.taken c.finish.new.err) (line_for tool_texts o))
    (returns-clause-caused g c)
    (λ found finds. known_demo _ _ n found asks taken finds) (demo_reads_none _ n _ asks) out

pub returns-clause-malformed : goal.returns-clause-malformed
returns-clause-malformed g c asks =
    HasOutcome-known c.finish.result (Finds (map string_bytes c.args.words.now) (g.F.Files.contents c.args.files.now)) run.Malformed
    (g.S.Sink.taken c.args.out.now) (g.S.Sink.taken c.finish.new.out)
    (FilesFail (map string_bytes c.args.words.now) (Rose (g.F.Files.faults c.args.files.now) (g.F.Files.faults c.made_of_words-made.new.files)))
    (Rose (g.S.Sink.faults c.args.out.now) (g.S.Sink.faults c.finish.new.out))
    (λ o. TellsLine (Rose (g.E.Sink.faults c.args.err.now) (g.E.Sink.faults c.finish.new.err)) (g.E.Sink.taken c.args.err.now) (g.E.Sink.taken c.finish.new.err) (line_for tool_texts o))
    (returns-clause-caused g c)
    (λ found finds. known_malformed _ _ found asks finds) (malformed_reads_none _ _ asks) (λ failed text. text)
