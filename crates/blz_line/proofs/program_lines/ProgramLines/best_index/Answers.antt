use Rattle.blz_line.proofs.program_lines.ProgramLines.best_index.Goals as goal

pub returns : goal.returns
returns c = rw (← c.self.view_is) (rw c.self.invariant.index at (rw c.deref.ensures at c.find.ensures))
