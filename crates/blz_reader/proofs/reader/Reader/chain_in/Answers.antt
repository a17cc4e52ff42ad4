use Rattle.std.proofs.Common.{List, subst}
use Rattle.blz_model.specs.Part.{Part, Gives}
use Rattle.blz_functions.specs.declared.inlined_functions.InlinedFunction.{InlinedFunction}
use Rattle.blz_reader.specs.Readers.{reader_files, reader_table}
use Rattle.blz_reader.proofs.KeptTold.{chain_is}
use Rattle.blz_reader.proofs.reader.Reader.chain_in.Goals as goal

pub returns-clause-value : goal.returns-clause-value
returns-clause-value g c =
    let f = reader_files c.args.self.now in
    let t = reader_table c.args.self.now in
    subst (λ (p : Part (List InlinedFunction)). Gives (λ v. v.items) c.chain_at.result p) (chain_is f t c.fill_calls.new.caches.units.items c.args.addr c.args.number c.args.function c.fill_calls.ensures.fills.fillable.fits.units c.in_ok-fill_calls.ensures.filled) (rw c.as_slice.ensures.value at c.chain_at.ensures)
