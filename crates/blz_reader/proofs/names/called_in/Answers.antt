use Rattle.std.proofs.Common.{refl}
use Rattle.blz_reader.proofs.names.called_in.Goals as goal

pub returns-in-Ok : goal.returns-in-Ok
returns-in-Ok c = rw (c.in-Ok.ensures, c.first_called.ensures, c.functions.ensures) refl
