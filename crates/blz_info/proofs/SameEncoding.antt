-- Encodings are equal where their fields are.
use Rattle.std.proofs.Common.{◌≡◌}
use Rattle.blz_info.specs.declared.encoding.Encoding.{Encoding}

pub same_encoding : (a b : Encoding) → a.version ≡ b.version → a.wide ≡ b.wide → a.address_size ≡ b.address_size → a ≡ b
same_encoding a b version wide size = λ i. record { version = version i; wide = wide i; address_size = size i }
