-- What the link sections of an image say.
use Rattle.std.specs.Prelude.{ℕ, Bool, List, Option}

-- of `.gnu_debuglink`: a file's name and the checksum of its bytes
pub record DebugLinkValue : Type 0 where
  pub file : List ℕ
  pub checksum : ℕ

-- of `.gnu_debugaltlink`: a file's path and its build id
pub record DebugAltlinkValue : Type 0 where
  pub path : List ℕ
  pub build_id : List ℕ

-- of `.debug_sup`: in a file that has a supplementary file its path, and in both the checksum that ties them together
pub record DebugSupValue : Type 0 where
  pub version : ℕ
  pub is_supplementary : Bool
  pub path : Option (List ℕ)
  pub checksum : List ℕ
