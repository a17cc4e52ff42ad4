-- Files in memory have a stamp for each path that was put on, and for no other.
use Rattle.std.specs.Prelude.{◌≡◌, Bool, true, false, cond, List, [], ◌∷◌, Option, Some, is_some}
use Rattle.std.proofs.Common.{refl, sym, ap, ◌∙◌}
use Rattle.std.specs.Cmp.Lexicographic.{nat_list_cmp_total}
use Rattle.std.specs.FinMap as map
use Rattle.blz_error.specs.Texts.{Bytes}
use Rattle.blz_links.specs.Contents.{PathMap}
use Rattle.blz_links.specs.MemoryPuts.{MemoryValue, contents_of, stamps_of, stamp_entries}

abbrev holds : {X : Type 0} → PathMap X → Bytes → Bool
holds m path = map.contains_key m path

-- a key is there where it is that of the front, or it was there before
front_or : {A B : Type 0} (front : Bool) (x : A) (y : B) (o : Option A) (p : Option B) → is_some o ≡ is_some p → is_some (cond front (Some x) o) ≡ is_some (cond front (Some y) p)
front_or true x y o p same = refl
front_or false x y o p same = same

same_keys : (puts : List (Bytes × Bytes)) (path : Bytes) → holds (map.from_entries puts) path ≡ holds (map.from_entries (stamp_entries puts)) path
same_keys [] path = ap is_some (map.get-empty _ path) ∙ sym (ap is_some (map.get-empty _ path))
same_keys (e ∷ es) path =
    ap is_some (map.get-insert nat_list_cmp_total _ e.0 e.1 path)
    ∙ front_or _ e.1 _ _ _ (same_keys es path)
    ∙ sym (ap is_some (map.get-insert nat_list_cmp_total _ e.0 _ path))

pub same_paths : (m : MemoryValue) (path : Bytes) → map.contains_key (contents_of m) path ≡ map.contains_key (stamps_of m) path
same_paths m path = same_keys m.puts path
