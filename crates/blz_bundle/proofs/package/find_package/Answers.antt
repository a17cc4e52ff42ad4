use Rattle.std.proofs.Common.{◌≡◌, ap, string_bytes}
use Rattle.blz_bundle.specs.Packages.{package_path}
use Rattle.blz_bundle.specs.OwnedViews.{file_at}
use Rattle.blz_bundle.specs.Opened.{Found}
use Rattle.blz_bundle.proofs.Findings.{read_finds, read_lacks}
use Rattle.blz_bundle.proofs.Packages.{package_at}
use Rattle.blz_bundle.proofs.package.find_package.Goals as goal

pub returns-in-Ok-clause-value : goal.returns-in-Ok-clause-value
returns-in-Ok-clause-value g c =
    let at : string_bytes c.push_str.new.self ≡ package_path (string_bytes c.args.main.now.path) = search (c.in_ok-push_str.ensures.bytes, c.in_ok-path.ensures.ok, c.deref.ensures) in
    read_finds _ _ _ c.in-Ok.image _ _ c.deref-2.ensures c.in-Ok.ensures.told (λ a e. ap Found (package_at a (file_at c.args.main.now) (string_bytes c.push_str.new.self) _ at e))

pub returns-in-Err-NotFound-clause-value : goal.returns-in-Err-NotFound-clause-value
returns-in-Err-NotFound-clause-value g c =
    let at : string_bytes c.push_str.new.self ≡ package_path (string_bytes c.args.main.now.path) = search (c.in_ok-push_str.ensures.bytes, c.in_ok-path.ensures.ok, c.deref.ensures) in
    read_lacks _ _ _ _ c.in-Err-NotFound.field-0 _ _ c.deref-2.ensures c.in-Err-NotFound.field-0-is c.in-Err-NotFound.ensures.told (λ a e. ap Found (package_at a (file_at c.args.main.now) (string_bytes c.push_str.new.self) _ at e))
