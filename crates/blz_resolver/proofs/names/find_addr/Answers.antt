use Rattle.std.proofs.Common.{◌≡◌, ℕ, List, Option, Some, None, is_some, ap, ◌∙◌, subst}
use Rattle.blz_model.specs.Part.{Part, Gives}
use Rattle.blz_elf.specs.Infos.{Info, image_addresses}
use Rattle.blz_elf.specs.Sources.{Source}
use Rattle.blz_elf.specs.declared.find_addr_opts.FindAddrOpts.{FindAddrOpts}
use Rattle.blz_bundle.specs.BundleViews.{bundle_view}
use Rattle.blz_resolver.specs.FunctionNames.{addresses_of}
use Rattle.blz_bundle.specs.Images.{ImageSet}
use Rattle.blz_resolver.specs.Sources.{IsOf, asked_file}
use Rattle.blz_resolver.specs.declared.debug.debug_info.DebugInfo.{DebugInfo}
use Rattle.blz_resolver.proofs.names.find_addr.Goals as goal

symbols_of : (images : ImageSet) (o : Option DebugInfo) (s : Source) (name : List ℕ) (opts : FindAddrOpts) → o ≡ None → IsOf (asked_file images (is_some o)) s → image_addresses s.image s.module_name name opts.file_offset ≡ addresses_of images (is_some o) name opts
unfolding addresses_of
symbols_of images None s name opts e is =
    ap (λ (i : List ℕ). image_addresses i s.module_name name opts.file_offset) is.image
    ∙ ap (λ (m : Option (List ℕ)). image_addresses images.main.image m name opts.file_offset) is.module_name
symbols_of images (Some d) s name opts e is = absurd cc

pub returns-in-None-clause-value : goal.returns-in-None-clause-value
returns-in-None-clause-value g c =
    let P : Part (List Info) → Type 0 = λ p. Gives (λ v. v) c.find_addr-in-None.result p in
    subst P (symbols_of (bundle_view c.args.bundle.now) c.args.debug.now c.args.parser.now c.args.name.now c.args.opts.now c.in-None.is c.requires.parser) c.find_addr-in-None.ensures.value
