-- What the links of the code stand for.
use Rattle.std.specs.Option.{option_map}
use Rattle.blz_links.specs.LinkValues.{DebugLinkValue, DebugAltlinkValue, DebugSupValue}
use Rattle.blz_links.specs.declared.recorded.debug_link.DebugLink.{DebugLink}
use Rattle.blz_links.specs.declared.recorded.debug_altlink.DebugAltlink.{DebugAltlink}
use Rattle.blz_links.specs.declared.recorded.debug_sup.DebugSupInfo.{DebugSupInfo}

abbrev pub link_view : DebugLink → DebugLinkValue
link_view link = record { file = link.file.now; checksum = link.checksum }

abbrev pub altlink_view : DebugAltlink → DebugAltlinkValue
altlink_view link = record { path = link.path.now; build_id = link.build_id.now }

abbrev pub sup_view : DebugSupInfo → DebugSupValue
sup_view sup = record {
  version = sup.version;
  is_supplementary = sup.is_supplementary;
  path = option_map (λ path. path.now) sup.path;
  checksum = sup.checksum.now;
}
