use Rattle.std.proofs.Common.{◌≡◌, ◌++◌, append_assoc}
use Rattle.std.specs.Prelude.{codes}
use Rattle.blz_error.specs.Texts.{Bytes}
use Rattle.blz_program.specs.PrintedText.{hex_digits, line_feed}
use Rattle.blz_listings.specs.FindTexts.{offset_if, size_text}
use Rattle.blz_listings.proofs.find_texts.push_info.Goals as goal

in_turn : (out a b c d e f whole address blank size offset name stop : Bytes)
    → a ≡ out ++ address → b ≡ a ++ blank → c ≡ b ++ size → d ≡ c ++ offset → e ≡ d ++ blank → f ≡ e ++ name → whole ≡ f ++ stop
    → whole ≡ out ++ (address ++ blank ++ size ++ offset ++ blank ++ name ++ stop)
in_turn out a b c d e f whole address blank size offset name stop first second third fourth fifth sixth last =
    rw (last, sixth, fifth, fourth, third, second, first) (simp append_assoc)

pub returns : goal.returns
returns c =
    let info = c.args.info.now in
    in_turn c.args.out.now.items c.push_hex.new.out.items c.push.new.self.items c.push_size.new.out.items c.push_offset_if.new.out.items c.push-2.new.self.items c.extend_from_slice.new.self.items c.push-3.new.self.items
    (hex_digits info.addr) (codes " ") (size_text info.size) (offset_if c.args.asked info.file_offset) info.name.now line_feed
    c.in_ok-push_hex.ensures.ok c.in_ok-push.ensures.items c.in_ok-push_size.ensures c.in_ok-push_offset_if.ensures c.in_ok-push-2.ensures.items (rw c.as_bytes.ensures.value at c.in_ok-extend_from_slice.ensures.items) c.in_ok-push-3.ensures.items
