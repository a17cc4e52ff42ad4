use Rattle.std.proofs.Common.{◌≡◌, ◌++◌, append_assoc}
use Rattle.std.specs.Prelude.{codes}
use Rattle.blz_error.specs.Texts.{Bytes}
use Rattle.blz_program.specs.PrintedText.{hex_digits, line_feed}
use Rattle.blz_listings.specs.SourcePlaces.{place_text}
use Rattle.blz_listings.proofs.texts.push_row.Goals as goal

in_turn : (out a b c d e whole address blank end place stop : Bytes) → a ≡ out ++ address → b ≡ a ++ blank → c ≡ b ++ end → d ≡ c ++ blank → e ≡ d ++ place → whole ≡ e ++ stop
    → whole ≡ out ++ (address ++ blank ++ end ++ blank ++ place ++ stop)
in_turn out a b c d e whole address blank end place stop first second third fourth fifth last = rw (last, fifth, fourth, third, second, first) (simp append_assoc)

pub returns : goal.returns
returns c =
    let row = c.args.row.now in
    in_turn c.args.out.now.items c.push_hex.new.out.items c.push.new.self.items c.push_hex-2.new.out.items c.push-2.new.self.items c.push_place.new.out.items c.push-3.new.self.items
    (hex_digits row.address) (codes " ") (hex_digits row.end) (place_text row.path.items row.line) line_feed
    c.in_ok-push_hex.ensures.ok c.in_ok-push.ensures.items c.in_ok-push_hex-2.ensures.ok c.in_ok-push-2.ensures.items (rw c.deref.ensures.value at c.in_ok-push_place.ensures) c.in_ok-push-3.ensures.items
