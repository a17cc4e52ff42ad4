-- The plain scan: the frame of a bundle, then the answer of each address.
use Rattle.std.specs.Prelude.{ℕ, Bool, true, List, map}
use Rattle.blz_model.specs.Part.{Part, ◌>>=◌, all_good}
use Rattle.blz_model.specs.Answers.{Answer}
use Rattle.blz_elf.specs.declared.opts.FindSymOpts.{FindSymOpts}
use Rattle.blz_resolver.specs.AddressAnswers.{answer_of}
use Rattle.blz_resolver.specs.Books.{frame_of}
use Rattle.blz_bundle.specs.Images.{ImageSet}

-- the answer of an address by some options, of a bundle with debug information or without
abbrev pub answers_of : ImageSet → Bool → FindSymOpts → ℕ → Part Answer
answers_of images has_debug opts addr = answer_of images has_debug addr opts

-- the frame, then the answers in the order of the addresses
unfoldable pub scan_of : ImageSet → List ℕ → FindSymOpts → Part (List Answer)
scan_of images addrs opts = do
  book ← frame_of images
  all_good (map (answers_of images true opts) addrs)
