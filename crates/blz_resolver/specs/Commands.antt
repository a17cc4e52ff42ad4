-- The calls of a resolver, and the replies to them.
use Rattle.std.specs.Prelude.{◌≡◌, Bool, List, [], ◌∷◌, string_bytes, ⊤, IfErr}
use Rattle.blz_error.specs.declared.kind.ErrorKind.TheVariants.{OutOfMemory}
use Rattle.blz_model.specs.Part.{Gives, Exactly}
use Rattle.blz_elf.specs.AnswerView.{answer_view}
use Rattle.blz_image.specs.Segments.{image_address_of}
use Rattle.blz_resolver.specs.AddressAnswers.{answer_of}
use Rattle.blz_resolver.specs.FunctionNames.{addresses_of}
use Rattle.blz_bundle.specs.Images.{ImageSet}
use Rattle.blz_resolver.specs.UnitRowsRead.{unit_count_of}
use Rattle.blz_resolver.specs.declared.call_list.Command.{Command}
use Rattle.blz_resolver.specs.declared.call_list.Command.TheVariants as command
use Rattle.blz_resolver.specs.declared.call_list.Reply.{Reply}
use Rattle.blz_resolver.specs.declared.call_list.Reply.TheVariants as reply

-- The reply to a call is settled by the bundle, by whether there is debug information, and by the call alone.
abbrev pub IsReply : ImageSet → Bool → Command → Reply → Type 0
IsReply images has_debug (command.FindSym addr opts) (reply.Symbol r) = Gives answer_view r (answer_of images has_debug addr opts)
IsReply images has_debug (command.FindSym addr opts) (reply.Addresses r) = ⊥
IsReply images has_debug (command.FindSym addr opts) (reply.Place r) = ⊥
IsReply images has_debug (command.FindSym addr opts) (reply.Count n) = ⊥
IsReply images has_debug (command.FindSym addr opts) (reply.Prepared r) = ⊥
IsReply images has_debug (command.FindAddr name opts) (reply.Addresses r) = Gives (λ v. v) r (addresses_of images has_debug (string_bytes name) opts)
IsReply images has_debug (command.FindAddr name opts) (reply.Symbol r) = ⊥
IsReply images has_debug (command.FindAddr name opts) (reply.Place r) = ⊥
IsReply images has_debug (command.FindAddr name opts) (reply.Count n) = ⊥
IsReply images has_debug (command.FindAddr name opts) (reply.Prepared r) = ⊥
IsReply images has_debug (command.FileOffset place) (reply.Place r) = Exactly (λ o. o) r (image_address_of images.main.image place)
IsReply images has_debug (command.FileOffset place) (reply.Symbol r) = ⊥
IsReply images has_debug (command.FileOffset place) (reply.Addresses r) = ⊥
IsReply images has_debug (command.FileOffset place) (reply.Count n) = ⊥
IsReply images has_debug (command.FileOffset place) (reply.Prepared r) = ⊥
IsReply images has_debug command.UnitCount (reply.Count n) = n ≡ unit_count_of images has_debug
IsReply images has_debug command.UnitCount (reply.Symbol r) = ⊥
IsReply images has_debug command.UnitCount (reply.Addresses r) = ⊥
IsReply images has_debug command.UnitCount (reply.Place r) = ⊥
IsReply images has_debug command.UnitCount (reply.Prepared r) = ⊥
IsReply images has_debug command.Prepare (reply.Prepared r) = IfErr r (λ e. e.kind ≡ OutOfMemory)
IsReply images has_debug command.Prepare (reply.Symbol r) = ⊥
IsReply images has_debug command.Prepare (reply.Addresses r) = ⊥
IsReply images has_debug command.Prepare (reply.Place r) = ⊥
IsReply images has_debug command.Prepare (reply.Count n) = ⊥

-- one reply to each call, in their order
abbrev pub AreReplies : ImageSet → Bool → List Command → List Reply → Type 0
AreReplies images has_debug [] [] = ⊤
AreReplies images has_debug [] (r ∷ replies) = ⊥
AreReplies images has_debug (c ∷ commands) [] = ⊥
AreReplies images has_debug (c ∷ commands) (r ∷ replies) = IsReply images has_debug c r × AreReplies images has_debug commands replies
