use Rattle.std.proofs.Common.{take}
use Rattle.blz_resolver.specs.Commands.{AreReplies}
use Rattle.blz_resolver.specs.Resolver.{SameBundle, has_debug}
use Rattle.blz_resolver.proofs.call_list.replies.Given as goal

abbrev pub invariant-loop-command : goal.invariant-loop-command
invariant-loop-command g l = record {
  replies : AreReplies l.fn.resolver.images (has_debug l.fn.resolver) (take l.command-index l.commands) l.replies.items;
  same : SameBundle l.fn.resolver l.resolver;
}
