use Rattle.std.proofs.Common.{◌∙◌, arith}
use Rattle.blz_resolver.proofs.ReplySteps.{reply_more, replies_all}
use Rattle.blz_resolver.proofs.call_list.replies.Goals as goal

pub loop-command-preserved : goal.loop-command-preserved
loop-command-preserved g c =
    let k = c.loop-command.invariant in
    record {
      replies = rw c.in_ok-push.ensures.items (reply_more _ _ _ _ c.args.commands.now c.loop-command.command-index c.command-item.result _ c.call.result c.loop-command-test.true c.command-item.is k.same.images k.same.has_debug k.replies c.call.ensures.reply);
      same = record { images = c.call.ensures.same.images ∙ k.same.images; has_debug = c.call.ensures.same.has_debug ∙ k.same.has_debug };
    }

pub returns-clause-replies : goal.returns-clause-replies
returns-clause-replies g c = replies_all _ _ c.args.commands.now c.loop-command.command-index _ (omega (arith, c.loop-command-test.false)) c.loop-command.invariant.replies
