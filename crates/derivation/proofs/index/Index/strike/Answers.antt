use Rattle.std.proofs.Common.{ltb, vec_len, ap, ◌∙◌}
use Rattle.derivation.specs.Indexing.{put_body}
use Rattle.derivation.proofs.Waking.{put_body_push, all_first}
use Rattle.derivation.proofs.index.Index.strike.Goals as goal

pub loop-literal-preserved : goal.loop-literal-preserved
loop-literal-preserved c =
    let front = c.next.new.self.iter.rest.now in
    let last = c.in-Some.literal.now in
    let steps = c.in-Some.ensures.steps in
    let inv = c.loop-literal.invariant in (
      c.take.ensures.atoms ∙ inv.0,
      all_first (λ x. ltb x.atom (vec_len c.args.self.now.woken)) _ front last steps inv.1,
      λ number before e. c.take.ensures.lists number (put_body number front before) (inv.2 number before e ∙ ap (λ ls. put_body number ls before) steps ∙ put_body_push number front last before),
    )
