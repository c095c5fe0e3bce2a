use Rattle.std.proofs.lemmas.Result.{on_ok_weaker}
use Rattle.view_trait.proofs.Covered.{Covers-whole}
use Rattle.query_answers.proofs.QueryBlocks.{row-and-part}
use Rattle.query_answers.proofs.view_block.add_world.Goals as goal

pub returns-clause-block : goal.returns-clause-block
returns-clause-block g c =
    on_ok_weaker c.add_part.result (λ added. row-and-part (g.V.View.world c.args.view.now) c.args.line c.args.ask.now c.args.out.now c.add_query.new.out c.add_part.new.out
    c.in_ok-add_query.ensures added) c.add_part.ensures.part

pub add_part-requires-clause-covers : goal.add_part-requires-clause-covers
add_part-requires-clause-covers g c = Covers-whole (g.V.View.contents c.args.view.now) (g.V.View.world c.args.view.now)
