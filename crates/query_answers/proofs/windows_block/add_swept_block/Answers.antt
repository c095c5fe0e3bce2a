use Rattle.std.proofs.Common.{◌∙◌, List, Some, subst}
use Rattle.graph_model.specs.Windows.{windows}
use Rattle.graph_model.specs.World.{World}
use Rattle.query_answers.specs.Blocks.{AddsParts}
use Rattle.query_answers.proofs.QueryBlocks.{as-many, row-and-parts}
use Rattle.query_answers.proofs.windows_block.add_swept_block.Goals as goal

pub returns-clause-block : goal.returns-clause-block
returns-clause-block g c =
    let w = g.V.View.world c.args.view.now in
    let given = c.in_ok-windows.ensures.windows in
    row-and-parts (windows w (Some c.args.each)) c.args.line c.len.result c.args.ask.now c.args.out.now c.add_query.new.out c.add_swept.new.out
    (c.len.ensures ∙ as-many w c.args.each c.in_ok-windows.windows given) c.in_ok-add_query.ensures
    (subst (λ (worlds : List World). AddsParts worlds c.args.ask.now c.add_query.new.out c.add_swept.new.out) given c.in_ok-add_swept.ensures.parts)

pub ends_from_to-requires-clause-first : goal.ends_from_to-requires-clause-first
ends_from_to-requires-clause-first g c = c.first_time.ensures (g.V.View.contents c.args.view.now) (g.V.View.world c.args.view.now) c.requires.over

pub ends_from_to-requires-clause-last : goal.ends_from_to-requires-clause-last
ends_from_to-requires-clause-last g c = c.last_time.ensures (g.V.View.contents c.args.view.now) (g.V.View.world c.args.view.now) c.requires.over
