use Rattle.std.proofs.Common.{ap}
use Rattle.std.specs.Prelude.{Err}
use Rattle.graph_model.specs.Script.{Windows}
use Rattle.graph_store.specs.Contents.{base_of}
use Rattle.query_run.proofs.Blocks.{answered-added, asked-answered, asked-windows, refusal-added}
use Rattle.query_run.proofs.line_blocks.add_answer.Goals as goal

pub returns-in-Ok-clause-block : goal.returns-in-Ok-clause-block
returns-in-Ok-clause-block g c =
    let w = base_of c.args.store.now in
    answered-added w c.args.number c.args.query.now c.args.out.now.items c.answer_query.new.out.items
    (asked-answered w c.args.query.now c.in-Ok.ensures.few) c.in-Ok.ensures.block

pub returns-in_ok-refuse_query-in-Err-Windows-clause-block : goal.returns-in_ok-refuse_query-in-Err-Windows-clause-block
returns-in_ok-refuse_query-in-Err-Windows-clause-block g c =
    let w = base_of c.args.store.now in
    let many = c.in-Err-Windows.ensures.windows _ (ap Err c.in-Err-Windows.field-0-is) in
    refusal-added w c.args.number c.args.query.now Windows c.args.out.now.items c.answer_query.new.out.items c.refuse_query.new.out.items
    (asked-windows w c.args.query.now _ many.0 many.1) c.in-Err-Windows.ensures.unchanged c.in_ok-refuse_query-in-Err-Windows.ensures
