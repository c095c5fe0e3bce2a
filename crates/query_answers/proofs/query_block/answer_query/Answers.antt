use Rattle.graph_store.specs.Contents.{base_of}
use Rattle.query_answers.proofs.QueryBlocks.{block-added}
use Rattle.query_answers.proofs.query_block.answer_query.Goals as goal

pub returns-clause-block : goal.returns-clause-block
returns-clause-block g c =
    block-added (base_of c.args.store.now) c.args.line c.args.query.now c.args.out.now.items c.new-block.result c.add_seen_block.new.out c.append_rows.new.text.items
    c.new-block.ensures c.in_ok-add_seen_block.ensures.block c.in_ok-append_rows.ensures.ok
