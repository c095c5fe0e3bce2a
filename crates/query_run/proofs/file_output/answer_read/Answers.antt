use Rattle.std.proofs.Common.{◌≡◌, ◌∙◌, sym, length, map, vec_len, rules}
use Rattle.std.proofs.lemmas.List.{length-map}
use Rattle.graph_model.specs.Script.{lines_of}
use Rattle.graph_store.specs.Contents.{base_of}
use Rattle.file_reading.specs.StoreReading.{refused_of}
use Rattle.query_run.proofs.Outputs.{text-whole}
use Rattle.query_run.proofs.file_output.answer_read.Goals as goal

pub returns-clause-text : goal.returns-clause-text
returns-clause-text g c =
    let read = c.args.read.now in
    let items = c.as_slice.ensures.value in
    let size : vec_len read.refused ≡ length read.refused.items = search rules in
    let count : c.len.result ≡ length (map refused_of read.refused.items) = c.len.ensures ∙ size ∙ sym (length-map read.refused.items refused_of) in
    let first = rw items at c.in_ok-add_all_refused.ensures in
    let second = rw (c.model.ensures, c.bounds.ensures, c.events.ensures.len, count) at c.in_ok-add_graph.ensures in
    text-whole read c.args.script.now c.new-head.result c.add_all_refused.new.out c.add_graph.new.out c.in_ok-text.text.items c.add_lines.new.out.items
    c.new-head.ensures first second c.in_ok-text.ensures c.in_ok-lines_clean.ensures.blocks
