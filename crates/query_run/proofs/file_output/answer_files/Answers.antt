use Rattle.graph_model.specs.Reading.{reading}
use Rattle.graph_store.specs.Contents.{base_of}
use Rattle.query_answers.specs.Cost.{size_of}
use Rattle.query_run.proofs.Counted.{counted_steps-all, counted_steps-read}
use Rattle.query_run.proofs.Outputs.{all_clean, all_outputs, base-read}
use Rattle.query_run.proofs.Sizes.{size_of-reading_of}
use Rattle.query_run.proofs.file_output.answer_files.Goals as goal

pub returns-clause-text : goal.returns-clause-text
returns-clause-text g c =
    all_outputs c.args.model c.args.events.now c.args.script.now c.answer_read-answer.result c.in_ok-read.read c.in_ok-read.ensures.told c.in_ok-read.ensures.model c.answer_read-answer.ensures.text

pub returns-clause-clean : goal.returns-clause-clean
returns-clause-clean g c =
    all_clean c.args.model c.args.events.now c.args.script.now c.answer_read-answer.result c.in_ok-read.read c.in_ok-read.ensures.told c.in_ok-read.ensures.model c.answer_read-answer.ensures.clean

pub returns-in_err-read-clause-cost : goal.returns-in_err-read-clause-cost
returns-in_err-read-clause-cost g c = λ counted. counted_steps-read c.args.model c.args.events.now c.args.script.now c.args.steps.now c.read_events.new.steps c.in_err-read.ensures.cost

pub returns-clause-cost : goal.returns-clause-cost
returns-clause-cost g c =
    let read = c.in_ok-read.read in
    counted_steps-all c.args.model (base_of read.store) c.args.events.now c.args.script.now (size_of read.store) c.args.steps.now c.read_events.new.steps c.answer_read-answer.new.steps
    (base-read c.args.model read c.args.events.now c.in_ok-read.ensures.told c.in_ok-read.ensures.model) (size_of-reading_of read (reading c.args.model c.args.events.now) c.in_ok-read.ensures.indexed c.in_ok-read.ensures.told) c.in_ok-read.ensures.cost c.answer_read-answer.ensures.cost
