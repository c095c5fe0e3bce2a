use Rattle.file_reading.proofs.Timelines.{type_added}
use Rattle.file_reading.proofs.reading.take_type.Goals as goal

pub returns-in-Ok-clause-rows : goal.returns-in-Ok-clause-rows
returns-in-Ok-clause-rows c =
    type_added c.args.read.now.store c.set_type.new.self c.args.read.now.timeline c.args.node c.args.kind
    c.nodes-indexed.ensures.indexed c.in-Ok.ensures.ok c.set_type.ensures.events c.set_type.ensures.model c.requires
