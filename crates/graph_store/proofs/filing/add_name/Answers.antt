use Rattle.std.proofs.Common.{arith}
use Rattle.graph_model.specs.Names.{same_name}
use Rattle.graph_store.proofs.Readers.{nowhere}
use Rattle.graph_store.proofs.Results.{interned, if_ok}
use Rattle.graph_store.proofs.filing.add_name.Goals as goal

pub returns-clause-names : goal.returns-clause-names
returns-clause-names c =
    let absent = nowhere (same_name c.args.name) c.args.names.now.names c.requires.new in
    if_ok c.intern.result
    (interned c.intern.result
    (λ e. let full = (c.intern.ensures.full.0 e).1 in let few = c.requires.few in absurd (omega arith))
    (λ e. let none = c.intern.ensures.memory e in let room = c.requires.room in absurd (omega arith)))
    (c.intern.ensures.new absent) (λ id h. h.1)
