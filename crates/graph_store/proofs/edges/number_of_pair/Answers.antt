use Rattle.std.proofs.Common.{[], List, length, sym, ◌∙◌, ap}
use Rattle.std.proofs.Math.Seq.{get_or-append_seam}
use Rattle.std.proofs.lemmas.List.Quantifiers.{position-Some}
use Rattle.graph_store.specs.declared.pairs.Ends.{Ends}
use Rattle.graph_store.specs.Ends.{same_ends, ends_at}
use Rattle.graph_store.proofs.edges.number_of_pair.Goals as goal
use Rattle.graph_store.proofs.LinkLaws.{same_ends-equal}

pub returns-clause-number : goal.returns-clause-number
returns-clause-number c =
    ap (ends_at c.add-pair.new.self.pairs) c.add-pair.ensures.number
    ∙ (ap (λ (ps : List Ends). ends_at ps (length c.args.pairs.now.pairs)) c.add-pair.ensures.pairs
    ∙ get_or-append_seam c.args.pairs.now.pairs c.args.ends [] (record { src = 0; dst = 0 }))

pub returns-in-Some-clause-number : goal.returns-in-Some-clause-number
returns-in-Some-clause-number c =
    let h = position-Some (same_ends c.args.ends) c.args.pairs.now.pairs c.in-Some.pair (record { src = 0; dst = 0 }) (sym c.in-Some.ensures.place) in
    sym (same_ends-equal c.args.ends (ends_at c.args.pairs.now.pairs c.in-Some.pair) h.1)
