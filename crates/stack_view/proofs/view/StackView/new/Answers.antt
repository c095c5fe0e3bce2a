use Rattle.stack_view.proofs.view.StackView.new.Goals as goal

pub invariant_of-result : goal.invariant_of-result
invariant_of-result c = record { shown = c.store_facts.ensures; in_range = c.requires }
