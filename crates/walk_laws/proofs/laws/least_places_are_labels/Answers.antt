use Rattle.walk_laws.proofs.LabelFacts.{label_facts}
use Rattle.walk_laws.proofs.laws.least_places_are_labels.Goals as goal

pub returns : goal.returns
returns c = λ w least h. label_facts w least h
