use Rattle.std.proofs.Common.{take}
use Rattle.serde_json.specs.View.{view}
use Rattle.graph_model.specs.QueryOutcome.{all_of}
use Rattle.graph_model.specs.QueryPlaces.{name}
use Rattle.query_script.specs.Refusing.{Gives}
use Rattle.query_script.proofs.places.names.Given as goal

abbrev pub invariant-loop-item : goal.invariant-loop-item
invariant-loop-item l = Gives l.names (all_of (λ v. name (view v)) (take l.item-index l.items))
