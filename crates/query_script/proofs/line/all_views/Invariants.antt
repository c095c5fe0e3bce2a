use Rattle.std.proofs.Common.{take}
use Rattle.serde_json.specs.View.{view}
use Rattle.graph_model.specs.QueryForms.{view_said}
use Rattle.graph_model.specs.QueryOutcome.{all_of}
use Rattle.query_script.specs.Refusing.{Gives}
use Rattle.query_script.proofs.line.all_views.Given as goal

abbrev pub invariant-loop-item : goal.invariant-loop-item
invariant-loop-item l = Gives l.views (all_of (λ v. view_said (view v)) (take l.item-index l.items))
