-- The causes of refusals of queries, in the words of what a script says.
use Rattle.graph_model.specs.Script as unanswered
use Rattle.graph_model.specs.Script.{QueryRefusal}
use Rattle.query_run.specs.declared.query_causes.QueryCause.{QueryCause}
use Rattle.query_run.specs.declared.query_causes.QueryCause.TheVariants as query_cause

-- the refusal of a query for a cause
abbrev pub query_refusal_of : QueryCause → QueryRefusal
query_refusal_of query_cause.Json = unanswered.Json
query_refusal_of query_cause.Shape = unanswered.Shape
query_refusal_of query_cause.Number = unanswered.Number
query_refusal_of query_cause.Depth = unanswered.Depth
query_refusal_of query_cause.Windows = unanswered.Windows
