-- The tables of forms in two parts each, as they are looked up.
use Rattle.std.specs.Prelude.{drop}
use Rattle.graph_model.specs.declared.queries.Ask.{Ask}
use Rattle.graph_model.specs.declared.queries.Op.{Op}
use Rattle.graph_model.specs.QueryForms.{Forms, ask_forms, view_forms}

-- the views behind the four of moments: those that keep a part of the graph
abbrev pub keeping_forms : Forms Op
keeping_forms = drop 4 view_forms

-- the questions behind the eleven of all nodes and edges: those of one node or edge, and of the records
abbrev pub history_forms : Forms Ask
history_forms = drop 11 ask_forms
