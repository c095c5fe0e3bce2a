-- Kinds of updates.
use Rattle.std.specs.Prelude.{Bool, true, false}
use Rattle.time_history.specs.declared.updates.Kind.{Kind}
use Rattle.time_history.specs.declared.updates.Kind.TheVariants.{Node, Add, Delete}

abbrev pub is_add : Kind → Bool
is_add Node = false
is_add Add = true
is_add Delete = false
