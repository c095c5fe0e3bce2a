use Rattle.std.proofs.Common.{◌≡◌, take}
use Rattle.view_lists.specs.Types.{types_listed}
use Rattle.materialise.proofs.type_list.copied_types.Given as goal

abbrev pub invariant-loop-one : goal.invariant-loop-one
invariant-loop-one l = l.types ≡ types_listed (take l.one-index l.typed)
