use Rattle.view_trait.specs.Meaning.{HasLayers}
use Rattle.stack_view.specs.Below.{below}
use Rattle.stack_view.proofs.view.StackViewView.layers_kept.Given as goal

abbrev pub invariant-loop-i : goal.invariant-loop-i
invariant-loop-i l = HasLayers l.self.store.now (below l.self.store.now l.self.ops.now l.i) l.kept
