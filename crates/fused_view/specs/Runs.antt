-- The merged views of a run.
use Rattle.std.specs.Prelude.{ℕ, ℤ, List, [], ◌∷◌, ◌++◌, Bool, true, Option, None, Some, bit_and}
use Rattle.std.specs.Int.{int_max, int_min}
use Rattle.view_trait.specs.declared.ready_ops.ReadyOp.{ReadyOp}
use Rattle.view_trait.specs.declared.ready_ops.ReadyOp.TheVariants.{Window, Layers, Subgraph, ExcludeNodes}
use Rattle.view_trait.specs.Numbered.{is_listed, keeps_number}
use Rattle.fused_view.specs.declared.run.Run.{Run}

-- the moments of a window, of another window where there is one
abbrev pub narrowed : Option (ℤ × ℤ) → ℤ × ℤ → ℤ × ℤ
narrowed None ends = ends
narrowed (Some window) ends = (int_max window.0 ends.0, int_min window.1 ends.1)

-- layers, of other layers where there are such
abbrev pub masked : Option ℕ → ℕ → ℕ
masked None bits = bits
masked (Some layers) bits = bit_and layers bits

-- whether a node is kept, where there is a list of the nodes that are kept, or of those that are not
abbrev pub passes : Bool → Option (List ℕ) → ℕ → Bool
passes keeps None n = true
passes keeps (Some nodes) n = keeps_number keeps (is_listed nodes n)

-- the views that a run has
abbrev pub window_views : Option (ℤ × ℤ) → List ReadyOp
window_views None = []
window_views (Some ends) = Window ends.0 ends.1 ∷ []

abbrev pub layer_views : Option ℕ → List ReadyOp
layer_views None = []
layer_views (Some bits) = Layers bits ∷ []

abbrev pub kept_views : Option (List ℕ) → List ReadyOp
kept_views None = []
kept_views (Some nodes) = Subgraph nodes ∷ []

abbrev pub dropped_views : Option (List ℕ) → List ReadyOp
dropped_views None = []
dropped_views (Some nodes) = ExcludeNodes nodes ∷ []

abbrev pub run_views : Run → List ReadyOp
run_views run =
    window_views run.window ++ (layer_views run.layers ++ (kept_views run.kept ++ dropped_views run.dropped))
