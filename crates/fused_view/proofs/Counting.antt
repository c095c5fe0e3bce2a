-- The searches of a list of views, one view more at a time.
use Rattle.std.proofs.Common.{◌≡◌, ℕ, ◌+◌, ◌<◌, List, [], ◌∷◌, length, map, take, ◌∙◌, ap}
use Rattle.std.specs.Prelude.{slice_get, Some}
use Rattle.std.proofs.lemmas.List.{map-append}
use Rattle.graph_model.specs.Searches.{searches, searches_with}
use Rattle.world_laws.proofs.Fused.{searches_over-push}
use Rattle.view_trait.specs.declared.ready_ops.ReadyOp.{ReadyOp}
use Rattle.view_trait.specs.Ready.{ready_kind}
use Rattle.view_trait.proofs.Selected.{take_push}

-- one more view of a list
pub searches_push : (ops : List ReadyOp) (i : ℕ) (op : ReadyOp) → i < length ops → slice_get ops i ≡ Some op
    → searches (map ready_kind (take (i + 1) ops)) ≡ searches_with (searches (map ready_kind (take i ops))) (ready_kind op)
searches_push ops i op lt at =
    ap (λ os. searches (map ready_kind os)) (take_push ops i op lt at)
    ∙ (ap searches (map-append ready_kind (take i ops) (op ∷ []))
    ∙ searches_over-push (record { nodes = 0; edges = 0 }) (map ready_kind (take i ops)) (ready_kind op))
