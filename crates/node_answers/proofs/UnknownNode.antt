-- Names that a store has, and names that are of no present node, since it does not.
use Rattle.std.proofs.Common.{◌≡◌, ◌∙◌, ℕ, false, List, [], sym}
use Rattle.std.specs.Prelude.{None, Some, position}
use Rattle.std.proofs.lemmas.Bool.{false_from_ne_true, true≢false}
use Rattle.std.proofs.lemmas.List.Quantifiers.{position-Some}
use Rattle.graph_model.specs.Names.{same_name}
use Rattle.graph_model.specs.Presence.{node_present}
use Rattle.graph_model.specs.World.{World}
use Rattle.world_laws.proofs.Order.{same_name-exact}
use Rattle.graph_store.specs.Contents.{Contents, name_at}
use Rattle.graph_store.proofs.Readers.{none_found}
use Rattle.view_trait.specs.Meaning.{IsShown}
use Rattle.present_links.proofs.Views.{present_known}

pub unknown_absent : (c : Contents) (w : World) → IsShown c w → (name : List ℕ) → position (same_name name) c.nodes ≡ None → node_present w name ≡ false
unknown_absent c w h name e = false_from_ne_true (node_present w name) (λ present. true≢false (sym (present_known c w h name present) ∙ none_found (same_name name) c.nodes e))

pub named_at : (c : Contents) (name : List ℕ) (n : ℕ) → position (same_name name) c.nodes ≡ Some n → name ≡ name_at c.nodes n
named_at c name n e = same_name-exact name (name_at c.nodes n) (position-Some (same_name name) c.nodes n [] e).1
