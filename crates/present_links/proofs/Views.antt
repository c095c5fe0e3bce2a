-- The links and the present nodes of the world that a view shows.
use Rattle.std.proofs.Common.{◌≡◌, ℕ, true, List, sym, ◌∙◌, ap, subst, inl, inr}
use Rattle.std.specs.List.{list_any}
use Rattle.std.proofs.lemmas.Bool.{cases_Bool}
use Rattle.graph_model.specs.declared.events.Entity.TheVariants.{Node}
use Rattle.graph_model.specs.declared.events.EdgeName.{EdgeName}
use Rattle.graph_model.specs.Names.{same_name}
use Rattle.graph_model.specs.World.{World}
use Rattle.graph_model.specs.Presence.{edge_present, node_present}
use Rattle.world_laws.proofs.Order.{same_name-refl}
use Rattle.world_laws.proofs.Nodes.{node_words}
use Rattle.world_laws.proofs.Present.{present_from_contact}
use Rattle.graph_store.specs.EdgeParts.{parts_at}
use Rattle.graph_store.specs.Contents.{Contents}
use Rattle.graph_store.proofs.Listed.{list_any-place}
use Rattle.view_trait.specs.Meaning.{IsShown, knows}
use Rattle.view_trait.proofs.Pairs.{present_number, unknown_shows_nothing}
use Rattle.present_links.specs.Links.{HasLinks, ShowsEdges, edge_shown, links_of, rising_links}
use Rattle.present_links.proofs.Shown.{shown_are_links}
use Rattle.present_links.proofs.Order.{links_rising}

module _ (c : Contents) (w : World) (h : IsShown c w) where
  shows_edges : ShowsEdges c w (edge_shown c w)
  shows_edges edge = (
    λ k. let r = present_number c w edge h k in (r.0, r.1, ap (edge_present w) r.2 ∙ k, r.2),
    λ r. ap (edge_present w) (sym r.3) ∙ r.2,
  )

  -- the pairs with an edge that is shown are the links of the world
  pub view_links : HasLinks w c.nodes (links_of c w)
  view_links = shown_are_links c h.indexed w (edge_shown c w) shows_edges

  pub view_links_rising : HasLinks w c.nodes (rising_links c w)
  view_links_rising = links_rising w c.nodes (links_of c w) view_links

  -- a present node has a number
  pub present_known : (b : List ℕ) → node_present w b ≡ true → list_any (same_name b) c.nodes ≡ true
  present_known b k = elim ((node_words w b h.lawful).0 k) [
    | inl some ↦ elim (cases_Bool (knows c (Node b))) [
      | inl e ↦ e
      | inr e ↦ absurd (some (unknown_shows_nothing c w (Node b) h e))
    ]
    | inr r ↦
        let s = present_number c w r.0 h (present_from_contact w r.0 r.2.0 h.lawful r.2.1) in
        let within = h.indexed.within s.0 s.1 in
        elim r.1 [
          | inl e ↦ list_any-place (same_name b) c.nodes (parts_at c.edges s.0).src _ within.0 (subst (λ z. same_name b z ≡ true) (sym (ap (λ (x : EdgeName). x.src) s.2 ∙ e)) (same_name-refl b))
          | inr e ↦ list_any-place (same_name b) c.nodes (parts_at c.edges s.0).dst _ within.1 (subst (λ z. same_name b z ≡ true) (sym (ap (λ (x : EdgeName). x.dst) s.2 ∙ e)) (same_name-refl b))
        ]
  ]
