use Rattle.std.proofs.Common.{◌≡◌, ◌∙◌, ap, arith, map, subst, sym}
use Rattle.graph_model.specs.Rising.{Rises, rising}
use Rattle.world_laws.proofs.RisingItems.{Rises-rising}
use Rattle.present_links.specs.declared.link_list.Link.{Link}
use Rattle.present_links.specs.Links.{ends_cmp, ends_in}
use Rattle.present_links.specs.Adjacent.{AreAdjacent, ways_before, ways_of}
use Rattle.present_links.proofs.Order.{ends_total, ends_exact}
use Rattle.present_links.proofs.Ways.{dst_of_links, offsets, side_by_side}
use Rattle.present_links.proofs.neighbour_rows.adjacent.Goals as goal

pub starts_of-requires : goal.starts_of-requires
starts_of-requires c =
    let nodes = c.in_ok-nodes.nodes.items in
    let is : ends_in c.in_ok-ways.ways.items ≡ rising ends_cmp (ways_of nodes c.args.direction c.args.links.now) =
    c.in_ok-ways.ensures ∙ ap (λ ns. rising ends_cmp (ways_of ns c.args.direction c.args.links.now)) c.as_slice.ensures.value in
    record {
      rise = subst (λ l. Rises ends_cmp (ends_in l)) (sym c.as_slice-2.ensures.value)
          (subst (Rises ends_cmp) (sym is) (Rises-rising ends_cmp ends_total (ways_of nodes c.args.direction c.args.links.now)));
    }

pub from_parts-requires : goal.from_parts-requires
from_parts-requires c =
    let nodes = c.in_ok-nodes.nodes.items in
    let is : ends_in c.in_ok-ways.ways.items ≡ rising ends_cmp (ways_of nodes c.args.direction c.args.links.now) =
    c.in_ok-ways.ensures ∙ ap (λ ns. rising ends_cmp (ways_of ns c.args.direction c.args.links.now)) c.as_slice.ensures.value in
    offsets c.args.links.now c.args.direction nodes c.in_ok-nodes.ensures.rise c.in_ok-nodes.ensures.nodes (ends_in c.in_ok-ways.ways.items)
    (subst (Rises ends_cmp) (sym is) (Rises-rising ends_cmp ends_total (ways_of nodes c.args.direction c.args.links.now))) is ends_exact c.in_ok-starts.starts.items
    (let count = c.in_ok-starts.ensures.count in let long = c.len.ensures in omega (arith, count, long, c.in_ok-nodes.nodes.ok.0))
    (λ v le. c.in_ok-starts.ensures.starts v (let long = c.len.ensures in omega (arith, le, long, c.in_ok-nodes.nodes.ok.0)) ∙ ap (λ l. ways_before (ends_in l) v) c.as_slice-2.ensures.value)
    c.in_ok-others.others.items
    (c.in_ok-others.ensures ∙ (ap (map (λ (l : Link). l.dst)) c.as_slice-3.ensures.value ∙ dst_of_links c.in_ok-ways.ways.items))

pub returns : goal.returns
returns c =
    let nodes = c.in_ok-nodes.nodes.items in
    let is : ends_in c.in_ok-ways.ways.items ≡ rising ends_cmp (ways_of nodes c.args.direction c.args.links.now) =
    c.in_ok-ways.ensures ∙ ap (λ ns. rising ends_cmp (ways_of ns c.args.direction c.args.links.now)) c.as_slice.ensures.value in
    subst (AreAdjacent c.args.links.now c.args.direction) ((λ i. record { nodes = sym c.from_parts.ensures.nodes i; rows = sym c.from_parts.ensures.rows i }))
    (side_by_side c.args.links.now c.args.direction nodes c.in_ok-nodes.ensures.rise c.in_ok-nodes.ensures.nodes (ends_in c.in_ok-ways.ways.items)
    (subst (Rises ends_cmp) (sym is) (Rises-rising ends_cmp ends_total (ways_of nodes c.args.direction c.args.links.now))) is ends_exact c.in_ok-starts.starts.items
    (let count = c.in_ok-starts.ensures.count in let long = c.len.ensures in omega (arith, count, long, c.in_ok-nodes.nodes.ok.0))
    (λ v le. c.in_ok-starts.ensures.starts v (let long = c.len.ensures in omega (arith, le, long, c.in_ok-nodes.nodes.ok.0)) ∙ ap (λ l. ways_before (ends_in l) v) c.as_slice-2.ensures.value)
    c.in_ok-others.others.items
    (c.in_ok-others.ensures ∙ (ap (map (λ (l : Link). l.dst)) c.as_slice-3.ensures.value ∙ dst_of_links c.in_ok-ways.ways.items)))
