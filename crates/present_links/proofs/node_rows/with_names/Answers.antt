use Rattle.std.proofs.Common.{◌≡◌, ◌∙◌, [], get_or, refl, subst, sym}
use Rattle.std.specs.List.{All}
use Rattle.std.proofs.lemmas.List.Elements.{All-push}
use Rattle.std.proofs.lemmas.Option.{get_or_from_slice_get}
use Rattle.graph_store.specs.Contents.{name_at}
use Rattle.present_links.specs.Links.{IsNamed}
use Rattle.present_links.proofs.Present.{nodes_more}
use Rattle.present_links.proofs.node_rows.with_names.Goals as goal

pub loop-n-preserved : goal.loop-n-preserved
loop-n-preserved c =
    let s = c.args.store.now in
    let i = c.loop-n.n-index in
    let n = get_or c.args.numbers.now i 0 in
    let name : name_at s.nodes n ≡ c.as_str-name.result.now = get_or_from_slice_get s.nodes n c.node_name.result.now [] c.node_name.ensures ∙ sym c.as_str-name.ensures.bytes in
    record {
      numbers = nodes_more c.args.numbers.now i c.loop-n-test.true c.loop-n.named.items c.push.new.self.items (record { name = c.as_str-name.result; node = n }) c.in_ok-push.ensures.items refl c.loop-n.invariant.numbers;
      names =
          subst (All (IsNamed s)) (sym c.in_ok-push.ensures.items)
          (All-push (IsNamed s) c.loop-n.named.items (record { name = c.as_str-name.result; node = n }) c.loop-n.invariant.names (record { within = c.requires i 0 c.loop-n-test.true; name = name }));
    }
