-- The layers outside which a test passes no edge.
use Rattle.std.proofs.Common.{◌≡◌, ◌==◌, ◌^◌, ◌-◌, ℕ, Bool, true, false, [], cond, sym, ◌∙◌, ap, arith, inl, inr}
use Rattle.std.specs.Prelude.{bit_and}
use Rattle.std.specs.Int.{bit_at}
use Rattle.std.proofs.lemmas.Nat.Bits.{bit_at_ones}
use Rattle.graph_model.specs.declared.events.Entity.{Entity}
use Rattle.graph_model.specs.Keep.{keep, in_layers}
use Rattle.graph_model.specs.World.{World, events_of}
use Rattle.graph_store.specs.EdgeParts.{parts_at}
use Rattle.graph_store.specs.Contents.{Contents}
use Rattle.view_trait.specs.Meaning.{IsShown, HasLayers, edge_at}
use Rattle.view_trait.specs.Numbered.{layers_numbered}
use Rattle.view_trait.proofs.Shown.{events_of-keep, HasLayers-keep}
use Rattle.view_trait.proofs.Kept.{both_bits, layer_keeps}
use Rattle.entity_tests.specs.Tests.{PassesLayers}

-- the layers of some bits pass no edge of the others
pub passes_layers : (bits : ℕ) → PassesLayers (λ c w. in_layers (layers_numbered c bits)) bits
passes_layers bits = record { none = λ c w e shown within other. layer_keeps c bits e shown.indexed within ∙ other }

-- each layer has its bit
pub passes_each_layer : (passes : Contents → World → Entity → Bool) → PassesLayers passes (2 ^ 64 - 1)
passes_each_layer passes = record {
  none = λ c w e shown within other.
      let p = (shown.indexed.within e within).2 in
      let f = shown.few_layers in
      let one : bit_at (2 ^ 64 - 1) (parts_at c.edges e).layer ≡ 1 = bit_at_ones 64 (parts_at c.edges e).layer (omega arith) in
      absurd (let q : true ≡ false = ap (λ b. b == 1) (sym one) ∙ other in cc);
}

-- what a view keeps has events in the layers of both
pub HasLayers-kept : (passes : Contents → World → Entity → Bool) (c : Contents) (w : World) (a b : ℕ) → IsShown c w → HasLayers c w a → PassesLayers passes b → HasLayers c (keep (passes c w) w) (bit_and a b)
HasLayers-kept passes c w a b shown h k = record {
  none = λ e within n.
      elim (both_bits a b (parts_at c.edges e).layer n) [
        | inl z ↦ (HasLayers-keep (passes c w) c w a h).none e within z
        | inr z ↦ events_of-keep (passes c w) w (edge_at c e) ∙ ap (λ t. cond t (events_of w (edge_at c e)) []) (k.none c w e shown within z)
      ];
}
