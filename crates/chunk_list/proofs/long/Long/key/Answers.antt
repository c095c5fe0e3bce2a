use Rattle.std.proofs.Common.{◌∙◌, get_or, ap, sym}
use Rattle.std.specs.Map.{keys_of}
use Rattle.chunk_list.proofs.Lookups.{keys-looked_up}
use Rattle.chunk_list.proofs.long.Long.key.Goals as goal

pub returns : goal.returns
returns g c =
    let s = c.self.inside in
    c.key.ensures ∙ (ap (λ ks. get_or ks c.args.i c.key.result) (sym (keys-looked_up s.besides.items s.parts.items c.self.invariant)) ∙ ap (λ v. get_or (keys_of v.items) c.args.i c.key.result) c.self.view_is)
