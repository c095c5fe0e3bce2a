use Rattle.std.proofs.Common.{◌∙◌, length, ap, sym}
use Rattle.chunk_list.proofs.Lookups.{length-looked_up}
use Rattle.chunk_list.proofs.long.Long.len.Goals as goal

pub returns : goal.returns
returns g c =
    let s = c.self.inside in
    c.len.ensures ∙ (sym (length-looked_up s.besides.items s.parts.items c.self.invariant) ∙ ap (λ v. length v.items) c.self.view_is)
