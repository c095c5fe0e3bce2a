use Rattle.std.proofs.Common.{◌∙◌, get_or, ap, arith}
use Rattle.std.specs.Prelude.{None}
use Rattle.std.specs.Map.{keys_of}
use Rattle.chunk_list.proofs.Lasts.{last_at}
use Rattle.chunk_list.proofs.few.Few.key.Goals as goal

pub returns-then-i-len : goal.returns-then-i-len
returns-then-i-len g c =
    let s = c.self.inside in
    last_at None s.items.items c.args.i s.last c.self.invariant (omega (arith, c.if-i-len.true, c.len-len.ensures, s.items.ok.0))
    ∙ ap (λ v. get_or (keys_of v.items) c.args.i s.last) c.self.view_is
