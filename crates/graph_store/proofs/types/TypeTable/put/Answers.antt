use Rattle.std.proofs.Common.{◌≡◌, ◌∙◌, ◌<◌, [], ◌∷◌, ◌++◌, None, nat_eq, sym, ap, subst}
use Rattle.indexmap.proofs.CallerLemmas.{insert_entry-new}
use Rattle.graph_store.specs.TypeIndex.{TypeIndex, kind_in}
use Rattle.graph_store.proofs.Results.{sure}
use Rattle.graph_store.proofs.types.TypeTable.put.Goals as goal

pub returns : goal.returns
returns c =
    sure c.insert.result (c.insert.ensures.succeeds (subst (λ (t : TypeIndex). 0 < t.spare) (sym c.self.view_is) c.requires.room)) c.insert.ensures.entries
    ∙ (insert_entry-new nat_eq c.self.inside.kinds c.args.node c.args.kind (subst (λ (t : TypeIndex). kind_in t.numbers c.args.node ≡ None) (sym c.self.view_is) c.requires.absent)
    ∙ ap (λ (t : TypeIndex). t.numbers ++ (c.args.node, c.args.kind) ∷ []) c.self.view_is)
