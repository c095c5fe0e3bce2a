use Rattle.std.proofs.Common.{◌≡◌, ◌∙◌, ap, arith, length, sym, get_or}
use Rattle.std.proofs.lemmas.Option.{get_or_from_slice_get}
use Rattle.disjoint_sets.specs.Sets.{joined, least_numbers}
use Rattle.disjoint_sets.proofs.Forest.{found_top, length-least}
use Rattle.disjoint_sets.proofs.sets.DisjointSets.join.Goals as goal

pub find-a-requires-clause-number : goal.find-a-requires-clause-number
find-a-requires-clause-number c = let long = length-least c.self.inside.parents.items in let view = ap length c.self.view_is in let lt = c.requires.a in omega (arith, long, view, lt)

pub find-b-requires-clause-number : goal.find-b-requires-clause-number
find-b-requires-clause-number c =
    let long = length-least c.self.inside.parents.items in
    let longer = length-least c.find-a.new.parents.items in
    let same = ap length c.find-a.ensures.same in
    let view = ap length c.self.view_is in
    let lt = c.requires.b in
    omega (arith, long, longer, same, view, lt)

pub unite-requires-clause-a : goal.unite-requires-clause-a
unite-requires-clause-a c =
    let long = length-least c.self.inside.parents.items in
    let view = ap length c.self.view_is in
    let lt = c.requires.a in
    found_top c.self.inside.parents.items c.find-b.new.parents.items c.args.a c.find-a.result c.find-b.ensures.parents (c.find-b.ensures.same ∙ c.find-a.ensures.same) (omega (arith, long, view, lt)) c.find-a.ensures.least

pub unite-requires-clause-b : goal.unite-requires-clause-b
unite-requires-clause-b c =
    let long = length-least c.self.inside.parents.items in
    let longer = length-least c.find-a.new.parents.items in
    let same = ap length c.find-a.ensures.same in
    let view = ap length c.self.view_is in
    let lt = c.requires.b in
    found_top c.find-a.new.parents.items c.find-b.new.parents.items c.args.b c.find-b.result c.find-b.ensures.parents c.find-b.ensures.same (omega (arith, long, longer, same, view, lt)) c.find-b.ensures.least

pub returns : goal.returns
returns c =
    let before = c.self.inside.parents.items in
    let least_a : get_or c.args.self.now c.args.a 0 ≡ c.find-a.result = ap (λ ns. get_or ns c.args.a 0) (sym c.self.view_is) ∙ get_or_from_slice_get (least_numbers before) c.args.a c.find-a.result 0 c.find-a.ensures.least in
    let least_b : get_or c.args.self.now c.args.b 0 ≡ c.find-b.result = ap (λ ns. get_or ns c.args.b 0) (sym (c.find-a.ensures.same ∙ c.self.view_is)) ∙ get_or_from_slice_get (least_numbers c.find-a.new.parents.items) c.args.b c.find-b.result 0 c.find-b.ensures.least in
    c.unite.ensures.joined ∙ ((λ i. joined (sym least_a i) (sym least_b i) ((c.find-b.ensures.same ∙ (c.find-a.ensures.same ∙ c.self.view_is)) i)))
