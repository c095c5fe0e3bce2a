use Rattle.std.proofs.Common.{◌≤◌, length, arith}
use Rattle.view_trait.proofs.Whole.{IsShown-base}
use Rattle.view_trait.proofs.facts.store_facts.Goals as goal

pub returns : goal.returns
returns c =
    let few : length c.args.store.now.layers ≤ 64 = omega (arith, c.layers-few.ensures.len, c.layers-few.ensures.few) in
    IsShown-base c.args.store.now c.events-lawful.ensures.lawful c.nodes-indexed.ensures.indexed few
