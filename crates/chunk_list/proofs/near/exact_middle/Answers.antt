use Rattle.chunk_list.proofs.Middles.{IsMiddle-exact}
use Rattle.chunk_list.proofs.near.exact_middle.Goals as goal

pub returns : goal.returns
returns c = IsMiddle-exact c.args.from c.args.to c.requires
