use Rattle.std.proofs.Common.{◌<◌, lit<}
use Rattle.std.proofs.lemmas.List.Elements.{All-replicate}
use Rattle.test_stores.proofs.timelines.many_codes.Goals as goal

pub loop-i-init : goal.loop-i-init
loop-i-init c = All-replicate (λ k. k < 128) 70 0 (lit< tt)
