use Rattle.std.proofs.Common.{◌∙◌, rules}
use Rattle.outside_io.proofs.FileLists.{bytes_of-found, bytes_of-other}
use Rattle.outside_io.proofs.file_list.Files.find.Goals as goal

pub returns-then-is_named : goal.returns-then-is_named
returns-then-is_named c =
    let list = c.deref-file-items.ensures.value ∙ c.self.view_is in
    let found = bytes_of-found _ c.args.name.now _ c.file-item.result c.loop-i-test.true c.file-item.is (search rules) in
    rw list at (c.loop-i.invariant ∙ found)

pub loop-i-preserved : goal.loop-i-preserved
loop-i-preserved c = c.loop-i.invariant ∙ bytes_of-other _ c.args.name.now _ c.file-item.result c.loop-i-test.true c.file-item.is (search rules)
