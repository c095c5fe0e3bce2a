use Rattle.std.proofs.Common.{◌≡◌, drop}
use Rattle.outside_io.specs.Outside.{bytes_of}
use Rattle.outside_io.proofs.file_list.Files.find.Given as goal

abbrev pub invariant-loop-i : goal.invariant-loop-i
invariant-loop-i l = bytes_of l.file-items l.name ≡ bytes_of (drop l.i l.file-items) l.name
