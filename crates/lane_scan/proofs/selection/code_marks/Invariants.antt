use Rattle.std.proofs.Common.{◌≡◌, ◌<◌, ℕ, slice_index, length}
use Rattle.lane_scan.specs.Marks.{code_mark}
use Rattle.lane_scan.proofs.selection.code_marks.Given as goal

-- the marks of the codes so far
abbrev pub invariant-loop-code : goal.invariant-loop-code
invariant-loop-code l = record {
  len : length l.kept ≡ 128;
  so_far : (c : ℕ) → c < l.code → slice_index l.kept c ≡ code_mark l.mask c;
}
