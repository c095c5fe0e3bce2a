use Rattle.std.proofs.Common.{◌≡◌, []}
use Rattle.query_run.proofs.Scripts.{lines_of-behind, lines_of-parts, no-bytes}
use Rattle.query_run.proofs.lines.first_line.Goals as goal

pub returns-in-empty-clause-lines : goal.returns-in-empty-clause-lines
returns-in-empty-clause-lines c =
    let parts = lines_of-parts c.args.text.now c.split_at.result.0.now c.split_at.result.1.now c.line_len.result c.requires c.line_len.ensures.len c.split_at.ensures.front c.split_at.ensures.back in
    let none : c.split_at.result.1.now ≡ [] = no-bytes c.split_at.result.1.now c.in-empty.len_below in
    rw none (rw none at parts)

pub returns-in-len1-up-clause-lines : goal.returns-in-len1-up-clause-lines
returns-in-len1-up-clause-lines c =
    let parts = lines_of-parts c.args.text.now c.split_at.result.0.now c.split_at.result.1.now c.line_len.result c.requires c.line_len.ensures.len c.split_at.ensures.front c.split_at.ensures.back in
    rw (lines_of-behind c.split_at.result.1.now) parts
