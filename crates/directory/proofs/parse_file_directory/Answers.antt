use Rattle.directory.proofs.ListedFiles.{too_long, no_size, cut_row, found, no_room, all_laid}
use borrow.Author.Rules.{rules}
use Rattle.directory.proofs.parse_file_directory.Goals as goal

pub returns-then-bytes-gt65535 : goal.returns-then-bytes-gt65535
returns-then-bytes-gt65535 c = search (too_long, rules)

pub returns-then-row_size-eq0 : goal.returns-then-row_size-eq0
returns-then-row_size-eq0 c = search (no_size, rules)

pub returns-in_err-n : goal.returns-in_err-n
returns-in_err-n c = cut_row _ _ _ c.if-bytes-gt65535.false c.if-row_size-eq0.false _ c.count_files.ensures _ c.ok_or.ensures.value _ c.from_residual.result c.in_err-n.field-0.0 (search rules) (search rules)

pub returns-then-out-n : goal.returns-then-out-n
returns-then-out-n c = no_room _ _ _ c.if-bytes-gt65535.false c.if-row_size-eq0.false _ c.count_files.ensures _ c.ok_or.ensures.value _ c.in_ok-n.was _ c.if-out-n.true

pub lay_files-requires : goal.lay_files-requires
lay_files-requires c =
    let e = found _ _ _ c.if-bytes-gt65535.false c.if-row_size-eq0.false _ c.count_files.ensures _ c.ok_or.ensures.value _ c.in_ok-n.was in
    (search rules, search rules, e, search rules)

pub returns : goal.returns
returns c = all_laid _ _ _ c.if-bytes-gt65535.false c.if-row_size-eq0.false _ c.count_files.ensures _ c.ok_or.ensures.value _ c.in_ok-n.was _ _ c.if-out-n.false c.lay_files.ensures
