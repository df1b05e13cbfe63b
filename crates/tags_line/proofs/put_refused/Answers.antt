use Rattle.tags_line.proofs.Shown.{refused_fits, refused_counts, refused_laid}
use borrow.Author.Rules.{rules}
use Rattle.tags_line.proofs.put_refused.Goals as goal

pub slice_bounds-line-end : goal.slice_bounds-line-end
slice_bounds-line-end c = refused_fits c.args.e c.number.ensures c.from.ensures c.put_all-a.ensures c.put_decimal-b.ensures c.put_all-c.ensures

pub slice_bounds-put_all-end-5 : goal.slice_bounds-put_all-end-5
slice_bounds-put_all-end-5 c = refused_counts c.args.e c.number.ensures c.from.ensures c.put_all-a.ensures c.put_decimal-b.ensures c.put_all-c.ensures

pub returns : goal.returns
returns c = refused_laid c.args.e c.number.ensures c.from.ensures c.put_all-a.ensures c.put_decimal-b.ensures c.put_all-c.ensures (search rules)
