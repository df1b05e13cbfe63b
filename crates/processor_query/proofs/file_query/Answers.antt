use native.Mathlib.Omega.{arith}
use Rattle.processor_query.specs.Query.{header_in}
use Rattle.processor_query.proofs.FunctionQuery.{file_cut, file_no_mask, file_no_sub, file_read, file_write, mask_within, sub_within}
use borrow.Author.Rules.{rules}
use Rattle.processor_query.proofs.file_query.Goals as goal

pub returns-in_err-sub : goal.returns-in_err-sub
returns-in_err-sub c = search (file_no_sub, rules)

pub mask_word-requires : goal.mask_word-requires
mask_word-requires c = search (sub_within, rules)

pub returns-in_err-mask : goal.returns-in_err-mask
returns-in_err-mask c = search (file_no_mask, rules)

pub returns-then-not-writes : goal.returns-then-not-writes
returns-then-not-writes c =
    file_read c.args.s.now c.args.function c.args.h.next (header_in c.args.h) c.requires _ c.last_address.ensures _ _ c.in_ok-sub.was _ c.mask_word.ensures _ _ c.in_ok-mask.was
    _ c.writes.ensures _ c.if-not-writes.true c.access.ensures

pub overflow_sub-s : goal.overflow_sub-s
overflow_sub-s c = search (mask_within, rules)

pub returns-then-s-place : goal.returns-then-s-place
returns-then-s-place c =
    file_cut c.args.s.now c.args.function c.args.h.next (header_in c.args.h) c.requires _ c.last_address.ensures _ _ c.in_ok-sub.was _ c.mask_word.ensures _ _ c.in_ok-mask.was
    _ c.writes.ensures c.if-not-writes.false (omega arith)

pub returns : goal.returns
returns c =
    file_write c.args.s.now c.args.function c.args.h.next (header_in c.args.h) c.requires _ c.last_address.ensures _ _ c.in_ok-sub.was _ c.mask_word.ensures _ _ c.in_ok-mask.was
    _ c.writes.ensures _ c.if-not-writes.false (omega arith) c.access-2.ensures
