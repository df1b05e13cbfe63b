use Rattle.processor_query.proofs.FunctionQuery.{header_within, no_header, not_known, of_datalog, of_directory, of_file}
use Rattle.processor_query.specs.Query.{wanted}
use borrow.Author.Rules.{rules}
use Rattle.processor_query.proofs.function_query.Goals as goal

pub returns-in_err-h : goal.returns-in_err-h
returns-in_err-h c = search (no_header, rules)

pub returns-then-not-known_function : goal.returns-then-not-known_function
returns-then-not-known_function c = search (not_known, rules)

pub returns-then-asks_directory : goal.returns-then-asks_directory
returns-then-asks_directory c = search (of_directory, rules)

pub returns-then-asks_datalog : goal.returns-then-asks_datalog
returns-then-asks_datalog c = search (of_datalog, rules)

pub file_query-requires : goal.file_query-requires
file_query-requires c = search (header_within, rules)

pub returns : goal.returns
returns c =
    of_file _ c.args.s.now c.args.function (wanted c.file_query.result) _ c.read_header.ensures _ c.in_ok-h.was _ c.known_function.ensures c.if-not-known_function.false
    _ c.asks_directory.ensures c.if-asks_directory.false _ c.asks_datalog.ensures _ c.if-asks_datalog.false c.file_query.ensures
