use Rattle.std.proofs.Common.{rules}
use Rattle.buffer.proofs.Writing.{writes}
use Rattle.buffer.proofs.sheet.Sheet.enclosed.Goals as goal

pub returns-in_err-write_str-clause-wrote : goal.returns-in_err-write_str-clause-wrote
returns-in_err-write_str-clause-wrote c = search (rules, writes)

pub returns-in_err-write_str-2-clause-wrote : goal.returns-in_err-write_str-2-clause-wrote
returns-in_err-write_str-2-clause-wrote c = search (rules, writes)

pub returns-clause-wrote : goal.returns-clause-wrote
returns-clause-wrote c = search (rules, writes)
