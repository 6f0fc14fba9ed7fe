use Rattle.std.proofs.Common.{rules}
use Rattle.buffer.proofs.Writing.{writes}
use Rattle.buffer.proofs.sheet.Sheet.doc.Goals as goal

pub returns-in_err-block_start-clause-wrote : goal.returns-in_err-block_start-clause-wrote
returns-in_err-block_start-clause-wrote c = search (rules, writes)

pub returns-in_err-raw-clause-wrote : goal.returns-in_err-raw-clause-wrote
returns-in_err-raw-clause-wrote c = search (rules, writes)
