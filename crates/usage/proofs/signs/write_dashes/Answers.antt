use Rattle.std.proofs.Common.{rules}
use Rattle.buffer.proofs.Writing.{writes}
use Rattle.usage.proofs.signs.write_dashes.Goals as goal

pub returns-in_err-write_str : goal.returns-in_err-write_str
returns-in_err-write_str c = search (rules, writes)
