use Rattle.std.proofs.Common.{rules}
use Rattle.buffer.proofs.Writing.{writes}
use Rattle.usage.proofs.words.write_short.Goals as goal

pub returns-in-err-write-str : goal.returns-in-err-write-str
returns-in-err-write-str c = search (rules, writes)

pub returns : goal.returns
returns c = search (rules, writes)
