use Rattle.std.proofs.Common.{sym, subst, rules}
use Rattle.rules.specs.Reading.{item_reading}
use Rattle.rules.specs.Content.{element_ops}
use Rattle.meta.specs.Items.{item_of}
use Rattle.meta.specs.declared.item.Item.{Item}
use Rattle.buffer.specs.Contents.{Wrote}
use Rattle.buffer.proofs.Writing.{writes}
use Rattle.usage.proofs.Composed.{wrote_one}
use Rattle.usage.proofs.words.write_item.Goals as goal

pub returns-in_err-write_shortlong-in-Argument : goal.returns-in_err-write_shortlong-in-Argument
returns-in_err-write_shortlong-in-Argument c = search (rules, writes)

pub returns-in_err-write_str-in-Argument : goal.returns-in_err-write_str-in-Argument
returns-in_err-write_str-in-Argument c = search (rules, writes)

pub returns-in-Command : goal.returns-in-Command
returns-in-Command c =
    subst (λ (i : Item). Wrote c.args.sheet.now (element_ops (item_reading (item_of c.args.book.now i))) c.write_str.new.self c.write_str.result)
    (sym c.in-Command.is) (wrote_one _ _ _ _ c.write_str.ensures.put)
