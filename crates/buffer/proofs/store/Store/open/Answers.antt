use Rattle.std.proofs.Common.{sym, ◌∙◌}
use Rattle.buffer.proofs.Lawful.{unlawful-notes}
use Rattle.buffer.proofs.store.Store.open.Goals as goal

pub returns-else-is_lawful : goal.returns-else-is_lawful
returns-else-is_lawful c =
    rw c.new-else-is_lawful-2.ensures.items (unlawful-notes c.args.marks.now c.args.text.now (sym c.is_lawful.ensures ∙ c.if-is_lawful.false))
