use Rattle.std.proofs.Common.{sym, ◌∙◌}
use Rattle.terms.specs.declared.kind.Field.TheVariants as F
use Rattle.rules.specs.Tree.{word, short_of}
use Rattle.meta.specs.Items.{word_at}
use Rattle.meta.proofs.Decoded.{name_both}
use Rattle.meta.proofs.fields.Record.name.Goals as goal

pub returns-in-Some-Some : goal.returns-in-Some-Some
returns-in-Some-Some c p e =
    let r = c.args.self.now in
    name_both (short_of r) (word F.Name r) (word_at p c.in-Some-Some.long) c.in-Some-Some.short (sym c.short.ensures ∙ c.in-Some-Some.is-0) (c.in-Some-Some.ensures' p e)
