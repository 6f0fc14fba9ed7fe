use Rattle.std.proofs.Common.{Some, sym, subst}
use Rattle.meta.specs.declared.item.Meta.TheVariants as CM
use Rattle.meta.specs.Decoded.{Decodes}
use Rattle.meta.proofs.fields.Record.of_kind.Goals as goal

pub returns-in-Any : goal.returns-in-Any
returns-in-Any c = record {
  value =
      subst (λ k. Decodes c.args.number c.args.self.now c.args.kids.now (Some k) (CM.Item c.any.result)) (sym c.in-Any.is)
      (c.any.ensures.value c.args.number);
  bound = λ h. c.any.ensures.bound c.args.number;
}
