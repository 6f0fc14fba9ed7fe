use Rattle.std.proofs.Common.{sym, ap, ◌∙◌}
use Rattle.std.specs.Option.{option_map}
use Rattle.rules.specs.Plain.{Node}
use Rattle.meta.specs.Shape.{node_of}
use Rattle.meta.proofs.Stands.{node_there, node_absent}
use Rattle.meta.proofs.book.Book.own_record.Goals as goal

pub returns-clause-value : goal.returns-clause-value
unfolding node_of
returns-clause-value c =
    let h = c.in_ok-get.ensures.lookup in
    sym (ap (option_map (λ (n : Node). n.«record»)) (node_there c.self.inside c.self.view_is c.args.number _ c.deref.ensures.value c.in_ok-get.field-0.now h.0 h.1))

pub returns-in_err-get-clause-value : goal.returns-in_err-get-clause-value
returns-in_err-get-clause-value c =
    ap (option_map (λ x. x.now)) c.from_residual.ensures
    ∙ sym (ap (option_map (λ (n : Node). n.«record»)) (node_absent c.self.inside c.self.view_is c.args.number _ c.deref.ensures.value c.in_err-get.ensures.lookup.0))
