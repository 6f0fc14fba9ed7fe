use Rattle.std.proofs.Common.{rules, tests, ◌≡◌, length, sym, ap, ◌∙◌, subst}
use Rattle.rules.specs.Rejection.{reject}
use Rattle.meta.specs.Rejections.{fault_number, layer_of, layer_letter, rejection_of}
use Rattle.rules.specs.Plain.{Plain}
use Rattle.rules.specs.Sound.{Sound}
use Rattle.rules.proofs.Kept.{added_sound}
use Rattle.meta.proofs.Added.{answered}
use Rattle.meta.proofs.Stands.{nodes_long}
use Rattle.meta.proofs.book.Book.add.Goals as goal

pub returns-clause-value : goal.returns-clause-value
returns-clause-value c =
    let long = c.len-number.ensures ∙ sym (nodes_long c.self.inside) ∙ ap (λ (p : Plain). length p.nodes) c.self.view_is in
    answered c.args.self.now _ c.try_add.result c.map_err.result _
    (λ f e h.
    let shows : rejection_of e ≡ reject (fault_number f) (layer_letter (layer_of f)) c.len-number.result = search (rules, tests) in
    shows ∙ ap (reject (fault_number f) (layer_letter (layer_of f))) long)
    c.try_add.ensures.rule c.try_add.ensures.number c.map_err.ensures.cases

pub returns-clause-sound : goal.returns-clause-sound
returns-clause-sound c =
    subst Sound (sym c.try_add.ensures.after) (added_sound c.args.self.now c.args.record.now (subst Sound c.self.view_is c.self.invariant.sound))
