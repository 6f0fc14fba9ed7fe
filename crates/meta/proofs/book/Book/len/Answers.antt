use Rattle.std.proofs.Common.{length, sym, ap, ◌∙◌}
use Rattle.rules.specs.Plain.{Plain}
use Rattle.meta.proofs.Stands.{nodes_long}
use Rattle.meta.proofs.book.Book.len.Goals as goal

pub returns-clause-value : goal.returns-clause-value
returns-clause-value c = c.len.ensures ∙ sym (nodes_long c.self.inside) ∙ ap (λ (p : Plain). length p.nodes) c.self.view_is
