use Rattle.std.proofs.Common.{vec_items, ap, ◌∙◌}
use Rattle.normal.specs.Held.{held}
use Rattle.normal.proofs.Tops.{cut_off}
use Rattle.normal.proofs.bench.Bench.cut.Goals as goal

pub returns-clause-tree : goal.returns-clause-tree
returns-clause-tree c = λ p before es e l. cut_off p (vec_items c.self.inside.nodes) _ _ before es c.truncate.ensures.items (ap (held p) c.self.view_is ∙ e) l
