use Rattle.std.proofs.Common.{ap, ◌∙◌}
use Rattle.normal.specs.Bench.{entries}
use Rattle.normal.specs.Held.{held}
use Rattle.normal.proofs.Tops.{second_is}
use Rattle.normal.proofs.bench.Bench.second.Goals as goal

pub returns-in-len2-up : goal.returns-in-len2-up
returns-in-len2-up c = λ p before t x e. second_is p _ before t x _ (ap (entries p) c.as_slice.ensures.value ∙ ap (held p) c.self.view_is ∙ e)
