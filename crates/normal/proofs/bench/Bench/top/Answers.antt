use Rattle.std.proofs.Common.{ap, ◌∙◌}
use Rattle.normal.specs.Bench.{entries}
use Rattle.normal.specs.Held.{held}
use Rattle.normal.proofs.Tops.{top_is}
use Rattle.normal.proofs.bench.Bench.top.Goals as goal

pub returns-in-len1-up : goal.returns-in-len1-up
returns-in-len1-up c = λ p before t e. top_is p _ before t _ (ap (entries p) c.as_slice.ensures.value ∙ ap (held p) c.self.view_is ∙ e)
