use Rattle.std.proofs.Common.{[], sym, ◌∙◌}
use Rattle.std.proofs.lemmas.List.{append-nil}
use Rattle.normal.proofs.Tops.{length-entries}
use Rattle.normal.proofs.bench.Bench.leaf.Goals as goal

pub returns-clause-tree : goal.returns-clause-tree
returns-clause-tree c = λ p. c.put.ensures.tree p _ [] (sym (append-nil _)) (length-entries p _ ∙ sym c.len-end.ensures)
