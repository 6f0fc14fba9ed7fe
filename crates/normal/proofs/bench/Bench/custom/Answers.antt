use Rattle.normal.proofs.bench.Bench.custom.Goals as goal

pub returns-else-is_blank-clause-tree : goal.returns-else-is_blank-clause-tree
returns-else-is_blank-clause-tree c = λ before t e l. rw (← c.is_blank.ensures.value, c.if-is_blank.false) (c.put.ensures.tree _ before _ e l)
