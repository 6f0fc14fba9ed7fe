use Rattle.std.proofs.Common.{◌-◌, ◌≤◌, suc, length, arith}
use Rattle.normal.specs.Held.{held}
use Rattle.normal.proofs.Tops.{length-entries}
use Rattle.normal.proofs.Rooms.{few, room, tree-last}
use Rattle.normal.proofs.normalise.normalise.Goals as goal

pub overflow_mul-len : goal.overflow_mul-len
overflow_mul-len c = grind (arith, few _ c.len.ensures.sound)

pub overflow_add-len : goal.overflow_add-len
overflow_add-len c = grind (arith, few _ c.len.ensures.sound)

pub overflow_cast-root : goal.overflow_cast-root
overflow_cast-root c = grind (arith, few _ c.len.ensures.sound)

pub root-requires-clause-room : goal.root-requires-clause-room
root-requires-clause-room c = room c.args.book.now c.len.ensures.sound _ _ (omega arith) (omega arith)

pub returns-clause-tree : goal.returns-clause-tree
returns-clause-tree c =
    let long : length (held c.args.book.now c.root.new.bench) ≤ suc (c.len-3.result - 1) = omega (arith, length-entries c.args.book.now c.root.new.bench.nodes) in
    tree-last _ _ _ c.root.ensures.nodes long
