use Rattle.std.proofs.Common.{◌≡◌, ◌+◌, ◌*◌, ◌≤◌, false, length, drop}
use Rattle.rules.specs.Weight.{weights}
use Rattle.normal.specs.Rows.{row_at, rest}
use Rattle.normal.proofs.Children.{Reached}
use Rattle.normal.proofs.walk.Walk.+walk.Given as goal

abbrev pub decreases-node : goal.decreases-node
decreases-node l = 2 * l.n + 1

abbrev pub decreases-row : goal.decreases-row
decreases-row l = 2 * l.n

abbrev pub invariant-row-loop-child : goal.invariant-row-loop-child
invariant-row-loop-child l =
    let p = l.self.book.now in
    let ts = row_at p (drop l.child-index l.children) in
    let all = row_at p l.children in
    record {
      row : Reached p l.initial.bench l.bench l.kept (rest l.row all l.self.for_usage l.mark l.mark false) (rest l.row ts l.self.for_usage l.mark l.run l.seen);
      few : l.kept ≤ l.child-index;
      places : l.bench.places ≡ l.initial.bench.places;
      capacity : l.bench.capacity ≡ l.initial.bench.capacity;
      within : length l.bench.nodes + 3 * weights ts ≤ length l.initial.bench.nodes + 3 * weights all;
    }
