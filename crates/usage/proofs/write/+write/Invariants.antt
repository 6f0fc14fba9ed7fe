use Rattle.std.proofs.Common.{◌+◌, ◌*◌, length}
use Rattle.usage.proofs.write.+write.Given as goal

abbrev pub decreases-write_enclosed : goal.decreases-write_enclosed
decreases-write_enclosed l = 2 * length l.tree.now + 1

abbrev pub decreases-write_meta : goal.decreases-write_meta
decreases-write_meta l = 2 * length l.tree.now

abbrev pub decreases-write_row : goal.decreases-write_row
decreases-write_row l = 2 * length l.row.now + 1
