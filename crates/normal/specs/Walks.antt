-- What a walk over a tree leaves on a bench.
use Rattle.std.specs.Prelude.{◌≡◌, ◌+◌, ◌*◌, ◌≤◌, Bool, ◌++◌, length}
use Rattle.terms.specs.declared.strict.StrictNorm.{StrictNorm}
use Rattle.rules.specs.Plain.{Plain}
use Rattle.rules.specs.Tree.{Meta}
use Rattle.rules.specs.NormalForm.{nf}
use Rattle.rules.specs.Weight.{weight}
use Rattle.normal.specs.Holding.{Holding}
use Rattle.normal.specs.Bench.{post}
use Rattle.normal.specs.Held.{held}

-- the normal form of a tree stands behind what stood there, in fewer than three nodes for each of
-- the tree's, the walk is back with its mark, and the bench keeps its places and its memory
pub record Walks (p : Plain) (old new : Holding) (t : Meta) (usage : Bool) (entry back : StrictNorm) : Type 0 where
  pub nodes : held p new ≡ held p old ++ post (nf t usage entry).tree
  pub mark : back ≡ (nf t usage entry).mark
  pub within : length new.nodes + 1 ≤ length old.nodes + 3 * weight t
  pub places : new.places ≡ old.places
  pub capacity : new.capacity ≡ old.capacity
