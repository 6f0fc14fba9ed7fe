-- What callers see of a bench.
use Rattle.std.specs.Prelude.{ℕ, List}
use Rattle.std.specs.Global.{Vec}
use Rattle.normal.specs.declared.bench.Normal.{Normal}

-- the nodes that stand on it, the places that it was made for, how many nodes its memory holds,
-- and the whole list, with where that memory lies
pub record Holding : Type 0 where
  pub nodes : List Normal
  pub places : ℕ
  pub capacity : ℕ
  pub list : Vec Normal
