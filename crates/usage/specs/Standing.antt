-- Trees and rows of trees, as nodes of a bench.
use Rattle.std.specs.Prelude.{◌≡◌, List}
use Rattle.rules.specs.Plain.{Plain}
use Rattle.rules.specs.Tree.{Meta, Metas}
use Rattle.normal.specs.declared.bench.Normal.{Normal}
use Rattle.normal.specs.Bench.{entries, post, posts}

-- the nodes are those of a tree, over a book
abbrev pub IsTree : Plain → List Normal → Meta → Type 0
IsTree p ns t = entries p ns ≡ post t

-- the nodes are those of some trees, one tree behind another
abbrev pub IsRow : Plain → List Normal → Metas → Type 0
IsRow p ns ts = entries p ns ≡ posts ts
