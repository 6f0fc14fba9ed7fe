-- That a bench of three nodes for each of a book, and two, has room for every normal form.
use Rattle.std.proofs.Common.{◌≡◌, ℕ, suc, ◌+◌, ◌*◌, ◌<◌, ◌≤◌, min, List, length, take, ap, ◌∙◌, arith}
use Rattle.std.proofs.lemmas.List.{take_all}
use Rattle.rules.specs.Plain.{Plain}
use Rattle.rules.specs.Tree.{Meta, tree_at}
use Rattle.rules.specs.Weight.{weight}
use Rattle.rules.proofs.Weight.{weight_thrice}
use Rattle.rules.specs.Sound.{Sound}
use Rattle.normal.specs.Bench.{Entry, post, tree_in}
use Rattle.normal.specs.Places.{most}
use Rattle.normal.proofs.Piles.{tree-back}

-- a book has at most 256 nodes
pub few : (p : Plain) → Sound p → length p.nodes ≤ 256
few p s = omega (arith, s.within)

-- the room that a normal form may need
pub room : (p : Plain) → Sound p → (root places : ℕ) → root < length p.nodes → 3 * length p.nodes + 2 ≤ places
    → 3 * weight (tree_at p root) ≤ min places most
room p s root places h l = omega (arith, s.within, weight_thrice p s root h)

-- the entries up to the last build the tree
pub tree-last : (t : Meta) (es : List Entry) (at : ℕ) → es ≡ post t → length es ≤ suc at → tree_in (take (suc at) es) ≡ t
tree-last t es at e l = ap tree_in (take_all (suc at) es l ∙ e) ∙ tree-back t
