-- What rows of a book's nodes weigh.
use Rattle.std.proofs.Common.{◌≡◌, ℕ, suc, ◌≤◌, List, [], ◌∷◌, length, refl, arith}
use Rattle.rules.specs.Plain.{Plain}
use Rattle.rules.specs.Tree.{Meta, Metas, tree_at}
use Rattle.normal.specs.declared.row.Row.{Row}
use Rattle.normal.specs.declared.row.Row.TheVariants as R
use Rattle.normal.specs.Rows.{row_at, tree_of, most_closed}
use Rattle.rules.specs.Weight.{weight, weights}

weighs : (t : Meta) → 1 ≤ weight t
weighs Meta.skip = omega arith
weighs _ = omega arith

-- a row weighs as much as it is long, or more
pub long_row : (p : Plain) (ks : List ℕ) → length ks ≤ weights (row_at p ks)
long_row p [] = omega arith
long_row p (k ∷ ks) = let h = weighs (tree_at p k) in let r = long_row p ks in omega arith

-- a row weighs one more than its children
pub weight_row : (row : Row) (ts : Metas) → weight (tree_of row ts) ≡ suc (weights ts)
weight_row R.And ts = refl
weight_row R.Or ts = refl

-- a row closes by two nodes at most
pub two_closed : (row : Row) → most_closed row ≤ 2
two_closed R.And = omega arith
two_closed R.Or = omega arith
