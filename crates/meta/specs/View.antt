-- A book as a plain book of the rules, and what always holds of its parts.
use Rattle.std.specs.Prelude.{◌≡◌, ◌+◌, ◌≤◌, min, true, length, vec_items, vec_len, vec_capacity}
use Rattle.rules.specs.Plain.{Plain, unplaced}
use Rattle.rules.specs.Sound.{Sound}
use Rattle.meta.specs.declared.book.Book.TheInside.{Inside}
use Rattle.meta.specs.declared.book.TheConstants.Book.{MOST}
use Rattle.meta.specs.Shape.{plain_from, nodes_of, spanned}

-- the plain book that a book is: its places, its store's notes, and its nodes with their children
abbrev pub plain_of : Inside → Plain
plain_of b = plain_from b.places b.store (vec_items b.nodes) (vec_items b.kids)

-- every node is among the children or without a parent, and there is memory for all that the book will hold
pub record IsBook (b : Inside) : Type 0 where
  pub few : vec_len b.nodes ≤ min b.places MOST
  pub shared : vec_len b.kids + vec_len b.unplaced ≡ vec_len b.nodes
  pub room : min b.places MOST ≤ vec_capacity b.nodes
  pub kids_room : min b.places MOST ≤ vec_capacity b.kids
  pub unplaced_room : min b.places MOST ≤ vec_capacity b.unplaced
  pub runs : spanned (length (vec_items b.kids)) (vec_items b.nodes) ≡ true
  pub stack : vec_items b.unplaced ≡ unplaced (nodes_of (vec_items b.nodes) (vec_items b.kids))
  pub sound : Sound (plain_of b)
