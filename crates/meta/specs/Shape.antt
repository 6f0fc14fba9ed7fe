-- What the parts of a book stand for.
use Rattle.std.specs.Prelude.{ℕ, ◌+◌, Bool, true, ◌&&◌, List, [], ◌∷◌, map, take, drop, nat_le}
use Rattle.rules.specs.Notes.{Note}
use Rattle.rules.specs.Plain.{Plain}
use Rattle.rules.specs.Plain as P
use Rattle.meta.specs.declared.book.Node.{Node}

-- a node of the rules: its record, and its run of the children of all nodes
unfoldable pub node_of : List ℕ → Node → P.Node
node_of kids n = record { «record» = n.«record»; children = take n.count (drop n.first kids) }

unfoldable pub nodes_of : List Node → List ℕ → List P.Node
nodes_of nodes kids = map (node_of kids) nodes

-- the plain book of these parts
abbrev pub plain_from : (places : ℕ) → List Note → List Node → List ℕ → Plain
plain_from places notes nodes kids = record { places = places; notes = notes; nodes = nodes_of nodes kids }

-- each node's children lie within the first so many kids
unfoldable pub spanned : ℕ → List Node → Bool
spanned m [] = true
spanned m (n ∷ ns) = nat_le (n.first + n.count) m && spanned m ns
