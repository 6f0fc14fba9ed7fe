-- What a bench holds, and how a step changes it.
use Rattle.std.specs.Prelude.{◌≡◌, ℕ, suc, ◌+◌, ◌≤◌, min, List, [], ◌∷◌, ◌++◌, take, length}
use Rattle.rules.specs.Plain.{Plain}
use Rattle.rules.specs.Tree.{Meta, Metas, kind_of_tree}
use Rattle.normal.specs.Holding.{Holding}
use Rattle.normal.specs.Bench.{Top, Entry, entries, seal, post, posts, len, tree_in, kind_of}
use Rattle.normal.specs.declared.bench.Form.{Form}
use Rattle.normal.specs.Places.{most}

-- the entries of a bench, over a book
abbrev pub held : Plain → Holding → List Entry
held p b = entries p b.nodes

-- the tree whose top is the node at a place: what the nodes up to there build
abbrev pub tree_held : Plain → Holding → (at : ℕ) → Meta
tree_held p b at = tree_in (take (suc at) (held p b))

-- a bench has reserved room for so many more nodes
abbrev pub Room : Holding → (more : ℕ) → Type 0
Room b more = length b.nodes + more ≤ min b.places most

-- a bench grows by so many nodes at most, and keeps its places and its memory
pub record Grows (old new : Holding) (more : ℕ) : Type 0 where
  pub within : length new.nodes ≤ length old.nodes + more
  pub places : new.places ≡ old.places
  pub capacity : new.capacity ≡ old.capacity

-- what stands from a place on is gone
abbrev pub IsCut : Plain → (old new : Holding) → (start : ℕ) → Type 0
IsCut p old new start =
    (before body : List Entry) → held p old ≡ before ++ body → length before ≡ start
    → held p new ≡ before

-- what stands from a place on has a top
abbrev pub IsSealed : Plain → (old new : Holding) → (start : ℕ) → Top → (count : ℕ) → Type 0
IsSealed p old new start top count =
    (before body : List Entry) → held p old ≡ before ++ body → length before ≡ start
    → held p new ≡ before ++ seal top count body

-- a tree of one node stands at the end
abbrev pub IsAdded : Plain → (old new : Holding) → Top → (count : ℕ) → Type 0
IsAdded p old new top count = held p new ≡ held p old ++ seal top count []

-- the last top is gone
abbrev pub IsLifted : Plain → (old new : Holding) → Type 0
IsLifted p old new =
    (before body : List Entry) (x : Entry) → held p old ≡ before ++ (body ++ x ∷ [])
    → held p new ≡ before ++ body

-- the tree that stands from a place on is what a rule makes of it
abbrev pub IsTurned : Plain → (old new : Holding) → (start : ℕ) → (rule : Meta → Meta) → Type 0
IsTurned p old new start rule =
    (before : List Entry) (t : Meta) → held p old ≡ before ++ post t → length before ≡ start
    → held p new ≡ before ++ post (rule t)

-- the row of so many trees that stands from a place on is the tree that a rule makes of it
abbrev pub IsClosed : Plain → (old new : Holding) → (start count : ℕ) → (rule : Metas → Meta) → Type 0
IsClosed p old new start count rule =
    (before : List Entry) (ts : Metas) → held p old ≡ before ++ posts ts → length before ≡ start → count ≡ len ts
    → held p new ≡ before ++ post (rule ts)

-- a form is of the kind of the tree at a bench's end
abbrev pub IsTop : Plain → Holding → Form → Type 0
IsTop p b f = (before : List Entry) (t : Meta) → held p b ≡ before ++ post t → kind_of f ≡ kind_of_tree t

-- a form is of the kind of the tree in front of a bench's last node
abbrev pub IsSecond : Plain → Holding → Form → Type 0
IsSecond p b f =
    (before : List Entry) (t : Meta) (x : Entry) → held p b ≡ before ++ (post t ++ x ∷ [])
    → kind_of f ≡ kind_of_tree t
