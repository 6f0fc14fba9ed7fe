-- What a call for the normal form of a root answers, and what it leaves on the bench.
use Rattle.std.specs.Prelude.{◌≡◌, ℕ, ◌+◌, Bool, List, [], ◌∷◌, length, Option}
use Rattle.rules.specs.Lists.{first}
use Rattle.rules.specs.Plain.{Plain}
use Rattle.rules.specs.Rejection.{Rejection}
use Rattle.rules.specs.Table.{no_node, small_bench}
use Rattle.rules.specs.Tree.{tree_at}
use Rattle.rules.specs.NormalForm.{normal}
use Rattle.normal.specs.Holding.{Holding}
use Rattle.normal.specs.Bench.{Entry, post}
use Rattle.normal.specs.Held.{held}

-- the first row of the table that the call breaks
abbrev pub refusal_of : Plain → (root places : ℕ) → Option Rejection
refusal_of p root places = first (no_node p root ∷ small_bench p root places ∷ [])

-- the entries of the normal form of a root
abbrev pub normal_entries : Plain → (root : ℕ) → (usage : Bool) → List Entry
normal_entries p root usage = post (normal usage (tree_at p root))

-- the bench holds the normal form of a root and nothing else, and its last node is at a place
abbrev pub HoldsNormal : Plain → Holding → (root : ℕ) → (usage : Bool) → (at : ℕ) → Type 0
HoldsNormal p b root usage at = (held p b ≡ normal_entries p root usage) × (at + 1 ≡ length (held p b))
