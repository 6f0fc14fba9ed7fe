-- What reading a node of a book gives.
use Rattle.std.specs.Prelude.{◌≡◌, ℕ, ◌<◌, ◌≤◌, length, Some, None, Option}
use Rattle.rules.specs.Plain.{Plain}
use Rattle.rules.specs.Tree.{tree_at}
use Rattle.meta.specs.Items.{meta_of}
use Rattle.meta.specs.Decoded.{Below}
use Rattle.meta.specs.declared.item.Meta.{Meta as CodeMeta}

-- a node says what its tree is, over children that are all below it; there is none past the end of the book
abbrev pub Reads : Plain → ℕ → Option CodeMeta → Type 0
Reads p n None = length p.nodes ≤ n
Reads p n (Some m) = (n < length p.nodes) × (meta_of p n m ≡ tree_at p n) × Below n m
