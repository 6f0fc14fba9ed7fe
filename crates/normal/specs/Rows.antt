-- The rows of children, And and Or, and what they do differently.
use Rattle.std.specs.Prelude.{ℕ, Bool, not, ◌&&◌, List, map}
use Rattle.terms.specs.Kind.{same_kind}
use Rattle.terms.specs.declared.kind.Kind.TheVariants as K
use Rattle.terms.specs.declared.kind.Kind.{Kind}
use Rattle.terms.specs.declared.strict.StrictNorm.{StrictNorm}
use Rattle.rules.specs.Plain.{Plain}
use Rattle.rules.specs.Tree.{Meta, Metas, metas, tree_at}
use Rattle.rules.specs.NormalForm.{ands, ors, and_of, or_of, no_skips, one_command}
use Rattle.rules.specs.NormalForm as N
use Rattle.normal.specs.declared.row.Row.{Row}
use Rattle.normal.specs.declared.row.Row.TheVariants as R

-- the trees of some nodes of a book, as a row
abbrev pub row_at : Plain → List ℕ → Metas
row_at p ks = metas (map (tree_at p) ks)

-- the tree of a row
abbrev pub tree_of : Row → Metas → Meta
tree_of R.And ts = Meta.and ts
tree_of R.Or ts = Meta.or ts

-- a child of an And starts with the running mark, one of an Or with the entry mark
abbrev pub starts : Row → (entry run : StrictNorm) → StrictNorm
starts R.And entry run = run
starts R.Or entry run = entry

-- an And comes back with its entry mark, an Or with the running mark
abbrev pub ends : Row → (entry run : StrictNorm) → StrictNorm
ends R.And entry run = entry
ends R.Or entry run = run

-- a child stays unless it is Skip, or in an Or a Command where one has been seen
abbrev pub keeps : Row → (seen : Bool) → Kind → Bool
keeps R.And seen k = not (same_kind K.Skip k)
keeps R.Or seen k = not (same_kind K.Skip k) && not (seen && same_kind K.Command k)

-- what a row becomes with the children that stay
abbrev pub closed : Row → Metas → Meta
closed R.And ts = and_of ts
closed R.Or ts = or_of ts

-- how many nodes the close of a row puts on a bench at most: an Or stands below a Required
abbrev pub most_closed : Row → ℕ
most_closed R.And = 1
most_closed R.Or = 2

-- what is left of a row behind a running mark, where a Command may have been seen:
-- the children that stay, and the mark that the row comes back with
abbrev pub rest : Row → Metas → (usage : Bool) → (entry run : StrictNorm) → (seen : Bool) → N.Row
rest R.And ts usage entry run seen = record { kept = no_skips (ands ts usage run).kept; mark = entry }
rest R.Or ts usage entry run seen =
    let r = ors ts usage entry run in
    record { kept = one_command seen (no_skips r.kept); mark = r.mark }
