-- What a record needs so that its node can be read, and where the children of a node are.
use Rattle.std.specs.Prelude.{◌≡◌, ℕ, ◌<◌, Bool, true, ◌&&◌, List, map, length, Some, None, Option, ◌==◌, nat_lt}
use Rattle.std.specs.List.{list_all}
use Rattle.terms.specs.declared.kind.Kind.{Kind}
use Rattle.terms.specs.declared.kind.Field.TheVariants.{Note, MetavarNote}
use Rattle.rules.specs.Records.{kind_of, met, takes}
use Rattle.rules.specs.Plain.{Plain}
use Rattle.rules.specs.Tree.{built, tree_at}
use Rattle.meta.specs.Items.{record_at, meta_of}
use Rattle.meta.specs.declared.fields.TheConstants.{RECORD_SIZE}
use Rattle.meta.specs.declared.item.Item.{Item as CodeItem}
use Rattle.meta.specs.declared.item.Item.TheVariants as CI
use Rattle.meta.specs.declared.item.Meta.{Meta as CodeMeta}
use Rattle.meta.specs.declared.item.Meta.TheVariants as CM

-- a record of a kind has as many children as it takes and the notes that it needs
abbrev pub readable_as : List ℕ → List ℕ → Option Kind → Bool
readable_as r ks None = true
readable_as r ks (Some k) = length ks == takes k r && met k r Note && met k r MetavarNote

-- a record, as long as records are, that can be read over its children
abbrev pub readable : List ℕ → List ℕ → Bool
readable r ks = length r == RECORD_SIZE && readable_as r ks (kind_of r)

-- in every book with that record at that number, the node is what the rules build of the record, as of that kind, over the trees of those children
abbrev pub Decodes : (n : ℕ) (r ks : List ℕ) → Option Kind → CodeMeta → Type 0
Decodes n r ks k m = (p : Plain) → record_at p n ≡ r → meta_of p n m ≡ built p.notes n r (map (tree_at p) ks) k

-- all are below a number
abbrev pub AllBelow : ℕ → List ℕ → Type 0
AllBelow n ks = list_all (λ k. nat_lt k n) ks ≡ true

-- the body of a command is below a number
abbrev pub BelowItem : ℕ → CodeItem → Type 0
BelowItem n (CI.Any m a h) = Unit
BelowItem n (CI.Positional m h) = Unit
BelowItem n (CI.Command w s h k) = k < n
BelowItem n (CI.Flag w v h) = Unit
BelowItem n (CI.Argument w m v h) = Unit

-- each child of a node is below a number
abbrev pub Below : ℕ → CodeMeta → Type 0
Below n CM.Skip = Unit
Below n (CM.And ks) = AllBelow n ks.now
Below n (CM.Or ks) = AllBelow n ks.now
Below n (CM.Optional k) = k < n
Below n (CM.Required k) = k < n
Below n (CM.Adjacent k) = k < n
Below n (CM.Many k) = k < n
Below n (CM.Subsection k u) = k < n
Below n (CM.Suffix k u) = k < n
Below n (CM.CustomUsage k u) = k < n
Below n (CM.Strict k) = k < n
Below n (CM.Item i) = BelowItem n i
