-- The items and tree nodes of the code over a plain book, as those of the rules.
use Rattle.std.specs.Prelude.{ℕ, List, [], map, Some, None, Option, slice_get, unwrap_or}
use Rattle.std.specs.Option.{option_map}
use Rattle.terms.specs.declared.kind.Field.TheVariants as F
use Rattle.terms.specs.declared.kind.Field.{Field}
use Rattle.rules.specs.Notes.{Note}
use Rattle.rules.specs.Plain.{Plain, Node}
use Rattle.rules.specs.Tree.{Meta, Item, ShortLong, metas, word, no_note, tree_at}
use Rattle.rules.specs.Tree as T
use Rattle.meta.specs.declared.item.Part.{Part}
use Rattle.meta.specs.declared.item.Part.TheVariants as P
use Rattle.meta.specs.declared.item.Word.{Word}
use Rattle.meta.specs.declared.item.ShortLong.{ShortLong as CodeShortLong}
use Rattle.meta.specs.declared.item.ShortLong.TheVariants as CS
use Rattle.meta.specs.declared.item.Item.{Item as CodeItem}
use Rattle.meta.specs.declared.item.Item.TheVariants as CI
use Rattle.meta.specs.declared.item.Meta.{Meta as CodeMeta}
use Rattle.meta.specs.declared.item.Meta.TheVariants as CM

-- the field that a part of a record is
abbrev pub field_of : Part → Field
field_of P.Name = F.Name
field_of P.Metavar = F.Metavar
field_of P.Variable = F.Variable

abbrev pub record_in : Option Node → List ℕ
record_in None = []
record_in (Some n) = n.«record»

-- the record of a node
abbrev pub record_at : Plain → ℕ → List ℕ
record_at p n = record_in (slice_get p.nodes n)

-- the text of a word at its place
abbrev pub word_at : Plain → Word → List ℕ
word_at p w = word (field_of w.part) (record_at p w.node)

-- the note of a number; an absent one is empty
abbrev pub note_numbered : Plain → ℕ → Note
note_numbered p n = unwrap_or (slice_get p.notes n) no_note

abbrev pub maybe_note : Plain → Option ℕ → Option Note
maybe_note p None = None
maybe_note p (Some n) = slice_get p.notes n

abbrev pub name_in : Plain → CodeShortLong → ShortLong
name_in p (CS.Short s) = T.Short s
name_in p (CS.Long w) = T.Long (word_at p w)
name_in p (CS.Both s w) = T.Both s (word_at p w)

-- an item of a book
abbrev pub item_of : Plain → CodeItem → Item
item_of p (CI.Any m a h) = Item.any (note_numbered p m) a (maybe_note p h)
item_of p (CI.Positional m h) = Item.positional (word_at p m.0) (maybe_note p h)
item_of p (CI.Command n s h t) = Item.command (word_at p n) s (maybe_note p h) (tree_at p t)
item_of p (CI.Flag n v h) = Item.flag (name_in p n) (option_map (word_at p) v) (maybe_note p h)
item_of p (CI.Argument n m v h) = Item.argument (name_in p n) (word_at p m.0) (option_map (word_at p) v) (maybe_note p h)

-- the tree of a node of a book: its number, and what it says over the trees of its children
abbrev pub meta_of : Plain → ℕ → CodeMeta → Meta
meta_of p n CM.Skip = Meta.skip
meta_of p n (CM.And ks) = Meta.and (metas (map (tree_at p) ks.now))
meta_of p n (CM.Or ks) = Meta.or (metas (map (tree_at p) ks.now))
meta_of p n (CM.Optional k) = Meta.optional (tree_at p k)
meta_of p n (CM.Required k) = Meta.required (tree_at p k)
meta_of p n (CM.Adjacent k) = Meta.adjacent (tree_at p k)
meta_of p n (CM.Many k) = Meta.many (tree_at p k)
meta_of p n (CM.Subsection k u) = Meta.subsection (tree_at p k) (note_numbered p u)
meta_of p n (CM.Suffix k u) = Meta.suffix (tree_at p k) (note_numbered p u)
meta_of p n (CM.CustomUsage k u) = Meta.custom_usage (tree_at p k) (note_numbered p u)
meta_of p n (CM.Strict k) = Meta.strict (tree_at p k)
meta_of p n (CM.Item i) = Meta.item n (item_of p i)
