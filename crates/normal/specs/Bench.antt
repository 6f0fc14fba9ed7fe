-- The entries of a bench: a tree in postorder.
use Rattle.std.specs.Prelude.{ℕ, zero, suc, ◌+◌, List, [], ◌∷◌, ◌++◌, map, length, drop, slice_index_or}
use Rattle.terms.specs.declared.kind.Kind.TheVariants as K
use Rattle.terms.specs.declared.kind.Kind.{Kind}
use Rattle.rules.specs.Notes.{Note}
use Rattle.rules.specs.Plain.{Plain}
use Rattle.rules.specs.Tree.{Meta, Metas, Item}
use Rattle.meta.specs.Items.{item_of, note_numbered}
use Rattle.meta.specs.declared.item.Item.{Item as CodeItem}
use Rattle.meta.specs.declared.item.Item.TheVariants as CI
use Rattle.normal.specs.declared.bench.Form.{Form}
use Rattle.normal.specs.declared.bench.Form.TheVariants as F
use Rattle.normal.specs.declared.bench.Normal.{Normal}

-- the top of a tree, without what is below it
pub data Top : Type 0 where
  skip and or optional required adjacent many strict : Top
  subsection suffix custom_usage : Note → Top
  item : ℕ → Item → Top

-- the top of a tree, the number of its children for And and Or, and how many entries its tree has
pub record Entry : Type 0 where
  pub top : Top
  pub count : ℕ
  pub size : ℕ

-- how many trees a row has
abbrev pub len : Metas → ℕ
len Metas.none = 0
len (Metas.more t ts) = suc (len ts)

-- the entries below a top, and the top behind them
abbrev pub seal : Top → ℕ → List Entry → List Entry
seal top n body = body ++ record { top = top; count = n; size = length body + 1 } ∷ []

-- the entries of a tree, each behind those below it
abbrev mutual
  pub post : Meta → List Entry
  post Meta.skip = seal Top.skip 0 []
  post (Meta.and ts) = seal Top.and (len ts) (posts ts)
  post (Meta.or ts) = seal Top.or (len ts) (posts ts)
  post (Meta.optional t) = seal Top.optional 0 (post t)
  post (Meta.required t) = seal Top.required 0 (post t)
  post (Meta.adjacent t) = seal Top.adjacent 0 (post t)
  post (Meta.many t) = seal Top.many 0 (post t)
  post (Meta.strict t) = seal Top.strict 0 (post t)
  post (Meta.subsection t n) = seal (Top.subsection n) 0 (post t)
  post (Meta.suffix t n) = seal (Top.suffix n) 0 (post t)
  post (Meta.custom_usage t n) = seal (Top.custom_usage n) 0 (post t)
  post (Meta.item n i) = seal (Top.item n i) 0 []

  -- the entries of a row of trees
  pub posts : Metas → List Entry
  posts Metas.none = []
  posts (Metas.more t ts) = post t ++ posts ts

-- the last so many trees of a pile, the last first, in front of others
abbrev pub gather : ℕ → Metas → List Meta → Metas
gather zero ts pile = ts
gather (suc n) ts [] = ts
gather (suc n) ts (t ∷ pile) = gather n (Metas.more t ts) pile

-- a pile of trees after an entry, which takes its children off it and puts its tree on it
abbrev pub step : Top → ℕ → List Meta → List Meta
step Top.skip n pile = Meta.skip ∷ pile
step Top.and n pile = Meta.and (gather n Metas.none pile) ∷ drop n pile
step Top.or n pile = Meta.or (gather n Metas.none pile) ∷ drop n pile
step Top.optional n pile = Meta.optional (slice_index_or pile 0 Meta.skip) ∷ drop 1 pile
step Top.required n pile = Meta.required (slice_index_or pile 0 Meta.skip) ∷ drop 1 pile
step Top.adjacent n pile = Meta.adjacent (slice_index_or pile 0 Meta.skip) ∷ drop 1 pile
step Top.many n pile = Meta.many (slice_index_or pile 0 Meta.skip) ∷ drop 1 pile
step Top.strict n pile = Meta.strict (slice_index_or pile 0 Meta.skip) ∷ drop 1 pile
step (Top.subsection u) n pile = Meta.subsection (slice_index_or pile 0 Meta.skip) u ∷ drop 1 pile
step (Top.suffix u) n pile = Meta.suffix (slice_index_or pile 0 Meta.skip) u ∷ drop 1 pile
step (Top.custom_usage u) n pile = Meta.custom_usage (slice_index_or pile 0 Meta.skip) u ∷ drop 1 pile
step (Top.item n i) c pile = Meta.item n i ∷ pile

-- a pile of trees after some entries
abbrev pub run : List Entry → List Meta → List Meta
run [] pile = pile
run (e ∷ es) pile = run es (step e.top e.count pile)

-- the tree of a list of entries
abbrev pub tree_in : List Entry → Meta
tree_in es = slice_index_or (run es []) 0 Meta.skip

-- what a node of a bench says, over a book
abbrev pub top_of : Plain → Form → Top
top_of p F.Skip = Top.skip
top_of p (F.And n) = Top.and
top_of p (F.Or n) = Top.or
top_of p F.Optional = Top.optional
top_of p F.Required = Top.required
top_of p F.Many = Top.many
top_of p F.Strict = Top.strict
top_of p (F.CustomUsage n) = Top.custom_usage (note_numbered p n)
top_of p (F.Item n i) = Top.item n (item_of p i)

-- how many children an And or an Or has
abbrev pub count_of : Form → ℕ
count_of (F.And n) = n
count_of (F.Or n) = n
count_of _ = 0

-- a node of a bench, over a book
abbrev pub entry_of : Plain → Normal → Entry
entry_of p n = record { top = top_of p n.form; count = count_of n.form; size = n.size }

-- the nodes of a bench, over a book
abbrev pub entries : Plain → List Normal → List Entry
entries p ns = map (entry_of p) ns

-- the kind of an item, and of a form
abbrev pub kind_of_item : CodeItem → Kind
kind_of_item (CI.Any m a h) = K.Any
kind_of_item (CI.Positional m h) = K.Positional
kind_of_item (CI.Command n s h t) = K.Command
kind_of_item (CI.Flag n v h) = K.Flag
kind_of_item (CI.Argument n m v h) = K.Argument

-- the kind of a form, an item's being its own
abbrev pub kind_of : Form → Kind
kind_of F.Skip = K.Skip
kind_of (F.And n) = K.And
kind_of (F.Or n) = K.Or
kind_of F.Optional = K.Optional
kind_of F.Required = K.Required
kind_of F.Many = K.Many
kind_of F.Strict = K.Strict
kind_of (F.CustomUsage n) = K.CustomUsage
kind_of (F.Item n i) = kind_of_item i
