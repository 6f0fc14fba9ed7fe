-- From the top of a tree to its shape.
use Rattle.std.proofs.Common.{◌≡◌, ℕ, ◌+◌, ◌-◌, ◌<◌, ◌≤◌, true, false, eqb, Bor, List, [], ◌∷◌, ◌++◌, length, take, drop, Some, Option, sym, refl, ap, ◌∙◌, append_assoc, arith, length-append, length-drop}
use Rattle.std.proofs.lemmas.Bool.{eqb-true, eqb-false}
use Rattle.std.proofs.lemmas.List.{map-append, take_at, drop_at, same_from_push, take_all, take-append-drop, length-take-le}
use Rattle.std.proofs.lemmas.Option.{MatchOption-at_some}
use Rattle.std.specs.Prelude.{MatchOption}
use Rattle.std.specs.List.{IsLastAndRest, slice_range}
use Rattle.rules.specs.Plain.{Plain}
use Rattle.rules.specs.Tree.{Meta, Metas, inside}
use Rattle.rules.specs.Reading.{Element, reading, joined}
use Rattle.rules.specs.Content.{element_ops, spell}
use Rattle.normal.specs.Bench.{Top, Entry, len, seal, post, posts, top_of, entry_of, entries}
use Rattle.normal.specs.declared.bench.Form.{Form}
use Rattle.normal.specs.declared.bench.Normal.{Normal}
use Rattle.normal.proofs.Tops.{length-entries}
use Rattle.usage.specs.Standing.{IsTree, IsRow}
use Rattle.usage.proofs.Rows.{Parted, parted_more, posts_last, spelled_one, spelled_more}

abbrev pub top_of_tree : Meta → Top
top_of_tree Meta.skip = Top.skip
top_of_tree (Meta.and ts) = Top.and
top_of_tree (Meta.or ts) = Top.or
top_of_tree (Meta.optional t) = Top.optional
top_of_tree (Meta.required t) = Top.required
top_of_tree (Meta.adjacent t) = Top.adjacent
top_of_tree (Meta.many t) = Top.many
top_of_tree (Meta.strict t) = Top.strict
top_of_tree (Meta.subsection t n) = Top.subsection n
top_of_tree (Meta.suffix t n) = Top.suffix n
top_of_tree (Meta.custom_usage t n) = Top.custom_usage n
top_of_tree (Meta.item n i) = Top.item n i

-- the children of an And or an Or
abbrev pub row_of : Meta → Metas
row_of Meta.skip = Metas.none
row_of (Meta.and ts) = ts
row_of (Meta.or ts) = ts
row_of (Meta.optional t) = Metas.none
row_of (Meta.required t) = Metas.none
row_of (Meta.adjacent t) = Metas.none
row_of (Meta.many t) = Metas.none
row_of (Meta.strict t) = Metas.none
row_of (Meta.subsection t n) = Metas.none
row_of (Meta.suffix t n) = Metas.none
row_of (Meta.custom_usage t n) = Metas.none
row_of (Meta.item n i) = Metas.none

-- a tree, made again by its top
abbrev pub rebuilt : Top → Meta → Meta
rebuilt Top.skip t = Meta.skip
rebuilt Top.and t = Meta.and (row_of t)
rebuilt Top.or t = Meta.or (row_of t)
rebuilt Top.optional t = Meta.optional (inside t)
rebuilt Top.required t = Meta.required (inside t)
rebuilt Top.adjacent t = Meta.adjacent (inside t)
rebuilt Top.many t = Meta.many (inside t)
rebuilt Top.strict t = Meta.strict (inside t)
rebuilt (Top.subsection n) t = Meta.subsection (inside t) n
rebuilt (Top.suffix n) t = Meta.suffix (inside t) n
rebuilt (Top.custom_usage n) t = Meta.custom_usage (inside t) n
rebuilt (Top.item n i) t = Meta.item n i

whole : (t : Meta) → t ≡ rebuilt (top_of_tree t) t
whole Meta.skip = refl
whole (Meta.and ts) = refl
whole (Meta.or ts) = refl
whole (Meta.optional t) = refl
whole (Meta.required t) = refl
whole (Meta.adjacent t) = refl
whole (Meta.many t) = refl
whole (Meta.strict t) = refl
whole (Meta.subsection t n) = refl
whole (Meta.suffix t n) = refl
whole (Meta.custom_usage t n) = refl
whole (Meta.item n i) = refl

-- the entries below a tree's top
abbrev pub body_of : Meta → List Entry
body_of Meta.skip = []
body_of (Meta.and ts) = posts ts
body_of (Meta.or ts) = posts ts
body_of (Meta.optional t) = post t
body_of (Meta.required t) = post t
body_of (Meta.adjacent t) = post t
body_of (Meta.many t) = post t
body_of (Meta.strict t) = post t
body_of (Meta.subsection t n) = post t
body_of (Meta.suffix t n) = post t
body_of (Meta.custom_usage t n) = post t
body_of (Meta.item n i) = []

-- how many children a tree's top tells
abbrev pub count_of : Meta → ℕ
count_of Meta.skip = 0
count_of (Meta.and ts) = len ts
count_of (Meta.or ts) = len ts
count_of (Meta.optional t) = 0
count_of (Meta.required t) = 0
count_of (Meta.adjacent t) = 0
count_of (Meta.many t) = 0
count_of (Meta.strict t) = 0
count_of (Meta.subsection t n) = 0
count_of (Meta.suffix t n) = 0
count_of (Meta.custom_usage t n) = 0
count_of (Meta.item n i) = 0

pub sealed : (t : Meta) → post t ≡ seal (top_of_tree t) (count_of t) (body_of t)
sealed Meta.skip = refl
sealed (Meta.and ts) = refl
sealed (Meta.or ts) = refl
sealed (Meta.optional t) = refl
sealed (Meta.required t) = refl
sealed (Meta.adjacent t) = refl
sealed (Meta.many t) = refl
sealed (Meta.strict t) = refl
sealed (Meta.subsection t n) = refl
sealed (Meta.suffix t n) = refl
sealed (Meta.custom_usage t n) = refl
sealed (Meta.item n i) = refl

post_length : (t : Meta) → length (post t) ≡ length (body_of t) + 1
post_length t = ap length (sealed t) ∙ length-append (body_of t) _

-- the entry of a tree's top
abbrev pub top_entry : Meta → Entry
top_entry t = record { top = top_of_tree t; count = count_of t; size = length (body_of t) + 1 }

-- the nodes before the last are what is below the top, and the last is the top
ends : (p : Plain) (tree below : List Normal) (top : Normal) (es : List Entry) (t : Meta) → tree ≡ below ++ top ∷ [] → entries p tree ≡ es ++ post t
    → (entries p below ≡ es ++ body_of t) × (entry_of p top ≡ top_entry t)
ends p tree below top es t cut is =
    same_from_push (entries p below) (es ++ body_of t) (entry_of p top) (top_entry t)
    (sym (map-append (entry_of p) below (top ∷ [])) ∙ sym (ap (entries p) cut) ∙ is ∙ ap (λ (xs : List Entry). es ++ xs) (sealed t)
    ∙ sym (append_assoc es (body_of t) (top_entry t ∷ [])))

-- what the last node of a tree tells of it, and of the nodes before it
pub record Opened (p : Plain) (tree below : List Normal) (f : Form) (t : Meta) : Type 0 where
  pub shape : t ≡ rebuilt (top_of p f) t
  pub body : entries p below ≡ body_of (rebuilt (top_of p f) t)
  pub smaller : length below < length tree

pub opened : {p : Plain} {tree : List Normal} {r : Option (Bor Normal × Bor (List Normal))} {x : Bor Normal × Bor (List Normal)} (f : Form) (t : Meta)
    → MatchOption r (length tree ≡ 0) (λ y. IsLastAndRest tree y.0.now y.1.now) → r ≡ Some x → x.0.now.form ≡ f → IsTree p tree t → Opened p tree x.1.now f t
opened {p} {tree} {r} {x} f t cases some e is =
    let cut : IsLastAndRest tree x.0.now x.1.now = MatchOption-at_some (length tree ≡ 0) (λ y. IsLastAndRest tree y.0.now y.1.now) x some cases in
    let both = ends p tree x.1.now x.0.now [] t cut.0 is in
    let tops : top_of p f ≡ top_of_tree t = ap (top_of p) (sym e) ∙ ap (λ (n : Entry). n.top) both.1 in
    let shape : t ≡ rebuilt (top_of p f) t = whole t ∙ ap (λ (n : Top). rebuilt n t) (sym tops) in
    record {
      shape = shape;
      body = both.0 ∙ ap body_of shape;
      smaller = omega (arith, cut.1);
    }

-- a tree has a top
pub tree-some : (p : Plain) (tree : List Normal) (t : Meta) → IsTree p tree t → 0 < length tree
tree-some p tree t is =
    let l = length-entries p tree in
    let m = ap length is in
    let n = post_length t in
    omega arith

-- a row without nodes has no tree, and one with nodes has some
pub row-none : (p : Plain) (row : List Normal) (ts : Metas) → IsRow p row ts → length row ≡ 0 → len ts ≡ 0
row-none p row Metas.none is e = refl
row-none p row (Metas.more t ts) is e =
    let l = length-entries p row in
    let m = ap length is in
    let n = length-append (post t) (posts ts) in
    let k = post_length t in
    absurd (omega arith)

pub row-some : (p : Plain) (row : List Normal) (ts : Metas) → IsRow p row ts → 0 < length row → 1 ≤ len ts
row-some p row Metas.none is h =
    let l = length-entries p row in
    let m = ap length is in
    absurd (omega arith)
row-some p row (Metas.more t ts) is h = omega arith

-- the last tree of a row, and the row before it, which has trees exactly where it has nodes
pub record Split (p : Plain) (row front last : List Normal) (ts : Metas) : Type 0 where
  pub front_trees : Metas
  pub last_tree : Meta
  pub last_is : IsTree p last last_tree
  pub front_is : IsRow p front front_trees
  pub smaller : length front < length row
  pub last_smaller : eqb (length front) 0 ≡ false → length last < length row
  pub alone : (e : Element) → eqb (length front) 0 ≡ true → spell (joined e ts) ≡ spell (reading last_tree)
  pub behind : (e : Element) → eqb (length front) 0 ≡ false → spell (joined e ts) ≡ spell (joined e front_trees) ++ (element_ops e ++ spell (reading last_tree))

-- the parts of a row that is cut before its last tree
record Halves (p : Plain) (front last : List Normal) (us : Metas) (u : Meta) : Type 0 where
  tree : IsTree p last u
  row : IsRow p front us

-- the last tree of a row is not larger than the row
last_size : (p : Plain) (row rest : List Normal) (top : Normal) (us : Metas) (u : Meta) → row ≡ rest ++ top ∷ [] → entries p row ≡ posts us ++ post u
    → (top.size ≡ length (post u)) × (length row ≡ length (posts us) + length (post u))
last_size p row rest top us u cut whole =
    let both = ends p row rest top (posts us) u cut whole in
    (ap (λ (n : Entry). n.size) both.1 ∙ sym (post_length u), sym (length-entries p row) ∙ ap length whole ∙ length-append (posts us) (post u))

halves : (p : Plain) (row front last rest : List Normal) (top : Normal) (us : Metas) (u : Meta) → row ≡ rest ++ top ∷ [] → row ≡ front ++ last
    → length front ≡ length row - top.size → entries p row ≡ posts us ++ post u → Halves p front last us u
halves p row front last rest top us u cut apart long whole =
    let before = posts us in
    let size = last_size p row rest top us u cut whole in
    let n : length (entries p front) ≡ length before = (let l = length-entries p front in omega (arith, size.0, size.1)) in
    let same : entries p front ++ entries p last ≡ before ++ post u = sym (map-append (entry_of p) front last) ∙ sym (ap (entries p) apart) ∙ whole in
    record {
      tree = sym (drop_at (entries p front) (entries p last) (length before) n) ∙ ap (drop (length before)) same ∙ drop_at before (post u) (length before) refl;
      row = sym (take_at (entries p front) (entries p last) (length before) n) ∙ ap (take (length before)) same ∙ take_at before (post u) (length before) refl;
    }

-- a row that has a node has a last tree
parts_of : (p : Plain) (row rest : List Normal) (top : Normal) (ts : Metas) → row ≡ rest ++ top ∷ [] → IsRow p row ts → Parted ts
parts_of p row rest top Metas.none cut is =
    let n = ap length is in
    let l = length-entries p row in
    let m = ap length cut in
    let k = length-append rest (top ∷ []) in
    absurd (omega arith)
parts_of p row rest top (Metas.more t ts) cut is = parted_more t ts

whole_row : (p : Plain) (row : List Normal) (ts : Metas) (q : Parted ts) → IsRow p row ts → entries p row ≡ posts q.front ++ post q.last
whole_row p row ts q is = is ∙ ap posts q.is ∙ posts_last q.front q.last

-- the last tree of a row is not larger than the row
pub fits_row : (p : Plain) (row rest : List Normal) (top : Normal) (ts : Metas) → row ≡ rest ++ top ∷ [] → IsRow p row ts → top.size ≤ length row
fits_row p row rest top ts cut is =
    let q = parts_of p row rest top ts cut is in
    let size = last_size p row rest top q.front q.last cut (whole_row p row ts q is) in
    omega (arith, size.0, size.1)

pub split : {p : Plain} {row front last : List Normal} {size : ℕ} (rest : List Normal) (top : Normal) (ts : Metas) → row ≡ rest ++ top ∷ [] → row ≡ front ++ last
    → size ≡ top.size → length front ≡ length row - size → IsRow p row ts → Split p row front last ts
split {p} {row} {front} {last} {size} rest top ts cut apart told long is =
    let q = parts_of p row rest top ts cut is in
    let whole = whole_row p row ts q is in
    let sizes = last_size p row rest top q.front q.last cut whole in
    let tree = post_length q.last in
    let half = halves p row front last rest top q.front q.last cut apart (long ∙ ap (λ n. length row - n) told) whole in
    record {
      front_trees = q.front;
      last_tree = q.last;
      last_is = half.tree;
      front_is = half.row;
      smaller = omega (arith, sizes.0, sizes.1);
      last_smaller = λ some. (let n = ap length apart in let k = length-append front last in omega (arith, eqb-false (length front) 0 some));
      alone = λ e none. spelled_one e ts q (let n = row-none p front q.front half.row (eqb-true (length front) 0 none) in let m = q.count in omega arith);
      behind = λ e some. spelled_more e ts q (let h : 0 < length front = omega (arith, eqb-false (length front) 0 some) in let n = row-some p front q.front half.row h in let m = q.count in omega arith);
    }

-- the same of a row whose front is taken by the size of its last tree
pub split_before : {p : Plain} {row front : List Normal} {size : ℕ} (rest : List Normal) (top : Normal) (ts : Metas) → row ≡ rest ++ top ∷ [] → size ≡ top.size
    → front ≡ take (length row - size) row → IsRow p row ts → Split p row front (slice_range row (length front) (length row)) ts
split_before {p} {row} {front} {size} rest top ts cut told before is =
    let long : length front ≡ length row - size = ap length before ∙ length-take-le (length row - size) row (omega arith) in
    let last : slice_range row (length front) (length row) ≡ drop (length front) row =
    take_all (length row - length front) (drop (length front) row) (omega (arith, length-drop {A = Normal})) in
    let seam : front ++ drop (length front) row ≡ row =
    ap (λ (n : ℕ). front ++ drop n row) long ∙ ap (λ (xs : List Normal). xs ++ drop (length row - size) row) before ∙ take-append-drop (length row - size) row in
    split rest top ts cut (sym (ap (λ (xs : List Normal). front ++ xs) last ∙ seam)) told long is
