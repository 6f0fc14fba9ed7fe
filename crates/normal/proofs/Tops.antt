-- What stands at a bench's end.
use Rattle.std.proofs.Common.{◌≡◌, ℕ, ◌+◌, ◌-◌, ◌<◌, ◌≤◌, List, [], ◌∷◌, ◌++◌, length, get_or, take, sym, refl, ap, ◌∙◌, append_assoc, arith, length-append}
use Rattle.std.proofs.Math.ListN.{get_or-map}
use Rattle.std.proofs.lemmas.List.{get_or_at, take_at, get_or_append_left, length-map, take-map}
use Rattle.terms.specs.declared.kind.Kind.TheVariants as K
use Rattle.terms.specs.declared.kind.Kind.{Kind}
use Rattle.rules.specs.Plain.{Plain}
use Rattle.rules.specs.Tree.{Meta, Metas, Item, kind_of_tree}
use Rattle.meta.specs.declared.item.Item.{Item as CodeItem}
use Rattle.meta.specs.declared.item.Item.TheVariants as CI
use Rattle.meta.specs.Items.{item_of}
use Rattle.normal.specs.declared.bench.Form.{Form}
use Rattle.normal.specs.declared.bench.Form.TheVariants as F
use Rattle.normal.specs.declared.bench.Normal.{Normal}
use Rattle.normal.specs.Bench.{Top, Entry, post, posts, top_of, entry_of, entries, kind_of, kind_of_item}
use Rattle.rules.specs.Tree as T

-- the kind of a top
abbrev pub kind_of_top : Top → Kind
kind_of_top Top.skip = K.Skip
kind_of_top Top.and = K.And
kind_of_top Top.or = K.Or
kind_of_top Top.optional = K.Optional
kind_of_top Top.required = K.Required
kind_of_top Top.adjacent = K.Adjacent
kind_of_top Top.many = K.Many
kind_of_top Top.strict = K.Strict
kind_of_top (Top.subsection n) = K.Subsection
kind_of_top (Top.suffix n) = K.Suffix
kind_of_top (Top.custom_usage n) = K.CustomUsage
kind_of_top (Top.item n i) = T.kind_of_item i

pub item_kind : (p : Plain) (i : CodeItem) → T.kind_of_item (item_of p i) ≡ kind_of_item i
item_kind p (CI.Any m a h) = refl
item_kind p _ = refl

pub form_kind : (p : Plain) (f : Form) → kind_of_top (top_of p f) ≡ kind_of f
form_kind p (F.Item n i) = item_kind p i
form_kind p _ = refl

pub length-entries : (p : Plain) (ns : List Normal) → length (entries p ns) ≡ length ns
length-entries p ns = length-map ns (entry_of p)

pub entries-get_or : (p : Plain) (k : ℕ) (ns : List Normal) (d : Normal) → entry_of p (get_or ns k d) ≡ get_or (entries p ns) k (entry_of p d)
entries-get_or p k ns d = sym (get_or-map (entry_of p) ns k d)

-- a tree's entries end in its top
pub record Ends (t : Meta) : Type 0 where
  pub body : List Entry
  pub top : Entry
  pub is : post t ≡ body ++ top ∷ []
  pub kind : kind_of_top top.top ≡ kind_of_tree t

pub ends : (t : Meta) → Ends t
ends Meta.skip = record { body = []; top = _; is = refl; kind = refl }
ends (Meta.and ts) = record { body = posts ts; top = _; is = refl; kind = refl }
ends (Meta.or ts) = record { body = posts ts; top = _; is = refl; kind = refl }
ends (Meta.optional t) = record { body = post t; top = _; is = refl; kind = refl }
ends (Meta.required t) = record { body = post t; top = _; is = refl; kind = refl }
ends (Meta.adjacent t) = record { body = post t; top = _; is = refl; kind = refl }
ends (Meta.many t) = record { body = post t; top = _; is = refl; kind = refl }
ends (Meta.strict t) = record { body = post t; top = _; is = refl; kind = refl }
ends (Meta.subsection t n) = record { body = post t; top = _; is = refl; kind = refl }
ends (Meta.suffix t n) = record { body = post t; top = _; is = refl; kind = refl }
ends (Meta.custom_usage t n) = record { body = post t; top = _; is = refl; kind = refl }
ends (Meta.item n i) = record { body = []; top = _; is = refl; kind = refl }

-- what stands last, and what stands before it
pub last-is : (xs bs body : List Entry) (x d : Entry) → xs ≡ bs ++ (body ++ x ∷ []) → get_or xs (length xs - 1) d ≡ x
last-is xs bs body x d e =
    let f : xs ≡ (bs ++ body) ++ x ∷ [] = e ∙ sym (append_assoc bs body _) in
    let l : length xs ≡ length (bs ++ body) + 1 = ap length f ∙ length-append (bs ++ body) _ in
    let i : length (bs ++ body) ≡ length xs - 1 = omega arith in
    ap (λ (ys : List Entry). get_or ys (length xs - 1) d) f ∙ get_or_at (bs ++ body) x [] d _ i

kind_last : (xs bs : List Entry) (t : Meta) (d : Entry) → xs ≡ bs ++ post t → kind_of_top (get_or xs (length xs - 1) d).top ≡ kind_of_tree t
kind_last xs bs t d e =
    let s = ends t in
    ap (λ (y : Entry). kind_of_top y.top) (last-is xs bs s.body s.top d (e ∙ ap (λ (ys : List Entry). bs ++ ys) s.is)) ∙ s.kind

not_empty : (xs bs : List Entry) (t : Meta) → xs ≡ bs ++ post t → 1 ≤ length xs
not_empty xs bs t e =
    let s = ends t in
    let l : length xs ≡ length bs + length (post t) = ap length e ∙ length-append bs (post t) in
    let m : length (post t) ≡ length s.body + 1 = ap length s.is ∙ length-append s.body _ in
    omega arith

kind_second : (xs bs : List Entry) (t : Meta) (d z : Entry) → xs ≡ bs ++ (post t ++ z ∷ []) → kind_of_top (get_or xs (length xs - 2) d).top ≡ kind_of_tree t
kind_second xs bs t d z e =
    let f : xs ≡ (bs ++ post t) ++ z ∷ [] = e ∙ sym (append_assoc bs (post t) _) in
    let k : length xs ≡ length (bs ++ post t) + 1 = ap length f ∙ length-append (bs ++ post t) _ in
    let m : 1 ≤ length (bs ++ post t) = not_empty _ bs t refl in
    let h : length xs - 2 < length (bs ++ post t) = omega arith in
    let i : length xs - 2 ≡ length (bs ++ post t) - 1 = omega arith in
    ap (λ (ys : List Entry). kind_of_top (get_or ys (length xs - 2) d).top) f
    ∙ ap (λ (y : Entry). kind_of_top y.top) (get_or_append_left (bs ++ post t) (z ∷ []) d (length xs - 2) h)
    ∙ ap (λ (q : ℕ). kind_of_top (get_or (bs ++ post t) q d).top) i
    ∙ kind_last (bs ++ post t) bs t d refl

-- the forms of the last two nodes of a bench
pub top_is : (p : Plain) (ns : List Normal) (bs : List Entry) (t : Meta) (d : Normal) → entries p ns ≡ bs ++ post t → kind_of (get_or ns (length ns - 1) d).form ≡ kind_of_tree t
top_is p ns bs t d e =
    sym (form_kind p (get_or ns (length ns - 1) d).form)
    ∙ ap (λ (y : Entry). kind_of_top y.top) (entries-get_or p (length ns - 1) ns d)
    ∙ ap (λ (n : ℕ). kind_of_top (get_or (entries p ns) (n - 1) (entry_of p d)).top) (sym (length-entries p ns))
    ∙ kind_last (entries p ns) bs t (entry_of p d) e

pub second_is : (p : Plain) (ns : List Normal) (bs : List Entry) (t : Meta) (z : Entry) (d : Normal) → entries p ns ≡ bs ++ (post t ++ z ∷ []) → kind_of (get_or ns (length ns - 2) d).form ≡ kind_of_tree t
second_is p ns bs t z d e =
    sym (form_kind p (get_or ns (length ns - 2) d).form)
    ∙ ap (λ (y : Entry). kind_of_top y.top) (entries-get_or p (length ns - 2) ns d)
    ∙ ap (λ (n : ℕ). kind_of_top (get_or (entries p ns) (n - 2) (entry_of p d)).top) (sym (length-entries p ns))
    ∙ kind_second (entries p ns) bs t (entry_of p d) z e

-- a bench cut off where a tree starts
pub cut_off : (p : Plain) (ns ns' : List Normal) (n : ℕ) (bs es : List Entry) → ns' ≡ take n ns → entries p ns ≡ bs ++ es → length bs ≡ n → entries p ns' ≡ bs
cut_off p ns ns' n bs es r e l = ap (entries p) r ∙ sym (take-map (entry_of p) n ns) ∙ ap (take n) e ∙ take_at bs es n l
