-- One node more, over the last of the nodes without a parent.
use Rattle.std.proofs.Common.{◌≡◌, ℕ, ◌+◌, ◌-◌, ◌<◌, ◌≤◌, Bool, true, false, not, ◌||◌, List, [], ◌∷◌, ◌++◌, length, take, drop, filter, sym, refl, ap, ◌∙◌, add-one, arith}
use Rattle.std.proofs.lemmas.Bool.{cond-true, and_parts, and_from, leb-true, le-leb, or_from}
use Rattle.std.proofs.lemmas.List.Elements.{filter-append}
use Rattle.rules.proofs.Each.{All-drop}
use Rattle.std.proofs.lemmas.List.{length_push, map_push, drop-append-le, take-append-le, take_all, drop_at, length-drop}
use Rattle.rules.specs.Plain.{has_parent, upto, unplaced}
use Rattle.rules.specs.Plain as P
use Rattle.meta.specs.Shape.{node_of, nodes_of, spanned}
use Rattle.meta.specs.declared.book.Node.{Node}
use Rattle.rules.proofs.Kept.{unplaced_below, unplaced_rises}
use Rattle.meta.proofs.Rising.{has, has_not_above, kept_front, kept_twice, kept_same}

pub parent_push : (ns : List P.Node) (n : P.Node) (i : ℕ) → has_parent (ns ++ n ∷ []) i ≡ (has_parent ns i || has i n.children)
parent_push [] n i = elim (has i n.children) as (λ t. (t || false) ≡ t) [ true ↦ refl | false ↦ refl ]
parent_push (m ∷ ns) n i =
    elim (has i m.children) as (λ t. (t || has_parent (ns ++ n ∷ []) i) ≡ ((t || has_parent ns i) || has i n.children)) [
      | true ↦ refl
      | false ↦ parent_push ns n i
    ]

-- a node over all but the first m of those without a parent: these stay, and the node joins them
pub unplaced-push :
    (ns : List P.Node) (n : P.Node) (m : ℕ) → n.children ≡ drop m (unplaced ns) → has_parent ns (length ns) ≡ false → unplaced (ns ++ n ∷ []) ≡ take m (unplaced ns) ++ length ns ∷ []
unfolding unplaced
unplaced-push ns n m e top =
    let P : ℕ → Bool = has_parent ns in
    let Q : ℕ → Bool = λ i. has i n.children in
    let R : ℕ → Bool = λ i. not (has_parent (ns ++ n ∷ []) i) in
    let same : (i : ℕ) → R i ≡ not (P i || Q i) = λ i. ap not (parent_push ns n i) in
    let front : filter R (upto (length ns)) ≡ take m (unplaced ns) =
    kept_same R (λ i. not (P i || Q i)) same (upto (length ns)) ∙ kept_twice P Q (upto (length ns)) ∙ ap (λ t. filter (λ i. not (has i t)) (unplaced ns)) e ∙ kept_front m (unplaced ns) (unplaced_rises ns) in
    let above : Q (length ns) ≡ false = ap (has (length ns)) e ∙ has_not_above _ _ (All-drop (λ i. i < length ns) m (unplaced ns) (unplaced_below ns)) in
    let stays : R (length ns) ≡ true = same (length ns) ∙ ap not (or_from _ _ top above) in
    let last : filter R (length ns ∷ []) ≡ length ns ∷ [] = cond-true _ _ _ stays in
    ap (λ t. filter R (upto t)) (length_push ns n ∙ add-one (length ns)) ∙ filter-append R (upto (length ns)) (length ns ∷ []) ∙ ap (λ t. t ++ filter R (length ns ∷ [])) front ∙ ap (λ t. take m (unplaced ns) ++ t) last

pub spanned-push : (m more : ℕ) (ns : List Node) (n : Node) → spanned m ns ≡ true → n.first + n.count ≤ m + more → spanned (m + more) (ns ++ n ∷ []) ≡ true
unfolding spanned
spanned-push m more [] n h l = and_from _ _ (le-leb _ _ l) refl
spanned-push m more (x ∷ ns) n h l =
    let p = and_parts _ _ h in
    let q : x.first + x.count ≤ m = leb-true _ _ p.0 in
    and_from _ _ (le-leb _ _ (omega arith)) (spanned-push m more ns n p.1 l)

-- more kids leave the nodes as they were
pub nodes_same : (ns : List Node) (ks new : List ℕ) → spanned (length ks) ns ≡ true → nodes_of ns (ks ++ new) ≡ nodes_of ns ks
unfolding nodes_of spanned node_of
nodes_same [] ks new h = refl
nodes_same (n ∷ ns) ks new h =
    let p = and_parts _ _ h in
    let q : n.first + n.count ≤ length ks = leb-true _ _ p.0 in
    let long : length (drop n.first ks) ≡ length ks - n.first = length-drop n.first ks in
    let run : take n.count (drop n.first (ks ++ new)) ≡ take n.count (drop n.first ks) =
    ap (take n.count) (drop-append-le n.first ks new (omega arith)) ∙ take-append-le n.count (drop n.first ks) new (omega arith) in
    ap (λ (t : List ℕ). record { «record» = n.«record»; children = t } ∷ nodes_of ns (ks ++ new)) run ∙ ap (λ t. node_of ks n ∷ t) (nodes_same ns ks new p.1)

pub nodes_push : (ns : List Node) (n : Node) (ks new : List ℕ) → spanned (length ks) ns ≡ true → n.first ≡ length ks → n.count ≡ length new → nodes_of (ns ++ n ∷ []) (ks ++ new) ≡ nodes_of ns ks ++ record { «record» = n.«record»; children = new } ∷ []
unfolding nodes_of node_of
nodes_push ns n ks new h f k =
    let run : take n.count (drop n.first (ks ++ new)) ≡ new = ap (take n.count) (drop_at ks new n.first (sym f)) ∙ take_all n.count new (omega arith) in
    map_push (node_of (ks ++ new)) ns n ∙ ap (λ t. t ++ node_of (ks ++ new) n ∷ []) (nodes_same ns ks new h) ∙ ap (λ (t : List ℕ). nodes_of ns ks ++ record { «record» = n.«record»; children = t } ∷ []) run
