-- What stands at a number of a book.
use Rattle.std.proofs.Common.{◌≡◌, ℕ, ◌+◌, ◌<◌, ◌≤◌, true, false, ltb, List, [], ◌∷◌, length, get_or, Some, None, vec_items, vec_len, sym, ap, ◌∙◌, subst, arith}
use Rattle.rules.proofs.Each.{All-index}
use Rattle.std.proofs.lemmas.List.{length-map}
use Rattle.std.proofs.lemmas.Bool.{and_parts, leb-true, ltb-true, ltb-false}
use Rattle.std.specs.List.{AllByRecursion as All}
use Rattle.std.proofs.lemmas.Option.{slice_get-map, slice_get-get_or, slice_get_past}
use Rattle.std.specs.Option.{option_map}
use Rattle.std.specs.Prelude.{slice_get}
use Rattle.rules.specs.Plain.{Plain, unplaced}
use Rattle.meta.specs.declared.book.Node.{Node}
use Rattle.meta.specs.declared.book.Book.TheInside.{Inside}
use Rattle.meta.specs.Shape.{node_of, nodes_of, spanned}
use Rattle.meta.specs.View.{plain_of, IsBook}

module _ (ns : List Node) (ks : List ℕ) (i : ℕ) where
  pub node_at : (x : Node) → i < length ns → x ≡ get_or ns i x → slice_get (nodes_of ns ks) i ≡ Some (node_of ks x)
  unfolding nodes_of
  node_at x l e = slice_get-map (node_of ks) ns i ∙ ap (option_map (node_of ks)) (slice_get-get_or ns i x l ∙ ap (λ y. Some y) (sym e))

  pub node_past : length ns ≤ i → slice_get (nodes_of ns ks) i ≡ None
  unfolding nodes_of
  node_past l = slice_get-map (node_of ks) ns i ∙ ap (option_map (node_of ks)) (slice_get_past ns i l)

all_spanned : (m : ℕ) (ns : List Node) → spanned m ns ≡ true → All (λ n. n.first + n.count ≤ m) ns
unfolding spanned
all_spanned m [] h = tt
all_spanned m (n ∷ ns) h = let p = and_parts _ _ h in (leb-true _ _ p.0, all_spanned m ns p.1)

pub spanned_at : (m : ℕ) (ns : List Node) (i : ℕ) (x : Node) → spanned m ns ≡ true → i < length ns → x ≡ get_or ns i x → x.first + x.count ≤ m
spanned_at m ns i x h l e = subst (λ n. n.first + n.count ≤ m) (sym e) (All-index (λ n. n.first + n.count ≤ m) ns i x l (all_spanned m ns h))

module _ (b : Inside) where
  pub nodes_long : length (plain_of b).nodes ≡ vec_len b.nodes
  unfolding nodes_of
  nodes_long = length-map (vec_items b.nodes) (node_of (vec_items b.kids)) ∙ sym b.nodes.ok.0

  pub unplaced_long : IsBook b → length (unplaced (plain_of b).nodes) ≡ vec_len b.unplaced
  unplaced_long k = sym (ap length k.stack) ∙ sym b.unplaced.ok.0

-- what a look-up among a book's nodes says of its plain book
module _ (b : Inside) {p : Plain} (is : plain_of b ≡ p) (i : ℕ) (ns : List Node) (same : ns ≡ vec_items b.nodes) where
  pub node_there : (x : Node) → true ≡ ltb i (length ns) → x ≡ get_or ns i x → slice_get p.nodes i ≡ Some (node_of (vec_items b.kids) x)
  node_there x l e =
      let within : i < length (vec_items b.nodes) = subst (λ t. i < length t) same (ltb-true i (length ns) (sym l)) in
      let here : x ≡ get_or (vec_items b.nodes) i x = subst (λ t. x ≡ get_or t i x) same e in
      subst (λ (q : Plain). slice_get q.nodes i ≡ Some (node_of (vec_items b.kids) x)) is (node_at (vec_items b.nodes) (vec_items b.kids) i x within here)

  -- its run of children is among those that the book has
  pub node_span : IsBook b → (x : Node) → true ≡ ltb i (length ns) → x ≡ get_or ns i x → (x.first + x.count ≤ vec_len b.kids) × (vec_len b.kids ≤ 256)
  node_span k x l e =
      let within : i < length (vec_items b.nodes) = subst (λ t. i < length t) same (ltb-true i (length ns) (sym l)) in
      let here : x ≡ get_or (vec_items b.nodes) i x = subst (λ t. x ≡ get_or t i x) same e in
      (omega (arith, spanned_at (length (vec_items b.kids)) (vec_items b.nodes) i x k.runs within here, b.kids.ok.0), omega (arith, k.shared, k.few))

  pub node_absent : false ≡ ltb i (length ns) → slice_get p.nodes i ≡ None
  node_absent l =
      let past : length (vec_items b.nodes) ≤ i = subst (λ t. length t ≤ i) same (ltb-false i (length ns) (sym l)) in
      subst (λ (q : Plain). slice_get q.nodes i ≡ None) is (node_past (vec_items b.nodes) (vec_items b.kids) i past)
