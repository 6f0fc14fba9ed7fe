-- What `place` does to the three lists of a book, and that it keeps what always holds of them.
use Rattle.std.proofs.Common.{◌≡◌, ℕ, ◌+◌, ◌-◌, ◌<◌, ◌≤◌, min, true, false, List, [], ◌∷◌, ◌++◌, length, take, drop, Some, None, vec_items, vec_len, sym, ap, ◌∙◌, subst, arith}
use Rattle.std.proofs.lemmas.List.{length-map, length-drop, length-append}
use Rattle.std.specs.Option.{option_map}
use Rattle.rules.specs.Notes.{Note, notes_of}
use Rattle.rules.specs.Records.{kind_of, takes}
use Rattle.rules.specs.Plain.{Plain, new, has_parent, unplaced, last, taken, grown, add_rule, unless}
use Rattle.rules.specs.Plain as P
use Rattle.rules.specs.Sound.{Sound}
use Rattle.meta.specs.declared.book.Book.TheInside.{Inside}
use Rattle.meta.specs.declared.book.Node.{Node}
use Rattle.meta.specs.Shape.{node_of, nodes_of, plain_from, spanned}
use Rattle.meta.specs.View.{plain_of, IsBook}
use Rattle.rules.proofs.Kept.{passes, new_sound, added_sound}
use Rattle.meta.proofs.Keeping.{next_free}
use Rattle.meta.proofs.Loose.{unplaced-push, spanned-push, nodes_push}
use Rattle.meta.proofs.Stands.{nodes_long, unplaced_long}

-- nothing yet
pub spanned-none : (m : ℕ) {ns : List Node} → ns ≡ [] → spanned m ns ≡ true
unfolding spanned
spanned-none m e = ap (spanned m) e

pub unplaced-none : (ks : List ℕ) {ns : List Node} {us : List ℕ} → us ≡ [] → ns ≡ [] → us ≡ unplaced (nodes_of ns ks)
unfolding unplaced nodes_of
unplaced-none ks e f = e ∙ sym (ap (λ t. unplaced (nodes_of t ks)) f)

pub new_is : (places : ℕ) (ks marks text : List ℕ) {notes : List Note} {ns : List Node} → ns ≡ [] → notes ≡ notes_of marks text → plain_from places notes ns ks ≡ new places marks text
unfolding nodes_of
new_is places ks marks text {notes} e f =
    ap (λ (t : List Node). plain_from places notes t ks) e ∙ ap (λ (t : List Note). record { places = places; notes = t; nodes = [] }) f

pub new-keeps : (places : ℕ) (ks marks text : List ℕ) {notes : List Note} {ns : List Node} → ns ≡ [] → notes ≡ notes_of marks text → Sound (plain_from places notes ns ks)
new-keeps places ks marks text e f = subst Sound (sym (new_is places ks marks text e f)) (new_sound places marks text)

same_node : {r r' c c' : List ℕ} → r ≡ r' → c ≡ c' → ◌≡◌ {A = P.Node} (record { «record» = r; children = c }) (record { «record» = r'; children = c' })
same_node e f = rw (e, f)

-- a node n more, over the last k of us
pub record Step (ns ns' : List Node) (ks ks' us us' : List ℕ) (n : Node) (m k top : ℕ) : Type 0 where
  pub nodes : ns' ≡ ns ++ n ∷ []
  pub kids : ks' ≡ ks ++ drop m us
  pub loosened : us' ≡ take m us ++ top ∷ []
  pub numbered : top ≡ length ns
  pub split : m + k ≡ length us
  pub begins : n.first ≡ length ks
  pub counts : n.count ≡ k
  pub runs : spanned (length ks) ns ≡ true
  pub free : has_parent (nodes_of ns ks) (length (nodes_of ns ks)) ≡ false
  pub stack : us ≡ unplaced (nodes_of ns ks)

module _ {ns ns' : List Node} {ks ks' us us' : List ℕ} {n : Node} {m k top : ℕ} (s : Step ns ns' ks ks' us us' n m k top) where
  new_long : length (drop m us) ≡ k
  new_long = length-drop m us ∙ omega (arith, s.split)

  nodes_after : nodes_of ns' ks' ≡ nodes_of ns ks ++ record { «record» = n.«record»; children = drop m us } ∷ []
  nodes_after = rw (s.nodes, s.kids) (nodes_push ns n ks (drop m us) s.runs s.begins (s.counts ∙ sym new_long))

  pub runs_after : spanned (length ks') ns' ≡ true
  runs_after =
      let long : length ks' ≡ length ks + k = ap length s.kids ∙ length-append ks (drop m us) ∙ ap (λ t. length ks + t) new_long in
      rw (long, s.nodes) (spanned-push (length ks) k ns n s.runs (omega (arith, s.begins, s.counts)))

  plain_long : length (nodes_of ns ks) ≡ length ns
  unfolding nodes_of
  plain_long = length-map ns (node_of ks)

  pub stack_after : us' ≡ unplaced (nodes_of ns' ks')
  stack_after =
      let more = unplaced-push (nodes_of ns ks) (record { «record» = n.«record»; children = drop m us }) m (ap (drop m) s.stack) s.free in
      s.loosened ∙ ap (λ t. take m us ++ t ∷ []) (s.numbered ∙ sym plain_long) ∙ ap (λ t. take m t ++ length (nodes_of ns ks) ∷ []) s.stack ∙ sym more ∙ ap unplaced (sym nodes_after)

  -- the plain book after, where the node has the record r
  pub grown-after :
      (places : ℕ) (notes : List Note) (r : List ℕ)
      → n.«record» ≡ r
      → taken (plain_from places notes ns ks) r (kind_of r) ≡ last k (unplaced (nodes_of ns ks))
      → plain_from places notes ns' ks' ≡ grown (plain_from places notes ns ks) r
  grown-after places notes r e t =
      let cut : m ≡ length (unplaced (nodes_of ns ks)) - k = omega (arith, s.split, ap length s.stack) in
      let kids : drop m us ≡ taken (plain_from places notes ns ks) r (kind_of r) =
      ap (drop m) s.stack ∙ ap (λ t. drop t (unplaced (nodes_of ns ks))) cut ∙ sym t in
      ap (λ (x : List P.Node). record { places = places; notes = notes; nodes = x }) (nodes_after ∙ ap (λ x. nodes_of ns ks ++ x ∷ []) (same_node e kids))

-- the children of a record that no row rejects are the last unplaced nodes, as many as it takes
pub record Taken (p : Plain) (r : List ℕ) (k : ℕ) : Type 0 where
  pub free : length p.nodes < min p.places 256
  pub within : k ≤ length (unplaced p.nodes)
  pub children : taken p r (kind_of r) ≡ last k (unplaced p.nodes)

pub taken_by : (p : Plain) (r : List ℕ) (k : ℕ) → add_rule p r ≡ None → Some k ≡ option_map (λ o. takes o r) (kind_of r) → Taken p r k
taken_by p r k rule t =
    let a = passes p r rule in
    let e : Some k ≡ Some (takes a.kind r) = t ∙ ap (option_map (λ o. takes o r)) a.known in
    let same : k ≡ takes a.kind r = cc in
    record {
      free = a.room;
      within = omega (arith, a.enough);
      children = ap (taken p r) a.known ∙ ap (λ n. last n (unplaced p.nodes)) (sym same);
    }

-- what holds of a book after a node more: its runs and its stack, what it is, and what every book keeps
pub record Placed (b : Inside) (p : Plain) (r : List ℕ) (ns : List Node) (ks us : List ℕ) : Type 0 where
  pub runs : spanned (length ks) ns ≡ true
  pub stack : us ≡ unplaced (nodes_of ns ks)
  pub grows : plain_from b.places b.store ns ks ≡ grown p r
  pub sound : Sound (plain_from b.places b.store ns ks)

module _ (b : Inside) (holds : IsBook b) {p : Plain} (is : plain_of b ≡ p) (r : List ℕ) (k : ℕ) (rule : add_rule p r ≡ None) (takes : Some k ≡ option_map (λ o. takes o r) (kind_of r)) where
  here : Taken (plain_of b) r k
  here = taken_by (plain_of b) r k (ap (λ q. add_rule q r) is ∙ rule) takes

  pub enough_wait : k ≤ vec_len b.unplaced
  enough_wait = omega (arith, here.within, unplaced_long b holds)

  pub is_free : vec_len b.nodes < min b.places 256
  is_free = omega (arith, here.free, nodes_long b)

  -- from what the calls of `place` ensure
  pub placed :
      (n : Node) (top : ℕ) {ns' : List Node} {ks' us' mid : List ℕ}
      → n.«record» ≡ r
      → ns' ≡ vec_items b.nodes ++ n ∷ []
      → ks' ≡ vec_items b.kids ++ drop (vec_len b.unplaced - k) (vec_items b.unplaced)
      → mid ≡ take (vec_len b.unplaced - k) (vec_items b.unplaced)
      → us' ≡ mid ++ top ∷ []
      → top ≡ vec_len b.nodes
      → n.first ≡ vec_len b.kids
      → n.count ≡ k
      → Placed b p r ns' ks' us'
  placed n top {ns'} {ks'} {us'} whole nodes kids left loosened numbered begins counts =
      let s : Step (vec_items b.nodes) ns' (vec_items b.kids) ks' (vec_items b.unplaced) us' n (vec_len b.unplaced - k) k top =
      record {
        nodes = nodes;
        kids = kids;
        loosened = loosened ∙ ap (λ t. t ++ top ∷ []) left;
        numbered = numbered ∙ b.nodes.ok.0;
        split = omega (arith, enough_wait, b.unplaced.ok.0);
        begins = begins ∙ b.kids.ok.0;
        counts = counts;
        runs = holds.runs;
        free = next_free (plain_of b) holds.sound;
        stack = holds.stack;
      } in
      let more = grown-after s b.places b.store r whole here.children ∙ ap (λ q. grown q r) is in
      record {
        runs = runs_after s;
        stack = stack_after s;
        grows = more;
        sound = subst Sound (ap (λ o. unless o (grown p r) p) rule ∙ sym more) (added_sound p r (subst Sound is holds.sound));
      }
