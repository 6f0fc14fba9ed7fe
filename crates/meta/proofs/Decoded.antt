-- What a node says, piece by piece.
use Rattle.std.proofs.Common.{◌≡◌, ℕ, Bool, true, ◌&&◌, eqb, ltb, leb, List, [], ◌∷◌, length, Some, None, Option, sym, ap, ◌∙◌, arith}
use Rattle.std.specs.List.{list_all}
use Rattle.std.proofs.lemmas.Bool.{and_parts, and_from}
use Rattle.std.proofs.lemmas.Bool.Decides.{nat_tests}
use Rattle.std.specs.Prelude.{slice_get}
use Rattle.terms.specs.declared.kind.Kind.{Kind}
use Rattle.terms.specs.declared.kind.Field.TheVariants.{Note, MetavarNote}
use Rattle.rules.proofs.Trees.{tree_at_lem}
use Rattle.rules.specs.Records.{value_of, kind_of, met, takes, tidy, worded, childed}
use Rattle.rules.specs.Plain.{Plain, Node}
use Rattle.rules.specs.Sound.{stands, stands_as, rising}
use Rattle.rules.specs.Tree.{tree_at, Both, short_long, maybe}
use Rattle.meta.specs.declared.item.Meta.{Meta as CodeMeta}
use Rattle.meta.specs.Items.{record_in, meta_of}
use Rattle.meta.specs.Decoded.{readable, readable_as, Decodes, AllBelow}

-- the name where there are both a short and a word
pub name_both : (o : Option ℕ) (w v : List ℕ) (s : ℕ) → o ≡ Some s → Some v ≡ maybe w → Both s v ≡ short_long o w
name_both o [] v s e n = let z : ◌≡◌ {A = ℕ} 0 1 = cc in absurd (omega arith)
name_both o (b ∷ bs) v s e n =
    let q : v ≡ b ∷ bs = cc in ap (λ l. Both s l) q ∙ ap (λ u. short_long u (b ∷ bs)) (sym e)

picked : (t w a b m v h e l s : Bool) → (t && w && (a && b && m && v) && h && e && l && s) ≡ true → ((e && m && v) ≡ true) × (l ≡ true)
picked t w a b m v h e l s q = (grind (arith, nat_tests), grind (arith, nat_tests))

stands_as_lem : (notes k : ℕ) (n : Node) (o : Option Kind) → stands_as notes k n o ≡ true
    → (readable_as n.«record» n.children o ≡ true) × AllBelow k n.children
stands_as_lem notes k n None q = let z : ◌≡◌ {A = ℕ} 0 1 = cc in absurd (omega arith)
stands_as_lem notes k n (Some o) q =
    let r = n.«record» in
    picked (tidy o r) (worded o r) (leb (value_of Note r) notes) (leb (value_of MetavarNote r) notes) (met o r Note) (met o r MetavarNote)
    (childed o r) (eqb (length n.children) (takes o r)) (list_all (λ c. ltb c k) n.children) (rising n.children) q

-- a node that stands can be read
pub stands-readable : (notes k : ℕ) (n : Node) → stands notes k n ≡ true → readable n.«record» n.children ≡ true
stands-readable notes k n q =
    let h = and_parts (eqb (length n.«record») 128) (stands_as notes k n (kind_of n.«record»)) q in
    and_from (eqb (length n.«record») 128) _ h.0 (stands_as_lem notes k n (kind_of n.«record») h.1).0

-- and its children are below it
pub stands_below : (notes k : ℕ) (n : Node) → stands notes k n ≡ true → AllBelow k n.children
stands_below notes k n q =
    (stands_as_lem notes k n (kind_of n.«record») (and_parts (eqb (length n.«record») 128) (stands_as notes k n (kind_of n.«record»)) q).1).1

-- what is decoded of a node of a book is its tree
pub decoded_tree : (p : Plain) (k : ℕ) (n : Node) (m : CodeMeta) → slice_get p.nodes k ≡ Some n → AllBelow k n.children
    → Decodes k n.«record» n.children (kind_of n.«record») m → meta_of p k m ≡ tree_at p k
decoded_tree p k n m a l h = h p (ap record_in a) ∙ sym (tree_at_lem p k n a l)
