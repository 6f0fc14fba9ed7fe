-- Rows of children, one child after the other.
use Rattle.terms.specs.StrictNorm.{running}
use Rattle.std.proofs.Common.{◌≡◌, ℕ, ◌+◌, Bool, true, false, not, ◌&&◌, ◌||◌, List, ◌++◌, sym, refl, ap, ◌∙◌, append_assoc, subst, add-zero, arith, eqb-true, ◌==◌}
use Rattle.std.proofs.lemmas.List.{append-nil}
use Rattle.std.proofs.Math.Bool.{or-false}
use Rattle.terms.specs.Kind.{kind_number, same_kind}
use Rattle.terms.specs.declared.kind.Kind.TheVariants as K
use Rattle.terms.specs.declared.kind.Kind.{Kind}
use Rattle.terms.specs.declared.strict.StrictNorm.{StrictNorm}
use Rattle.rules.specs.Plain.{Plain}
use Rattle.rules.specs.Tree.{Meta, Metas, kind_of_tree, is}
use Rattle.rules.specs.NormalForm.{Done, nf, wrapped, more_if, no_skips, one_command}
use Rattle.rules.specs.NormalForm as N
use Rattle.normal.specs.declared.row.Row.{Row}
use Rattle.normal.specs.declared.row.Row.TheVariants as R
use Rattle.normal.specs.Bench.{Entry, len, post, posts}
use Rattle.normal.specs.Holding.{Holding}
use Rattle.normal.specs.Held.{held}
use Rattle.normal.specs.Rows.{tree_of, starts, ends, keeps, closed, rest}

-- a row closes as the rules say
pub nf_row : (row : Row) (ts : Metas) (usage : Bool) (m : StrictNorm) → nf (tree_of row ts) usage m ≡ record { tree = closed row (rest row ts usage m m false).kept; mark = (rest row ts usage m m false).mark }
nf_row R.And ts usage m = refl
nf_row R.Or ts usage m = refl

-- nothing is left behind the last child
pub rest-none : (row : Row) (usage : Bool) (entry run : StrictNorm) (seen : Bool) → rest row Metas.none usage entry run seen ≡ record { kept = Metas.none; mark = ends row entry run }
rest-none R.And usage entry run seen = refl
rest-none R.Or usage entry run seen = refl

skip_no_command : (k : Kind) → same_kind K.Skip k ≡ true → same_kind K.Command k ≡ false
skip_no_command k e = ap (λ (n : ℕ). kind_number K.Command == n) (sym (eqb-true (kind_number K.Skip) (kind_number k) e))

one_by : (seen : Bool) (t : Meta) (ts : Metas) (b : Bool) → is K.Skip t ≡ b → one_command seen (more_if (not b) t ts) ≡ more_if (not b && not (seen && is K.Command t)) t (one_command (seen || is K.Command t) ts)
one_by seen t ts false e = refl
one_by seen t ts true e = rw (skip_no_command (kind_of_tree t) e, or-false)

-- a child in front of what is left behind it, if it stays
abbrev pub in_front : Bool → Meta → N.Row → N.Row
in_front b t r = record { kept = more_if b t r.kept; mark = r.mark }

-- what is left of a row in front of a child that is back as a tree with a mark
abbrev pub behind : Row → Metas → (usage : Bool) → (entry run : StrictNorm) → (seen : Bool) → StrictNorm → Meta → N.Row
behind row ts usage entry run seen m u = in_front (keeps row seen (kind_of_tree u)) u (rest row ts usage entry (running run m) (seen || is K.Command u))

-- the children of an Or that stay, in one pass
abbrev of_or : (seen : Bool) → N.Row → N.Row
of_or seen r = record { kept = one_command seen (no_skips r.kept); mark = r.mark }

or_front : (seen : Bool) (t : Meta) (r : N.Row)
    → of_or seen (N.put t r) ≡ in_front (keeps R.Or seen (kind_of_tree t)) t (of_or (seen || is K.Command t) r)
or_front seen t r = ap (λ (ks : Metas). record { kept = ks; mark = r.mark }) (one_by seen t (no_skips r.kept) (is K.Skip t) refl)

-- a child that is back stays or goes, and the row goes on behind it
pub rest-more : (row : Row) (t : Meta) (ts : Metas) (usage : Bool) (entry run : StrictNorm) (seen : Bool) (m : StrictNorm) → m ≡ (nf t usage (starts row entry run)).mark
    → rest row (Metas.more t ts) usage entry run seen ≡ behind row ts usage entry run seen m (wrapped run m (nf t usage (starts row entry run)).tree)
rest-more R.And t ts usage entry run seen m e = ap (λ (k : StrictNorm). behind R.And ts usage entry run seen k (wrapped run k (nf t usage run).tree)) (sym e)
rest-more R.Or t ts usage entry run seen m e =
    or_front seen (wrapped run (nf t usage entry).mark (nf t usage entry).tree) (N.ors ts usage entry (running run (nf t usage entry).mark))
    ∙ ap (λ (k : StrictNorm). behind R.Or ts usage entry run seen k (wrapped run k (nf t usage entry).tree)) (sym e)

-- a row with one more child
row_more : (xs ys : List Entry) (k : Bool) (t : Meta) (ts : Metas) → ys ≡ xs ++ posts (more_if k t Metas.none) → ys ++ posts ts ≡ xs ++ posts (more_if k t ts)
row_more xs ys true t ts e = ap (λ (zs : List Entry). zs ++ posts ts) (e ∙ ap (λ (zs : List Entry). xs ++ zs) (append-nil (post t))) ∙ append_assoc xs (post t) (posts ts)
row_more xs ys false t ts e = ap (λ (zs : List Entry). zs ++ posts ts) (e ∙ append-nil xs)

abbrev pub one : Bool → ℕ
one true = 1
one false = 0

len_more : (k : Bool) (t : Meta) (ts : Metas) → one k + len ts ≡ len (more_if k t ts)
len_more true t ts = omega arith
len_more false t ts = omega arith

-- how far a row has come: what stands on the bench, with what is left, is what stays of the whole row
pub record Reached (p : Plain) (old new : Holding) (n : ℕ) (all left : N.Row) : Type 0 where
  pub nodes : held p new ++ posts left.kept ≡ held p old ++ posts all.kept
  pub count : n + len left.kept ≡ len all.kept
  pub mark : left.mark ≡ all.mark

reached_by : (p : Plain) (old new new' : Holding) (n : ℕ) (all left left' : N.Row) (k : Bool) (u : Meta) → Reached p old new n all left → left ≡ in_front k u left'
    → held p new' ≡ held p new ++ posts (more_if k u Metas.none) → Reached p old new' (n + one k) all left'
reached_by p old new new' n all left left' k u r e h = record {
  nodes = row_more (held p new) (held p new') k u left'.kept h ∙ ap (λ (x : N.Row). held p new ++ posts x.kept) (sym e) ∙ r.nodes;
  count = (let l : one k + len left'.kept ≡ len left.kept = len_more k u left'.kept ∙ ap (λ (x : N.Row). len x.kept) (sym e) in omega (arith, l, r.count));
  mark = ap (λ (x : N.Row). x.mark) (sym e) ∙ r.mark;
}

-- one child further, which is kept
pub reached_kept : (p : Plain) (old new new' : Holding) (n n' : ℕ) (all left left' : N.Row) (k : Bool) (u : Meta) → Reached p old new n all left → left ≡ in_front k u left'
    → k ≡ true → held p new' ≡ held p new ++ post u → n' ≡ n + 1 → Reached p old new' n' all left'
reached_kept p old new new' n n' all left left' true u r e b h m =
    subst (λ (x : ℕ). Reached p old new' x all left') (sym m) (reached_by p old new new' n all left left' true u r e (h ∙ ap (λ (xs : List Entry). held p new ++ xs) (sym (append-nil (post u)))))
reached_kept p old new new' n n' all left left' false u r e b h m = cc

-- one child further, which is cut off
pub reached_cut : (p : Plain) (old new new' : Holding) (n n' : ℕ) (all left left' : N.Row) (k : Bool) (u : Meta) → Reached p old new n all left → left ≡ in_front k u left'
    → k ≡ false → held p new' ≡ held p new → n' ≡ n → Reached p old new' n' all left'
reached_cut p old new new' n n' all left left' true u r e b h m = cc
reached_cut p old new new' n n' all left left' false u r e b h m =
    subst (λ (x : ℕ). Reached p old new' x all left') (add-zero n ∙ sym m) (reached_by p old new new' n all left left' false u r e (h ∙ sym (append-nil (held p new))))

-- the end of a row
pub reached_end : (p : Plain) (old new : Holding) (n : ℕ) (all left : N.Row) (m : StrictNorm) → Reached p old new n all left → left ≡ record { kept = Metas.none; mark = m }
    → (held p new ≡ held p old ++ posts all.kept) × (n ≡ len all.kept) × (m ≡ all.mark)
reached_end p old new n all left m r e = (
  sym (append-nil (held p new)) ∙ ap (λ (x : N.Row). held p new ++ posts x.kept) (sym e) ∙ r.nodes,
  sym (add-zero n) ∙ ap (λ (x : N.Row). n + len x.kept) (sym e) ∙ r.count,
  ap (λ (x : N.Row). x.mark) (sym e) ∙ r.mark,
)
