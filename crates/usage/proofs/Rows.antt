-- Rows of trees, from their last tree.
use Rattle.std.proofs.Common.{◌≡◌, suc, ◌≤◌, List, [], ◌++◌, sym, refl, ap, ◌∙◌, append_assoc, arith}
use Rattle.std.proofs.lemmas.List.{append-nil}
use Rattle.rules.specs.Tree.{Meta, Metas}
use Rattle.rules.specs.Tree.Metas.{none, more}
use Rattle.rules.specs.Reading.{Element, concat, reading, joined, joined_rest}
use Rattle.rules.specs.Reading as R
use Rattle.rules.specs.Content.{Op, element_ops, spell}
use Rattle.normal.specs.Bench.{Entry, len, post, posts}
use Rattle.usage.proofs.Spelled.{spell-concat}

-- a row with one more tree at its end
abbrev pub with_last : Metas → Meta → Metas
with_last none t = more t none
with_last (more u us) t = more u (with_last us t)

-- a row is a tree behind another row
pub record Parted (ts : Metas) : Type 0 where
  pub front : Metas
  pub last : Meta
  pub is : ts ≡ with_last front last
  pub count : len ts ≡ suc (len front)

pub parted_more : (t : Meta) (ts : Metas) → Parted (more t ts)
parted_more t none = record { front = none; last = t; is = refl; count = refl }
parted_more t (more u ts) =
    let r = parted_more u ts in
    record { front = more t r.front; last = r.last; is = ap (more t) r.is; count = ap suc r.count }

pub posts_last : (us : Metas) (u : Meta) → posts (with_last us u) ≡ posts us ++ post u
posts_last none u = append-nil (post u)
posts_last (more t us) u =
    ap (λ (es : List Entry). post t ++ es) (posts_last us u) ∙ sym (append_assoc (post t) (posts us) (post u))

rest_last : (e : Element) (us : Metas) (u : Meta) → spell (joined_rest e (with_last us u)) ≡ spell (joined_rest e us) ++ (element_ops e ++ spell (reading u))
rest_last e none u =
    ap (λ (ops : List Op). element_ops e ++ ops) (spell-concat (reading u) R.end ∙ append-nil (spell (reading u)))
rest_last e (more t us) u =
    ap (λ (ops : List Op). element_ops e ++ ops)
    (spell-concat (reading t) (joined_rest e (with_last us u))
    ∙ ap (λ (ops : List Op). spell (reading t) ++ ops) (rest_last e us u)
    ∙ sym (append_assoc (spell (reading t)) (spell (joined_rest e us)) (element_ops e ++ spell (reading u)))
    ∙ ap (λ (ops : List Op). ops ++ (element_ops e ++ spell (reading u))) (sym (spell-concat (reading t) (joined_rest e us))))
    ∙ sym (append_assoc (element_ops e) (spell (concat (reading t) (joined_rest e us))) (element_ops e ++ spell (reading u)))

-- a row of several, as those before the last, the element between, and the last
pub joined-last : (e : Element) (us : Metas) (u : Meta) → 1 ≤ len us → spell (joined e (with_last us u)) ≡ spell (joined e us) ++ (element_ops e ++ spell (reading u))
joined-last e none u l = absurd (omega arith)
joined-last e (more t us) u l =
    spell-concat (reading t) (joined_rest e (with_last us u))
    ∙ ap (λ (ops : List Op). spell (reading t) ++ ops) (rest_last e us u)
    ∙ sym (append_assoc (spell (reading t)) (spell (joined_rest e us)) (element_ops e ++ spell (reading u)))
    ∙ ap (λ (ops : List Op). ops ++ (element_ops e ++ spell (reading u))) (sym (spell-concat (reading t) (joined_rest e us)))

-- a row of one
pub joined-one : (e : Element) (us : Metas) (u : Meta) → len us ≡ 0 → spell (joined e (with_last us u)) ≡ spell (reading u)
joined-one e none u l = spell-concat (reading u) R.end ∙ append-nil (spell (reading u))
joined-one e (more t us) u l = absurd (omega arith)

-- a row of none
pub joined-none : (e : Element) (us : Metas) → len us ≡ 0 → spell (joined e us) ≡ []
joined-none e none l = refl
joined-none e (more t us) l = absurd (omega arith)

-- a row of several, as its parts are written out
pub spelled_more : (e : Element) (ts : Metas) (q : Parted ts) → 2 ≤ len ts → spell (joined e ts) ≡ spell (joined e q.front) ++ (element_ops e ++ spell (reading q.last))
spelled_more e ts q l =
    let c = q.count in
    let k : 1 ≤ len q.front = omega arith in
    ap (λ (us : Metas). spell (joined e us)) q.is ∙ joined-last e q.front q.last k

pub spelled_one : (e : Element) (ts : Metas) (q : Parted ts) → len ts ≡ 1 → spell (joined e ts) ≡ spell (reading q.last)
spelled_one e ts q l =
    let c = q.count in
    let k : len q.front ≡ 0 = omega arith in
    ap (λ (us : Metas). spell (joined e us)) q.is ∙ joined-one e q.front q.last k
