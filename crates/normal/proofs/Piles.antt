-- From the entries of a tree the tree is found again.
use Rattle.std.proofs.Common.{◌≡◌, ℕ, suc, ◌+◌, List, [], ◌∷◌, ◌++◌, get_or, drop, sym, refl, ap, ◌∙◌, ap₂, append_assoc, add-zero, arith}
use Rattle.std.proofs.lemmas.List.{append-nil}
use Rattle.rules.specs.Tree.{Meta, Metas}
use Rattle.normal.specs.Bench.{Top, Entry, len, seal, post, posts, gather, step, run, tree_in}

-- a row of trees on a pile, the last on top
abbrev pub piled : Metas → List Meta → List Meta
piled Metas.none pile = pile
piled (Metas.more t ts) pile = piled ts (t ∷ pile)

-- a row in front of another
abbrev pub joined : Metas → Metas → Metas
joined Metas.none us = us
joined (Metas.more t ts) us = Metas.more t (joined ts us)

pub joined-none : (ts : Metas) → joined ts Metas.none ≡ ts
joined-none Metas.none = refl
joined-none (Metas.more t ts) = ap (Metas.more t) (joined-none ts)

pub gather-piled : (ts us : Metas) (k : ℕ) (pile : List Meta) → gather (len ts + k) us (piled ts pile) ≡ gather k (joined ts us) pile
gather-piled Metas.none us k pile = ap (λ (n : ℕ). gather n us pile) (omega arith)
gather-piled (Metas.more t ts) us k pile =
    let e : suc (len ts) + k ≡ len ts + suc k = omega arith in
    ap (λ (n : ℕ). gather n us (piled ts (t ∷ pile))) e ∙ gather-piled ts us (suc k) (t ∷ pile)

pub drop-piled : (ts : Metas) (k : ℕ) (pile : List Meta) → drop (len ts + k) (piled ts pile) ≡ drop k pile
drop-piled Metas.none k pile = ap (λ (n : ℕ). drop n pile) (omega arith)
drop-piled (Metas.more t ts) k pile =
    let e : suc (len ts) + k ≡ len ts + suc k = omega arith in
    ap (λ (n : ℕ). drop n (piled ts (t ∷ pile))) e ∙ drop-piled ts (suc k) (t ∷ pile)

pub gathered : (ts : Metas) (pile : List Meta) → gather (len ts) Metas.none (piled ts pile) ≡ ts
gathered ts pile =
    ap (λ (n : ℕ). gather n Metas.none (piled ts pile)) (sym (add-zero (len ts))) ∙ gather-piled ts Metas.none 0 pile ∙ joined-none ts

pub dropped : (ts : Metas) (pile : List Meta) → drop (len ts) (piled ts pile) ≡ pile
dropped ts pile = ap (λ (n : ℕ). drop n (piled ts pile)) (sym (add-zero (len ts))) ∙ drop-piled ts 0 pile

-- behind some entries that leave a pile the top goes on
pub sealed-run : (top : Top) (n : ℕ) (body es : List Entry) (pile after : List Meta) → ((fs : List Entry) → run (body ++ fs) pile ≡ run fs after) → run (seal top n body ++ es) pile ≡ run es (step top n after)
sealed-run top n body es pile after h = ap (λ (xs : List Entry). run xs pile) (append_assoc body _ es) ∙ h _

mutual
  pub run_post : (t : Meta) (es : List Entry) (pile : List Meta) → run (post t ++ es) pile ≡ run es (t ∷ pile)
  run_post Meta.skip es pile = refl
  run_post (Meta.and ts) es pile = sealed-run Top.and (len ts) (posts ts) es pile (piled ts pile) (λ fs. run_posts ts fs pile) ∙ ap₂ (λ (us : Metas) (rest : List Meta). run es (Meta.and us ∷ rest)) (gathered ts pile) (dropped ts pile)
  run_post (Meta.or ts) es pile = sealed-run Top.or (len ts) (posts ts) es pile (piled ts pile) (λ fs. run_posts ts fs pile) ∙ ap₂ (λ (us : Metas) (rest : List Meta). run es (Meta.or us ∷ rest)) (gathered ts pile) (dropped ts pile)
  run_post (Meta.optional t) es pile = sealed-run Top.optional 0 (post t) es pile (t ∷ pile) (λ fs. run_post t fs pile)
  run_post (Meta.required t) es pile = sealed-run Top.required 0 (post t) es pile (t ∷ pile) (λ fs. run_post t fs pile)
  run_post (Meta.adjacent t) es pile = sealed-run Top.adjacent 0 (post t) es pile (t ∷ pile) (λ fs. run_post t fs pile)
  run_post (Meta.many t) es pile = sealed-run Top.many 0 (post t) es pile (t ∷ pile) (λ fs. run_post t fs pile)
  run_post (Meta.strict t) es pile = sealed-run Top.strict 0 (post t) es pile (t ∷ pile) (λ fs. run_post t fs pile)
  run_post (Meta.subsection t n) es pile = sealed-run (Top.subsection n) 0 (post t) es pile (t ∷ pile) (λ fs. run_post t fs pile)
  run_post (Meta.suffix t n) es pile = sealed-run (Top.suffix n) 0 (post t) es pile (t ∷ pile) (λ fs. run_post t fs pile)
  run_post (Meta.custom_usage t n) es pile = sealed-run (Top.custom_usage n) 0 (post t) es pile (t ∷ pile) (λ fs. run_post t fs pile)
  run_post (Meta.item n i) es pile = refl

  pub run_posts : (ts : Metas) (es : List Entry) (pile : List Meta) → run (posts ts ++ es) pile ≡ run es (piled ts pile)
  run_posts Metas.none es pile = refl
  run_posts (Metas.more t ts) es pile = ap (λ (xs : List Entry). run xs pile) (append_assoc (post t) (posts ts) es) ∙ run_post t (posts ts ++ es) pile ∙ run_posts ts es (t ∷ pile)

-- the entries of a tree hold the tree
pub tree-back : (t : Meta) → tree_in (post t) ≡ t
tree-back t = ap tree_in (sym (append-nil (post t))) ∙ ap (λ (pile : List Meta). get_or pile 0 Meta.skip) (run_post t [] [])
