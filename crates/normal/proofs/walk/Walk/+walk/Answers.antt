use Rattle.std.proofs.Common.{◌≡◌, ◌+◌, ◌≤◌, Bool, false, ◌||◌, ◌++◌, length, get_or, drop, sym, ap, ◌∙◌, ap₂, subst, arith}
use Rattle.std.proofs.lemmas.List.{at_drop_more, at_drop_all}
use Rattle.terms.specs.Kind.{same_kind}
use Rattle.terms.specs.declared.kind.Kind.TheVariants as K
use Rattle.terms.specs.declared.strict.StrictNorm.{StrictNorm}
use Rattle.rules.specs.Tree.{Meta, Metas, tree_at, kind_of_tree, is}
use Rattle.rules.specs.NormalForm.{Done, nf, wrapped}
use Rattle.rules.specs.Weight.{weight, weights}
use Rattle.normal.specs.Bench.{post}
use Rattle.normal.specs.Holding.{Holding}
use Rattle.normal.specs.Held.{held, Grows}
use Rattle.normal.specs.Rows.{row_at, starts, ends, keeps, rest}
use Rattle.normal.proofs.Tops.{length-entries}
use Rattle.normal.proofs.Children.{in_front, rest-more, rest-none, nf_row, reached_kept, reached_cut, reached_end}
use Rattle.normal.proofs.Weights.{long_row, weight_row, two_closed}
use Rattle.normal.proofs.walk.Walk.+walk.Goals as goal
use Rattle.normal.proofs.walk.Walk.+walk.Goals.{row-then-keeps, row-else-keeps}

pub row-overflow_add-kept : goal.row-overflow_add-kept
row-overflow_add-kept t c =
    let ks = c.args.children.now in
    let p = c.args.self.now.book.now in
    let l = long_row p ks in
    let w = weight_row c.args.row (row_at p ks) in
    omega (arith, l, w, c.requires.room, c.loop-child.invariant.few, c.loop-child-test.true)

pub row-loop-child-preserved : goal.row-loop-child-preserved
row-loop-child-preserved t c =
    let p = c.args.self.now.book.now in
    let usage = c.args.self.now.for_usage in
    let row = c.args.row in
    let ks = c.args.children.now in
    let i = c.loop-child.child-index in
    let entry = c.args.mark in
    let run = c.loop-child.run in
    let back = c.node-back.result in
    let seen = c.loop-child.seen in
    let b = at_drop_more (row_at p) ks i 0 c.loop-child-test.true in
    let w : weights (row_at p (drop i ks)) ≡ weight (tree_at p (get_or ks i 0)) + weights (row_at p (drop (i + 1) ks)) = ap weights b in
    let t' : Meta = tree_at p (get_or ks i 0) in
    let ts : Metas = row_at p (drop (i + 1) ks) in
    let xs = held p c.loop-child.bench in
    let l : length xs ≡ c.len-at.result = length-entries p _ ∙ sym c.len-at.ensures in
    let m : back ≡ (nf t' usage (starts row entry run)).mark = c.node-back.ensures.mark ∙ ap (λ (s : StrictNorm). (nf t' usage s).mark) c.starts.ensures in
    let u : Meta = wrapped run back (nf t' usage (starts row entry run)).tree in
    let stands : held p c.wrap.new.self ≡ xs ++ post u =
    c.wrap.ensures.tree p xs _ c.node-back.ensures.nodes l ∙ ap (λ (s : StrictNorm). xs ++ post (wrapped run back (nf t' usage s).tree)) c.starts.ensures in
    let kind = c.top-form.ensures p xs u stands in
    let keep : c.keeps.result ≡ keeps row seen (kind_of_tree u) = c.keeps.ensures ∙ ap (keeps row seen) kind in
    let command : c.is_command-seen.result ≡ is K.Command u = c.is_command-seen.ensures ∙ ap (same_kind K.Command) kind in
    let front : rest row (row_at p (drop i ks)) usage entry run seen ≡ in_front (keeps row seen (kind_of_tree u)) u (rest row ts usage entry c.next-run.result (seen || c.is_command-seen.result)) =
    ap (λ (us : Metas). rest row us usage entry run seen) b ∙ rest-more row t' ts usage entry run seen back m
    ∙ ap₂ (λ (s : StrictNorm) (o : Bool). in_front (keeps row seen (kind_of_tree u)) u (rest row ts usage entry s (seen || o))) (sym c.next-run.ensures) (sym command) in
    let grown : Grows c.wrap.new.self c.if-keeps.bench 0 = elim c.if-keeps.branch [
      | row-then-keeps v ↦ record { within = (let n = ap (λ (h : Holding). length h.nodes) v.bench-is in omega arith); places = ap (λ (h : Holding). h.places) v.bench-is; capacity = ap (λ (h : Holding). h.capacity) v.bench-is }
      | row-else-keeps v ↦ subst (λ (h : Holding). Grows c.wrap.new.self h 0) (sym v.bench-is) v.cut.ensures.room
    ] in
    let few : c.if-keeps.kept ≤ c.loop-child.kept + 1 = elim c.if-keeps.branch [ row-then-keeps v ↦ omega (arith, v.kept-is) | row-else-keeps v ↦ omega (arith, v.kept-is) ] in
    record {
      row = elim c.if-keeps.branch [
        | row-then-keeps v ↦ reached_kept p _ _ _ _ _ _ _ _ _ u c.loop-child.invariant.row front (sym keep ∙ v.if-keeps.true) (ap (held p) v.bench-is ∙ stands) v.kept-is
        | row-else-keeps v ↦ reached_cut p _ _ _ _ _ _ _ _ _ u c.loop-child.invariant.row front (sym keep ∙ v.if-keeps.false) (ap (held p) v.bench-is ∙ v.cut.ensures.tree p xs (post u) stands l) v.kept-is
      ];
      few = omega (arith, few, c.loop-child.invariant.few);
      places = grown.places ∙ c.wrap.ensures.room.places ∙ c.node-back.ensures.places ∙ c.loop-child.invariant.places;
      capacity = grown.capacity ∙ c.wrap.ensures.room.capacity ∙ c.node-back.ensures.capacity ∙ c.loop-child.invariant.capacity;
      within = omega (arith, w, c.loop-child.invariant.within, c.node-back.ensures.within, c.wrap.ensures.room.within, grown.within);
    }

pub row-returns : goal.row-returns
row-returns t c =
    let p = c.args.self.now.book.now in
    let usage = c.args.self.now.for_usage in
    let row = c.args.row in
    let ks = c.args.children.now in
    let ts = row_at p ks in
    let entry = c.args.mark in
    let run = c.loop-child.run in
    let bs = held p c.args.bench.now in
    let l : length bs ≡ c.len-start.result = length-entries p _ ∙ sym c.len-start.ensures in
    let e : row_at p (drop c.loop-child.child-index ks) ≡ Metas.none = at_drop_all (row_at p) ks _ c.loop-child-test.false in
    let w : weights (row_at p (drop c.loop-child.child-index ks)) ≡ 0 = ap weights e in
    let all = reached_end p _ _ _ _ _ (ends row entry run) c.loop-child.invariant.row (ap (λ (us : Metas). rest row us usage entry run c.loop-child.seen) e ∙ rest-none row usage entry run c.loop-child.seen) in
    let n = nf_row row ts usage entry in
    record {
      nodes = c.close_row.ensures.tree p bs (rest row ts usage entry entry false).kept all.0 l all.1 ∙ ap (λ (d : Done). bs ++ post d.tree) (sym n);
      mark = c.close_row.ensures.mark ∙ all.2 ∙ ap (λ (d : Done). d.mark) (sym n);
      within = omega (arith, w, weight_row row ts, two_closed row, c.loop-child.invariant.within, c.close_row.ensures.room.within);
      places = c.close_row.ensures.room.places ∙ c.loop-child.invariant.places;
      capacity = c.close_row.ensures.room.capacity ∙ c.loop-child.invariant.capacity;
    }
