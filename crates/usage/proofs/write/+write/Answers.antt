use Rattle.std.proofs.Common.{◌≡◌, List, ◌++◌, Ok, Err, sym, refl, ap, ◌∙◌, subst, arith, rules, length-drop}
use Rattle.std.proofs.lemmas.List.{append-nil}
use Rattle.rules.specs.Tree.{Meta, inside}
use Rattle.rules.specs.Reading.{reading, joined, item_reading}
use Rattle.rules.specs.Reading as R
use Rattle.rules.specs.Content.{Op, applies, element_ops, spell}
use Rattle.buffer.specs.Contents.{SheetState}
use Rattle.buffer.specs.Contents.{Wrote}
use Rattle.meta.specs.Items.{item_of}
use Rattle.normal.specs.declared.bench.Form.TheVariants as F
use Rattle.normal.specs.declared.bench.Normal.{Normal}
use Rattle.usage.specs.Signs.{element_of, open_ops, close_ops}
use Rattle.usage.proofs.Spelled.{spell-concat}
use Rattle.usage.proofs.Rows.{joined-none}
use Rattle.usage.proofs.Shapes.{opened, row_of, split_before, tree-some, fits_row, row-none}
use Rattle.usage.proofs.Composed.{wrote_then, wrote_stop, wrote_as, wrote_sign, wrote_tree, wrote_three, stopped_second, doc_as}
use Rattle.usage.proofs.write.+write.Goals as goal
use Rattle.usage.proofs.write.+write.Goals.{write_row-then-not-is_empty+in_ok-write_row+in_ok-write_str, write_row-else-not-is_empty}

pub write_enclosed-returns-in_err-write_str : goal.write_enclosed-returns-in_err-write_str
write_enclosed-returns-in_err-write_str t c =
    λ u h.
    wrote_stop c.args.sheet.now c.write_str.new.self (open_ops c.args.bracket) (spell (reading u) ++ close_ops c.args.bracket) c.from_residual.result c.from_residual.ensures.0
    (wrote_sign c.args.sheet.now c.write_str.new.self (open_ops c.args.bracket) c.open.result.now (Err _) c.open.ensures c.in_err-write_str.ensures.put)

pub write_enclosed-returns-in_err-write_meta : goal.write_enclosed-returns-in_err-write_meta
write_enclosed-returns-in_err-write_meta t c =
    λ u h.
    stopped_second c.args.sheet.now c.write_str.new.self c.write_meta.new.sheet (open_ops c.args.bracket) (spell (reading u)) (close_ops c.args.bracket) c.from_residual-in_err-write_meta.result c.from_residual-in_err-write_meta.ensures.0
    (wrote_sign c.args.sheet.now c.write_str.new.self (open_ops c.args.bracket) c.open.result.now (Ok tt) c.open.ensures c.in_ok-write_str.ensures.put)
    (c.in_err-write_meta.ensures u h)

pub write_enclosed-returns : goal.write_enclosed-returns
write_enclosed-returns t c =
    λ u h.
    wrote_three c.args.sheet.now c.write_str.new.self c.write_meta.new.sheet c.write_str-2.new.self (open_ops c.args.bracket) (spell (reading u)) (close_ops c.args.bracket) c.write_str-2.result
    (wrote_sign c.args.sheet.now c.write_str.new.self (open_ops c.args.bracket) c.open.result.now (Ok tt) c.open.ensures c.in_ok-write_str.ensures.put)
    (c.in_ok-write_meta.ensures u h)
    (wrote_sign c.write_meta.new.sheet c.write_str-2.new.self (close_ops c.args.bracket) c.close.result.now _ c.close.ensures c.write_str-2.ensures.put)

pub write_meta-unwrap-requires : goal.write_meta-unwrap-requires
write_meta-unwrap-requires t c =
    let some = tree-some c.args.book.now c.args.tree.now c.requires.0 c.requires.1 in
    search rules

pub write_meta-write_row-requires : goal.write_meta-write_row-requires
write_meta-write_row-requires t c =
    let o = opened _ c.requires.0 c.split_last.ensures.cases c.unwrap.ensures c.in-And.is c.requires.1 in
    (omega (arith, c.decreases, o.smaller), (row_of c.requires.0, o.body))

pub write_meta-write_row-requires-in-Or : goal.write_meta-write_row-requires-in-Or
write_meta-write_row-requires-in-Or t c =
    let o = opened _ c.requires.0 c.split_last.ensures.cases c.unwrap.ensures c.in-Or.is c.requires.1 in
    (omega (arith, c.decreases, o.smaller), (row_of c.requires.0, o.body))

pub write_meta-write_enclosed-requires : goal.write_meta-write_enclosed-requires
write_meta-write_enclosed-requires t c =
    let o = opened F.Required c.requires.0 c.split_last.ensures.cases c.unwrap.ensures c.in-Required.is c.requires.1 in
    (omega (arith, c.decreases, o.smaller), (inside c.requires.0, o.body))

pub write_meta-write_enclosed-requires-in-Optional : goal.write_meta-write_enclosed-requires-in-Optional
write_meta-write_enclosed-requires-in-Optional t c =
    let o = opened F.Optional c.requires.0 c.split_last.ensures.cases c.unwrap.ensures c.in-Optional.is c.requires.1 in
    (omega (arith, c.decreases, o.smaller), (inside c.requires.0, o.body))

pub write_meta-write_meta-requires : goal.write_meta-write_meta-requires
write_meta-write_meta-requires t c =
    let o = opened F.Many c.requires.0 c.split_last.ensures.cases c.unwrap.ensures c.in-Many.is c.requires.1 in
    (omega (arith, c.decreases, o.smaller), (inside c.requires.0, o.body))

pub write_meta-write_meta-requires-in-Strict : goal.write_meta-write_meta-requires-in-Strict
write_meta-write_meta-requires-in-Strict t c =
    let o = opened F.Strict c.requires.0 c.split_last.ensures.cases c.unwrap.ensures c.in-Strict.is c.requires.1 in
    (omega (arith, c.decreases, o.smaller), (inside c.requires.0, o.body))

pub write_meta-returns-in-Skip : goal.write_meta-returns-in-Skip
write_meta-returns-in-Skip t c =
    λ u h.
    let o = opened F.Skip u c.split_last.ensures.cases c.unwrap.ensures c.in-Skip.is h in
    (refl, ap (λ (x : Meta). applies c.args.sheet.now.content (spell (reading x))) (sym o.shape))

pub write_meta-returns-in-Item : goal.write_meta-returns-in-Item
write_meta-returns-in-Item t c =
    λ u h.
    let o = opened _ u c.split_last.ensures.cases c.unwrap.ensures c.in-Item.is h in
    wrote_tree c.args.sheet.now c.write_item.new.sheet u _ c.write_item.result o.shape
    (wrote_as c.args.sheet.now _ _ (element_ops (item_reading (item_of c.args.book.now c.in-Item.item))) _ (append-nil (element_ops (item_reading (item_of c.args.book.now c.in-Item.item)))) c.write_item.ensures)

pub write_meta-returns-in-CustomUsage : goal.write_meta-returns-in-CustomUsage
write_meta-returns-in-CustomUsage t c =
    λ u h.
    let o = opened _ u c.split_last.ensures.cases c.unwrap.ensures c.in-CustomUsage.is h in
    wrote_tree c.args.sheet.now c.doc.new.self u _ c.doc.result o.shape
    (wrote_as c.args.sheet.now _ _ _ _ (doc_as c.args.book.now.notes c.store.result.now c.in-CustomUsage.note c.from.result (sym c.store.ensures.value) (sym c.from.ensures)) c.doc.ensures.wrote)

pub write_meta-returns-in-And : goal.write_meta-returns-in-And
write_meta-returns-in-And t c =
    λ u h.
    let o = opened _ u c.split_last.ensures.cases c.unwrap.ensures c.in-And.is h in
    wrote_tree c.args.sheet.now c.write_row.new.sheet u _ c.write_row.result o.shape (c.write_row.ensures (row_of u) o.body)

pub write_meta-returns-in-Or : goal.write_meta-returns-in-Or
write_meta-returns-in-Or t c =
    λ u h.
    let o = opened _ u c.split_last.ensures.cases c.unwrap.ensures c.in-Or.is h in
    wrote_tree c.args.sheet.now c.write_row-in-Or.new.sheet u _ c.write_row-in-Or.result o.shape (c.write_row-in-Or.ensures (row_of u) o.body)

pub write_meta-returns-in-Required : goal.write_meta-returns-in-Required
write_meta-returns-in-Required t c =
    λ u h.
    let o = opened F.Required u c.split_last.ensures.cases c.unwrap.ensures c.in-Required.is h in
    wrote_tree c.args.sheet.now c.write_enclosed.new.sheet u _ c.write_enclosed.result o.shape (c.write_enclosed.ensures (inside u) o.body)

pub write_meta-returns-in-Optional : goal.write_meta-returns-in-Optional
write_meta-returns-in-Optional t c =
    λ u h.
    let o = opened F.Optional u c.split_last.ensures.cases c.unwrap.ensures c.in-Optional.is h in
    wrote_tree c.args.sheet.now c.write_enclosed-in-Optional.new.sheet u _ c.write_enclosed-in-Optional.result o.shape (c.write_enclosed-in-Optional.ensures (inside u) o.body)

pub write_meta-returns-in_err-write_meta-in-Many : goal.write_meta-returns-in_err-write_meta-in-Many
write_meta-returns-in_err-write_meta-in-Many t c =
    λ u h.
    let o = opened F.Many u c.split_last.ensures.cases c.unwrap.ensures c.in-Many.is h in
    wrote_tree c.args.sheet.now c.write_meta.new.sheet u _ c.from_residual.result o.shape
    (wrote_as c.args.sheet.now _ _ (spell (reading (inside u)) ++ element_ops R.dots) _ (spell-concat (reading (inside u)) (R.one R.dots R.end))
    (wrote_stop c.args.sheet.now c.write_meta.new.sheet (spell (reading (inside u))) (element_ops R.dots) c.from_residual.result c.from_residual.ensures.0 (c.in_err-write_meta-in-Many.ensures (inside u) o.body)))

pub write_meta-returns-in_ok-write_meta-in-Many : goal.write_meta-returns-in_ok-write_meta-in-Many
write_meta-returns-in_ok-write_meta-in-Many t c =
    λ u h.
    let o = opened F.Many u c.split_last.ensures.cases c.unwrap.ensures c.in-Many.is h in
    wrote_tree c.args.sheet.now c.write_str.new.self u _ c.write_str.result o.shape
    (wrote_as c.args.sheet.now _ _ (spell (reading (inside u)) ++ element_ops R.dots) _ (spell-concat (reading (inside u)) (R.one R.dots R.end))
    (wrote_then c.args.sheet.now c.write_meta.new.sheet c.write_str.new.self (spell (reading (inside u))) (element_ops R.dots) c.write_str.result (c.in_ok-write_meta-in-Many.ensures (inside u) o.body)
    (wrote_sign c.write_meta.new.sheet c.write_str.new.self (element_ops R.dots) _ _ refl c.write_str.ensures.put)))

pub write_meta-returns-in_err-write_dashes-in-Strict : goal.write_meta-returns-in_err-write_dashes-in-Strict
write_meta-returns-in_err-write_dashes-in-Strict t c =
    λ u h.
    let o = opened F.Strict u c.split_last.ensures.cases c.unwrap.ensures c.in-Strict.is h in
    wrote_tree c.args.sheet.now c.write_dashes.new.sheet u _ c.from_residual-in_err-write_dashes-in-Strict.result o.shape
    (wrote_stop c.args.sheet.now c.write_dashes.new.sheet (element_ops R.dashes) (spell (reading (inside u))) c.from_residual-in_err-write_dashes-in-Strict.result c.from_residual-in_err-write_dashes-in-Strict.ensures.0 c.in_err-write_dashes-in-Strict.ensures)

pub write_meta-returns-in_ok-write_dashes-in-Strict : goal.write_meta-returns-in_ok-write_dashes-in-Strict
write_meta-returns-in_ok-write_dashes-in-Strict t c =
    λ u h.
    let o = opened F.Strict u c.split_last.ensures.cases c.unwrap.ensures c.in-Strict.is h in
    wrote_tree c.args.sheet.now c.write_meta-in-Strict.new.sheet u _ c.write_meta-in-Strict.result o.shape
    (wrote_then c.args.sheet.now c.write_dashes.new.sheet c.write_meta-in-Strict.new.sheet (element_ops R.dashes) (spell (reading (inside u))) c.write_meta-in-Strict.result c.in_ok-write_dashes-in-Strict.ensures (c.write_meta-in-Strict.ensures (inside u) o.body))

pub write_row-returns-in_default : goal.write_row-returns-in_default
write_row-returns-in_default t c =
    λ ts h.
    let none = row-none c.args.book.now c.args.row.now ts h c.in_default.ensures.cases in
    (refl, ap (λ (ops : List Op). applies c.args.sheet.now.content ops) (sym (joined-none (element_of c.args.join) ts none)))

pub write_row-before_last-front-requires : goal.write_row-before_last-front-requires
write_row-before_last-front-requires t c =
    let size = fits_row _ _ _ _ c.requires.0 c.in-Some.ensures.cases.0 c.requires.1 in
    omega (arith, c.from.ensures)

-- either part is smaller than the row, so that the measure does not tell which of them is written first
pub write_row-write_row-requires : goal.write_row-write_row-requires
write_row-write_row-requires t c =
    let q = split_before _ _ c.requires.0 c.in-Some.ensures.cases.0 c.from.ensures c.before_last-front.ensures c.requires.1 in
    (omega (arith, c.decreases, q.smaller, q.last_smaller (sym c.is_empty.ensures ∙ c.if-not-is_empty.true)), (q.front_trees, q.front_is))

pub write_row-write_meta-requires : goal.write_row-write_meta-requires
write_row-write_meta-requires t c =
    let q = split_before _ _ c.requires.0 c.in-Some.ensures.cases.0 c.from.ensures c.before_last-front.ensures c.requires.1 in
    (omega (arith, c.decreases, length-drop {A = Normal}), (q.last_tree, q.last_is))

pub write_row-returns-in_err-write_row : goal.write_row-returns-in_err-write_row
write_row-returns-in_err-write_row t c =
    λ ts h.
    let q = split_before _ _ ts c.in-Some.ensures.cases.0 c.from.ensures c.before_last-front.ensures h in
    let e = element_of c.args.join in
    wrote_as c.args.sheet.now c.write_row.new.sheet _ (spell (joined e q.front_trees) ++ (element_ops e ++ spell (reading q.last_tree))) c.from_residual.result (q.behind e (sym c.is_empty.ensures ∙ c.if-not-is_empty.true))
    (wrote_stop c.args.sheet.now c.write_row.new.sheet (spell (joined e q.front_trees)) (element_ops e ++ spell (reading q.last_tree)) c.from_residual.result c.from_residual.ensures.0 (c.in_err-write_row.ensures q.front_trees q.front_is))

pub write_row-returns-in_err-write_str : goal.write_row-returns-in_err-write_str
write_row-returns-in_err-write_str t c =
    λ ts h.
    let q = split_before _ _ ts c.in-Some.ensures.cases.0 c.from.ensures c.before_last-front.ensures h in
    let e = element_of c.args.join in
    wrote_as c.args.sheet.now c.write_str.new.self _ (spell (joined e q.front_trees) ++ (element_ops e ++ spell (reading q.last_tree))) c.from_residual-in_err-write_str.result (q.behind e (sym c.is_empty.ensures ∙ c.if-not-is_empty.true))
    (stopped_second c.args.sheet.now c.write_row.new.sheet c.write_str.new.self (spell (joined e q.front_trees)) (element_ops e) (spell (reading q.last_tree)) c.from_residual-in_err-write_str.result c.from_residual-in_err-write_str.ensures.0 (c.in_ok-write_row.ensures q.front_trees q.front_is)
    (wrote_sign c.write_row.new.sheet c.write_str.new.self (element_ops e) c.text.result.now (Err _) c.text.ensures c.in_err-write_str.ensures.put))

pub write_row-returns : goal.write_row-returns
write_row-returns t c =
    λ ts h.
    let q = split_before _ _ ts c.in-Some.ensures.cases.0 c.from.ensures c.before_last-front.ensures h in
    let e = element_of c.args.join in
    let after : (s : SheetState) → c.if-not-is_empty.sheet ≡ s → Wrote s (spell (reading q.last_tree)) c.write_meta.new.sheet c.write_meta.result
    = λ s is. subst (λ (s : SheetState). Wrote s (spell (reading q.last_tree)) c.write_meta.new.sheet c.write_meta.result) is (c.write_meta.ensures q.last_tree q.last_is) in
    elim c.if-not-is_empty.branch [
      | write_row-then-not-is_empty+in_ok-write_row+in_ok-write_str w ↦
          wrote_as c.args.sheet.now c.write_meta.new.sheet _ (spell (joined e q.front_trees) ++ (element_ops e ++ spell (reading q.last_tree))) c.write_meta.result (q.behind e (sym c.is_empty.ensures ∙ w.if-not-is_empty.true))
          (wrote_three c.args.sheet.now w.write_row.new.sheet w.write_str.new.self c.write_meta.new.sheet (spell (joined e q.front_trees)) (element_ops e) (spell (reading q.last_tree)) c.write_meta.result
          (w.in_ok-write_row.ensures q.front_trees q.front_is)
          (wrote_sign w.write_row.new.sheet w.write_str.new.self (element_ops e) w.text.result.now (Ok tt) w.text.ensures w.in_ok-write_str.ensures.put)
          (after w.write_str.new.self w.sheet-is))
      | write_row-else-not-is_empty w ↦
          wrote_as c.args.sheet.now c.write_meta.new.sheet _ (spell (reading q.last_tree)) c.write_meta.result (q.alone e (sym c.is_empty.ensures ∙ w.if-not-is_empty.false)) (after c.args.sheet.now w.sheet-is)
    ]
