use Rattle.std.proofs.Common.{◌<◌, ◌≤◌, length, Option, unwrap_or, sym, ap, ◌∙◌, arith}
use Rattle.std.proofs.Math.Nat.{add-sub_cancel_left}
use Rattle.terms.specs.Token.{sizes}
use Rattle.rules.specs.Notes.{Note}
use Rattle.rules.specs.Tree.{no_note}
use Rattle.buffer.specs.Stores.{notes_in}
use Rattle.buffer.proofs.Numbered.{sized_numbered, there, absent}
use Rattle.buffer.proofs.store.Store.text.Goals as goal

pub returns-then-note-len-clause-len : goal.returns-then-note-len-clause-len
returns-then-note-len-clause-len c =
    let s = c.self.inside in
    let l : c.args.note < length s.places.items = omega (arith, s.places.ok.0) in
    let e = there s.tokens.items s.text.items s.places.items c.args.note c.index.result.now l c.index.ensures in
    rw (c.from-first.ensures, c.from.ensures, c.as_slice.ensures.value, add-sub_cancel_left, ← c.self.view_is)
    (sym (ap (λ (o : Option Note). length (unwrap_or o no_note).bytes) e) ∙ sym (sized_numbered (notes_in s) c.args.note c.self.invariant.lawful))

pub returns-else-note-len-clause-value : goal.returns-else-note-len-clause-value
returns-else-note-len-clause-value c =
    let s = c.self.inside in
    let l : length s.places.items ≤ c.args.note = omega (arith, s.places.ok.0) in
    rw (← c.self.view_is) (sym (ap (λ (o : Option Note). (unwrap_or o no_note).bytes) (absent s.tokens.items s.text.items s.places.items c.args.note l)))

pub returns-else-note-len-clause-len : goal.returns-else-note-len-clause-len
returns-else-note-len-clause-len c =
    let s = c.self.inside in
    let l : length s.places.items ≤ c.args.note = omega (arith, s.places.ok.0) in
    rw (← c.self.view_is) (sym (ap (λ (o : Option Note). sizes (unwrap_or o no_note).tokens) (absent s.tokens.items s.text.items s.places.items c.args.note l)))
