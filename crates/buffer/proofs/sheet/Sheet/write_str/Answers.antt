use Rattle.std.proofs.Common.{◌≡◌, ◌+◌, List, ℕ, length, vec_items, refl, ap, ap₂, ◌∙◌, arith, rules}
use Rattle.std.proofs.lemmas.Result.{err_from_is_err_and}
use Rattle.terms.specs.Token.{sizes}
use Rattle.terms.specs.declared.text.Token.{Token}
use Rattle.rules.specs.Content.{apply}
use Rattle.buffer.specs.Sheets.{state_of}
use Rattle.rules.proofs.Flat.{sizes-extend}
use Rattle.buffer.proofs.Held.{held_fits, held-sound}
use Rattle.buffer.proofs.Writing.{str_over_tokens, str_over_bytes}
use Rattle.buffer.proofs.sheet.Sheet.write_str.Goals as goal

pub returns-then-s-self-clause-put : goal.returns-then-s-self-clause-put
returns-then-s-self-clause-put c =
    let s = c.self.inside in
    let v = state_of s in
    rw (← c.self.view_is) ((refl, str_over_bytes v.limits v.content c.args.style c.args.s.now (omega (arith, s.bytes.ok.0)), refl, tt))

pub returns-in_err-lengthen-clause-put : goal.returns-in_err-lengthen-clause-put
returns-in_err-lengthen-clause-put c =
    let p = err_from_is_err_and c.from_residual.result c.from_residual.ensures.1 in
    let v = state_of c.self.inside in
    let h = str_over_tokens v.limits v.content c.args.style c.args.s.now c.in_err-lengthen.ensures.1 in
    let e = c.in_err-lengthen.ensures.0 in
    rw (← c.self.view_is, p.1) ((refl, h, ap (λ (ts : _). record { tokens = (vec_items ts); bytes = vec_items c.self.inside.bytes }) e, tt))

pub invariant_of-self-2 : goal.invariant_of-self-2
invariant_of-self-2 c =
    let s = c.self.inside in
    let e = c.in_ok-lengthen.ensures in
    let z : sizes c.lengthen.new.tokens.items ≡ sizes s.tokens.items + length c.args.s.now =
    ap sizes e.0 ∙ sizes-extend s.tokens.items c.args.style (length c.args.s.now)
    in
    search rules

pub returns-clause-put : goal.returns-clause-put
unfolding apply
returns-clause-put c =
    let s = c.self.inside in
    let e = c.in_ok-lengthen.ensures in
    let k = c.extend_from_slice.ensures.succeeds (omega (arith, s.bytes.ok.0)) in
    let f = rw k at c.extend_from_slice.ensures.items in
    rw (← c.self.view_is) ((refl, ap₂ (λ (ts : List Token) (bs : List ℕ). record { tokens = ts; bytes = bs }) e.0 f, tt, held_fits _ (invariant_of-self-2 c)))

pub returns-clause-sound : goal.returns-clause-sound
returns-clause-sound c = held-sound _ (invariant_of-self-2 c)
