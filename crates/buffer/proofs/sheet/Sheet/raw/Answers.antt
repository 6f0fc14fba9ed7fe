use Rattle.std.proofs.Common.{refl, ap, ap₂, ◌∙◌, List, ℕ, arith, rules}
use Rattle.terms.specs.Token.{sizes}
use Rattle.terms.specs.declared.text.Token.{Token}
use Rattle.rules.specs.Content.{apply}
use Rattle.buffer.specs.Sheets.{state_of}
use Rattle.rules.proofs.Wholes.{sizes-append}
use Rattle.buffer.proofs.Held.{held_fits, held-sound}
use Rattle.buffer.proofs.Writing.{raw_over_tokens, raw_over_bytes}
use Rattle.buffer.proofs.sheet.Sheet.raw.Goals as goal

pub returns-then-tokens-self-clause-put : goal.returns-then-tokens-self-clause-put
returns-then-tokens-self-clause-put c =
    let s = c.self.inside in
    let v = state_of s in
    rw (← c.self.view_is) ((refl, raw_over_tokens v.limits v.content _ (omega (arith, s.tokens.ok.0)), refl, tt))

pub returns-then-bytes-self-clause-put : goal.returns-then-bytes-self-clause-put
returns-then-bytes-self-clause-put c =
    let s = c.self.inside in
    let v = state_of s in
    rw (← c.self.view_is) ((refl, raw_over_bytes v.limits v.content _ (omega (arith, s.bytes.ok.0)), refl, tt))

pub invariant_of-self : goal.invariant_of-self
invariant_of-self c =
    let s = c.self.inside in
    let k = c.extend_from_slice.ensures.succeeds (omega (arith, s.tokens.ok.0)) in
    let e = rw k at c.extend_from_slice.ensures.items in
    let z = ap sizes e ∙ sizes-append s.tokens.items c.args.tokens.now in
    search rules

pub returns-clause-put : goal.returns-clause-put
unfolding apply
returns-clause-put c =
    let s = c.self.inside in
    let k = c.extend_from_slice.ensures.succeeds (omega (arith, s.tokens.ok.0)) in
    let k₂ = c.extend_from_slice-2.ensures.succeeds (omega (arith, s.bytes.ok.0)) in
    let e = rw k at c.extend_from_slice.ensures.items in
    let f = rw k₂ at c.extend_from_slice-2.ensures.items in
    rw (← c.self.view_is) ((refl, ap₂ (λ (ts : List Token) (bs : List ℕ). record { tokens = ts; bytes = bs }) e f, tt, held_fits _ (invariant_of-self c)))

pub returns-clause-sound : goal.returns-clause-sound
returns-clause-sound c = held-sound _ (invariant_of-self c)
