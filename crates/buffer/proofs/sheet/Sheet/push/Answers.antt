use Rattle.std.proofs.Common.{[], ◌∷◌, List, refl, ap, ◌∙◌, arith, rules}
use Rattle.terms.specs.Token.{sizes}
use Rattle.terms.specs.declared.text.Token.{Token}
use Rattle.rules.specs.Content.{apply}
use Rattle.buffer.specs.Sheets.{state_of}
use Rattle.rules.proofs.Wholes.{sizes-append}
use Rattle.buffer.proofs.Held.{held_fits, held-sound}
use Rattle.buffer.proofs.Writing.{tok_over}
use Rattle.buffer.proofs.sheet.Sheet.push.Goals as goal

pub returns-then-len-self-clause-put : goal.returns-then-len-self-clause-put
returns-then-len-self-clause-put c =
    let s = c.self.inside in
    let v = state_of s in
    rw (← c.self.view_is) ((refl, tok_over v.limits v.content c.args.edge (omega (arith, s.tokens.ok.0)), refl, tt))

pub invariant_of-self : goal.invariant_of-self
invariant_of-self c =
    let ts = c.self.inside.tokens.items in
    let e = c.push_reserved.ensures.items in
    let z = ap sizes e ∙ sizes-append ts (c.args.edge ∷ []) in
    search rules

pub returns-clause-put : goal.returns-clause-put
unfolding apply
returns-clause-put c =
    let e = c.push_reserved.ensures.items in
    rw (← c.self.view_is) ((refl, ap (λ (ts : List Token). record { tokens = ts; bytes = c.self.inside.bytes.items }) e, tt, held_fits _ (invariant_of-self c)))

pub returns-clause-sound : goal.returns-clause-sound
returns-clause-sound c = held-sound _ (invariant_of-self c)
