use Rattle.std.proofs.Common.{◌<◌, ◌≤◌, length, sym, arith}
use Rattle.std.proofs.lemmas.Option.{slice_get_past}
use Rattle.buffer.proofs.Numbered.{whole_numbered, numbered}
use Rattle.buffer.proofs.store.Store.note.Goals as goal

pub invariant_of-result : goal.invariant_of-result
invariant_of-result c = rw (c.tokens.ensures.value, c.text.ensures.value) (whole_numbered c.args.self.now _ c.len.ensures.whole)

pub returns-then-number-len-clause-value : goal.returns-then-number-len-clause-value
returns-then-number-len-clause-value c =
    let l : c.args.number < length c.args.self.now = omega (arith, c.len.ensures.value) in
    rw (c.tokens.ensures.value, c.text.ensures.value) (numbered c.args.self.now c.args.number l)

pub returns-else-number-len-clause-value : goal.returns-else-number-len-clause-value
returns-else-number-len-clause-value c =
    let l : length c.args.self.now ≤ c.args.number = omega (arith, c.len.ensures.value) in
    sym (slice_get_past c.args.self.now c.args.number l)
