use Rattle.std.proofs.Common.{◌≡◌, ◌+◌, ◌-◌, length, drop, Some, sym, ap, ◌∙◌, arith}
use Rattle.terms.specs.declared.text.Mark.{Mark}
use Rattle.terms.specs.declared.text.Mark.TheVariants as M
use Rattle.rules.specs.Notes.{notes_of}
use Rattle.rules.specs.Sound.{whole}
use Rattle.rules.proofs.Wholes.{all_pass, notes_whole}
use Rattle.buffer.specs.declared.store.Place.{Place}
use Rattle.buffer.specs.Marks.{marks_in}
use Rattle.buffer.proofs.Cutting.{begins, few_marks, next, sizes_one, cutting_token, cutting_stop, cutting_all, within_all}
use Rattle.buffer.proofs.store.cut.Goals as goal
use Rattle.buffer.proofs.store.cut.Goals.{in-Token+in_ok-push-in-Token, in-Stop+in_ok-push-in-Stop}

pub loop-bytes-init : goal.loop-bytes-init
loop-bytes-init c =
    rw (c.new-tokens.ensures.items, c.new-places.ensures.items, c.as_chunks.ensures.front) (begins c.args.marks.now c.args.text.now c.requires)

pub between-requires-clause-end : goal.between-requires-clause-end
between-requires-clause-end c =
    omega (arith, few_marks c.args.marks.now c.args.text.now c.requires, c.as_chunks.ensures.front_len, c.loop-bytes.invariant.few, c.loop-bytes.tokens.ok.0)

pub loop-bytes-preserved : goal.loop-bytes-preserved
loop-bytes-preserved c =
    let bs = c.as_chunks.result.0.now in
    let i = c.loop-bytes.bytes-index in
    elim c.match-mark.branch [
      | in-Token+in_ok-push-in-Token w ↦
          let read = sym (ap (λ (m : Mark). Some m) w.in-Token.is) ∙ c.in-Some.ensures in
          let k = cutting_token w.in-Token.token (marks_in (drop (i + 1) bs)) (next bs i (M.Token w.in-Token.token) c.loop-bytes.invariant c.loop-bytes-test.true read) in
          rw (w.tokens-is, w.places-is, w.first-is, w.start-is, w.end-is, w.in_ok-push-in-Token.ensures.items, w.len-end.ensures, sym (sizes_one w.in-Token.token)) k
      | in-Stop+in_ok-push-in-Stop w ↦
          let read = sym (ap (λ (m : Mark). Some m) w.in-Stop.is) ∙ c.in-Some.ensures in
          let long = c.loop-bytes.tokens.ok.0 in
          let p : Place = record { tokens = w.between.result; text = w.between-in-Stop.result } in
          let count : p.tokens.count ≡ length c.loop-bytes.tokens.items - c.loop-bytes.first = omega (arith, w.between.ensures.count, w.len.ensures, long) in
          let k = cutting_stop p w.between.ensures.first count w.between-in-Stop.ensures.first w.between-in-Stop.ensures.count (marks_in (drop (i + 1) bs)) (next bs i M.Stop c.loop-bytes.invariant c.loop-bytes-test.true read) in
          rw (w.tokens-is, w.places-is, w.first-is, w.start-is, w.end-is, w.in_ok-push-in-Stop.ensures.items, w.len-first.ensures, long) k
    ]

pub invariant_of-result : goal.invariant_of-result
invariant_of-result c =
    let bs = c.as_chunks.result.0.now in
    let i = c.loop-bytes.bytes-index in
    let all = notes_of c.args.marks.now c.args.text.now in
    record {
      within = rw c.in_ok-text.ensures.items (within_all bs i c.loop-bytes.invariant c.loop-bytes-test.false);
      lawful = rw (c.in_ok-text.ensures.items, cutting_all bs i c.loop-bytes.invariant c.loop-bytes-test.false) (all_pass whole all (notes_whole c.args.marks.now c.args.text.now));
    }
