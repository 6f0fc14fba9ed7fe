use Rattle.std.proofs.Common.{◌≤◌, length, take, sym, ap, ◌∙◌, arith}
use Rattle.std.specs.Option.{unwrap_or}
use Rattle.std.proofs.lemmas.List.{length-take-le}
use Rattle.meta.proofs.Steps.{word_taken, word_within}
use Rattle.meta.proofs.words.word_of.Goals as goal

pub slice_bounds-result-end : goal.slice_bounds-result-end
slice_bounds-result-end c =
    let e = ap (λ o. unwrap_or o (length c.args.bytes.now)) c.first_zero.ensures in
    let within : c.unwrap_or.result ≤ length c.args.bytes.now = omega (arith, word_within c.args.bytes.now, c.unwrap_or.ensures, e) in
    sym (length-take-le c.unwrap_or.result c.args.bytes.now within)

pub returns-clause-value : goal.returns-clause-value
returns-clause-value c =
    ap (λ n. take n c.args.bytes.now) (c.unwrap_or.ensures ∙ ap (λ o. unwrap_or o (length c.args.bytes.now)) c.first_zero.ensures)
    ∙ word_taken c.args.bytes.now
