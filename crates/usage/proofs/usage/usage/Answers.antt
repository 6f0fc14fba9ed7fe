use Rattle.std.proofs.Common.{true, Err, sym, ap, ◌∙◌, ap₂}
use Rattle.rules.specs.Rejection.{Rejection}
use Rattle.rules.specs.Tree.{tree_at}
use Rattle.rules.specs.NormalForm.{normal}
use Rattle.rules.specs.Reading.{reading_of}
use Rattle.rules.specs.Content.{fits, line}
use Rattle.buffer.proofs.Writing.{over-fits}
use Rattle.normal.specs.Bench.{entries}
use Rattle.usage.proofs.Answered.{answered_line, answered_long}
use Rattle.usage.proofs.Lawful.{lossless}
use Rattle.usage.proofs.usage.usage.Goals as goal

pub returns-in-Ok-clause-value : goal.returns-in-Ok-clause-value
returns-in-Ok-clause-value c =
    let p = c.args.book.now in
    let wrote = c.in-Ok.ensures.line (normal true (tree_at p c.args.root)) (ap (entries p) c.nodes.ensures ∙ c.in_ok-normalise.ensures.items.0) in
    answered_line p c.args.root c.args.bench.now.places c.in_ok-normalise.field-0 _ c.args.sheet.now.limits (line (reading_of p c.args.root)) c.in_ok-normalise.ensures.value
    (sym (ap₂ fits wrote.0 wrote.1) ∙ c.in-Ok.ensures.bound)

pub returns-in-Ok-clause-law : goal.returns-in-Ok-clause-law
returns-in-Ok-clause-law c =
    let p = c.args.book.now in
    let wrote = c.in-Ok.ensures.line (normal true (tree_at p c.args.root)) (ap (entries p) c.nodes.ensures ∙ c.in_ok-normalise.ensures.items.0) in
    lossless p c.args.root _ c.in_ok-normalise.ensures.sound wrote.1

pub returns-in-Err-clause-value : goal.returns-in-Err-clause-value
returns-in-Err-clause-value c =
    let p = c.args.book.now in
    let wrote = c.in-Err.ensures.line (normal true (tree_at p c.args.root)) (ap (entries p) c.nodes.ensures ∙ c.in_ok-normalise.ensures.items.0) in
    ap (λ (e : Rejection). Err e) c.refuse.ensures.value
    ∙ answered_long p c.args.root c.args.bench.now.places c.in_ok-normalise.field-0 _ c.args.sheet.now.limits (line (reading_of p c.args.root)) c.in_ok-normalise.ensures.value (over-fits _ _ wrote.1)
