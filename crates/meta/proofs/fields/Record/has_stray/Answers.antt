use Rattle.std.proofs.Common.{rules, tests}
use Rattle.std.proofs.lemmas.Iterator.{YieldsList-from_slice}
use Rattle.std.proofs.lemmas.Iterator.Search.{any_from_yields_List}
use Rattle.rules.specs.Records.{stray}
use Rattle.meta.proofs.fields.Record.has_stray.Goals as goal

pub returns : goal.returns
returns c =
    any_from_yields_List (λ f. stray c.args.kind c.args.self.now f) _ _ _ c.any.ensures.ran (YieldsList-from_slice _ c.iter.ensures.rest)
    (λ x b q k. search (rules, tests))
