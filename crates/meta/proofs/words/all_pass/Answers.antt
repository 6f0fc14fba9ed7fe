use Rattle.std.proofs.Common.{rules, tests}
use Rattle.std.proofs.lemmas.Iterator.{YieldsList-from_slice}
use Rattle.std.proofs.lemmas.Iterator.Search.{all_from_yields_List}
use Rattle.meta.proofs.words.all_pass.Goals as goal

pub returns : goal.returns
returns g c ok tells =
    all_from_yields_List ok _ _ _ c.all.ensures.ran (YieldsList-from_slice c.args.bytes.now cc)
    (λ x b q k. (search (rules, tests), tells _ _ (search (rules, tests))))
