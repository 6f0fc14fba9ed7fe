use Rattle.std.proofs.Common.{[], ◌∷◌, ◌++◌}
use Rattle.terms.specs.declared.text.Block.TheVariants as B
use Rattle.terms.specs.declared.text.Token.TheVariants.{BlockStart, BlockEnd}
use Rattle.rules.specs.Reading.{reading}
use Rattle.rules.specs.Content.{tok, spell}
use Rattle.usage.proofs.Composed.{wrote_one, wrote_then, wrote_stop, anew_then, anew_stop}
use Rattle.usage.proofs.line.write_line.Goals as goal

pub returns-in_err-begin-clause-line : goal.returns-in_err-begin-clause-line
returns-in_err-begin-clause-line c =
    λ u h.
    let v = c.in_err-begin.ensures in
    anew_stop c.args.sheet.now c.begin.new.sheet (tok (BlockStart B.Mono) ∷ []) (spell (reading u) ++ tok (BlockEnd B.Mono) ∷ []) c.from_residual.result c.from_residual.ensures.0 v.0 v.1

pub returns-in_err-write_meta-clause-line : goal.returns-in_err-write_meta-clause-line
returns-in_err-write_meta-clause-line c =
    λ u h.
    anew_then c.args.sheet.now c.begin.new.sheet c.write_meta.new.sheet (tok (BlockStart B.Mono) ∷ []) (spell (reading u) ++ tok (BlockEnd B.Mono) ∷ []) c.from_residual-in_err-write_meta.result
    c.in_ok-begin.ensures
    (wrote_stop c.begin.new.sheet c.write_meta.new.sheet (spell (reading u)) (tok (BlockEnd B.Mono) ∷ []) c.from_residual-in_err-write_meta.result c.from_residual-in_err-write_meta.ensures.0 (c.in_err-write_meta.ensures u h))

pub returns-clause-line : goal.returns-clause-line
returns-clause-line c =
    λ u h.
    anew_then c.args.sheet.now c.begin.new.sheet c.block_end.new.self (tok (BlockStart B.Mono) ∷ []) (spell (reading u) ++ tok (BlockEnd B.Mono) ∷ []) c.block_end.result
    c.in_ok-begin.ensures
    (wrote_then c.begin.new.sheet c.write_meta.new.sheet c.block_end.new.self (spell (reading u)) (tok (BlockEnd B.Mono) ∷ []) c.block_end.result (c.in_ok-write_meta.ensures u h)
    (wrote_one _ _ (tok (BlockEnd B.Mono)) _ c.block_end.ensures.put))
