use Rattle.std.proofs.Common.{◌≡◌, suc, ◌-◌, length, ◌∙◌, arith}
use Rattle.buffer.proofs.Growth.{end_len_of}
use Rattle.buffer.proofs.write.last_len.Goals as goal

pub returns : goal.returns
returns c =
    let ts = c.args.tokens.now in
    let item = c.in_ok-last.ensures.item in
    let l : length ts ≡ suc (length ts - 1) = omega (arith, item.3.0) in
    c.len_in.ensures ∙ end_len_of ts (length ts - 1) c.in_ok-last.field-0.now c.args.style l item.1
