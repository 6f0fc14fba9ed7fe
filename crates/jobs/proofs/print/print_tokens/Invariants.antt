use Rattle.std.proofs.Common.{◌≡◌, ◌++◌, drop, vec_items}
use Rattle.jobs.specs.Printed.{shown_tokens}
use Rattle.jobs.proofs.print.print_tokens.Given as goal

-- what is printed, with what is left to print, is the whole printout
abbrev pub invariant-loop-token : goal.invariant-loop-token
invariant-loop-token l = vec_items l.out ++ shown_tokens (drop l.token-index l.tokens) l.rest ≡ shown_tokens l.tokens l.bytes
