use Rattle.buffer.proofs.Held.{held-sound}
use Rattle.buffer.proofs.sheet.Sheet.tokens.Goals as goal

pub returns-clause-sound : goal.returns-clause-sound
returns-clause-sound c = rw (← c.self.view_is) (held-sound c.self.inside c.self.invariant)
