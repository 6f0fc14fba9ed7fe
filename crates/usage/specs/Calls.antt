-- What a call for a usage line answers.
use Rattle.std.specs.Prelude.{ℕ, [], ◌∷◌, Option}
use Rattle.rules.specs.Lists.{first}
use Rattle.rules.specs.Rejection.{Rejection}
use Rattle.rules.specs.Plain.{Plain}
use Rattle.rules.specs.Reading.{reading_of}
use Rattle.rules.specs.Content.{Limits, line}
use Rattle.rules.specs.Table.{no_node, small_bench, too_long}

-- the first row of the table that the usage line of a root breaks, on a bench and a sheet of so much room
abbrev pub usage_rule : (bench : ℕ) → Limits → Plain → (root : ℕ) → Option Rejection
usage_rule bench l p root = first (no_node p root ∷ small_bench p root bench ∷ too_long l (line (reading_of p root)) root ∷ [])
