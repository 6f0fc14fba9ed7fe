-- The bytes that may stand in a word.
use Rattle.std.specs.Prelude.{◌≡◌, ℕ, Bool}
use Rattle.rules.specs.Records.{name_byte, metavar_byte, variable_byte}
use Rattle.meta.specs.declared.item.Part.{Part}
use Rattle.meta.specs.declared.item.Part.TheVariants as P

-- the bytes that may stand in a word: those of names, of metavars or of variables
abbrev pub allowed : Part → ℕ → Bool
allowed P.Name = name_byte
allowed P.Metavar = metavar_byte
allowed P.Variable = variable_byte

-- each answer about a byte is what the test says
abbrev pub Tells : (ℕ → Bool → Type 0) → (ℕ → Bool) → Type 0
Tells Answers ok = (b : ℕ) (r : Bool) → Answers b r → r ≡ ok b
