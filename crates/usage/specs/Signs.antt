-- What the signs of a line are in the rules.
use Rattle.std.specs.Prelude.{List, [], ◌∷◌, codes}
use Rattle.terms.specs.declared.text.Style.TheVariants as S
use Rattle.rules.specs.Reading.{Element}
use Rattle.rules.specs.Reading as R
use Rattle.rules.specs.Content.{Op, str}
use Rattle.usage.specs.declared.signs.Join.{Join}
use Rattle.usage.specs.declared.signs.Join.TheVariants as J
use Rattle.usage.specs.declared.signs.Bracket.{Bracket}
use Rattle.usage.specs.declared.signs.Bracket.TheVariants as B

-- what stands between two trees of a row, as an element of the rules
abbrev pub element_of : Join → Element
element_of J.Space = R.space
element_of J.Bar = R.bar

-- what opens a bracket
abbrev pub open_ops : Bracket → List Op
open_ops B.Round = str S.Text (codes "(") ∷ []
open_ops B.Square = str S.Text (codes "[") ∷ []

-- what closes a bracket
abbrev pub close_ops : Bracket → List Op
close_ops B.Round = str S.Text (codes ")") ∷ []
close_ops B.Square = str S.Text (codes "]") ∷ []
