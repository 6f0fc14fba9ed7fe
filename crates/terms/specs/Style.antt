-- The styles of a text.
use Rattle.std.specs.Prelude.{ℕ, List, [], ◌∷◌}
use Rattle.terms.specs.declared.text.Style.{Style}
use Rattle.terms.specs.declared.text.Style.TheVariants.{Text, Emphasis, Literal, Metavar, Invalid}

-- the styles, numbered from 0 in this order
abbrev pub styles : List Style
styles = Text ∷ Emphasis ∷ Literal ∷ Metavar ∷ Invalid ∷ []

-- the number of a style
abbrev pub style_number : Style → ℕ
style_number Text = 0
style_number Emphasis = 1
style_number Literal = 2
style_number Metavar = 3
style_number Invalid = 4
