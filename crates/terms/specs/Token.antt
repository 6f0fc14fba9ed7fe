-- The tokens of a text: a stretch of one style and so many bytes, or a block's start or end.
use Rattle.std.specs.Prelude.{ℕ, ◌+◌, if◌then◌else◌, List, [], ◌∷◌, Some, None, Option, ◌==◌}
use Rattle.terms.specs.Style.{style_number}
use Rattle.terms.specs.declared.text.Style.{Style}
use Rattle.terms.specs.declared.text.Token.{Token}
use Rattle.terms.specs.declared.text.Token.TheVariants.{Text, BlockStart, BlockEnd}

-- how many bytes the text of a token has
abbrev pub size : Token → ℕ
size (Text s n) = n
size (BlockStart b) = 0
size (BlockEnd b) = 0

-- the length of a token that is a text in the style
abbrev pub len_in : Token → Style → Option ℕ
len_in (Text s n) st = if style_number s == style_number st then Some n else None
len_in (BlockStart b) st = None
len_in (BlockEnd b) st = None

-- how many bytes the texts of the tokens have
abbrev pub sizes : List Token → ℕ
sizes [] = 0
sizes (Text s n ∷ ts) = n + sizes ts
sizes (BlockStart b ∷ ts) = sizes ts
sizes (BlockEnd b ∷ ts) = sizes ts
