-- How a text at the end of a list of tokens grows.
use Rattle.std.specs.Prelude.{◌≡◌, ℕ, ◌<◌, ◌≤◌, List, [], ◌∷◌, length, None, Ok, Err, vec_items, vec_len, vec_capacity, Option, Result, Vec}
use Rattle.std.specs.declared.alloc.Global.{Global}
use Rattle.terms.specs.Token.{len_in}
use Rattle.terms.specs.declared.text.Style.{Style}
use Rattle.terms.specs.declared.text.Token.{Token}
use Rattle.rules.specs.Content.{extend}
use Rattle.buffer.specs.declared.sheet.Full.{Full}

-- the length of the last token, where it is a text in the style
abbrev pub end_len : List Token → Style → Option ℕ
end_len [] st = None
end_len (t ∷ []) st = len_in t st
end_len (t ∷ (u ∷ ts)) st = end_len (u ∷ ts) st

-- what tokens with room for so many become by so many more bytes in a style, or that there is no room
abbrev pub Lengthened : Vec Token Global → ℕ → Style → ℕ → Vec Token Global → Result (Unit {0}) Full → Type 0
Lengthened v most st n w (Ok u) = (vec_items w ≡ extend (vec_items v) st n) × (vec_capacity w ≡ vec_capacity v) × (vec_len w ≤ most)
Lengthened v most st n w (Err e) = (w ≡ v) × (most < length (extend (vec_items v) st n))
