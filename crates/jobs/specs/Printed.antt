-- How a content and a rejection are printed.
use Rattle.std.specs.Prelude.{ℕ, List, [], ◌∷◌, ◌++◌, take, drop, Ok, Err, codes, decimal, Result}
use Rattle.terms.specs.declared.text.Token.{Token}
use Rattle.terms.specs.declared.text.Token.TheVariants.{Text, BlockStart, BlockEnd}
use Rattle.rules.specs.Content.{Content}
use Rattle.rules.specs.Rejection.{Rejection}
use Rattle.terms.specs.Names.{style_letter, block_name}
use Rattle.terms.specs.Token.{size}
use Rattle.meta.specs.Rejections.{rejection_text}

-- a token's line up to its text: a style's letter and a length, or a sign and a block's name
abbrev pub head : Token → List ℕ
head (Text s n) = style_letter s ++ (codes " " ++ (decimal n ++ codes " "))
head (BlockStart b) = codes "+" ++ block_name b
head (BlockEnd b) = codes "-" ++ block_name b

-- one line a token, the texts being taken from the bytes in turn
abbrev pub shown_tokens : List Token → List ℕ → List ℕ
shown_tokens [] bs = []
shown_tokens (t ∷ ts) bs = head t ++ (take (size t) bs ++ (10 ∷ shown_tokens ts (drop (size t) bs)))

-- the printout of a content
abbrev pub shown_content : Content → List ℕ
shown_content c = shown_tokens c.tokens c.bytes

-- the printout of a rejection, in a line of its own
abbrev pub shown_rejection : Rejection → List ℕ
shown_rejection e = rejection_text e ++ (10 ∷ [])

-- the printout of an answer
abbrev pub shown_answer : Result Content Rejection → List ℕ
shown_answer (Ok c) = shown_content c
shown_answer (Err e) = shown_rejection e
