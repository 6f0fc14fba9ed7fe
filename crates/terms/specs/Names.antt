-- How styles and blocks are named in print.
use Rattle.std.specs.Prelude.{ℕ, List, codes}
use Rattle.terms.specs.declared.text.Style.{Style}
use Rattle.terms.specs.declared.text.Style.TheVariants as S
use Rattle.terms.specs.declared.text.Block.{Block}
use Rattle.terms.specs.declared.text.Block.TheVariants as B

-- the first letter of a style's name
abbrev pub style_letter : Style → List ℕ
style_letter S.Text = codes "T"
style_letter S.Emphasis = codes "E"
style_letter S.Literal = codes "L"
style_letter S.Metavar = codes "M"
style_letter S.Invalid = codes "I"

-- the name of a block
abbrev pub block_name : Block → List ℕ
block_name B.Header = codes "Header"
block_name B.Section2 = codes "Section2"
block_name B.Section3 = codes "Section3"
block_name B.Section4 = codes "Section4"
block_name B.ItemTerm = codes "ItemTerm"
block_name B.ItemBody = codes "ItemBody"
block_name B.DefinitionList = codes "DefinitionList"
block_name B.Block = codes "Block"
block_name B.InlineBlock = codes "InlineBlock"
block_name B.TermRef = codes "TermRef"
block_name B.Meta = codes "Meta"
block_name B.Mono = codes "Mono"
