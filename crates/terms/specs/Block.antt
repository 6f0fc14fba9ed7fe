-- The blocks of a text.
use Rattle.std.specs.Prelude.{ℕ, List, [], ◌∷◌}
use Rattle.terms.specs.declared.text.Block.{Block}
use Rattle.terms.specs.declared.text.Block.TheVariants.{Header, Section2, Section3, Section4, ItemTerm, ItemBody, DefinitionList, Block as Block', InlineBlock, TermRef, Meta, Mono}

-- the blocks, numbered from 0 in this order
abbrev pub blocks : List Block
blocks = Header ∷ Section2 ∷ Section3 ∷ Section4 ∷ ItemTerm ∷ ItemBody ∷ DefinitionList ∷ Block' ∷ InlineBlock ∷ TermRef ∷ Meta ∷ Mono ∷ []

-- the number of a block
abbrev pub block_number : Block → ℕ
block_number Header = 0
block_number Section2 = 1
block_number Section3 = 2
block_number Section4 = 3
block_number ItemTerm = 4
block_number ItemBody = 5
block_number DefinitionList = 6
block_number Block' = 7
block_number InlineBlock = 8
block_number TermRef = 9
block_number Meta = 10
block_number Mono = 11
