-- How the check walks over marks.
use Rattle.std.specs.Prelude.{◌≡◌, Bool, false, if◌then◌else◌, ◌&&◌, List, reverse, ◌∷◌, ◌==◌}
use Rattle.terms.specs.declared.text.Block.{Block}
use Rattle.terms.specs.Token.{sizes}
use Rattle.terms.specs.declared.text.Mark.{Mark}
use Rattle.rules.specs.Notes.{nested, ended, tokens_of}
use Rattle.buffer.specs.declared.check.Walk.{Walk}

-- the open blocks, the inmost of which stands last in the code and first in the rules
abbrev pub open_blocks : List Block → List Block
open_blocks bs = reverse bs

-- the marks keep what they must behind those of the walk
abbrev pub goes_on : Walk → List Mark → Bool
goes_on w ms = nested (open_blocks w.open.items) ms && ended w.ended ms && sizes (tokens_of ms) == w.left

-- the walk v is w behind one more mark, if that may come next
abbrev pub Takes : Walk → Mark → Walk → Bool → Type 0
Takes w m v ok = (ms : List Mark) → goes_on w (m ∷ ms) ≡ (if ok then goes_on v ms else false)
