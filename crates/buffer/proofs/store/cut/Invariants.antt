use Rattle.std.proofs.Common.{drop, vec_items}
use Rattle.rules.specs.Notes.{notes_of}
use Rattle.buffer.specs.Marks.{marks_in}
use Rattle.buffer.proofs.Cutting.{Cutting}
use Rattle.buffer.proofs.store.cut.Given as goal

abbrev pub invariant-loop-bytes : goal.invariant-loop-bytes
invariant-loop-bytes l =
    Cutting l.text (vec_items l.tokens) (vec_items l.places) l.first l.start l.end l.bytes-index (marks_in (drop l.bytes-index l.marks)) (notes_of l.fn.marks l.fn.text)
