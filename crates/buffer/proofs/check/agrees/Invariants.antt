use Rattle.std.proofs.Common.{◌≡◌, ◌≤◌, Bool, false, List, drop, Some, None, Option}
use Rattle.terms.specs.declared.text.Mark.{Mark}
use Rattle.arrayvec.specs.ArrayVec.{array_vec_len}
use Rattle.buffer.specs.declared.check.Walk.{Walk}
use Rattle.buffer.specs.Marks.{marks_in, agreeing}
use Rattle.buffer.specs.Walks.{goes_on}
use Rattle.buffer.proofs.check.agrees.Given as goal

-- there are marks, and they keep what they must behind those of the walk
abbrev goes_from : Walk → Option (List Mark) → Bool
goes_from w None = false
goes_from w (Some ms) = goes_on w ms

-- what is left decides, and no more blocks are open than there were marks
abbrev pub invariant-loop-bytes : goal.invariant-loop-bytes
invariant-loop-bytes l = record {
  left : goes_from l.walk (marks_in (drop l.bytes-index l.marks)) ≡ agreeing l.fn.text_len (marks_in l.marks);
  room : array_vec_len l.walk.open ≤ l.bytes-index;
}
