-- What a book's answer to a record says of the rule of adding.
use Rattle.std.specs.Prelude.{length, Some, None, Ok, Err, Option, Result}
use Rattle.rules.specs.Rejection.{Rejection, reject}
use Rattle.rules.specs.Plain.{Plain}
use Rattle.meta.specs.Rejections.{fault_number, layer_of, layer_letter}
use Rattle.meta.specs.declared.rejection.Fault.{Fault}

-- the row of the table that an answer stands for: that of its fault, about the book's next node, or none where it has no fault
abbrev pub row_of : {A : Type 0} → Plain → Result A Fault → Option Rejection
row_of p (Ok x) = None
row_of p (Err f) = Some (reject (fault_number f) (layer_letter (layer_of f)) (length p.nodes))
