-- What the answer about one record says of the rule of adding, whatever the book.
use Rattle.std.specs.Prelude.{◌≡◌, ℕ, List, length, Some, Result, IfOk}
use Rattle.std.specs.Option.{option_map}
use Rattle.rules.specs.Records.{kind_of, takes}
use Rattle.rules.specs.Plain.{Plain, unplaced, kind_rows}
use Rattle.meta.specs.Admitted.{row_of}
use Rattle.meta.specs.declared.rejection.Fault.{Fault}

-- an answer is the rule's, in every book with so many notes and unplaced nodes
abbrev pub ByRows : List ℕ → (notes waiting : ℕ) → Result ℕ Fault → Type 0
ByRows r notes waiting result =
    (p : Plain) → length p.notes ≡ notes → length (unplaced p.nodes) ≡ waiting → row_of p result ≡ kind_rows p r (kind_of r)

-- an accepted record takes as many unplaced nodes as its kind says
abbrev pub Takes : List ℕ → Result ℕ Fault → Type 0
Takes r result = IfOk result (λ n. Some n ≡ option_map (λ k. takes k r) (kind_of r))
