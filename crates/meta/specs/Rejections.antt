-- The faults, layers and rejections of the code, as those of the rules.
use Rattle.std.specs.Prelude.{ℕ, List, ◌∷◌, ◌++◌, Some, None, Ok, Err, Option, Result, codes, decimal}
use Rattle.rules.specs.Rejection.{Rejection, book, tree, sheet}
use Rattle.meta.specs.declared.rejection.Fault.{Fault}
use Rattle.meta.specs.declared.rejection.Fault.TheVariants as F
use Rattle.meta.specs.declared.rejection.Layer.{Layer}
use Rattle.meta.specs.declared.rejection.Layer.TheVariants as L
use Rattle.meta.specs.declared.rejection.Rejection.{Rejection as CodeRejection}

-- the number of a fault
abbrev pub fault_number : Fault → ℕ
fault_number F.Size = 10
fault_number F.Full = 11
fault_number F.Kind = 12
fault_number F.Unused = 13
fault_number F.Word = 14
fault_number F.Note = 15
fault_number F.Childless = 16
fault_number F.Unplaced = 17
fault_number F.NoNode = 20
fault_number F.Bench = 30
fault_number F.Long = 32

-- the layer that finds a fault
abbrev pub layer_of : Fault → Layer
layer_of F.Size = L.Book
layer_of F.Full = L.Book
layer_of F.Kind = L.Book
layer_of F.Unused = L.Book
layer_of F.Word = L.Book
layer_of F.Note = L.Book
layer_of F.Childless = L.Book
layer_of F.Unplaced = L.Book
layer_of F.NoNode = L.Tree
layer_of F.Bench = L.Sheet
layer_of F.Long = L.Sheet

-- the letter of a layer
abbrev pub layer_letter : Layer → ℕ
layer_letter L.Book = book
layer_letter L.Tree = tree
layer_letter L.Sheet = sheet

-- a rejection by its four numbers
abbrev pub rejection_of : CodeRejection → Rejection
rejection_of e = record {
  number = fault_number e.fault;
  layer = layer_letter e.layer;
  «record» = e.«record»;
  within = e.within;
}

-- an answer, with its rejection by its four numbers
abbrev pub answer_of : {A : Type 0} → Result A CodeRejection → Result A Rejection
answer_of (Ok x) = Ok x
answer_of (Err e) = Err (rejection_of e)

-- the answer where a table has a row that the call breaks, or else a value
abbrev pub by_rule : {A : Type 0} → Option Rejection → A → Result A Rejection
by_rule None x = Ok x
by_rule (Some e) x = Err e

-- a rejection in print: its four numbers, the layer by its letter
abbrev pub rejection_text : Rejection → List ℕ
rejection_text e =
    codes "refused " ++ (decimal e.number ++ (codes " " ++ (e.layer ∷ (codes " "
    ++ (decimal e.«record» ++ (codes " " ++ decimal e.within))))))
