-- The files of a book, and what an error says of them.
use Rattle.std.specs.Prelude.{◌≡◌, ◌⊎◌, List, ℕ, ◌++◌, None, Some, Option, ⊤, codes, string_bytes}
use Rattle.show.specs.declared.error.ShowError.{ShowError}
use Rattle.show.specs.declared.error.ShowError.TheVariants.{Unreadable, Io, Memory}

-- the path of a file in a folder, or in the current one
abbrev pub path_of : Option (List ℕ) → (name : List ℕ) → List ℕ
path_of None name = name
path_of (Some folder) name = folder ++ (codes "/" ++ name)

-- an error that says that a file is unreadable names this one
abbrev pub Names : (path : List ℕ) → ShowError → Type 0
Names path (Unreadable p r) = string_bytes p ≡ path
Names path (Io r) = ⊤
Names path (Memory r) = ⊤

-- an error that says that a file is unreadable names one of the three of a book
abbrev pub NamesFile : (folder : Option (List ℕ)) → ShowError → Type 0
NamesFile folder e =
    Names (path_of folder (codes "book")) e
    ⊎ Names (path_of folder (codes "marks")) e
    ⊎ Names (path_of folder (codes "bytes")) e
