-- The kinds of records.
use Rattle.std.specs.Prelude.{ℕ, Bool, List, [], ◌∷◌, ◌==◌}
use Rattle.terms.specs.declared.kind.Kind.{Kind}
use Rattle.terms.specs.declared.kind.Field.{Field}
use Rattle.terms.specs.declared.kind.Field.TheVariants as F
use Rattle.terms.specs.declared.kind.Kind.TheVariants.{Skip, And, Or, Optional, Required, Adjacent, Many, Subsection, Suffix, CustomUsage, Strict, Any, Positional, Command, Flag, Argument}

-- the kinds, numbered from 0 in this order; the last five are the items
abbrev pub kinds : List Kind
kinds = Skip ∷ And ∷ Or ∷ Optional ∷ Required ∷ Adjacent ∷ Many ∷ Subsection ∷ Suffix ∷ CustomUsage ∷ Strict ∷ Any ∷ Positional ∷ Command ∷ Flag ∷ Argument ∷ []

-- the number of a kind
abbrev pub kind_number : Kind → ℕ
kind_number Skip = 0
kind_number And = 1
kind_number Or = 2
kind_number Optional = 3
kind_number Required = 4
kind_number Adjacent = 5
kind_number Many = 6
kind_number Subsection = 7
kind_number Suffix = 8
kind_number CustomUsage = 9
kind_number Strict = 10
kind_number Any = 11
kind_number Positional = 12
kind_number Command = 13
kind_number Flag = 14
kind_number Argument = 15

-- the same kind
abbrev pub same_kind : Kind → Kind → Bool
same_kind a b = kind_number a == kind_number b

-- the fields that a kind uses
abbrev pub uses : Kind → List Field
uses Skip = []
uses And = F.Count ∷ []
uses Or = F.Count ∷ []
uses Optional = []
uses Required = []
uses Adjacent = []
uses Many = []
uses Subsection = F.Note ∷ []
uses Suffix = F.Note ∷ []
uses CustomUsage = F.Note ∷ []
uses Strict = []
uses Any = F.Anywhere ∷ F.Note ∷ F.MetavarNote ∷ []
uses Positional = F.Note ∷ F.Metavar ∷ []
uses Command = F.Note ∷ F.Short ∷ F.Name ∷ []
uses Flag = F.Note ∷ F.Short ∷ F.Name ∷ F.Variable ∷ []
uses Argument = F.Note ∷ F.Short ∷ F.Name ∷ F.Metavar ∷ F.Variable ∷ []

-- the fields that a kind needs, besides a name or a short for a Flag or an Argument
abbrev pub needs : Kind → List Field
needs Skip = []
needs And = []
needs Or = []
needs Optional = []
needs Required = []
needs Adjacent = []
needs Many = []
needs Subsection = F.Note ∷ []
needs Suffix = F.Note ∷ []
needs CustomUsage = F.Note ∷ []
needs Strict = []
needs Any = F.MetavarNote ∷ []
needs Positional = F.Metavar ∷ []
needs Command = F.Name ∷ []
needs Flag = []
needs Argument = F.Metavar ∷ []
