-- A node of a plain book, from its record and its children.
use Rattle.std.proofs.Common.{◌≡◌, ℕ, List, Some, None, Option, ap, ◌∙◌}
use Rattle.std.specs.Option.{option_map}
use Rattle.rules.specs.Plain.{Node}

-- a node is its record with its children
pub node_of : (o : Option Node) (r ks : List ℕ) → Some r ≡ option_map (λ n. n.«record») o → Some ks ≡ option_map (λ n. n.children) o
    → o ≡ Some (record { «record» = r; children = ks })
node_of None r ks h k = cc
node_of (Some n) r ks h k =
    let one : n.«record» ≡ r = cc in
    let two : n.children ≡ ks = cc in
    ap (λ (x : List ℕ). Some (record { «record» = x; children = n.children })) one
    ∙ ap (λ (y : List ℕ). Some (record { «record» = r; children = y })) two
