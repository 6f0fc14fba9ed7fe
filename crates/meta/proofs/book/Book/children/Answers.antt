use Rattle.std.proofs.Common.{◌≡◌, ℕ, ◌+◌, ◌-◌, List, take, drop, Some, sym, ap, ◌∙◌, arith, rules}
use Rattle.std.specs.Option.{option_map}
use Rattle.rules.specs.Plain.{Node}
use Rattle.meta.specs.Shape.{node_of}
use Rattle.meta.proofs.Stands.{node_there, node_absent, node_span}
use Rattle.meta.proofs.book.Book.children.Goals as goal

pub returns-in_err-node-clause-value : goal.returns-in_err-node-clause-value
returns-in_err-node-clause-value c =
    ap (option_map (λ x. x.now)) c.from_residual.ensures
    ∙ sym (ap (option_map (λ (n : Node). n.children)) (node_absent c.self.inside c.self.view_is c.args.number _ c.deref.ensures.value c.in_err-node.ensures.lookup.0))

pub overflow_add-end : goal.overflow_add-end
overflow_add-end c =
    let span = node_span c.self.inside c.self.view_is c.args.number _ c.deref.ensures.value c.self.invariant c.in_ok-node.node.now c.in_ok-node.ensures.lookup.0 c.in_ok-node.ensures.lookup.1 in
    search rules

pub offset_bounds-as_slice-first : goal.offset_bounds-as_slice-first
offset_bounds-as_slice-first c =
    let span = node_span c.self.inside c.self.view_is c.args.number _ c.deref.ensures.value c.self.invariant c.in_ok-node.node.now c.in_ok-node.ensures.lookup.0 c.in_ok-node.ensures.lookup.1 in
    search rules

pub slice_bounds-result-end : goal.slice_bounds-result-end
slice_bounds-result-end c =
    let span = node_span c.self.inside c.self.view_is c.args.number _ c.deref.ensures.value c.self.invariant c.in_ok-node.node.now c.in_ok-node.ensures.lookup.0 c.in_ok-node.ensures.lookup.1 in
    search rules

pub returns-clause-value : goal.returns-clause-value
unfolding node_of
returns-clause-value c =
    let node = c.in_ok-node.node.now in
    let first : ℕ = c.from-first.result in
    let long : first + c.from.result - first ≡ node.count = omega (arith, c.from.ensures) in
    ap (λ t. Some (take t (drop first c.as_slice.result.now))) long
    ∙ ap (λ t. Some (take node.count (drop t c.as_slice.result.now))) c.from-first.ensures
    ∙ ap (λ (t : List ℕ). Some (take node.count (drop node.first t))) c.as_slice.ensures.value
    ∙ sym (ap (option_map (λ (n : Node). n.children)) (node_there c.self.inside c.self.view_is c.args.number _ c.deref.ensures.value node c.in_ok-node.ensures.lookup.0 c.in_ok-node.ensures.lookup.1))
