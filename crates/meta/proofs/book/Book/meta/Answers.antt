use Rattle.std.proofs.lemmas.Option.{slice_get_within}
use Rattle.std.proofs.Common.{length}
use Rattle.std.specs.Prelude.{slice_get}
use Rattle.rules.specs.Plain.{Node}
use Rattle.meta.proofs.Read.{node_of}
use Rattle.meta.proofs.Decoded.{stands-readable, stands_below, decoded_tree}
use Rattle.meta.proofs.book.Book.meta.Goals as goal

pub decode-requires : goal.decode-requires
decode-requires c =
    let p = c.args.self.now in
    let n : Node = record { «record» = c.in_ok-record.record.now; children = c.in_ok-children.children.now } in
    let here = node_of (slice_get p.nodes c.args.number) _ _ (rw c.from.ensures at c.in_ok-record.ensures.value) (rw c.from-2.ensures at c.in_ok-children.ensures.value) in
    stands-readable (length p.notes) c.args.number n (c.own_record.ensures.sound.standing c.args.number n here)

pub returns-clause-value : goal.returns-clause-value
returns-clause-value c =
    let p = c.args.self.now in
    let n : Node = record { «record» = c.in_ok-record.record.now; children = c.in_ok-children.children.now } in
    let here = node_of (slice_get p.nodes c.args.number) _ _ (rw c.from.ensures at c.in_ok-record.ensures.value) (rw c.from-2.ensures at c.in_ok-children.ensures.value) in
    let below = stands_below (length p.notes) c.args.number n (c.own_record.ensures.sound.standing c.args.number n here) in (
      slice_get_within p.nodes c.args.number n here,
      decoded_tree p c.args.number n c.decode.result here below c.decode.ensures.value,
      c.decode.ensures.bound below,
    )
