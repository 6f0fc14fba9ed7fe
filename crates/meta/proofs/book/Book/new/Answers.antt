use Rattle.std.proofs.Common.{rules}
use Rattle.meta.proofs.Placed.{spanned-none, unplaced-none, new_is, new-keeps}
use Rattle.meta.proofs.book.Book.new.Goals as goal

pub invariant_of-result : goal.invariant_of-result
invariant_of-result c =
    let nodes = c.in_ok-nodes.ensures.items in
    let us = c.in_ok-unplaced.ensures.items in
    record {
      few = search rules;
      shared = search rules;
      room = search rules;
      kids_room = search rules;
      unplaced_room = search rules;
      runs = spanned-none _ nodes;
      stack = unplaced-none _ us nodes;
      sound = new-keeps c.args.places _ _ _ nodes c.in_ok-store.ensures;
    }

pub returns-clause-value : goal.returns-clause-value
returns-clause-value c = new_is _ _ _ _ c.in_ok-nodes.ensures.items c.in_ok-store.ensures

pub returns-clause-sound : goal.returns-clause-sound
returns-clause-sound c = new-keeps _ _ _ _ c.in_ok-nodes.ensures.items c.in_ok-store.ensures
