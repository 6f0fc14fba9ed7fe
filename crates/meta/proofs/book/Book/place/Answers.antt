use Rattle.std.proofs.Common.{length, sym, refl, ap, ◌∙◌, rules}
use Rattle.rules.specs.Plain.{Plain}
use Rattle.meta.proofs.Placed.{enough_wait, is_free, placed}
use Rattle.meta.proofs.Stands.{nodes_long}
use Rattle.meta.proofs.book.Book.place.Goals as goal

pub overflow_cast-node-2 : goal.overflow_cast-node-2
overflow_cast-node-2 c =
    let enough = enough_wait c.self.inside c.self.invariant c.self.view_is c.args.«record» c.args.takes c.requires.rule c.requires.takes in search rules

pub move_last-requires : goal.move_last-requires
move_last-requires c =
    let enough = enough_wait c.self.inside c.self.invariant c.self.view_is c.args.«record» c.args.takes c.requires.rule c.requires.takes in
    record { enough = enough; room = search rules }

pub push_reserved-requires : goal.push_reserved-requires
push_reserved-requires c =
    let free = is_free c.self.inside c.self.invariant c.self.view_is c.args.«record» c.args.takes c.requires.rule c.requires.takes in search rules

pub push_reserved-requires-2 : goal.push_reserved-requires-2
push_reserved-requires-2 c =
    let free = is_free c.self.inside c.self.invariant c.self.view_is c.args.«record» c.args.takes c.requires.rule c.requires.takes in search rules

pub invariant_of-self : goal.invariant_of-self
invariant_of-self c =
    let free = is_free c.self.inside c.self.invariant c.self.view_is c.args.«record» c.args.takes c.requires.rule c.requires.takes in
    let s = placed c.self.inside c.self.invariant c.self.view_is c.args.«record» c.args.takes c.requires.rule c.requires.takes (record { «record» = c.args.«record»; first = c.len.result; count = c.args.takes }) _ refl c.push_reserved.ensures.items c.move_last.ensures.items.1 c.move_last.ensures.items.0 c.push_reserved-2.ensures.items c.len-number.ensures c.len.ensures refl in
    record {
      few = search rules;
      shared = search rules;
      room = search rules;
      kids_room = search rules;
      unplaced_room = search rules;
      runs = s.runs;
      stack = s.stack;
      sound = s.sound;
    }

pub returns : goal.returns
returns c =
    let s = placed c.self.inside c.self.invariant c.self.view_is c.args.«record» c.args.takes c.requires.rule c.requires.takes (record { «record» = c.args.«record»; first = c.len.result; count = c.args.takes }) _ refl c.push_reserved.ensures.items c.move_last.ensures.items.1 c.move_last.ensures.items.0 c.push_reserved-2.ensures.items c.len-number.ensures c.len.ensures refl in
    record {
      number = c.len-number.ensures ∙ sym (nodes_long c.self.inside) ∙ ap (λ (p : Plain). length p.nodes) c.self.view_is;
      after = s.grows;
    }
