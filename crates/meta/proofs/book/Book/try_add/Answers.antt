use Rattle.std.proofs.Common.{◌≡◌, length, Some, Ok, Err, sym, ap, ◌∙◌, arith}
use Rattle.std.proofs.lemmas.Result.{err_from_is_err_and}
use Rattle.rules.specs.Plain.{add_rule, added}
use Rattle.meta.proofs.Added.{unchanged, grows, is_full, is_ruled, some_of}
use Rattle.meta.proofs.book.Book.try_add.Goals as goal

pub returns-then-len-min-clause-rule : goal.returns-then-len-min-clause-rule
returns-then-len-min-clause-rule c =
    let made : c.new.result ≡ Some c.in_ok-record.record = grind arith in
    let own = some_of c.new.result c.args.record.now c.in_ok-record.record c.new.ensures made in
    let whole : length c.in_ok-record.record ≡ 128 = ap length own.1 ∙ own.0 in
    is_full c.self.inside c.self.invariant c.self.view_is c.args.record.now own.0 c.min.ensures c.len.ensures c.if-len-min.true

pub returns-then-len-min-clause-after : goal.returns-then-len-min-clause-after
returns-then-len-min-clause-after c =
    let made : c.new.result ≡ Some c.in_ok-record.record = grind arith in
    let own = some_of c.new.result c.args.record.now c.in_ok-record.record c.new.ensures made in
    let whole : length c.in_ok-record.record ≡ 128 = ap length own.1 ∙ own.0 in
    unchanged c.args.self.now c.args.record.now _ (is_full c.self.inside c.self.invariant c.self.view_is c.args.record.now own.0 c.min.ensures c.len.ensures c.if-len-min.true)

pub returns-in_err-takes-clause-rule : goal.returns-in_err-takes-clause-rule
returns-in_err-takes-clause-rule c =
    let made : c.new.result ≡ Some c.in_ok-record.record = grind arith in
    let own = some_of c.new.result c.args.record.now c.in_ok-record.record c.new.ensures made in
    let whole : length c.in_ok-record.record ≡ 128 = ap length own.1 ∙ own.0 in
    let rule = is_ruled c.self.inside c.self.invariant c.self.view_is c.in_ok-record.record whole (Err c.in_err-takes.field-0.0) c.min.ensures c.len.ensures c.if-len-min.false c.len-2.ensures.value c.len-3.ensures c.in_err-takes.ensures.rule in
    let p = err_from_is_err_and c.from_residual-in_err-takes.result c.from_residual-in_err-takes.ensures.1 in
    rw (p.1, p.2) (rule ∙ ap (add_rule c.args.self.now) own.1)

pub returns-in_err-takes-clause-after : goal.returns-in_err-takes-clause-after
returns-in_err-takes-clause-after c =
    let made : c.new.result ≡ Some c.in_ok-record.record = grind arith in
    let own = some_of c.new.result c.args.record.now c.in_ok-record.record c.new.ensures made in
    let whole : length c.in_ok-record.record ≡ 128 = ap length own.1 ∙ own.0 in
    let rule = is_ruled c.self.inside c.self.invariant c.self.view_is c.in_ok-record.record whole (Err c.in_err-takes.field-0.0) c.min.ensures c.len.ensures c.if-len-min.false c.len-2.ensures.value c.len-3.ensures c.in_err-takes.ensures.rule in
    unchanged c.args.self.now c.args.record.now _ (rule ∙ ap (add_rule c.args.self.now) own.1)

pub place-requires-clause-rule : goal.place-requires-clause-rule
place-requires-clause-rule c =
    let made : c.new.result ≡ Some c.in_ok-record.record = grind arith in
    let own = some_of c.new.result c.args.record.now c.in_ok-record.record c.new.ensures made in
    let whole : length c.in_ok-record.record ≡ 128 = ap length own.1 ∙ own.0 in
    sym (is_ruled c.self.inside c.self.invariant c.self.view_is c.in_ok-record.record whole (Ok c.in_ok-takes.takes) c.min.ensures c.len.ensures c.if-len-min.false c.len-2.ensures.value c.len-3.ensures c.in_ok-takes.ensures.rule)

pub returns-clause-rule : goal.returns-clause-rule
returns-clause-rule c =
    let made : c.new.result ≡ Some c.in_ok-record.record = grind arith in
    let own = some_of c.new.result c.args.record.now c.in_ok-record.record c.new.ensures made in
    let whole : length c.in_ok-record.record ≡ 128 = ap length own.1 ∙ own.0 in
    is_ruled c.self.inside c.self.invariant c.self.view_is c.in_ok-record.record whole (Ok c.in_ok-takes.takes) c.min.ensures c.len.ensures c.if-len-min.false c.len-2.ensures.value c.len-3.ensures c.in_ok-takes.ensures.rule
    ∙ ap (add_rule c.args.self.now) own.1

pub returns-clause-after : goal.returns-clause-after
returns-clause-after c =
    let made : c.new.result ≡ Some c.in_ok-record.record = grind arith in
    let own = some_of c.new.result c.args.record.now c.in_ok-record.record c.new.ensures made in
    let whole : length c.in_ok-record.record ≡ 128 = ap length own.1 ∙ own.0 in
    let rule = is_ruled c.self.inside c.self.invariant c.self.view_is c.in_ok-record.record whole (Ok c.in_ok-takes.takes) c.min.ensures c.len.ensures c.if-len-min.false c.len-2.ensures.value c.len-3.ensures c.in_ok-takes.ensures.rule in
    c.place.ensures.after ∙ grows c.args.self.now c.in_ok-record.record rule ∙ ap (added c.args.self.now) own.1
