use Rattle.std.proofs.Common.{◌≡◌, Some, None, sym, ap, ◌∙◌}
use Rattle.std.proofs.lemmas.Result.{err_from_is_err_and}
use Rattle.meta.specs.Rejections.{rejection_of, by_rule}
use Rattle.std.specs.Slice.Iter.{chunks_rest}
use Rattle.jobs.specs.Jobs.{Filled, filled, records_in}
use Rattle.jobs.proofs.Stretches.{records-none, records-cut}
use Rattle.jobs.proofs.Filling.{accepted, refused, filled_on, filled_off, added_off}
use Rattle.jobs.proofs.fill.fill.Goals as goal

pub loop-record-preserved : goal.loop-record-preserved
loop-record-preserved c =
    let book = c.loop-record.book in
    let next = c.in-Some.ensures.steps in
    let cut = records-cut (chunks_rest c.loop-record.record-iterator) c.in-Some.record.now (chunks_rest c.next.new.self) _ c.loop-record.invariant.size next.1.0 next.1.1 next.1.2 in
    let none = accepted _ _ _ c.in_ok-add.ensures.value in
    record {
      size = next.0 ∙ c.loop-record.invariant.size;
      fills = filled_on book c.add.new.self c.in-Some.record.now (records_in (chunks_rest c.next.new.self)) none c.add.ensures.after
          ∙ (ap (λ rs. filled book rs) (sym cut) ∙ c.loop-record.invariant.fills);
    }

pub returns : goal.returns
returns c =
    let none = records-none (chunks_rest c.loop-record.record-iterator) c.in-None.ensures.steps.1.0 in
    let end : filled c.args.book.now (records_in c.args.records.now) ≡ record { left = c.loop-record.book; rejected = None }
    = sym c.loop-record.invariant.fills ∙ ap (λ rs. filled c.loop-record.book rs) none in
    record {
      value = sym (ap (λ (f : Filled). by_rule f.rejected tt) end);
      after = sym (ap (λ (f : Filled). f.left) end);
    }

pub returns-in_err-add : goal.returns-in_err-add
returns-in_err-add c =
    let book = c.loop-record.book in
    let front = c.in-Some.record.now in
    let back = chunks_rest c.next.new.self in
    let next = c.in-Some.ensures.steps in
    let cut = records-cut (chunks_rest c.loop-record.record-iterator) front back _ c.loop-record.invariant.size next.1.0 next.1.1 next.1.2 in
    let e = rejection_of c.in_err-add.field-0.0 in
    let bad = refused _ e _ c.in_err-add.ensures.value in
    let end : filled c.args.book.now (records_in c.args.records.now) ≡ record { left = book; rejected = Some e }
    = sym c.loop-record.invariant.fills ∙ (ap (λ rs. filled book rs) cut ∙ filled_off book front (records_in back) e bad) in
    let given = err_from_is_err_and c.from_residual.result c.from_residual.ensures.1 in
    rw (given.1, given.2) record {
      value = sym (ap (λ (f : Filled). by_rule f.rejected tt) end);
      after = c.add.ensures.after ∙ (added_off book front e bad ∙ sym (ap (λ (f : Filled). f.left) end));
    }
