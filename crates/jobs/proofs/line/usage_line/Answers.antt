use Rattle.std.proofs.Common.{Ok, Err}
use Rattle.std.proofs.lemmas.Result.{err_from_is_err_and}
use Rattle.meta.specs.Rejections.{rejection_of}
use Rattle.jobs.specs.Jobs.{filled, records_in}
use Rattle.jobs.proofs.Filling.{accepted, refused}
use Rattle.jobs.proofs.Lines.{line_job_lem, line_refused, line-written}
use Rattle.jobs.proofs.line.usage_line.Goals as goal

pub returns-in_err-usage : goal.returns-in_err-usage
returns-in_err-usage c =
    let e = rejection_of c.in_err-usage.field-0.0 in
    let bench = c.in_ok-bench.bench.places in
    let limits = c.in_ok-sheet.sheet.limits in
    let book = c.in_ok-book.book in
    let given = err_from_is_err_and c.from_residual-in_err-usage.result c.from_residual-in_err-usage.ensures.1 in
    rw (given.1, given.2) record {
      made = line_job_lem c.args.marks.now c.args.text.now c.args.records.now book bench limits (Err e)
          c.in_ok-book.ensures.value c.in_ok-bench.ensures.1 c.in_ok-sheet.ensures.made.1
          (line_refused bench limits (filled book (records_in c.args.records.now)) c.fill.new.book c.len.result c.saturating_sub-root.result e
          (accepted _ _ _ c.in_ok-fill.ensures.value) c.fill.ensures.after c.len.ensures.value c.saturating_sub-root.ensures (refused _ e _ c.in_err-usage.ensures.value));
      sound = tt;
    }

pub returns : goal.returns
returns c =
    let bench = c.in_ok-bench.bench.places in
    let limits = c.in_ok-sheet.sheet.limits in
    let book = c.in_ok-book.book in
    record {
      made = line_job_lem c.args.marks.now c.args.text.now c.args.records.now book bench limits (Ok c.usage.new.sheet.content)
          c.in_ok-book.ensures.value c.in_ok-bench.ensures.1 c.in_ok-sheet.ensures.made.1
          (line-written bench limits (filled book (records_in c.args.records.now)) c.fill.new.book c.len.result c.saturating_sub-root.result c.usage.new.sheet.content
          (accepted _ _ _ c.in_ok-fill.ensures.value) c.fill.ensures.after c.len.ensures.value c.saturating_sub-root.ensures (accepted _ _ _ c.in_ok-usage.ensures.value) c.in_ok-usage.ensures.after);
      sound = c.in_ok-usage.ensures.written;
    }
