use Rattle.std.proofs.Common.{◌≡◌}
use Rattle.std.specs.Slice.Iter.{chunks_rest, chunks_size}
use Rattle.jobs.specs.Jobs.{filled, records_in}
use Rattle.jobs.proofs.fill.fill.Given as goal

-- the rest fills the book as all records would have filled it
abbrev pub invariant-loop-record : goal.invariant-loop-record
invariant-loop-record l = record {
  size : chunks_size l.record-iterator ≡ 128;
  fills : filled l.book (records_in (chunks_rest l.record-iterator)) ≡ filled l.initial.book (records_in l.records);
}
